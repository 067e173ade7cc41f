-- The tables of the mappings: one tag more in the index, what they hold at first and after a refusal, and their columns.
use Prim.Native.Nat.{ℕ, suc, ◌+◌, ◌<◌, ◌≤◌}
use mathlib.Core.Path.{◌≡◌, refl, sym, ap, ◌∙◌, subst}
use mathlib.Core.List.{List, [], ◌∷◌, ◌++◌, map, map-append}
use mathlib.Core.Bool.{true, false}
use native.Mathlib.Nat.{zero-add}
use native.Mathlib.Numerals.{add-one}
use native.Mathlib.Omega.{arith}
use lib.Dec.{eqb}
use lib.ListN.{length, get_or, set, take, replicate, length-map, get_or-replicate}
use lib.Seq.{get_or-set_same, get_or-set_other}
use borrow.Author.Tests.{eq-eqb, ne_eqb, eqb-true, eqb-false}
use Rattle.runs.specs.Same.{among}
use Rattle.runs.proofs.Cases.{split, absurd_eq}
use Rattle.refusals.specs.declared.Refusal.{Refusal}
use Rattle.refusals.specs.Outcomes.{Answer}
use Rattle.std.specs.Prelude.{Ok, Err}
use Rattle.refusals.specs.Refusals.{refused_at}
use Rattle.refusals.specs.Outcomes.{Outcome, fine, refused, answered}
use Rattle.refusals.proofs.Lent.{answers}
use Rattle.pack.specs.Payloads.{name_from, name_of}
use Rattle.pack.specs.Config.{Mapping}
use Rattle.pack.specs.Slots.{padded}
use Rattle.pack.proofs.Padded.{take_padded, set_padded}
use Rattle.std.specs.Result.{is_err}
use Rattle.refusals.specs.declared.Refused.{Refused}
use Rattle.pack_config.specs.declared.table.Mappings.{Mappings}
use Rattle.pack_config.specs.Index.{indexed, Knows}
use Rattle.pack_config.specs.Columns.{None}
use Rattle.pack_config.specs.Tables.{Tables, MapsWalked, maps_of, MapsRead}
use Rattle.pack.specs.declared.Name.TheVariants.{Label}

-- one tag more: its name is its index, and no other tag's name changes
name_new : (i : ℕ) (tags : List ℕ) (t : ℕ) → among t tags ≡ false → name_from i (tags ++ (t ∷ [])) t ≡ Label (i + length tags)
unfolding name_from among
name_new i [] t h = simp (eq-eqb t t refl) (ap Label (let z : i ≡ i + 0 = omega arith in z))
name_new i (x ∷ tags) t h =
    split (eqb x t) (λ e. let z : true ≡ false = simp e at h in absurd_eq (cc))
    (λ e. simp e (name_new (suc i) tags t (simp e at h) ∙ ap Label (let z : suc i + length tags ≡ i + suc (length tags) = omega arith in z)))

name_kept : (i : ℕ) (tags : List ℕ) (t u : ℕ) → (t ≡ u → ⊥) → name_from i (tags ++ (t ∷ [])) u ≡ name_from i tags u
unfolding name_from
name_kept i [] t u h = simp (ne_eqb t u h)
name_kept i (x ∷ tags) t u h = split (eqb x u) (λ e. simp e) (λ e. simp e (name_kept (suc i) tags t u h))

module _ (tags known : List ℕ) (t n : ℕ) (free : among t tags ≡ false) (is : length tags ≡ n) (g : Knows tags known) where
  pub knows_short : t < 128 → length known ≡ 128 → Knows (tags ++ (t ∷ [])) (set known t (n + 1))
  unfolding indexed
  knows_short h l u b =
      split (eqb t u)
      (λ e.
      let q : t ≡ u = eqb-true t u e in
      subst (λ (w : ℕ). name_of (tags ++ (t ∷ [])) w ≡ indexed (get_or (set known t (n + 1)) w 0) w) q
      (name_new 0 tags t free ∙ ap Label (zero-add (length tags) ∙ is)
      ∙ sym (ap (λ (k : ℕ). indexed k t) (get_or-set_same known t (n + 1) 0 (omega arith) ∙ add-one n))))
      (λ e.
      let d : t ≡ u → ⊥ = eqb-false t u e in
      name_kept 0 tags t u d ∙ g u b ∙ sym (ap (λ (k : ℕ). indexed k u) (get_or-set_other known t u (n + 1) 0 (λ q. d (sym q)))))

  pub knows_long : 128 ≤ t → Knows (tags ++ (t ∷ [])) known
  knows_long h u b = name_kept 0 tags t u (λ e. absurd (omega arith)) ∙ g u b

-- no tag is known at first
pub knows_none : Knows [] (replicate 128 0)
unfolding name_from indexed
knows_none t h = sym (ap (λ (k : ℕ). indexed k t) (get_or-replicate 128 t 0 0 h))

pub tables_none : {m : Mappings} → None m → Tables [] m
tables_none e = record { counted = e.counted; tagged = e.tagged; placed = e.placed; index = subst (Knows []) (sym e.index) knows_none; indexes = ap length e.index }

-- a walk that is refused says nothing of the tables
pub walk_refused : {o : Outcome (List Mapping)} {why : Refusal} {p : ℕ} {r : Answer} {m : Mappings} → o ≡ refused why p → r ≡ Err (refused_at why p) → MapsWalked o r m
walk_refused e q = record { count = answers length e q; tables = λ ms d. absurd_eq (cc) }

-- the mappings are read where there are none after a refusal
module _ {o : Outcome (List Mapping)} {m : Mappings} where
  pub read_refused : {why : Refusal} {p : ℕ} {r : Answer} → o ≡ refused why p → r ≡ Err (refused_at why p) → None m → MapsRead o r m
  read_refused e q n = record { count = answers length e q; tables = subst (λ (x : Outcome (List Mapping)). Tables (maps_of x) m) (sym e) (tables_none n) }

-- a walk that fails, after which there are none, and one that does not
pub read_failed : (o : Outcome (List Mapping)) {r : Answer} {m n : Mappings} → MapsWalked o r m → is_err r ≡ true → None n → MapsRead o r n
unfolding answered
read_failed (fine ms) g e k = let z : is_err {T = ℕ} {E = Refused} (Ok (length ms)) ≡ true = ap is_err (sym g.count) ∙ e in absurd_eq (cc)
read_failed (refused why p) g e k = read_refused refl g.count k

pub read_held : (o : Outcome (List Mapping)) {r : Answer} {m : Mappings} → MapsWalked o r m → is_err r ≡ false → MapsRead o r m
unfolding answered
read_held (fine ms) g e = record { count = g.count; tables = g.tables ms refl }
read_held (refused why p) g e = let z : is_err {T = ℕ} {E = Refused} (Err (refused_at why p)) ≡ false = ap is_err (sym g.count) ∙ e in absurd_eq (cc)

-- a column of the mappings as a table has it: the places in use, and one mapping more
module _ (ms : List Mapping) (f : Mapping → ℕ) {table : List ℕ} {n : ℕ} (e : table ≡ padded 32 0 (map f ms)) (l : length ms ≡ n) where
  pub column_is : take n table ≡ map f ms
  column_is = ap (take n) e ∙ take_padded 32 0 (map f ms) n (length-map ms f ∙ l)

  pub column_more : (m : Mapping) → n < 32 → set table n (f m) ≡ padded 32 0 (map f (ms ++ (m ∷ [])))
  column_more m h =
      ap (λ (q : List ℕ). set q n (f m)) e ∙ set_padded 32 0 (map f ms) n (length-map ms f ∙ l) (f m) h ∙ ap (padded 32 0) (sym (map-append f ms (m ∷ [])))
