-- What the loop over the mappings keeps: what is left, after those in the tables, gives the whole.
use Prim.Native.Nat.{ℕ, ◌+◌, ◌-◌, ◌<◌, ◌≤◌}
use mathlib.Core.Path.{◌≡◌, refl, sym, ap, ap₂, ◌∙◌, subst}
use mathlib.Core.List.{List, [], ◌∷◌, ◌++◌, map-append}
use mathlib.Core.Bool.{Bool, true, false, ◌||◌}
use mathlib.Core.Logic.{◌⊎◌, inl, inr, ⊎_elim}
use native.Mathlib.Omega.{arith}
use lib.Dec.{leb, eqb}
use lib.ListN.{length, get_or, set, take, drop, replicate, length-append, length-set}
use lib.Seq.{get_or-set_same, get_or-set_other}
use borrow.Author.Tests.{eqb-true, eqb-false}
use Rattle.runs.specs.Same.{same, among, listed}
use Rattle.runs.proofs.Cases.{split, absurd_eq}
use Rattle.runs.proofs.Same.{same_true}
use Rattle.runs.proofs.Those.{each_append}
use Rattle.refusals.specs.declared.Refusal.{Refusal}
use Rattle.refusals.specs.declared.Refusal.TheVariants as R
use Rattle.refusals.specs.Outcomes.{Answer}
use Rattle.std.specs.Prelude.{Ok, Err}
use Rattle.refusals.specs.Refusals.{refused_at}
use Rattle.refusals.specs.Outcomes.{Outcome, fine, refused, and_then}
use Rattle.refusals.proofs.Lent.{counts}
use Rattle.numbers.specs.Reads.{read}
use Rattle.numbers.specs.Tags.{tag_at}
use Rattle.numbers.proofs.Tags.{tag_next}
use Rattle.labels.specs.Words.{digest_of}
use Rattle.pack.specs.Fixed.{utility_labels}
use Rattle.pack.specs.Slots.{padded}
use Rattle.pack.specs.Config.{Mapping, tags_of, labels_of, places_of, clashes, mapping_at, mappings_from}
use Rattle.pack.proofs.Turns.{mappings_end, mappings_turn, mapping_clash, mapping_fine}
use Rattle.pack_config.specs.Index.{Knows, standing, LabelsLie}
use Rattle.pack_config.specs.Columns.{None, Added, Judging}
use Rattle.pack_config.specs.Tables.{Tables, MapsWalked}
use Rattle.pack_config.specs.declared.table.Mappings.{Mappings}
use Rattle.pack_config.proofs.Tables.{tables_none, walk_refused, column_is, column_more}

-- one label more
listed_more : (l : List ℕ) (xs : List (List ℕ)) (x : List ℕ) → listed l (xs ++ (x ∷ [])) ≡ true → (listed l xs ≡ true) ⊎ (same x l ≡ true)
unfolding listed
listed_more l [] x h = split (same x l) (λ e. inr e) (λ e. let z : false ≡ true = simp e at h in absurd_eq (cc))
listed_more l (y ∷ xs) x h =
    split (same y l) (λ e. inl (simp e))
    (λ e. ⊎_elim (λ (a : listed l xs ≡ true). inl (simp e a)) (λ (a : same x l ≡ true). inr a) (listed_more l xs x (simp e at h)))

-- a mark stands at the digest of each label
abbrev Marked : List (List ℕ) → List ℕ → Type 0
Marked labels marks = (l : List ℕ) → listed l labels ≡ true → get_or marks (digest_of l) 0 ≡ 1

marked_more : (labels : List (List ℕ)) (marks x : List ℕ) (d : ℕ) → d ≡ digest_of x → d < length marks → Marked labels marks → Marked (labels ++ (x ∷ [])) (set marks d 1)
marked_more labels marks x d e h g l i =
    split (eqb (digest_of l) d)
    (λ q. ap (λ (k : ℕ). get_or (set marks d 1) k 0) (eqb-true (digest_of l) d q) ∙ get_or-set_same marks d 1 0 h)
    (λ q.
    let n : digest_of l ≡ d → ⊥ = eqb-false (digest_of l) d q in
    get_or-set_other marks d (digest_of l) 1 0 n
    ∙ g l (⊎_elim (λ (a : listed l labels ≡ true). a) (λ (a : same x l ≡ true). absurd (n (sym (e ∙ ap digest_of (same_true x l a))))) (listed_more l labels x i)))

marked_none : Marked [] (replicate 251 0)
unfolding listed
marked_none l i = absurd_eq (cc)

-- a mapping that stands has a tag that no earlier one has
third : (a b c d : Bool) → (a || (b || (c || d))) ≡ false → c ≡ false
third true b c d h = absurd_eq (cc)
third false true c d h = absurd_eq (cc)
third false false true d h = h
third false false false d h = refl

free : (tags : List ℕ) (labels : List (List ℕ)) (t : ℕ) (label : List ℕ) → clashes tags labels t label ≡ false → among t tags ≡ false
unfolding clashes
free tags labels t label h = third (leb t 3) (listed label utility_labels) (among t tags) (listed label labels) h

pub record Sofar (c : List ℕ) (place from k : ℕ) (m : Mappings) (marks : List ℕ) (at : ℕ) : Type 0 where
  pub ms : List Mapping
  pub fuel : ℕ
  pub tables : Tables ms m
  pub stand : labels_of ms ≡ standing c (places_of ms)
  pub lie : LabelsLie c (places_of ms)
  pub marked : Marked (labels_of ms) marks
  pub digests : length marks ≡ 251
  pub enough : length c ≤ at + fuel
  pub same : mappings_from fuel c place ms at ≡ mappings_from k c place [] from

pub sofar_begins : (c : List ℕ) (place from k : ℕ) {m : Mappings} → None m → length c ≤ from + k → Sofar c place from k m (replicate 251 0) from
sofar_begins c place from k {m} e h = record {
  ms = [];
  fuel = k;
  tables = tables_none e;
  stand = refl;
  lie = tt;
  marked = marked_none;
  digests = refl;
  enough = h;
  same = refl;
}

module _ {c : List ℕ} {place from k : ℕ} {m : Mappings} {marks : List ℕ} {at : ℕ} (g : Sofar c place from k m marks at) where
  -- the places in use hold the mappings
  tags_are : take m.count m.tags ≡ tags_of g.ms
  tags_are = column_is g.ms (λ (x : Mapping). x.tag) g.tables.tagged (sym g.tables.counted)

  places_are : take m.count m.places ≡ places_of g.ms
  places_are = column_is g.ms (λ (x : Mapping). x.place) g.tables.placed (sym g.tables.counted)

  labels_are : standing c (take m.count m.places) ≡ labels_of g.ms
  labels_are = ap (standing c) places_are ∙ sym g.stand

  pub sofar_judging : (next : ℕ) {n d : ℕ} → next + 16 ≤ length c → d ≡ digest_of (take 16 (drop next c)) → n ≡ get_or marks d 0 → Judging c m next n
  sofar_judging next {n} {d} h e r = record {
    lie = subst (LabelsLie c) (sym places_are) g.lie;
    label = h;
    unmarked = λ z.
        split (listed (take 16 (drop next c)) (standing c (take m.count m.places)))
        (λ i.
        let q : get_or marks (digest_of (take 16 (drop next c))) 0 ≡ 1
        = g.marked (take 16 (drop next c)) (sym (ap (listed (take 16 (drop next c))) labels_are) ∙ i) in
        let w : n ≡ 1 = r ∙ ap (λ (x : ℕ). get_or marks x 0) e ∙ q in
        absurd (omega arith))
        (λ i. i);
  }

  -- MAP as the arrays tell it is MAP
  clash_is : (t : ℕ) (label : List ℕ) {r : Bool} → r ≡ clashes (take m.count m.tags) (standing c (take m.count m.places)) t label → clashes (tags_of g.ms) (labels_of g.ms) t label ≡ r
  clash_is t label e = sym (e ∙ ap₂ (λ (a : List ℕ) (b : List (List ℕ)). clashes a b t label) tags_are labels_are)

  pub sofar_ends : length c ≤ at → MapsWalked (mappings_from k c place [] from) (Ok m.count) m
  sofar_ends h =
      let e : mappings_from k c place [] from ≡ fine g.ms = sym g.same ∙ mappings_end c place g.ms at g.fuel h in
      record {
        count = counts length e (ap Ok g.tables.counted);
        tables = λ ms d. let same : g.ms ≡ ms = cc in subst (λ (x : List Mapping). Tables x m) same g.tables;
      }

  module _ (h : at < length c) where
    turn : {o : Outcome Mapping} → mapping_at c place g.ms at ≡ o
        → mappings_from g.fuel c place g.ms at ≡ and_then o (λ x. mappings_from (g.fuel - 1) c place (g.ms ++ (x ∷ [])) (x.place + 16))
    turn e = mappings_turn c place g.ms at (g.fuel - 1) (omega (arith, g.enough)) h e

    -- the mapping at this place is refused, whatever the arrays hold then
    pub sofar_stops : {why : Refusal} {p : ℕ} {r : Answer} {n : Mappings} → mapping_at c place g.ms at ≡ refused why p → r ≡ Err (refused_at why p)
        → MapsWalked (mappings_from k c place [] from) r n
    unfolding and_then
    sofar_stops e q = walk_refused (sym g.same ∙ turn e) q

    module _ (b : m.count < 32) where
      pub room : length g.ms < 32
      room = omega (arith, g.tables.counted)

      module _ {t p : ℕ} (e : tag_at c at ≡ read t p) (d : 16 ≤ length c - p) {r : Bool} (f : r ≡ clashes (take m.count m.tags) (standing c (take m.count m.places)) t (take 16 (drop p c))) where
        pub sofar_clash : r ≡ true → mapping_at c place g.ms at ≡ refused R.Map place
        sofar_clash i = mapping_clash c place g.ms at room t p e d (clash_is t (take 16 (drop p c)) f ∙ i)

        -- it stands, and goes into the arrays
        abbrev new : Mapping
        new = record { tag = t; stands = take 16 (drop p c); place = p }

        stood : r ≡ false → clashes (tags_of g.ms) (labels_of g.ms) t (take 16 (drop p c)) ≡ false
        stood i = clash_is t (take 16 (drop p c)) f ∙ i

        pub sofar_free : r ≡ false → among t (take m.count m.tags) ≡ false
        sofar_free i = ap (among t) tags_are ∙ free (tags_of g.ms) (labels_of g.ms) t (take 16 (drop p c)) (stood i)

        pub sofar_more : {n : Mappings} {x : ℕ} → r ≡ false → x ≡ digest_of (take 16 (drop p c)) → x < 251 → length n.known ≡ 128 → Added m t p n
            → Sofar c place from k n (set marks x 1) (p + 16)
        unfolding and_then
        sofar_more {n} {x} i y z v w =
            let fits : p + 16 ≤ length c = omega arith in
            let later = tag_next c at t p e in
            let long : length (g.ms ++ (new ∷ [])) ≡ n.count = omega (arith, length-append g.ms (new ∷ []), g.tables.counted, w.counted) in
            let tags : n.tags ≡ padded 32 0 (tags_of (g.ms ++ (new ∷ [])))
            = w.tagged ∙ column_more g.ms (λ (q : Mapping). q.tag) g.tables.tagged (sym g.tables.counted) new b in
            record {
              ms = g.ms ++ (new ∷ []);
              fuel = g.fuel - 1;
              tables = record {
                counted = sym long;
                tagged = tags;
                placed = w.placed ∙ column_more g.ms (λ (q : Mapping). q.place) g.tables.placed (sym g.tables.counted) new b;
                index = subst (λ (l : List ℕ). Knows l n.known) (column_is (g.ms ++ (new ∷ [])) (λ (q : Mapping). q.tag) tags long) n.index;
                indexes = v;
              };
              stand =
                  map-append (λ (q : Mapping). q.stands) g.ms (new ∷ [])
                  ∙ ap (λ (l : List (List ℕ)). l ++ (take 16 (drop p c) ∷ [])) g.stand
                  ∙ sym (ap (standing c) (map-append (λ (q : Mapping). q.place) g.ms (new ∷ [])) ∙ map-append (λ (q : ℕ). take 16 (drop q c)) (places_of g.ms) (p ∷ []));
              lie = subst (LabelsLie c) (sym (map-append (λ (q : Mapping). q.place) g.ms (new ∷ []))) (each_append (λ (q : ℕ). q + 16 ≤ length c) (places_of g.ms) (p ∷ []) g.lie (fits, tt));
              marked =
                  subst (λ (l : List (List ℕ)). Marked l (set marks x 1)) (sym (map-append (λ (q : Mapping). q.stands) g.ms (new ∷ [])))
                  (marked_more (labels_of g.ms) marks (take 16 (drop p c)) x y (omega (arith, g.digests)) g.marked);
              digests = length-set marks x 1 ∙ g.digests;
              enough = omega (arith, g.enough);
              same = sym (turn (mapping_fine c place g.ms at room t p e d (stood i))) ∙ g.same;
            }
