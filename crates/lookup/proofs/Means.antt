-- What each answer of a look-up means, over what the two packs say.
use mathlib.Core.Path.{◌≡◌, refl, sym, ap, ap₂, subst, ◌∙◌}
use mathlib.Core.List.{List, [], ◌∷◌, ◌++◌, map, map-append, flatten}
use mathlib.Core.Bool.{Bool, true, false}
use Prim.Native.Nat.{ℕ, ◌+◌, ◌≤◌}
use native.Mathlib.Omega.{arith}
use lib.Dec.{eqb}
use lib.IntN.{ℤ, ◌+ℤ◌}
use lib.ListN.{length, get_or, length-take, length-drop}
use borrow.Author.Tests.{eqb-false, ne_eqb}
use Rattle.std.specs.Prelude.{Ok, Err}
use Rattle.runs.specs.Digits.{Bytes}
use Rattle.runs.specs.Those.{those, Each}
use Rattle.runs.proofs.Cases.{split, absurd_eq}
use Rattle.runs.proofs.Same.{same_true, same_false}
use Rattle.runs.proofs.Those.{each_map, each_append, each_right, each_on}
use Rattle.refusals.specs.Outcomes.{Outcome, fine, refused}
use Rattle.numbers.specs.Big.{signed, signed32}
use Rattle.pack.specs.Said.{SaidName, label, number, SaidPayload, SaidItem, single, sync}
use Rattle.pack.specs.Config.{Mapping, labels_of}
use Rattle.pack.specs.Items.{Part, one, many}
use Rattle.pack.specs.Reading.{Read, reading}
use Rattle.pack.specs.Meaning.{stretch, meant_name, meant_payload, meant_part, meant}
use Rattle.pack.specs.Totals.{Totalled, item_totals, carries, part_carries}
use Rattle.pack.specs.declared.Name.{Name}
use Rattle.pack.specs.declared.Name.TheVariants.{Label, Number}
use Rattle.pack.specs.declared.Payload.{Payload}
use Rattle.pack_layout.proofs.Totals.{totals_exact}
use Rattle.pack_layout.proofs.Bounds.{NameFits, PayloadLies, PartLies, LabelLies, label_at, reading_bounds}
use Rattle.lookup.specs.Lookup.{payloads_of, is_label, carried, Looked, first_of, accepted, looked_up}
use Rattle.lookup.specs.Named.{payloads_in, Without, First, FirstTotal, Says, SaysTotals}
use Rattle.lookup.specs.declared.Mark.{Mark}
use Rattle.lookup.specs.declared.Mark.TheVariants as M
use Rattle.lookup.specs.declared.Unfound.TheVariants as U

-- THE FIRST THAT PASSES A TEST

record Head {A : Type 0} (test : A → Bool) (xs : List A) (x : A) : Type 0 where
  pub before : List A
  pub after : List A
  pub stands : xs ≡ before ++ (x ∷ after)
  pub fail : Each (λ (y : A). test y ≡ false) before
  pub pass : test x ≡ true

module _ {A : Type 0} (test : A → Bool) where
  those_head : (xs : List A) {x : A} {r : List A} → those test xs ≡ x ∷ r → Head test xs x
  unfolding those
  those_head [] e = absurd_eq (cc)
  those_head (y ∷ ys) {x} {r} e =
      split (test y)
      (λ q.
      let s : y ∷ those test ys ≡ x ∷ r = simp q at e in
      let z : y ≡ x = cc in
      record { before = []; after = ys; stands = ap (λ (k : A). k ∷ ys) z; fail = tt; pass = ap test (sym z) ∙ q })
      (λ q.
      let s : those test ys ≡ x ∷ r = simp q at e in
      let h = those_head ys s in
      record { before = y ∷ h.before; after = h.after; stands = ap (λ (l : List A). y ∷ l) h.stands; fail = (q, h.fail); pass = h.pass })

  those_none : (xs : List A) → those test xs ≡ [] → Each (λ (y : A). test y ≡ false) xs
  unfolding those
  those_none [] e = tt
  those_none (y ∷ ys) e =
      split (test y)
      (λ q. let s : y ∷ those test ys ≡ [] = simp q at e in absurd_eq (cc))
      (λ q. let s : those test ys ≡ [] = simp q at e in (q, those_none ys s))

-- LABELS

is_label_lem : (l : List ℕ) (n : SaidName) → is_label l n ≡ true → n ≡ label l
is_label_lem l (label k) e = ap label (same_true k l e)
is_label_lem l (number t) e = absurd_eq (cc)

not_label : (l : List ℕ) (n : SaidName) → is_label l n ≡ false → n ≡ label l → ⊥
not_label l (label k) e q = let z : k ≡ l = cc in same_false k l e z
not_label l (number t) e q = absurd_eq (cc)

-- a label that is not 16 bytes is nobody's
never_label : (s l : List ℕ) (ms : List Mapping) (n : Name) → Each (LabelLies s) ms → NameFits (length ms) n → (length l ≡ 16 → ⊥)
    → meant_name (labels_of ms) n ≡ label l → ⊥
never_label s l ms (Label i) h f d q =
    let z : get_or (labels_of ms) i [] ≡ l = cc in
    let at = label_at s ms i h f in
    let long = ap length at.0 in
    d (sym (ap length z) ∙ sym long ∙ simp (length-take, length-drop) (omega (arith, at.1)))
never_label s l ms (Number t) h f d q = absurd_eq (cc)

-- ONE PACK

abbrev payload : Totalled → SaidPayload
payload x = x.payload

payloads_meant : (s : List ℕ) (labels : List (List ℕ)) (ps : List Part)
    → payloads_in (map (meant_part s labels) ps) ≡ map (meant_payload s labels) (payloads_of ps)
unfolding payloads_in payloads_of
payloads_meant s labels [] = refl
payloads_meant s labels (one x ∷ ps) = ap (λ (l : List SaidPayload). meant_payload s labels x ∷ l) (payloads_meant s labels ps)
payloads_meant s labels (many h xs ∷ ps) =
    ap (λ (l : List SaidPayload). map (meant_payload s labels) xs ++ l) (payloads_meant s labels ps)
    ∙ sym (map-append (meant_payload s labels) xs (payloads_of ps))

payloads_carry : (s : List ℕ) (labels : List (List ℕ)) (ps : List Part) → flatten (map (part_carries s labels) ps) ≡ map (carries s labels) (payloads_of ps)
unfolding flatten payloads_of
payloads_carry s labels [] = refl
payloads_carry s labels (one x ∷ ps) = ap (λ (l : List Totalled). carries s labels x ∷ l) (payloads_carry s labels ps)
payloads_carry s labels (many h xs ∷ ps) =
    ap (λ (l : List Totalled). map (carries s labels) xs ++ l) (payloads_carry s labels ps) ∙ sym (map-append (carries s labels) xs (payloads_of ps))

-- without their total offsets
alone : (n : ℤ) (xs : List SaidPayload) → map payload (map (λ (x : SaidPayload). record { payload = x; total = n }) xs) ≡ xs
alone n [] = refl
alone n (x ∷ xs) = ap (λ (l : List SaidPayload). x ∷ l) (alone n xs)

alone_in : (o : ℕ) (xs : List SaidItem) → map payload (flatten (map (item_totals o) xs)) ≡ payloads_in xs
unfolding flatten payloads_in
alone_in o [] = refl
alone_in o (single x ∷ r) = ap (λ (l : List SaidPayload). x ∷ l) (alone_in o r)
alone_in o (sync p d xs ∷ r) =
    map-append payload (item_totals o (sync p d xs)) (flatten (map (item_totals o) r)) ∙ ap₂ (λ (us vs : List SaidPayload). us ++ vs) (alone (signed o +ℤ signed p) xs) (alone_in o r)

first_alone : {l v : List ℕ} {n : ℤ} {xs : List Totalled} → FirstTotal l v n xs → First l v (map payload xs)
first_alone {l} {v} {n} f = record {
  before = map payload f.before;
  after = map payload f.after;
  stands = ap (map payload) f.stands ∙ map-append payload f.before (record { payload = record { name = label l; value = v }; total = n } ∷ f.after);
  without = each_on (λ (x : SaidPayload). x.name ≡ label l → ⊥) payload f.before f.without;
}

payloads_lie : (s : List ℕ) (n : ℕ) (ps : List Part) → Each (PartLies s n) ps → Each (PayloadLies s n) (payloads_of ps)
unfolding payloads_of
payloads_lie s n [] h = tt
payloads_lie s n (one x ∷ ps) h = (h.0, payloads_lie s n ps h.1)
payloads_lie s n (many y xs ∷ ps) h = each_append (PayloadLies s n) xs (payloads_of ps) h.0.1 (payloads_lie s n ps h.1)

module _ (s l : List ℕ) {r : Read} (e : reading s ≡ fine r) where
  abbrev test : Payload → Bool
  test x = is_label l (meant_name (labels_of r.mappings) x.name)

  abbrev saying : Payload → SaidPayload
  saying = meant_payload s (labels_of r.mappings)

  abbrev all : List Payload
  all = payloads_of r.body.parts

  pub accepted_says : Says s (λ xs. Unit)
  accepted_says = record { read = r; accepted = e; holds = tt }

  said : payloads_in (meant s r).items ≡ map saying all
  unfolding meant
  said = payloads_meant s (labels_of r.mappings) r.body.parts

  without : (xs : List Payload) → Each (λ (y : Payload). test y ≡ false) xs → Without l (map saying xs)
  without xs h = each_on (λ (x : SaidPayload). x.name ≡ label l → ⊥) saying xs (each_map (λ y q. not_label l (meant_name (labels_of r.mappings) y.name) q) xs h)

  module _ (bytes : Bytes s) where
    lie : Each (PayloadLies s (length r.mappings)) all
    lie = payloads_lie s (length r.mappings) r.body.parts (reading_bounds s bytes r e).parts

    -- some payload is so named
    module _ {x : Payload} {ys : List Payload} (c : carried l r ≡ x ∷ ys) where
      headed : Head test all x
      unfolding carried
      headed =
          split (eqb (length l) 16)
          (λ q. let z : those test all ≡ x ∷ ys = simp q at c in those_head test all z)
          (λ q. let z : ◌≡◌ {A = List Payload} [] (x ∷ ys) = simp q at c in absurd_eq (cc))

      pub carried_lies : x.value_start + x.value_len ≤ length s
      carried_lies =
          let h = headed in
          (each_right (PayloadLies s (length r.mappings)) h.before (x ∷ h.after) (subst (Each (PayloadLies s (length r.mappings))) h.stands lie)).0.ends

      -- with its total offset, and without
      pub carried_total : SaysTotals s (FirstTotal l (stretch s x.value_start x.value_len) (signed32 x.total))
      carried_total =
          let h = headed in
          let v = stretch s x.value_start x.value_len in
          let named = is_label_lem l (meant_name (labels_of r.mappings) x.name) h.pass in
          let carrying : Payload → Totalled = carries s (labels_of r.mappings) in
          record {
            read = r;
            accepted = e;
            holds = record {
              before = map carrying h.before;
              after = map carrying h.after;
              stands =
                  sym (totals_exact s bytes r e) ∙ payloads_carry s (labels_of r.mappings) r.body.parts
                  ∙ ap (map carrying) h.stands ∙ map-append carrying h.before (x ∷ h.after)
                  ∙ ap (λ (n : SaidName). map carrying h.before ++ (record { payload = record { name = n; value = v }; total = signed32 x.total } ∷ map carrying h.after)) named;
              without =
                  each_on (λ (y : Totalled). y.payload.name ≡ label l → ⊥) carrying h.before
                  (each_map (λ y q. not_label l (meant_name (labels_of r.mappings) y.name) q) h.before h.fail);
            };
          }

      pub carried_first : Says s (First l (stretch s x.value_start x.value_len))
      carried_first =
          let w = carried_total in
          record {
            read = w.read;
            accepted = w.accepted;
            holds = subst (First l (stretch s x.value_start x.value_len)) (alone_in (meant s w.read).offset (meant s w.read).items) (first_alone w.holds);
          }

    -- none is
    pub carried_none : carried l r ≡ [] → Says s (Without l)
    unfolding carried
    carried_none c =
        let labels = (reading_bounds s bytes r e).labels in
        record {
          read = r;
          accepted = e;
          holds =
              subst (Without l) (sym said)
              (split (eqb (length l) 16)
              (λ q. let z : those test all ≡ [] = simp q at c in without all (those_none test all z))
              (λ q. each_on (λ (x : SaidPayload). x.name ≡ label l → ⊥) saying all
              (each_map (λ y k. never_label s l r.mappings y.name labels k.named (eqb-false (length l) 16 q)) all lie)));
        }

  -- none is, where l is not 16 bytes
  pub strange_none : (length l ≡ 16 → ⊥) → carried l r ≡ []
  unfolding carried
  strange_none d = simp (ne_eqb _ _ d)

-- where a payload is the first with the label, some payload has it
pub first_named : {l v : List ℕ} {xs : List SaidPayload} → First l v xs → Without l xs → ⊥
first_named {l} f w =
    (each_right (λ (x : SaidPayload). x.name ≡ label l → ⊥) f.before (record { name = label l; value = _ } ∷ f.after) (subst (Without l) f.stands w)).0 refl

-- two things that a pack says are said of the same payloads
pub same_said : {P : Type 0} {s : List ℕ} {Rule Other : List SaidPayload → Type 0} → Says s Rule → Says s Other → ((xs : List SaidPayload) → Rule xs → Other xs → P) → P
same_said {s = s} {Rule = Rule} x y both =
    let z : x.read ≡ y.read = cc (x.accepted, y.accepted) in
    both (payloads_in (meant s y.read).items) (subst (λ (r : Read). Rule (payloads_in (meant s r).items)) z x.holds) y.holds

-- TWO PACKS

-- a value, which lies in its pack: main's first, or backup's first where main has none
abbrev pub MeansIn : Mark → List ℕ → List ℕ → List ℕ → ℕ → ℕ → ℤ → Type 0
MeansIn M.Main main backup l start len total =
    (start + len ≤ length main) × Says main (First l (stretch main start len)) × Says backup (λ xs. Unit) × SaysTotals main (FirstTotal l (stretch main start len) total)
MeansIn M.Backup main backup l start len total =
    (start + len ≤ length backup) × Says main (Without l) × Says backup (First l (stretch backup start len)) × SaysTotals backup (FirstTotal l (stretch backup start len) total)
MeansIn M.Neither main backup l start len total = ⊥

-- that value; main's refusal; backup's, where main is accepted; or that neither has the label
abbrev pub Means : List ℕ → List ℕ → List ℕ → Looked → Type 0
Means main backup l (Ok f) = MeansIn f.from main backup l f.value.start f.value.len f.total
Means main backup l (Err (U.Main x)) = reading main ≡ refused x.why x.place
Means main backup l (Err (U.Backup x)) = Says main (λ xs. Unit) × (reading backup ≡ refused x.why x.place)
Means main backup l (Err U.Absent) = Says main (Without l) × Says backup (Without l)

module _ (main backup l : List ℕ) (b₁ : Bytes main) (b₂ : Bytes backup) where
  abbrev absent : Looked
  absent = Err U.Absent

  means_both : {m b : Read} → reading main ≡ fine m → reading backup ≡ fine b → (xs ys : List Payload) → carried l m ≡ xs → carried l b ≡ ys
      → Means main backup l (first_of M.Main xs (first_of M.Backup ys absent))
  means_both e g (x ∷ xs) ys c d = (carried_lies main l e b₁ c, carried_first main l e b₁ c, accepted_says backup l g, carried_total main l e b₁ c)
  means_both e g [] (y ∷ ys) c d = (carried_lies backup l g b₂ d, carried_none main l e b₁ c, carried_first backup l g b₂ d, carried_total backup l g b₂ d)
  means_both e g [] [] c d = (carried_none main l e b₁ c, carried_none backup l g b₂ d)

  means_of : (o p : Outcome Read) → reading main ≡ o → reading backup ≡ p
      → Means main backup l (accepted U.Main o (λ m. accepted U.Backup p (λ b. first_of M.Main (carried l m) (first_of M.Backup (carried l b) absent))))
  means_of (fine m) (fine b) e g = means_both e g (carried l m) (carried l b) refl refl
  means_of (fine m) (refused why p) e g = (accepted_says main l e, g)
  means_of (refused why p) q e g = e

  pub lookup_means : Means main backup l (looked_up main backup l)
  unfolding looked_up
  lookup_means = means_of (reading main) (reading backup) refl refl
