-- How the pack opens, and the whole reading, step by step.
use Prim.Native.Nat.{ℕ, ◌+◌, ◌≤◌}
use mathlib.Core.Path.{◌≡◌, refl, sym, ap, ap₂, ◌∙◌, subst}
use mathlib.Core.Bool.{true, false}
use mathlib.Core.List.{List, []}
use lib.Dec.{ltb}
use lib.ListN.{length, take, replicate}
use borrow.Author.Tests.{ltb-true, ltb-false}
use Rattle.std.specs.Prelude.{Result, Ok, Err, Some}
use Rattle.std.specs.Prelude.{None as Nothing}
use Rattle.std.specs.Result.{is_err}
use Rattle.runs.proofs.Cases.{split, absurd_eq}
use Rattle.refusals.specs.declared.Refusal.{Refusal}
use Rattle.refusals.specs.declared.Refused.{Refused}
use Rattle.refusals.specs.Refusals.{refused_at}
use Rattle.refusals.specs.Outcomes.{Outcome, fine, refused, and_then, Answer}
use Rattle.refusals.proofs.Lent.{answers, counts, done_was, refused_was}
use Rattle.refusals.proofs.Outcomes.{then_fine, then_refused}
use Rattle.numbers.specs.Big.{big_at, extended}
use Rattle.pack.specs.Payloads.{ground_of}
use Rattle.pack.specs.Config.{Mapping, tags_of, config_maps}
use Rattle.pack.specs.Items.{Body, items_from}
use Rattle.pack.specs.Reading.{Read, Opening, value_start, opening_at, read_from, reading}
use Rattle.pack.specs.Slots.{blank}
use Rattle.pack.specs.declared.Item.{Item}
use Rattle.pack.proofs.Turns.{start_small, opening, reading_opens}
use Rattle.pack_config.specs.declared.table.Mappings.{Mappings}
use Rattle.pack_config.specs.Columns.{None}
use Rattle.pack_config.specs.Tables.{Tables, maps_of, MapsRead}
use Rattle.pack_config.specs.First.{first_at}
use Rattle.pack_config.proofs.Tables.{tables_none, column_is}
use Rattle.pack_config.proofs.Openings.{maps_short, opens_without, opens_with_lem}
use Rattle.pack_read.specs.Steps.{outline, BodyTold, opened, opens_with, Opens}
use Rattle.pack_read.specs.Shown.{outline_of, items_of, mappings_of, Outlined}
use Rattle.pack_read.specs.declared.Opening as C
use Rattle.pack_read.specs.declared.Outline.{Outline}

module _ (s : List ℕ) {maps : Mappings} where
  stops : {why : Refusal} {p : ℕ} {r : Result C.Opening Refused} → opening s ≡ refused why p → r ≡ Err (refused_at why p) → Tables [] maps → Opens (opening s) r maps
  stops e q t = record { told = answers opened e q; tables = subst (λ (o : Outcome Opening). Tables (opens_with o) maps) (sym e) t }

  begins : {o : Opening} {r : Result C.Opening Refused} → opening s ≡ fine o → r ≡ Ok (opened o) → Tables o.mappings maps → Opens (opening s) r maps
  begins e q t = record { told = counts opened e q; tables = subst (λ (x : Outcome Opening). Tables (opens_with x) maps) (sym e) t }

  pub open_refused : {why : Refusal} {p : ℕ} {r : Result C.Opening Refused} → value_start s ≡ refused why p → r ≡ Err (refused_at why p) → None maps → Opens (opening s) r maps
  open_refused e q m = stops (then_refused (opening_at s) e) q (tables_none m)

  module _ {at : ℕ} (h : value_start s ≡ fine at) where
    pub open_without : first_at s at ≡ Nothing → None maps → Opens (opening s) (Ok (record { offset = 0; next = at })) maps
    open_without e m = begins (then_fine (opening_at s) h ∙ opens_without s at e) refl (tables_none m)

    module _ {v l : ℕ} (e : first_at s at ≡ Some (record { start = v; len = l })) {m : Answer} (g : MapsRead (config_maps s at v l) m maps) where
      -- the arrays hold what was read
      hold : {o : Outcome (List Mapping)} → config_maps s at v l ≡ o → Tables (maps_of o) maps
      hold q = subst (λ (o : Outcome (List Mapping)). Tables (maps_of o) maps) q g.tables

      pub open_stops : {x : Refused} {r : Result C.Opening Refused} → m ≡ Err x → r ≡ Err x → Opens (opening s) r maps
      open_stops d q =
          let z = refused_was length g.count d in
          stops (then_fine (opening_at s) h ∙ opens_with_lem s at v l e ∙ then_refused _ z) q (hold z)

      pub open_with : {n f : ℕ} → m ≡ Ok n → f ≡ big_at s v 2 → Opens (opening s) (Ok (record { offset = f; next = v + l })) maps
      open_with {n} {f} d b =
          let z = done_was length g.count d in
          begins (then_fine (opening_at s) h ∙ opens_with_lem s at v l e ∙ then_fine _ z.1) (ap (λ (x : ℕ). Ok (record { offset = x; next = v + l })) b) (hold z.1)

      -- a Config whose mappings were read has its two bytes of offset
      pub open_sized : {n : ℕ} → m ≡ Ok n → 2 ≤ l
      open_sized {n} d =
          split (ltb l 2)
          (λ b. let z = sym (done_was length g.count d).1 ∙ maps_short s at v l (ltb-true _ _ b) in absurd_eq (cc))
          (λ b. ltb-false _ _ b)

-- a pack that opens is not above the cap
small : (s : List ℕ) (o : Outcome ℕ) {x : Opening} → value_start s ≡ o → and_then o (opening_at s) ≡ fine x → length s ≤ 32768
unfolding and_then
small s (fine at) e h = start_small s at e
small s (refused why p) e h = absurd_eq (cc)

module _ (s : List ℕ) {r : Result C.Opening Refused} {maps : Mappings} (g : Opens (opening s) r maps) where
  pub outlined_refused : {x : Refused} {o : Result Outline Refused} {items : List Item} → r ≡ Err x → o ≡ Err x → items ≡ replicate 64 blank → Outlined s o items maps
  outlined_refused {x} e q none =
      let z = refused_was opened g.told e in
      let w = reading_opens s ∙ then_refused (read_from s) z in
      record {
        told = answers outline_of w q;
        held = none ∙ sym (ap items_of w);
        tables = subst (λ (b : Outcome Read). Tables (mappings_of b) maps) (sym w) (subst (λ (b : Outcome Opening). Tables (opens_with b) maps) z g.tables);
      }

  module _ {x : C.Opening} (e : r ≡ Ok x) where
    -- the opening that it is
    pub opened_from : (o : Opening) × (opening s ≡ fine o) × Tables o.mappings maps × (x ≡ opened o)
    opened_from =
        let d = done_was opened g.told e in
        (d.0, d.1, subst (λ (b : Outcome Opening). Tables (opens_with b) maps) d.1 g.tables, sym d.2)

    pub opened_small : length s ≤ 32768
    opened_small = small s (value_start s) refl opened_from.1

    -- the places in use hold the tags
    tags_are : take maps.count maps.tags ≡ tags_of opened_from.0.mappings
    tags_are = let t = opened_from.2 in column_is opened_from.0.mappings (λ (q : Mapping). q.tag) t.tagged (sym t.counted)

    -- the items by the opening and the mappings are those of the reading
    abbrev body : Outcome Body
    body = items_from (length s) s (ground_of (take maps.count maps.tags) (extended x.offset)) x.next 0

    whole_from : reading s ≡ and_then body (λ b. fine (record { offset = x.offset; mappings = opened_from.0.mappings; body = b }))
    unfolding read_from
    whole_from =
        let o = opened_from.0 in
        reading_opens s ∙ then_fine (read_from s) opened_from.1
        ∙ ap₂ (λ (u : List ℕ) (y : C.Opening). and_then (items_from (length s) s (ground_of u (extended y.offset)) y.next 0) (λ b. fine (record { offset = y.offset; mappings = o.mappings; body = b })))
        (sym tags_are) (sym opened_from.3)

    module _ {o : Result Outline Refused} {items : List Item} (b : BodyTold x.offset body o items) where
      -- the items are refused, after which there are none and no mappings
      pub outlined_failed : {us : List Item} {ms : Mappings} → is_err o ≡ true → us ≡ replicate 64 blank → None ms → Outlined s o us ms
      outlined_failed {us} {ms} h none m = failed body refl
        where
          failed : (q : Outcome Body) → body ≡ q → Outlined s o us ms
          failed (fine y) d = let z : is_err {T = Outline} {E = Refused} (Ok (outline x.offset y)) ≡ true = ap is_err (counts (outline x.offset) d refl ∙ sym b.told) ∙ h in absurd_eq (cc)
          failed (refused why p) d =
              let w = whole_from ∙ then_refused _ d in
              record {
                told = answers outline_of w (b.told ∙ sym (answers (outline x.offset) d refl));
                held = none ∙ sym (ap items_of w);
                tables = subst (λ (c : Outcome Read). Tables (mappings_of c) ms) (sym w) (tables_none m);
              }

      -- the items are read
      pub outlined_held : is_err o ≡ false → Outlined s o items maps
      outlined_held h = read body refl
        where
          read : (q : Outcome Body) → body ≡ q → Outlined s o items maps
          read (refused why p) d = let z : is_err {T = Outline} {E = Refused} (Err (refused_at why p)) ≡ false = ap is_err (sym (b.told ∙ sym (answers (outline x.offset) d refl))) ∙ h in absurd_eq (cc)
          read (fine y) d =
              let w = whole_from ∙ then_fine _ d in
              record {
                told = counts outline_of w (b.told ∙ sym (counts (outline x.offset) d refl));
                held = b.full y d ∙ sym (ap items_of w);
                tables = subst (λ (c : Outcome Read). Tables (mappings_of c) maps) (sym w) opened_from.2;
              }
