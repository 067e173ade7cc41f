-- What an outline tells of the reading.
use Prim.Native.Nat.{ℕ}
use mathlib.Core.Path.{◌≡◌, refl, sym, ap, ◌∙◌, subst}
use mathlib.Core.Bool.{Bool}
use mathlib.Core.List.{List}
use lib.ListN.{length}
use Rattle.std.specs.Prelude.{Result, Ok, Err}
use Rattle.refusals.specs.declared.Refused.{Refused}
use Rattle.refusals.specs.Outcomes.{Outcome, fine, refused, answered}
use Rattle.refusals.proofs.Lent.{counts, done_was, refused_was}
use Rattle.pack.specs.Reading.{Read, reading}
use Rattle.pack.specs.Fixed.{mapping_cap, item_cap}
use Rattle.pack.specs.Config.{tags_of, places_of}
use Rattle.pack.specs.Items.{count_of}
use Rattle.pack.specs.Slots.{slots, blank, padded, shown}
use Rattle.pack.specs.declared.Item.{Item}
use Rattle.pack.specs.declared.Reading.{Reading}
use Rattle.pack_config.specs.Tables.{Tables}
use Rattle.pack_config.specs.declared.table.Mappings.{Mappings}
use Rattle.pack_read.specs.Shown.{outline_of, items_of, mappings_of, Outlined}
use Rattle.pack_read.specs.declared.Outline.{Outline}

-- a reading by its parts
same_reading : (w : Read) {n f k : ℕ} {c : Bool} {ts ps : List ℕ} {is : List Item} → n ≡ count_of w.body.parts → f ≡ w.offset → c ≡ w.body.crc → k ≡ length w.mappings
    → ts ≡ padded mapping_cap 0 (tags_of w.mappings) → ps ≡ padded mapping_cap 0 (places_of w.mappings) → is ≡ padded item_cap blank (slots w.body.parts)
    → ◌≡◌ {A = Reading} (record { count = n; offset = f; crc = c; mapped = k; tags = ts; labels = ps; items = is }) (shown w)
unfolding shown
same_reading w n f c k ts ps is = rw (n, f, c, k, ts, ps, is) refl

module _ {s : List ℕ} {r : Result Outline Refused} {items : List Item} {maps : Mappings} (g : Outlined s r items maps) where
  -- the reading that it tells
  pub outlined_read : {o : Outline} → r ≡ Ok o → (x : Read) × (reading s ≡ fine x) × (outline_of x ≡ o)
  outlined_read h = done_was outline_of g.told h

  -- and its refusal
  pub outlined_none : {x : Refused} → r ≡ Err x → reading s ≡ refused x.why x.place
  outlined_none h = refused_was outline_of g.told h

  -- and it is shown
  pub outlined_shown : {o : Outline} → r ≡ Ok o
      → Ok (record { count = o.count; offset = o.offset; crc = o.crc; mapped = maps.count; tags = maps.tags; labels = maps.places; items = items }) ≡ answered shown (reading s)
  outlined_shown {o} h =
      let w = outlined_read h in
      let t = subst (λ (b : Outcome Read). Tables (mappings_of b) maps) w.1 g.tables in
      let q = sym w.2 in
      ap Ok (same_reading w.0 (ap (λ (x : Outline). x.count) q) (ap (λ (x : Outline). x.offset) q) (ap (λ (x : Outline). x.crc) q) t.counted t.tagged t.placed (g.held ∙ ap items_of w.1))
      ∙ counts shown w.1 refl
