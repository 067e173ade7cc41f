-- Every payload of an accepted reading stands where the reading says, those inside Syncs too.
use mathlib.Core.Path.{◌≡◌, refl, sym, ap, ap₂, subst, ◌∙◌}
use mathlib.Core.List.{List, ◌++◌, append_assoc}
use mathlib.Core.Bool.{Bool}
use Prim.Native.Nat.{ℕ, ◌+◌, ◌-◌, ◌≤◌}
use native.Mathlib.Nat.{add_assoc}
use native.Mathlib.Omega.{arith}
use lib.ListN.{length, take, drop, length-take, length-drop, take-append-drop}
use lib.Seq.{drop-drop}
use borrow.Author.Tests.{le-leb}
use Rattle.runs.specs.Digits.{Bytes}
use Rattle.runs.specs.Those.{Each}
use Rattle.runs.proofs.Stands.{stands_within}
use Rattle.runs.proofs.Those.{each_map}
use Rattle.refusals.specs.Outcomes.{fine}
use Rattle.pack.specs.declared.Payload.{Payload}
use Rattle.pack.specs.Payloads.{payload_at, Ground, whole}
use Rattle.pack.specs.Items.{Part}
use Rattle.pack.specs.Reading.{Read, reading}
use Rattle.pack.specs.Meaning.{stretch, stretch_in}
use Rattle.pack.proofs.Payloads.{payload_within}
use Rattle.pack_layout.specs.Layout.{element}
use Rattle.pack_layout.specs.Well.{FormFits}
use Rattle.pack_layout.proofs.Parts.{part_stands, part_bytes}
use Rattle.pack_layout.proofs.Elements.{payload_laid}
use Rattle.pack_layout.proofs.Accepts.{InnersRead, none_inside, next_inside, ItemsRead, ended, closed, next_plain, next_sync}
use Rattle.pack_layout.proofs.Opens.{reading_of}
use Rattle.pack_layout.proofs.Bounds.{reading_bounds}
use Rattle.promises.specs.Starts.{Stands, PayloadStands, PartStands, AllStand}

inside : (s : List ℕ) (v l : ℕ) → v + l ≤ length s → stretch_in s v l ≡ stretch s v l
unfolding stretch_in
inside s v l h = simp (le-leb _ _ h)

whole_stands : (s : List ℕ) (at t v l : ℕ) → Bytes s → payload_at s at ≡ whole t v l → Stands s t at v l
whole_stands s at t v l b e = let d = payload_laid s at t v l b e in record { form = d.form; fits = d.fits; bytes = d.stands }

-- what stands in a part of the pack stands in the pack
module _ (s : List ℕ) (base n : ℕ) (bytes : Bytes s) where
  part : List ℕ
  part = take n (drop base s)

  rest : List ℕ
  rest = drop n (drop base s)

  inner_stands : (at t v l : ℕ) → payload_at part at ≡ whole t v l → Stands s t (base + at) (base + v) l
  unfolding part rest
  inner_stands at t v l e =
      let d = payload_laid part at t v l (part_bytes s base n bytes) e in
      let w = payload_within part at t v l e in
      let whole : drop base s ≡ part ++ rest = sym (take-append-drop n (drop base s)) in
      let short : length part ≤ n = simp length-take (omega arith) in
      let value : take l (drop v part) ≡ take l (drop (base + v) s) =
      stands_within v l n (drop base s) (omega (arith, w.inside)) ∙ ap (take l) (drop-drop v base s) in
      let after : drop (base + v + l) s ≡ drop (v + l) part ++ rest =
      ap (λ (k : ℕ). drop k s) (add_assoc base v l) ∙ part_stands s base part rest (v + l) (drop (v + l) part) whole (omega (arith, w.inside)) refl in
      let x = element t d.form (take l (drop v part)) in
      record {
        form = d.form;
        fits = subst (λ (y : List ℕ). FormFits d.form (length y)) value d.fits;
        bytes =
            part_stands s base part rest at (x ++ drop (v + l) part) whole (omega (arith, w.later, w.inside)) d.stands
            ∙ append_assoc x (drop (v + l) part) rest
            ∙ ap₂ (λ (y z : List ℕ). element t d.form y ++ z) value (sym after);
      }

  inner_ends : (at t v l : ℕ) → payload_at part at ≡ whole t v l → base + v + l ≤ length s
  unfolding part
  inner_ends at t v l e =
      let w = payload_within part at t v l e in
      let long : length part ≤ length s - base = simp (length-take, length-drop) (omega arith) in
      omega (arith, w.later, w.inside)

  inners_stand : {grounds : Ground} {at used : ℕ} {xs : List Payload} → InnersRead part grounds base at used xs → Each (PayloadStands s grounds.tags) xs
  inners_stand (none_inside h) = tt
  inners_stand (next_inside {at = at} t v l e h u r) = (record { tag = t; named = refl; stands = inner_stands at t v l e; value = inside s (base + v) l (inner_ends at t v l e) }, inners_stand r)

items_stand : (s : List ℕ) {grounds : Ground} {at used : ℕ} {parts : List Part} {mark : Bool} → Bytes s → ItemsRead s grounds at used parts mark
    → Each (PartStands s grounds.tags) parts
unfolding part
items_stand s b (ended h) = tt
items_stand s b (closed v e z c) = tt
items_stand s b (next_plain {at = at} t v l e h u r) = (record { tag = t; named = refl; stands = whole_stands s at t v l b e; value = inside s v l (payload_within s at t v l e).inside }, items_stand s b r)
items_stand s b (next_sync {at = at} v l xs e h u n inner r) =
    ((record { stands = whole_stands s at 2 v l b e; offset = refl; duration = refl }, inners_stand s (v + 4) (l - 4) b inner), items_stand s b r)

pub all_stand : (s : List ℕ) → Bytes s → (r : Read) → reading s ≡ fine r → AllStand s r
all_stand s b r h = record {
  parts = items_stand s b (reading_of s r b h).items;
  labels = each_map (λ m lies. inside s m.place 16 lies.ends ∙ sym lies.is) r.mappings (reading_bounds s b r h).labels;
}
