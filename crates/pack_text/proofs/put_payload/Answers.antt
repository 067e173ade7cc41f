-- `pack_text::put_payload` meets its contract: each case of a name is a line of its own, and the label stands in the pack.
use Prim.Native.Nat.{◌+◌, ◌-◌, ◌≤◌, ◌<◌}
use mathlib.Core.Path.{◌≡◌, sym}
use native.Mathlib.Omega.{arith}
use lib.ListN.{length, get_or}
use Rattle.runs.proofs.Over.{wrote_as}
use Rattle.pack.specs.Fixed.{mapping_cap}
use Rattle.pack.specs.Meaning.{stretch}
use Rattle.pack_text.specs.Text.{line, label_fields, number_fields, payload_line}
use Rattle.pack_text.proofs.Fields.{line_room}
use Rattle.pack_text.proofs.Items.{line_label, label_stands, line_number}
use Rattle.pack_text.proofs.put_payload.Goals as goal
use Rattle.pack_text.proofs.put_payload.Goals.{In-Label, In-Number}

-- the label's place is one of the places, and its 16 bytes stand in the pack
stands : (c : In-Label)
    → let a = c.args in
    let i = c.in-Label.i in
    (i < mapping_cap) × (get_or a.places.now i 0 + 16 ≤ length a.pack.now)
stands c = let a = c.args in label_stands a.pack.now a.places.now c.in-Label.is c.requires.1

-- the line, by the name
label_line : (c : In-Label)
    → let a = c.args in
    let p = get_or a.places.now c.in-Label.i 0 in
    payload_line a.pack.now a.places.now a.payload ≡ line (label_fields a.payload.start (stretch a.pack.now p (p + 16 - p)) a.payload.value_len a.payload.total)
label_line c = let a = c.args in line_label a.pack.now a.places.now a.payload.start a.payload.value_len a.payload.total c.in-Label.is

number_line : (c : In-Number)
    → let a = c.args in
    payload_line a.pack.now a.places.now a.payload ≡ line (number_fields a.payload.start c.in-Number.tag a.payload.value_len a.payload.total)
number_line c = let a = c.args in line_number a.pack.now a.places.now a.payload.start a.payload.value_len a.payload.total c.in-Number.is

pub bounds-places-i : goal.bounds-places-i
bounds-places-i c = let a = c.args in (label_stands a.pack.now a.places.now c.in-Label.is c.requires.1).0

pub slice_bounds-put_label-end : goal.slice_bounds-put_label-end
slice_bounds-put_label-end c = (stands (goal.at.slice_bounds-put_label-end c).In-Label).1

pub put_label-requires : goal.put_label-requires
put_label-requires c = line_room _ _ _ (omega arith) (label_line (goal.at.put_label-requires c).In-Label) c.requires.0

pub put_number-requires : goal.put_number-requires
put_number-requires c = line_room _ _ _ (omega arith) (number_line (goal.at.put_number-requires c).In-Number) c.requires.0

pub returns-in-Label : goal.returns-in-Label
returns-in-Label c = wrote_as (sym (label_line (goal.at.returns-in-Label c).In-Label)) c.put_label.ensures

pub returns-in-Number : goal.returns-in-Number
returns-in-Number c = wrote_as (sym (number_line (goal.at.returns-in-Number c).In-Number)) c.put_number.ensures
