-- Trusted. A label looked up in two packs: where its value stands in main or else in backup, its total offset, and a mark that says in which.
use Rattle.std.specs.Prelude.{List, [], ◌∷◌, ◌++◌, Bool, false, cond, Result, Ok, Err, ℕ, eqb, length}
use Rattle.runs.specs.Same.{same}
use Rattle.runs.specs.Those.{those}
use Rattle.refusals.specs.declared.Refused.{Refused}
use Rattle.refusals.specs.Refusals.{refused_at}
use Rattle.refusals.specs.Outcomes.{Outcome, fine, refused}
use Rattle.numbers.specs.Big.{signed32}
use Rattle.pack.specs.Said.{SaidName, label, number}
use Rattle.pack.specs.Config.{labels_of}
use Rattle.pack.specs.Items.{Part, one, many}
use Rattle.pack.specs.Reading.{Read, reading}
use Rattle.pack.specs.Meaning.{stretch_in, meant_name}
use Rattle.pack.specs.declared.Payload.{Payload}
use Rattle.lookup.specs.declared.Mark.{Mark}
use Rattle.lookup.specs.declared.Mark.TheVariants as M
use Rattle.lookup.specs.declared.Found.{Found}
use Rattle.lookup.specs.declared.Unfound.{Unfound}
use Rattle.lookup.specs.declared.Unfound.TheVariants as U

-- the payloads of a pack in byte order, those inside Syncs included
unfoldable pub payloads_of : List Part → List Payload
payloads_of [] = []
payloads_of (one x ∷ r) = x ∷ payloads_of r
payloads_of (many h xs ∷ r) = xs ++ payloads_of r

-- whether a name is the label l
abbrev pub is_label : List ℕ → SaidName → Bool
is_label l (label k) = same k l
is_label l (number t) = false

-- those whose name is the label l; none, where l is not 16 bytes. A label that is mapped and that no payload has is not carried
unfoldable pub carried : List ℕ → Read → List Payload
carried l r =
    cond (eqb (length l) 16) (those (λ (x : Payload). is_label l (meant_name (labels_of r.mappings) x.name)) (payloads_of r.body.parts)) []

-- what a look-up answers: where the value stands, or why there is none
abbrev pub Looked : Type 0
Looked = Result Found Unfound

-- a value in the pack of a mark, and its payload's total offset, of whose 32 bits `total` is the number
abbrev pub found_in : Mark → ℕ → ℕ → ℕ → Found
found_in mark start len total = record { from = mark; value = record { start = start; len = len }; total = signed32 total }

-- where the first of them has its value, and its total offset; `next` where there is none
abbrev pub first_of : Mark → List Payload → Looked → Looked
first_of mark [] next = next
first_of mark (x ∷ xs) next = Ok (found_in mark x.value_start x.value_len x.total)

-- a pack that is accepted is looked at; a refusal is told as that of its pack
abbrev pub accepted : (Refused → Unfound) → Outcome Read → (Read → Looked) → Looked
accepted in_pack (fine r) next = next r
accepted in_pack (refused why place) next = Err (in_pack (refused_at why place))

-- both packs are checked first, main before backup; then main is asked for the label, then backup; ABSENT has no pack
unfoldable pub looked_up : List ℕ → List ℕ → List ℕ → Looked
looked_up main backup l =
    accepted U.Main (reading main)
    (λ m. accepted U.Backup (reading backup)
    (λ b. first_of M.Main (carried l m) (first_of M.Backup (carried l b) (Err U.Absent))))

-- the pack that a mark tells
abbrev pub pack_of : Mark → List ℕ → List ℕ → List ℕ
pack_of M.Main main backup = main
pack_of M.Backup main backup = backup
pack_of M.Neither main backup = []

-- the very stretch of that pack; nothing where no value is found
unfoldable pub part_of : List ℕ → List ℕ → Looked → List ℕ
part_of main backup (Ok f) = stretch_in (pack_of f.from main backup) f.value.start f.value.len
part_of main backup (Err e) = []
