-- Trusted. What a sheet keeps of what a pack says: payloads that it names, and Syncs with at least one such, holding only those.
use Rattle.std.specs.Prelude.{List, [], ◌∷◌, Bool, true, cond, ℕ}
use Rattle.runs.specs.Same.{among, listed}
use Rattle.pack.specs.Said.{SaidName, label, number, SaidPayload, SaidItem, single, sync, Said}
use Rattle.scrub_kept.specs.Sheet.{Sheet, everything, these}
use Rattle.runs.specs.Those.{those}

-- a number on the sheet does not keep a payload whose tag the pack maps: its name is the label
abbrev pub keeps : Sheet → SaidName → Bool
keeps everything n = true
keeps (these ls ts) (label l) = listed l ls
keeps (these ls ts) (number t) = among t ts

abbrev pub kept_payloads : Sheet → List SaidPayload → List SaidPayload
kept_payloads sheet xs = those (λ (x : SaidPayload). keeps sheet x.name) xs

-- a Sync of which nothing is kept goes too
unfoldable pub kept_sync : ℕ → ℕ → List SaidPayload → List SaidItem → List SaidItem
kept_sync o d [] r = r
kept_sync o d (x ∷ xs) r = sync o d (x ∷ xs) ∷ r

unfoldable pub kept_items : Sheet → List SaidItem → List SaidItem
kept_items sheet [] = []
kept_items sheet (single x ∷ r) = cond (keeps sheet x.name) (single x ∷ kept_items sheet r) (kept_items sheet r)
kept_items sheet (sync o d xs ∷ r) = kept_sync o d (kept_payloads sheet xs) (kept_items sheet r)

unfoldable pub kept : Sheet → Said → Said
kept sheet k = record { offset = k.offset; items = kept_items sheet k.items }
