-- Trusted. What a look-up found, of the five numbers that C is told, in terms of what the two packs say.
use Rattle.std.specs.Prelude.{◌≡◌, List, ◌⊎◌, ℕ, ◌+◌, ◌≤◌, pos, length}
use Rattle.pack.specs.Meaning.{stretch}
use Rattle.lookup.specs.Named.{Without, First, FirstTotal, Says, SaysTotals}
use Rattle.ballastwren.specs.declared.ToldFound.{ToldFound}

-- the stretch that is told is the value of the first payload of the label l in what main says; or in what backup says, where main has none. Both
-- packs are accepted
abbrev pub FirstTold : List ℕ → List ℕ → List ℕ → ToldFound → Type 0
FirstTold main backup l a =
    ((a.from ≡ 1) × Says main (First l (stretch main a.start a.value)) × Says backup (λ xs. Unit))
    ⊎ ((a.from ≡ 2) × Says main (Without l) × Says backup (First l (stretch backup a.start a.value)))

-- the total offset that is told is that of the same payload: the pack's offset plus that of the Sync it stands in, or the pack's alone
abbrev pub TotalTold : List ℕ → List ℕ → List ℕ → ToldFound → Type 0
TotalTold main backup l a =
    ((a.from ≡ 1) × SaysTotals main (FirstTotal l (stretch main a.start a.value) a.total))
    ⊎ ((a.from ≡ 2) × SaysTotals backup (FirstTotal l (stretch backup a.start a.value) a.total))

-- the bytes v are those that stand in a pack where the numbers say
abbrev pub StandsAt : List ℕ → List ℕ → ToldFound → Type 0
StandsAt v pack a = (a.start + a.value ≤ length pack) × (v ≡ stretch pack a.start a.value)

-- they are the stretch that is told, of the pack that is told
abbrev pub PartTold : List ℕ → List ℕ → List ℕ → ToldFound → Type 0
PartTold main backup v a = ((a.from ≡ 1) × StandsAt v main a) ⊎ ((a.from ≡ 2) × StandsAt v backup a)

-- ABSENT as it is told: its number, place 0, neither pack, no stretch, no total offset
abbrev pub absent_told : ToldFound
absent_told = record { number = 20; value = 0; from = 0; start = 0; total = pos 0 }
