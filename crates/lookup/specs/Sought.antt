-- Inner. What one pack has of a label, as the code seeks it: by the tag that the label is mapped to.
use Rattle.std.specs.Prelude.{◌≡◌, List, [], ◌∷◌, Bool, false, cond, Option, Some, None, Result, Ok, ℕ, ◌+◌, ◌≤◌, eqb, length, take, drop}
use Rattle.runs.specs.Same.{same}
use Rattle.runs.specs.Those.{those}
use Rattle.refusals.specs.declared.Refused.{Refused}
use Rattle.refusals.specs.Outcomes.{answered}
use Rattle.pack.specs.Fixed.{item_cap}
use Rattle.pack.specs.Payloads.{name_of, Ground, inners_from}
use Rattle.pack.specs.Items.{Body}
use Rattle.pack.specs.Reading.{Read}
use Rattle.pack.specs.declared.Name.{Name}
use Rattle.pack.specs.declared.Payload.{Payload}
use Rattle.lookup.specs.Lookup.{payloads_of, carried}
use Rattle.lookup.specs.declared.Inside.{Inside}
use Rattle.lookup.specs.declared.Spot.{Spot}

-- where a payload has its value, and its total offset
abbrev pub spot_of : ℕ → ℕ → ℕ → Spot
spot_of start len total = record { start = start; len = len; total = total }

-- where the first of some payloads has its value
abbrev pub first_at : List Payload → Option Spot
first_at [] = None
first_at (x ∷ xs) = Some (spot_of x.value_start x.value_len x.total)

-- and the first of those whose name passes a test
abbrev pub first_in : (Name → Bool) → List Payload → Option Spot
first_in test xs = first_at (those (λ (x : Payload). test x.name) xs)

-- whether the tag t is the one that is sought
abbrev pub is_wanted : Option ℕ → ℕ → Bool
is_wanted None t = false
is_wanted (Some tag) t = eqb tag t

-- a payload of the tag t, if that is the one that is sought
unfoldable pub of_tag : Option ℕ → ℕ → ℕ → ℕ → ℕ → Option Spot
of_tag wanted t start len total = cond (is_wanted wanted t) (Some (spot_of start len total)) None

-- by these mapped tags the name of a tag passes the test exactly if the tag is the one that is sought
abbrev pub Tells : List ℕ → (Name → Bool) → Option ℕ → Type 0
Tells tags test wanted = (t : ℕ) → test (name_of tags t) ≡ is_wanted wanted t

-- the tag that is mapped to the label l, if one is, by the tags of the mappings and where their labels stand in s
unfoldable pub tag_for : List ℕ → List ℕ → List ℕ → List ℕ → Option ℕ
tag_for s l [] places = None
tag_for s l (t ∷ ts) [] = None
tag_for s l (t ∷ ts) (p ∷ ps) = cond (same (take 16 (drop p s)) l) (Some t) (tag_for s l ts ps)

unfoldable pub wanted_tag : List ℕ → List ℕ → List ℕ → List ℕ → Option ℕ
wanted_tag s l tags places = cond (eqb (length l) 16) (tag_for s l tags places) None

-- what the payloads of the inside of a Sync come to, where `used` items and payloads came before
abbrev pub inside_of : (Name → Bool) → ℕ → List Payload → Inside
inside_of test used xs = record { count = used + length xs; first = first_in test xs }

-- the inside of a Sync, sought; fuel, if it is enough, does not matter
pub record InsideSought (q : List ℕ) (grounds : Ground) (test : Name → Bool) (base used : ℕ) (r : Result Inside Refused) : Type 0 where
  pub told : (k : ℕ) → length q ≤ k → r ≡ answered (inside_of test used) (inners_from k q grounds base 0 used)
  pub few : (x : Inside) → r ≡ Ok x → x.count ≤ item_cap

-- the items of a pack
abbrev pub sought_body : (Name → Bool) → Body → Option Spot
sought_body test b = first_in test (payloads_of b.parts)

-- one pack: where the first payload of the label has its value
abbrev pub sought_read : List ℕ → Read → Option Spot
sought_read l r = first_at (carried l r)
