-- Inner. The new tags of labels: each the smallest number from 64 up that is not taken.
use Rattle.std.specs.Prelude.{List, [], ◌∷◌, Bool, false, cond, ℕ, zero, suc, ◌+◌, ◌-◌, get_or, set, replicate}
use Rattle.pack.specs.Fixed.{mapping_cap}
use Rattle.scrub_config.specs.declared.Mapping.{Mapping}

-- the first of the next k marks from n on that is clear
unfoldable pub clear_from : ℕ → List Bool → ℕ → ℕ
clear_from zero taken n = n
clear_from (suc k) taken n = cond (get_or taken n false) (clear_from k taken (suc n)) n

-- the first clear mark of 64 from n on
abbrev pub clear_at : List Bool → ℕ → ℕ
clear_at taken n = clear_from (64 - n) taken n

-- tags for so many labels, from the mark n on
unfoldable pub given : List Bool → ℕ → ℕ → List ℕ
given taken n zero = []
given taken n (suc count) = (64 + clear_at taken n) ∷ given taken (suc (clear_at taken n)) count

-- the blank of a mapping
abbrev pub unmapped : Mapping
unmapped = record { index = 0; place = 0; tag = 0 }

-- the mappings of labels, given as indices of old mappings, whose labels stand at these places, with their new tags
unfoldable pub mapped : List ℕ → List ℕ → List ℕ → List Mapping
mapped places [] tags = []
mapped places (i ∷ order) [] = []
mapped places (i ∷ order) (t ∷ tags) = record { index = i; place = get_or places i 0; tag = t } ∷ mapped places order tags

-- the tags by the index of the old mapping, 0 where there is none
unfoldable pub by_index : List Mapping → List ℕ
by_index [] = replicate mapping_cap 0
by_index (m ∷ ms) = set (by_index ms) m.index m.tag
