-- Whatever is read keeps to the caps.
use mathlib.Core.List.{List, [], ◌∷◌}
use mathlib.Core.Bool.{Bool}
use Prim.Native.Nat.{ℕ, ◌+◌, ◌≤◌}
use native.Mathlib.Omega.{arith}
use lib.ListN.{length, take, drop, length-append}
use Rattle.pack.specs.Fixed.{item_cap, mapping_cap}
use Rattle.pack.specs.declared.Payload.{Payload}
use Rattle.pack.specs.Config.{Mapping}
use Rattle.pack.specs.Payloads.{Ground}
use Rattle.pack.specs.Items.{Part, count_of}
use Rattle.pack_layout.proofs.Accepts.{InnersRead, none_inside, next_inside, ItemsRead, ended, closed, next_plain, next_sync}
use Rattle.pack_layout.proofs.Opens.{MappingsRead, none_mapped, next_mapped}

pub inners_count : {q : List ℕ} {grounds : Ground} {base at used : ℕ} {xs : List Payload} → InnersRead q grounds base at used xs → used ≤ item_cap → used + length xs ≤ item_cap
inners_count (none_inside h) u = omega arith
inners_count (next_inside {xs = xs} t v l e h room r) u = let i = inners_count r (omega arith) in omega arith

pub items_count : {s : List ℕ} {grounds : Ground} {at used : ℕ} {parts : List Part} {mark : Bool} → ItemsRead s grounds at used parts mark → used ≤ item_cap
    → used + count_of parts ≤ item_cap
unfolding count_of
items_count (ended h) u = omega arith
items_count (closed v e z c) u = omega arith
items_count (next_plain t v l e h room r) u = let i = items_count r (omega arith) in omega arith
items_count (next_sync v l xs e h room n inner r) u =
    let j = inners_count inner (omega arith) in
    let i = items_count r j in
    omega arith

pub mappings_count : {c : List ℕ} {at : ℕ} {seen more : List Mapping} → MappingsRead c at seen more → length seen ≤ mapping_cap → length seen + length more ≤ mapping_cap
mappings_count (none_mapped h) u = omega arith
mappings_count {c} (next_mapped {seen = seen} t n few e room apart r) u =
    let l = length-append seen (record { tag = t; stands = take 16 (drop n c); place = n } ∷ []) in
    let i = mappings_count r (omega arith) in
    omega arith
