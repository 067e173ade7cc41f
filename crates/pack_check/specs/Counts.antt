-- Inner. What a check asks of a pack's opening and of its items: a number each.
use Rattle.std.specs.Prelude.{ℕ}
use Rattle.pack.specs.Items.{Body, count_of}
use Rattle.pack.specs.Reading.{Opening}

-- how many items and payloads there are
abbrev pub counted : Body → ℕ
counted b = count_of b.parts

-- where the items start
abbrev pub next_of : Opening → ℕ
next_of o = o.next
