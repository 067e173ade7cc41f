-- Inner. A quick look that the code takes before the full one.
use Rattle.std.specs.Prelude.{List, cond, Option, Some, None, ℕ, ◌+◌, ◌-◌, ltb, leb, eqb, length, get_or}
use Rattle.numbers.specs.Big.{big_at}
use Rattle.pack.specs.declared.Element.{Element}

abbrev pub audio : ℕ → ℕ → ℕ → Option Element
audio t v l = Some (record { tag = t; value = record { start = v; len = l } })

-- the value of l bytes after n bytes of tag and length, if it ends within the part
unfoldable pub glance_after : List ℕ → ℕ → ℕ → ℕ → Option Element
glance_after p at n l = cond (ltb (length p - at - n) l) None (audio (get_or p at 0) (at + n) l)

-- an audio payload with a tag of one byte, and a length of one byte or of three by the form 82, stands at `at`, whole, or it is not told
unfoldable pub glance_at : List ℕ → ℕ → Option Element
glance_at p at =
    cond (ltb (length p - at) 4)
    None
    (cond (leb (get_or p at 0) 3)
    None
    (cond (ltb 127 (get_or p at 0))
    None
    (cond (ltb 127 (get_or p (at + 1) 0))
    (cond (eqb (get_or p (at + 1) 0) 130) (glance_after p at 4 (big_at p (at + 2) 2)) None)
    (glance_after p at 2 (get_or p (at + 1) 0)))))
