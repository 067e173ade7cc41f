-- Trusted. The table after a call, said at once and not record by record: for the promises.
use Rattle.std.specs.Prelude.{List, [], ◌∷◌, map, cond, ◌&&◌, ℕ, eqb}
use Rattle.runs.specs.Same.{among}
use Rattle.runs.specs.Finding.{fill, tally}
use Rattle.objects.specs.declared.Object.{Object}
use Rattle.objects.specs.declared.Aod.{Aod}
use Rattle.objects.specs.declared.Xyz.{Xyz}
use Rattle.objects.specs.Entries.{made, moved, blank, free, mine, names, named}
use Rattle.objects.specs.Calls.{fresh}

-- an entry of which only the element is known yet
abbrev pub stub : ℕ → Object
stub n = record {
  element = n;
  class = 0;
  dynamic = 0;
  x = 0;
  y = 0;
  z = 0;
  size = 0;
  size3d = 0;
  diverge = 0;
  source = 0;
  gain = 0;
}

-- what the last record that names element n makes of its entry e; e itself where none does
unfoldable pub latest : ℕ → Object → List Aod → Object
latest n e [] = e
latest n e (r ∷ rs) = latest n (cond (eqb n r.element) (made r) e) rs

unfoldable pub placed : ℕ → Object → List Xyz → Object
placed n e [] = e
placed n e (m ∷ ms) = placed n (cond (eqb n m.element) (moved m e) e) ms

-- a used entry as the last record that names it has it; any other as it is
unfoldable pub renewed : List Aod → Object → Object
renewed rs e = cond (mine e) (latest e.element e rs) e

-- after an AOD: the k-th new element, in the order of first appearance, stands in the k-th free slot; then each entry that is named is renewed
unfoldable pub after_aod : List Aod → List Object → List Object
after_aod rs t = map (renewed rs) (fill free (map stub (fresh (named t) rs)) t)

-- a used entry where the last record that names it puts it
unfoldable pub relocated : List Xyz → Object → Object
relocated ms e = cond (mine e) (placed e.element e ms) e

unfoldable pub after_xyz : List Xyz → List Object → List Object
after_xyz ms t = map (relocated ms) t

-- what an XYZ leaves of an entry: all its fields but x, y and z
abbrev pub unmoved : Object → List ℕ
unmoved e = e.element ∷ e.class ∷ e.dynamic ∷ e.size ∷ e.size3d ∷ e.diverge ∷ e.source ∷ e.gain ∷ []

-- after a clearing: the entry of that element is blank
unfoldable pub after_clear : ℕ → List Object → List Object
after_clear n t = map (λ (e : Object). cond (names n e) blank e) t

-- how many elements below 4096 a list of records names of which the table has no entry
unfoldable pub newcomers : (ℕ → Object) → List Aod → ℕ
newcomers has rs = tally (λ (n : ℕ). among n (map (λ (r : Aod). r.element) rs) && free (has n)) 4096
