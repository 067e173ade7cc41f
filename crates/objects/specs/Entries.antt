-- Trusted. An entry of the object table, what the records of a value make of it, and which entry an element names.
use Rattle.std.specs.Prelude.{List, [], ◌∷◌, Bool, not, ◌&&◌, ℕ, eqb}
use Rattle.runs.specs.Finding.{first}
use Rattle.objects.specs.declared.Aod.{Aod}
use Rattle.objects.specs.declared.Xyz.{Xyz}
use Rattle.objects.specs.declared.Object.{Object}

-- the entry that an AOD's record makes
abbrev pub made : Aod → Object
made r = record {
  element = r.element;
  class = r.class;
  dynamic = r.dynamic;
  x = r.x;
  y = r.y;
  z = r.z;
  size = r.size;
  size3d = r.size3d;
  diverge = r.diverge;
  source = r.source;
  gain = r.gain;
}

-- an entry where an XYZ's record puts it
abbrev pub moved : Xyz → Object → Object
moved m e = record {
  element = e.element;
  class = e.class;
  dynamic = e.dynamic;
  x = m.x;
  y = m.y;
  z = m.z;
  size = e.size;
  size3d = e.size3d;
  diverge = e.diverge;
  source = e.source;
  gain = e.gain;
}

-- a cleared entry
abbrev pub blank : Object
blank = record {
  element = 0;
  class = 0;
  dynamic = 0;
  x = 0;
  y = 0;
  z = 0;
  size = 0;
  size3d = 0;
  diverge = 0;
  source = 0;
  gain = 0;
}

-- the eleven numbers of an entry, in the order of an AOD's record
abbrev pub fields_of : Object → List ℕ
fields_of e =
    e.element ∷ e.class ∷ e.dynamic ∷ e.x ∷ e.y ∷ e.z ∷ e.size ∷ e.size3d ∷ e.diverge ∷ e.source ∷ e.gain ∷ []

abbrev pub free : Object → Bool
free e = eqb e.element 0

-- a used entry
unfoldable pub mine : Object → Bool
mine e = not (free e)

-- the entry of element n
unfoldable pub names : ℕ → Object → Bool
names n e = mine e && eqb e.element n

-- what the table has as the entry of element n; a blank one where it has none
unfoldable pub named : List Object → ℕ → Object
named t n = first (names n) blank t
