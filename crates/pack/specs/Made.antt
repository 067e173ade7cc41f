-- Trusted. A list made of slots, one after the other: of each, what is made of its item.
use Rattle.std.specs.Prelude.{List, [], ◌∷◌, ◌++◌}
use Rattle.pack.specs.declared.Item.{Item}
use Rattle.pack.specs.declared.Item.{Item}

unfoldable pub made : {A : Type 0} → (Item → List A) → List Item → List A
made f [] = []
made f (w ∷ ws) = f w ++ made f ws
