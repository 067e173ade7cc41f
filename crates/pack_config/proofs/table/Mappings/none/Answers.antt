-- `Mappings::none` holds what is known of mappings, of none.
use mathlib.Core.Path.{refl}
use native.Mathlib.Omega.{arith}
use Rattle.pack_config.proofs.Tables.{knows_none}
use Rattle.pack_config.proofs.table.Mappings.none.Goals as goal

pub invariant_of-result : goal.invariant_of-result
invariant_of-result c = record { few = omega arith; wide = (refl, refl, refl); index = knows_none }
