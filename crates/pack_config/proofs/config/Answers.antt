-- `pack_config::config` meets its contract: a Config that is too short, or its mappings, of which there are none where they are refused.
use Rattle.std.specs.Prelude.{Err}
use Prim.Native.Nat.{◌+◌, ◌-◌}
use mathlib.Core.Path.{sym, ap, ◌∙◌}
use native.Mathlib.Omega.{arith}
use lib.ListN.{length-take}
use Rattle.pack.specs.Config.{config_maps}
use Rattle.pack_config.specs.Tables.{MapsWalked}
use Rattle.pack_config.proofs.Tables.{read_refused, read_failed, read_held}
use Rattle.pack_config.proofs.Openings.{maps_short, maps_long}
use Rattle.pack_config.proofs.config.Goals as goal
use Rattle.pack_config.proofs.config.Goals.{After-read_mappings-read}

-- what the walk over the mappings gives
walked : (m : After-read_mappings-read)
    → let a = m.args in
    MapsWalked (config_maps a.s.now a.at a.value.start a.value.len) m.read_mappings-read.result m.read_mappings-read.new.maps
walked m =
    let a = m.args in
    maps_long a.s.now a.at a.value.start a.value.len (a.value.start + a.value.len - 0) m.if-value-lt2.false (omega arith) (m.read_mappings-read.ensures a.value.len (simp length-take (omega arith)))

pub returns-then-value-lt2 : goal.returns-then-value-lt2
returns-then-value-lt2 c = read_refused (maps_short _ _ _ _ c.if-value-lt2.true) (ap Err c.at.ensures) c.requires.2

pub returns-then-is_err : goal.returns-then-is_err
returns-then-is_err c = read_failed _ (walked (goal.at.returns-then-is_err c).After-read_mappings-read) (sym c.is_err.ensures.value ∙ c.if-is_err.true) c.none.ensures

pub returns-else-is_err : goal.returns-else-is_err
returns-else-is_err c = read_held _ (walked (goal.at.returns-else-is_err c).After-read_mappings-read) (sym c.is_err.ensures.value ∙ c.if-is_err.false)
