-- `scrub_write::write_pack` meets its contract. Start, Config, writes and end one after the other.
use mathlib.Core.List.{List, ◌++◌}
use Prim.Native.Nat.{ℕ}
use native.Mathlib.Omega.{arith}
use lib.ListN.{length-append}
use Rattle.runs.proofs.Over.{wrote_length}
use Rattle.runs.proofs.Writing.{Writing, writing_run, room_for, writing_last}
use Rattle.scrub_ops.specs.Ops.{ops_bytes}
use Rattle.scrub_config.specs.Entries.{config_at}
use Rattle.scrub_write.proofs.Whole.{starts, starts_length, whole_begins, whole_ends}
use Rattle.scrub_write.proofs.write_pack.Goals as goal
use Rattle.scrub_write.proofs.write_pack.Goals.{Start}

-- the bytes of Config and of the writes
abbrev config : Start → List ℕ
config b = config_at b.args.p.now b.args.offset b.args.mappings.now

abbrev writes : Start → List ℕ
writes b = ops_bytes b.args.p.now b.args.ops.now

-- nothing is written yet
begun : (b : Start) → Writing b.args.out.now 0 (starts b.args.size ++ (config b ++ writes b)) b.args.out.now 0 (starts b.args.size ++ (config b ++ writes b))
begun b = whole_begins b.args.out.now b.args.size (config b) (writes b) b.requires.0.counted b.requires.1

pub write_config-b-requires : goal.write_config-b-requires
write_config-b-requires c =
    let b = (goal.at.write_config-b-requires c).Start in
    let g = c.requires.0 in
    (g.few, g.mappings, room_for (config b) (writes b) (writing_run _ _ (begun b) c.write_start-a.ensures))

pub write_ops-c-requires : goal.write_ops-c-requires
write_ops-c-requires c =
    let b = (goal.at.write_ops-c-requires c).Start in
    let started = writing_run (starts c.args.size) (config b ++ writes b) (begun b) c.write_start-a.ensures in
    ((writing_run _ _ started c.write_config-b.ensures).room, c.requires.0.writes)

pub write_close-requires : goal.write_close-requires
write_close-requires c =
    let b = (goal.at.write_close-requires c).Start in
    let started = writing_run (starts c.args.size) (config b ++ writes b) (begun b) c.write_start-a.ensures in
    let w = writing_last (writes b) (writing_run (config b) (writes b) started c.write_config-b.ensures) c.write_ops-c.ensures in
    let n = w.next in
    let e = c.requires.0.counted in
    let h = c.requires.1 in
    let l = starts_length c.args.size in
    let a = length-append (starts c.args.size) (config b ++ writes b) in
    let m = wrote_length {at = 0} (omega arith) w in
    omega arith

pub returns : goal.returns
returns c =
    let b = (goal.at.returns c).Start in
    let started = writing_run (starts c.args.size) (config b ++ writes b) (begun b) c.write_start-a.ensures in
    let w = writing_last (writes b) (writing_run (config b) (writes b) started c.write_config-b.ensures) c.write_ops-c.ensures in
    whole_ends c.args.size (config b ++ writes b) c.requires.0.counted c.requires.1 w c.write_close.ensures
