-- `pack_read::read_items` meets its contract. The loop keeps what is left, and that the slots hold the items so far (proofs/Listing).
use Rattle.std.proofs.Common.{◌-◌, length, take}
use Rattle.numbers.specs.Big.{extended}
use Rattle.pack.specs.Payloads.{ground_of}
use Rattle.pack_read.proofs.Listing.{Listing}
use Rattle.pack_read.proofs.read_items.Given as goal

abbrev pub invariant-loop-at : goal.invariant-loop-at
invariant-loop-at l = Listing l.s (ground_of (take l.maps.count l.maps.tags) (extended l.offset)) l.fn.opening.next l.items l.count l.at

abbrev pub decreases-loop-at : goal.decreases-loop-at
decreases-loop-at l = length l.s - l.at
