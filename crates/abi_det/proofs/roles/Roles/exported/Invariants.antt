use Rattle.std.proofs.Common.{◌≡◌, ◌-◌, ◌≤◌}
use Rattle.abi_bits.specs.Mask.{entries_below}
use Rattle.abi_det.specs.Roles.{spare_byte}
use Rattle.abi_det.specs.Search.{AreLeft}
use Rattle.abi_det.specs.Written.{without}
use Rattle.abi_det.proofs.roles.Roles.exported.Given as goal

abbrev pub invariant-loop-at : goal.invariant-loop-at
invariant-loop-at l =
    record {
      told : l.mask ≡ entries_below (without l.test (spare_byte l.self.large l.self.small l.shift l.self.size)) l.from;
      within : l.from ≤ l.self.size;
      left : AreLeft l.self.large l.self.small l.shift l.own l.from;
    }

abbrev pub decreases-loop-at : goal.decreases-loop-at
decreases-loop-at l = l.self.size - l.from
