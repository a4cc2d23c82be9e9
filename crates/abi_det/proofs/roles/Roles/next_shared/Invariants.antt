use Rattle.std.proofs.Common.{◌-◌, ◌≤◌}
use Rattle.abi_det.specs.Search.{AreLeft}
use Rattle.abi_det.proofs.Next.{NoneTo}
use Rattle.abi_det.proofs.roles.Roles.next_shared.Given as goal

abbrev pub invariant-loop-next : goal.invariant-loop-next
invariant-loop-next l = record {
  reached : l.from ≤ l.at;
  none : NoneTo l.self.large l.self.small l.shift l.self.size l.from l.at;
  left : AreLeft l.self.large l.self.small l.shift l.own l.at;
}

abbrev pub decreases-loop-next : goal.decreases-loop-next
decreases-loop-next l = l.self.size - l.at
