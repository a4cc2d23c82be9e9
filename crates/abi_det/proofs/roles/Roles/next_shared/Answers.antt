use Rattle.std.proofs.Common.{◌≡◌, bit_and, arith}
use Rattle.abi_det.proofs.Next.{shared_later}
use Rattle.abi_det.proofs.roles.Roles.next_shared.Goals as goal
use Rattle.abi_det.proofs.roles.Roles.next_shared.Goals.{else-beside-next-via-then-beside-next+else-both-ne0, else-beside-next-via-else-beside-next}

pub loop-next-preserved : goal.loop-next-preserved
loop-next-preserved c =
    let apart : c.in_ok-beside.beside ≡ c.in-Some.next → bit_and c.in-Some.byte c.in_ok-beside.other ≡ 0 = λ same. elim c.else-beside-next.branch [
      | else-beside-next-via-then-beside-next+else-both-ne0 w ↦ w.if-both-ne0.false
      | else-beside-next-via-else-beside-next w ↦ absurd (w.if-beside-next.false same)
    ] in
    let first = rw (c.placed_large-large.ensures.variant, c.placed_large-large.ensures.shift, c.placed_large-large.ensures.size) at c.in-Some.ensures in
    let second = rw (c.placed_small-small.ensures.variant, c.placed_small-small.ensures.shift, c.placed_small-small.ensures.size) at c.in_ok-beside.ensures in
    record {
      reached = omega (arith, c.loop-next.invariant.reached, first.next.0, c.max-at.ensures);
      none = rw c.max-at.ensures
          (shared_later c.args.self.now.large c.args.self.now.small c.args.shift c.args.self.now.size c.args.from c.loop-next.at c.in-Some.next c.in-Some.byte
          c.in_ok-beside.beside c.in_ok-beside.other c.requires.some c.loop-next.invariant.none first.next second.next apart);
      left = (
        λ i g. first.left i (omega (arith, g, first.next.0, c.max-at.ensures)),
        λ i g. second.left i (omega (arith, g, c.max-at.ensures)),
      );
    }
