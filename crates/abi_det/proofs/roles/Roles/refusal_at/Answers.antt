use Rattle.std.proofs.Common.{arith}
use Rattle.abi_det.proofs.Refused.{refused_beside}
use Rattle.abi_det.proofs.roles.Roles.refusal_at.Goals as goal

pub returns-in_ok-larger : goal.returns-in_ok-larger
returns-in_ok-larger c =
    refused_beside c.args.self.now.large c.args.self.now.small c.args.self.now.size c.args.place c.shift-shift.result c.in_ok-smaller.smaller c.in_ok-larger.larger
    (omega arith) c.shift-shift.ensures.same
    (rw (c.placed_large-large.ensures.variant, c.placed_large-large.ensures.shift, c.placed_large-large.ensures.size, c.patterns.ensures) at c.in_ok-smaller.ensures)
    (rw (c.placed_small-small.ensures.variant, c.placed_small-small.ensures.shift, c.placed_small-small.ensures.size, c.patterns-else-size-eq0.ensures) at c.in_ok-larger.ensures)
