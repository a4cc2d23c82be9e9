use Rattle.abi_bits.proofs.Following.{followed}
use Rattle.abi_bits.proofs.bit_mask.BitMask.with_moved.Goals as goal

pub returns-clause-same : goal.returns-clause-same
returns-clause-same c =
    followed c.args.by c.args.self c.args.other.now _ (rw c.self.view_is at c.self.invariant.mask) (rw c.other.view_is at c.other.invariant.mask)
    c.in_ok-or_shifted.ensures.valid c.requires.above c.requires.within c.in_ok-or_shifted.ensures.bytes
