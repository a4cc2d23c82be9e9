use Rattle.std.proofs.Common.{◌∙◌, bit_or, ap}
use Rattle.abi_bits.specs.Mask.{mask_at}
use Rattle.abi_bits.proofs.Entries.{mask_below}
use Rattle.abi_bits.proofs.Sets.{either_has, unmoved, unmoved_byte}
use Rattle.abi_bits.proofs.bit_mask.BitMask.bit_or.Goals as goal

pub or_shifted-requires : goal.or_shifted-requires
or_shifted-requires c = rw (unmoved c.args.other.now) (mask_below c.args.other.now (rw c.other.view_is at c.other.invariant.mask))

pub returns-clause-bytes : goal.returns-clause-bytes
returns-clause-bytes c = λ at. rw c.in_ok-mask.ensures.same at (c.in_ok-or_shifted.ensures.bytes at) ∙ ap (bit_or (mask_at c.args.self.now at)) (unmoved_byte c.args.other.now at)

pub returns-clause-bits : goal.returns-clause-bits
returns-clause-bits c = either_has c.args.self.now c.args.other.now _ (returns-clause-bytes c)
