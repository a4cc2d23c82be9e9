use Rattle.abi_bits.proofs.Sets.{moved_alone, moved_bytes, moved_has}
use Rattle.abi_bits.proofs.bit_mask.BitMask.shift.Goals as goal

pub returns-clause-same : goal.returns-clause-same
returns-clause-same c =
    moved_alone c.args.by _ c.args.self.now _ c.new-mask.ensures (rw c.self.view_is at c.self.invariant.mask) c.requires c.in_ok-or_shifted.ensures.valid c.in_ok-or_shifted.ensures.bytes

pub returns-clause-bytes : goal.returns-clause-bytes
returns-clause-bytes c = moved_bytes c.args.by c.args.self.now _ (returns-clause-same c)

pub returns-clause-bits : goal.returns-clause-bits
returns-clause-bits c = moved_has c.args.by c.args.self.now _ (returns-clause-same c)
