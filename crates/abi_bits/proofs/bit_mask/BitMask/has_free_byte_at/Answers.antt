use Rattle.abi_bits.proofs.Sets.{whole_byte}
use Rattle.abi_bits.proofs.bit_mask.BitMask.has_free_byte_at.Goals as goal

pub returns-clause-bits : goal.returns-clause-bits
returns-clause-bits c = rw c.byte_at.ensures.same (whole_byte c.args.self.now c.args.at c.byte_at.ensures.valid)
