use Rattle.std.proofs.Common.{arith, rules}
use Rattle.abi_bits.specs.Forbidden.{items}
use Rattle.abi_pack.proofs.Cleared.{raw_last}
use Rattle.abi_pack.proofs.raw.are_raw.Goals as goal

pub returns : goal.returns
returns c = raw_last c.args.size c.args.free.now (items c.args.forbidden.now) c.args.bytes.now c.is_invalid.result (search rules) (λ i. omega (arith, c.type_inv.bytes i)) (search rules) c.is_invalid.ensures
