use Rattle.std.proofs.Common.{◌+◌, ◌-◌, ◌∙◌, not, ap, arith}
use Rattle.abi_bits.specs.Forbidden.{items}
use Rattle.abi_pack.proofs.Cleared.{cut_none}
use Rattle.abi_pack.proofs.raw.is_legal.Goals as goal

pub returns : goal.returns
returns c =
    ap not c.is_invalid.ensures
    ∙ cut_none c.args.size c.args.at (c.args.at + c.args.size - c.args.at) c.args.bytes.now (items c.args.forbidden.now) (omega arith) c.requires.below
