use Rattle.std.proofs.Common.{rules, ◌≡◌, count_ones}
use Rattle.abi_bits.specs.Mask.{mask_at}
use Rattle.abi_tool.proofs.Sums.{one_more}
use Rattle.abi_tool.proofs.made_text.free_bits.Goals as goal

pub bytes-preserved : goal.bytes-preserved
bytes-preserved c =
    let is : c.from-bits.result ≡ count_ones (mask_at c.args.layout.now.free c.bytes.at) = search rules in
    record {
      counted = one_more (λ at. count_ones (mask_at c.args.layout.now.free at)) c.bytes.bits c.from-bits.result c.bytes.at c.bytes.invariant.counted is;
      few = search rules;
    }
