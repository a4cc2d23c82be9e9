use Rattle.std.proofs.Common.{◌+◌, length, inl, inr, arith}
use Rattle.std.proofs.lemmas.Bool.{cases_lt}
use Rattle.abi_bits.proofs.walk.rest_from.Goals as goal

pub loop-index-init : goal.loop-index-init
loop-index-init c =
    let skipped = c.min-skipped.ensures in
    let gap = c.saturating_sub.ensures in
    record {
      inside = omega (arith, skipped);
      reached = elim (cases_lt c.args.from (c.args.start + length c.args.bytes.now)) [
        | inl lt ↦ inl (omega (arith, skipped, gap, lt))
        | inr le ↦ inr (omega (arith, skipped, gap, le))
      ];
      none = λ k lt le. absurd (omega (arith, skipped, gap, lt, le));
    }
