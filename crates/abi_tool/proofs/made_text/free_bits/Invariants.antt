use Rattle.std.proofs.Common.{◌≡◌, ◌*◌, ◌≤◌, ◌^◌, count_ones, map}
use Rattle.std.specs.List.{range_with_len, sum}
use Rattle.abi_bits.specs.Mask.{mask_at}
use Rattle.abi_tool.proofs.made_text.free_bits.Given as goal

abbrev pub invariant-bytes : goal.invariant-bytes
invariant-bytes l = record {
  counted : l.bits ≡ sum (map (λ at. count_ones (mask_at l.layout.free at)) (range_with_len 0 l.at));
  few : l.bits ≤ 2 ^ 32 * l.at;
}
