use Rattle.std.proofs.Common.{◌≡◌, drop}
use Rattle.abi_bits.specs.Pairs.{are_bytes}
use Rattle.abi_bits.proofs.forbidden_values.are_bytes.Given as goal

abbrev pub invariant-loop-byte : goal.invariant-loop-byte
invariant-loop-byte l = are_bytes l.pairs ≡ are_bytes (drop l.byte-index l.pairs)
