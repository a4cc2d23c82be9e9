use Rattle.std.proofs.Common.{◌≡◌, drop}
use Rattle.std.specs.List.{list_all}
use Rattle.abi_bits.specs.Forbidden.{is_solid_byte}
use Rattle.abi_layout.proofs.leaves.are_solid_bytes.Given as goal

abbrev pub invariant-loop-offset : goal.invariant-loop-offset
invariant-loop-offset l =
    list_all (λ p. is_solid_byte l.size l.free p.0) l.pairs ≡ list_all (λ p. is_solid_byte l.size l.free p.0) (drop l.offset-index l.pairs)
