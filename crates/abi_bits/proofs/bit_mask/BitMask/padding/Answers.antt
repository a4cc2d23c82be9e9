use Rattle.std.proofs.Common.{◌≡◌, ◌+◌, replicate}
use Rattle.abi_bits.proofs.Spans.{full_span, full_bytes}
use Rattle.abi_bits.proofs.Sets.{full_has}
use Rattle.abi_bits.proofs.bit_mask.BitMask.padding.Goals as goal
use Rattle.abi_bits.proofs.bit_mask.BitMask.padding.Goals.{In_ok-bytes}

whole : (c : In_ok-bytes) → c.in_ok-bytes.bytes.items ≡ replicate c.args.count 255
whole c = c.in_ok-bytes.ensures.items_if_clones_equal (λ y e. e)

pub invariant_of-result : goal.invariant_of-result
invariant_of-result c = rw (whole c) (full_span c.args.from c.args.count c.requires)

pub returns-clause-valid : goal.returns-clause-valid
returns-clause-valid c = rw (whole c) (full_span c.args.from c.args.count c.requires).mask

pub returns-clause-bytes : goal.returns-clause-bytes
returns-clause-bytes c = rw (whole c) (full_bytes c.args.from c.args.count)

pub returns-clause-bits : goal.returns-clause-bits
returns-clause-bits c = rw (whole c) (full_has c.args.from (c.args.from + c.args.count) _ (full_bytes c.args.from c.args.count))
