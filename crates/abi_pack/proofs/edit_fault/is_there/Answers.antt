use Rattle.std.proofs.Common.{◌∙◌, sym, slice_index}
use Rattle.abi_pack.specs.ByteMap.{seen_from}
use Rattle.abi_pack.proofs.Inners.{there_is}
use Rattle.abi_pack.proofs.Offsets.{covered_rest, state_rest}
use Rattle.abi_pack.proofs.edit_fault.is_there.Goals as goal

pub is_det_ok-requires : goal.is_det_ok-requires
is_det_ok-requires c =
    covered_rest c.args.part.now c.in-Sum.names c.in-Sum.ok c.in-Sum.err c.in-Sum.sum_layout c.args.at c.args.bytes.now c.in-Sum.is c.requires.sound c.requires.within

pub returns-in-Some : goal.returns-in-Some
returns-in-Some c =
    there_is c.args.part.now c.in-Sum.names c.in-Sum.ok c.in-Sum.err c.in-Sum.sum_layout c.args.step.now (seen_from c.args.at (slice_index c.args.bytes.now)) c.in-Some.wanted c.is_det_ok.result
    c.in-Sum.is (sym c.variant_entered.ensures ∙ c.in-Some.is) (state_rest c.in-Sum.sum_layout.determinant c.args.bytes.now c.args.at c.is_det_ok.result c.is_det_ok.ensures)
