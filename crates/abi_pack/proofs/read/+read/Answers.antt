use Rattle.std.proofs.Common.{◌≡◌, ◌+◌, ◌∷◌, ◌∙◌, slice_index, refl, ap, rules}
use Rattle.abi_pack.specs.ByteMap.{seen_from}
use Rattle.abi_pack.specs.View.{plain}
use Rattle.abi_pack.proofs.Named.{none_unit}
use Rattle.abi_pack.proofs.Offsets.{covered_rest, state_rest, told_sum, read_step, told_list}
use Rattle.abi_pack.proofs.Rows.{told_array}
use Rattle.abi_pack.proofs.read.+read.Goals as goal

pub read-is_det_ok-first-requires : goal.read-is_det_ok-first-requires
read-is_det_ok-first-requires t c =
    covered_rest c.args.part.now c.in-Sum.names c.in-Sum.ok c.in-Sum.err c.in-Sum.sum_layout c.args.at c.args.bytes.now c.in-Sum.is c.requires.sound c.requires.within

pub read-returns-in_ok-read_all-in-Struct : goal.read-returns-in_ok-read_all-in-Struct
read-returns-in_ok-read_all-in-Struct t c =
    told_list c.read_all.new.values c.new-values.result c.args.part.now c.as_slice.result.now c.in-Struct.fields c.in-Struct.size _ c.in-Struct.is c.as_slice.ensures
    c.new-values.ensures c.in_ok-read_all-in-Struct.ensures

pub read-returns-in_ok-read_each-in-Array : goal.read-returns-in_ok-read_each-in-Array
read-returns-in_ok-read_each-in-Array t c =
    told_array c.read_each.new.values c.new-values-in-Array.result c.args.part.now c.deref.result.now c.in-Array.item c.in-Array.len c.in-Array.size _ c.in-Array.is c.deref.ensures
    c.new-values-in-Array.ensures c.in_ok-read_each-in-Array.ensures

pub read-variant_value-requires : goal.read-variant_value-requires
read-variant_value-requires t c =
    none_unit c.args.part.now c.side-variant.result.now c.in-Sum.names c.in-Sum.ok c.in-Sum.err c.in-Sum.sum_layout c.is_det_ok-first.result
    (seen_from (c.args.at + c.start.result) (slice_index c.args.bytes.now)) (plain c.in_ok-payload-in-Sum.payload) c.in-Sum.is
    (rw (← c.deref-in-Sum.ensures, ← c.deref-in-Sum-2.ensures) c.side-variant.ensures) c.requires.named c.in_ok-payload-in-Sum.ensures

pub read-returns-in_ok-value-in-Sum : goal.read-returns-in_ok-value-in-Sum
read-returns-in_ok-value-in-Sum t c =
    c.in_ok-value-in-Sum.ensures
    ∙ told_sum c.args.part.now c.side-variant.result.now c.in-Sum.names c.in-Sum.ok c.in-Sum.err c.in-Sum.sum_layout c.is_det_ok-first.result (slice_index c.args.bytes.now) c.args.at
    (c.args.at + c.start.result) (plain c.in_ok-payload-in-Sum.payload) c.in-Sum.is (rw (← c.deref-in-Sum.ensures, ← c.deref-in-Sum-2.ensures) c.side-variant.ensures)
    (state_rest c.in-Sum.sum_layout.determinant c.args.bytes.now c.args.at c.is_det_ok-first.result c.is_det_ok-first.ensures) (ap (λ n. c.args.at + n) c.start.ensures) c.in_ok-payload-in-Sum.ensures

pub read_all-returns-in_ok-read_all-in-Some : goal.read_all-returns-in_ok-read_all-in-Some
read_all-returns-in_ok-read_all-in-Some t c =
    let cons : c.args.fields.now ≡ c.in-Some.field.now ∷ c.in-Some.fields.now = search rules in
    read_step c.args.values.now c.read_all.new.values c.push.new.self c.in_ok-value-in-Some.value c.args.fields.now c.in-Some.fields.now c.in-Some.field.now
    (slice_index c.args.bytes.now) c.args.at (c.args.at + c.in-Some.field.now.gap) (c.args.at + c.in-Some.field.now.gap + c.size.result)
    c.in_ok-push-in-Some.ensures.ok c.in_ok-value-in-Some.ensures cons refl (ap (λ n. c.args.at + c.in-Some.field.now.gap + n) c.size.ensures)
    c.in_ok-read_all-in-Some.ensures
