use Rattle.std.proofs.Common.{◌≡◌, ◌+◌, ◌∷◌, min, slice_index, refl, ap, arith, rules}
use Rattle.abi_layout.specs.Shape.{size}
use Rattle.abi_pack.specs.ByteMap.{seen_from}
use Rattle.abi_pack.specs.Counting.{max_values, values_in}
use Rattle.abi_pack.specs.ValueShown.{value_shown}
use Rattle.abi_pack.specs.View.{shape}
use Rattle.abi_pack.proofs.Counts.{struct_values, sum_values, field_values, item_values, point_values, still_times}
use Rattle.abi_pack.proofs.Offsets.{covered_rest, state_rest}
use Rattle.abi_pack.proofs.Rows.{row_size_next}
use Rattle.abi_pack.proofs.counting.+values.Goals as goal

pub values-is_det_ok-first-requires : goal.values-is_det_ok-first-requires
values-is_det_ok-first-requires t c =
    covered_rest c.args.part.now c.in-Sum.names c.in-Sum.ok c.in-Sum.err c.in-Sum.sum_layout c.args.at c.args.bytes.now c.in-Sum.is c.requires.sound c.requires.within

pub values-returns-in-Struct : goal.values-returns-in-Struct
values-returns-in-Struct t c =
    let whole = struct_values c.args.part.now c.as_slice.result.now c.in-Struct.fields c.in-Struct.size (seen_from c.args.at (slice_index c.args.bytes.now)) c.in-Struct.is c.as_slice.ensures in
    omega (arith, whole, c.values_of_all.ensures, c.min-count.ensures)

pub values-returns-in-Sum : goal.values-returns-in-Sum
values-returns-in-Sum t c =
    let whole =
    sum_values c.args.part.now c.side-variant.result.now c.in-Sum.names c.in-Sum.ok c.in-Sum.err c.in-Sum.sum_layout c.is_det_ok-first.result (slice_index c.args.bytes.now) c.args.at
    (c.args.at + c.start.result) c.in-Sum.is (rw (← c.deref-in-Sum.ensures, ← c.deref-in-Sum-2.ensures) c.side-variant.ensures)
    (state_rest c.in-Sum.sum_layout.determinant c.args.bytes.now c.args.at c.is_det_ok-first.result c.is_det_ok-first.ensures) (ap (λ n. c.args.at + n) c.start.ensures) in
    omega (arith, whole, c.values.ensures, c.min-count.ensures)

pub values_of_all-returns-then-count-gt-MAX_VALUES : goal.values_of_all-returns-then-count-gt-MAX_VALUES
values_of_all-returns-then-count-gt-MAX_VALUES t c =
    let cons : c.args.fields.now ≡ c.in-Some.field.now ∷ c.in-Some.fields.now = search rules in
    let both =
    field_values c.args.fields.now c.in-Some.fields.now c.in-Some.field.now (slice_index c.args.bytes.now) c.args.at (c.args.at + c.in-Some.field.now.gap)
    (c.args.at + c.in-Some.field.now.gap + c.size.result) cons refl (ap (λ n. c.args.at + c.in-Some.field.now.gap + n) c.size.ensures) in
    omega (arith, both, c.values-count.ensures, c.if-count-gt-MAX_VALUES.true)

pub values_of_all-returns-else-count-gt-MAX_VALUES : goal.values_of_all-returns-else-count-gt-MAX_VALUES
values_of_all-returns-else-count-gt-MAX_VALUES t c =
    let cons : c.args.fields.now ≡ c.in-Some.field.now ∷ c.in-Some.fields.now = search rules in
    let both =
    field_values c.args.fields.now c.in-Some.fields.now c.in-Some.field.now (slice_index c.args.bytes.now) c.args.at (c.args.at + c.in-Some.field.now.gap)
    (c.args.at + c.in-Some.field.now.gap + c.size.result) cons refl (ap (λ n. c.args.at + c.in-Some.field.now.gap + n) c.size.ensures) in
    omega (arith, both, c.values-count.ensures, c.values_of_all.ensures)

pub values_of_each-returns-then-size-eq0 : goal.values_of_each-returns-then-size-eq0
values_of_each-returns-then-size-eq0 t c =
    let s = shape c.args.item.now in
    let f = seen_from c.args.at (slice_index c.args.bytes.now) in
    let all = point_values c.args.len s f (omega (arith, c.size-size.ensures, c.if-size-eq0.true)) in
    let still = still_times c.args.len (values_in (value_shown s f)) (max_values + 1) 18446744073709551615 (omega (arith, c.if-len-eq0.false)) (omega arith) in
    let counted_once : c.values-count.result ≡ min (values_in (value_shown s f)) (max_values + 1) = omega (arith, c.values-count.ensures) in
    let many = rw (← counted_once, ← c.saturating_mul.ensures) at still in
    omega (arith, all, many, c.min-all.ensures, c.min.ensures)

pub values_of_each-returns-then-count-gt-MAX_VALUES : goal.values_of_each-returns-then-count-gt-MAX_VALUES
values_of_each-returns-then-count-gt-MAX_VALUES t c =
    let next =
    item_values c.args.len c.loop-i.i (shape c.args.item.now) (slice_index c.args.bytes.now) c.loop-i.start (c.loop-i.start + size (shape c.args.item.now)) c.loop-i-test.true refl in
    omega (arith, next, c.loop-i.invariant.whole, c.values-count-in-loop-i.ensures, c.if-count-gt-MAX_VALUES.true)

pub values_of_each-loop-i-preserved : goal.values_of_each-loop-i-preserved
values_of_each-loop-i-preserved t c =
    let end = c.loop-i.start + c.size-size.result in
    let next =
    item_values c.args.len c.loop-i.i (shape c.args.item.now) (slice_index c.args.bytes.now) c.loop-i.start end c.loop-i-test.true (ap (λ n. c.loop-i.start + n) c.size-size.ensures) in
    let less = row_size_next c.args.len c.loop-i.i (shape c.args.item.now) c.loop-i-test.true in
    record {
      within = omega (arith, less, c.loop-i.invariant.within, c.size-size.ensures);
      low = omega (arith, c.if-count-gt-MAX_VALUES.false);
      whole = omega (arith, next, c.loop-i.invariant.whole, c.values-count-in-loop-i.ensures, c.if-count-gt-MAX_VALUES.false);
    }
