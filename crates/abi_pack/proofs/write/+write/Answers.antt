use Rattle.std.proofs.Common.{◌≡◌, true, ◌<◌, ◌+◌, ◌-◌, ◌∷◌, length, drop, ap, arith, rules}
use Rattle.abi_layout.specs.Shape.{fields, repeated}
use Rattle.abi_pack.specs.Shows.{fits}
use Rattle.abi_layout.specs.declared.part.Compound.TheVariants as compound
use Rattle.abi_pack.specs.Packed.{packed_in}
use Rattle.abi_layout.specs.Trees.{sides}
use Rattle.abi_pack.specs.View.{shape, shapes, plain, plains}
use Rattle.abi_pack.proofs.Choice.{and_second}
use Rattle.abi_pack.proofs.Nodes.{nodes, nodes_in, nodes_fewer}
use Rattle.abi_pack.proofs.Steps.{struct_is, sum_covered, IsVariantOf, variant_of, payload_fits}
use Rattle.abi_pack.proofs.Rows.{row_count, row_nodes, row_sound}
use Rattle.abi_pack.proofs.RowWriting.{values_at, writing_one, writing_next, nothing_written, struct_packed}
use Rattle.abi_pack.proofs.write.+write.Goals as goal

pub write-write_all-requires : goal.write-write_all-requires
write-write_all-requires t c =
    let fewer : nodes_in (shapes c.as_slice.result.now) < nodes (shape c.args.part.now) =
    nodes_fewer c.args.part.now c.as_slice.result.now c.in-Struct.fields c.in-Struct.size c.in-Struct.is c.as_slice.ensures in
    let is : shape c.args.part.now ≡ fields compound.Struct c.in-Struct.size (shapes c.as_slice.result.now) =
    struct_is c.args.part.now c.as_slice.result.now c.in-Struct.fields c.in-Struct.size c.in-Struct.is c.as_slice.ensures in
    let sound = rw is at c.requires.sound in
    let room = rw is at c.requires.room in
    let small = rw is at c.requires.small in
    (omega (arith, c.decreases), (sound.0, (omega (arith, room, small), (rw (is, c.in-Some.ensures.some) at c.requires.fits, omega (arith, room, sound.1)))))

pub write-returns-in-Some : goal.write-returns-in-Some
write-returns-in-Some t c =
    struct_packed c.args.part.now c.as_slice.result.now c.in-Struct.fields c.in-Struct.size (plain c.args.value.now) (plains c.in-Some.values.now) c.args.out.now c.write_all.new.out
    c.in-Struct.is c.as_slice.ensures c.in-Some.ensures.some c.requires.room c.write_all.ensures

pub write-write_at-requires : goal.write-write_at-requires
write-write_at-requires t c =
    let variant = c.in-Some-as_variant.variant in
    let side : shape c.side-part.result.now ≡ sides (shape c.in-Sum.ok.value) (shape c.in-Sum.err.value) variant.first =
    rw (← c.deref-in-Some-as_variant.ensures, ← c.deref-in-Some-as_variant-2.ensures) c.side-part.ensures in
    let of : IsVariantOf c.args.part.now c.side-part.result.now c.in-Sum.sum_layout variant.first 0 (length c.args.out.now) =
    variant_of c.args.part.now c.side-part.result.now c.in-Sum.names c.in-Sum.ok c.in-Sum.err c.in-Sum.sum_layout variant.first 0 (length c.args.out.now) c.in-Sum.is side c.requires.sound
    (omega (arith, c.requires.room)) in
    let fit : fits (shape c.side-part.result.now) (plain variant.payload.now) ≡ true =
    payload_fits c.args.part.now c.side-part.result.now c.in-Sum.names variant.names c.in-Sum.ok c.in-Sum.err c.in-Sum.sum_layout (plain c.args.value.now) (plain variant.payload.now) variant.first
    c.in-Sum.is side c.in-Some-as_variant.ensures.some c.requires.fits in
    (omega (arith, c.decreases, of.fewer), (of.sound, (omega (arith, c.requires.small, c.requires.room), (fit, omega (arith, of.within, c.start.ensures)))))

pub write-name_variant-requires : goal.write-name_variant-requires
write-name_variant-requires t c =
    sum_covered c.args.part.now c.in-Sum.names c.in-Sum.ok c.in-Sum.err c.in-Sum.sum_layout _ c.in-Sum.is c.requires.sound (omega (arith, c.write_at.auto.out, c.requires.room))

pub write_each-returns-then-is_empty : goal.write_each-returns-then-is_empty
write_each-returns-then-is_empty t c =
    nothing_written (repeated c.args.len (shape c.args.item.now)) _ c.args.out.now c.requires.sound c.requires.fits c.requires.room (search rules)

pub write_each-loop-value-init : goal.write_each-loop-value-init
write_each-loop-value-init t c =
    let count : c.args.len ≡ length c.args.values.now = row_count c.args.len (shape c.args.item.now) c.args.values.now c.requires.fits in
    let whole : length c.args.out.now - 0 ≡ length c.args.out.now = omega arith in
    rw (← count) (
      omega (arith, c.requires.room),
      c.requires.fits,
      ap (λ m. packed_in m (repeated c.args.len (shape c.args.item.now)) (plains c.args.values.now)) whole,
    )

pub write_each-write-requires : goal.write_each-write-requires
write_each-write-requires t c =
    let count : c.args.len ≡ length c.args.values.now = row_count c.args.len (shape c.args.item.now) c.args.values.now c.requires.fits in
    let cons : drop c.loop-value.value-index c.args.values.now ≡ c.value-item.result ∷ drop (c.loop-value.value-index + 1) c.args.values.now = values_at c.args.values.now c.loop-value.value-index c.value-item.result c.loop-value-test.true c.value-item.is in
    let one = writing_one (shape c.args.item.now) c.value-item.result _ (drop (c.loop-value.value-index + 1) c.args.values.now) c.loop-value.start _ _ _ cons c.loop-value.invariant in
    let some : 0 < c.args.len = omega (arith, c.loop-value-test.true, count) in
    let fewer : nodes (shape c.args.item.now) < nodes_in (repeated c.args.len (shape c.args.item.now)) = row_nodes c.args.len (shape c.args.item.now) some in (
      omega (arith, c.decreases),
      (row_sound c.args.len (shape c.args.item.now) some c.requires.sound, (omega (arith, c.requires.small, c.requires.room, one.1), (one.0, search rules))),
    )

pub write_each-loop-value-preserved : goal.write_each-loop-value-preserved
write_each-loop-value-preserved t c =
    let count : c.args.len ≡ length c.args.values.now = row_count c.args.len (shape c.args.item.now) c.args.values.now c.requires.fits in
    let cons : drop c.loop-value.value-index c.args.values.now ≡ c.value-item.result ∷ drop (c.loop-value.value-index + 1) c.args.values.now = values_at c.args.values.now c.loop-value.value-index c.value-item.result c.loop-value-test.true c.value-item.is in
    let some : 0 < c.args.len = omega (arith, c.loop-value-test.true, count) in
    writing_next (shape c.args.item.now) c.value-item.result _ (drop (c.loop-value.value-index + 1) c.args.values.now) c.loop-value.start _ _ _ _ _ _ cons
    (row_sound c.args.len (shape c.args.item.now) some c.requires.sound) c.loop-value.invariant c.loop-value.auto.out c.size-size.ensures c.write.ensures

pub write_all-write_all-requires : goal.write_all-write_all-requires
write_all-write_all-requires t c =
    let cons : c.args.fields.now ≡ c.in-Some-Some.field.now ∷ c.in-Some-Some.fields.now = search rules in
    let values : c.args.values.now ≡ c.in-Some-Some.value.now ∷ c.in-Some-Some.values.now = search rules in
    let fewer : nodes_in (shapes c.in-Some-Some.fields.now) < nodes_in (shapes c.args.fields.now) = rw cons (omega arith) in
    let sound = rw cons at c.requires.sound in
    let fit = rw (cons, values) at c.requires.fits in
    let room = rw cons at c.requires.room in
    let one = c.split_at_mut-before.ensures.back_len in
    let other = c.split_at_mut-here.ensures.back_len in (
      omega (arith, c.decreases, fewer),
      (
        sound.1,
        (
          omega (arith, c.requires.small, one, other),
          (
            and_second (fits (shape c.in-Some-Some.field.now.part) (plain c.in-Some-Some.value.now)) _ fit,
            omega (arith, room, one, other, c.size.ensures),
          ),
        ),
      ),
    )
