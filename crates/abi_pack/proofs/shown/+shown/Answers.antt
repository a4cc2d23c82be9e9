use Rattle.std.proofs.Common.{◌≡◌, ◌+◌, ◌∷◌, ◌∙◌, length, true, false, slice_index, refl, sym, ap, arith, rules}
use Rattle.abi_layout.specs.Shape.{size}
use Rattle.abi_pack.specs.ByteMap.{seen_from}
use Rattle.abi_pack.specs.ValueShown.{is_shown, is_shown_in, at_each}
use Rattle.abi_pack.specs.View.{shape, shapes}
use Rattle.abi_pack.proofs.Offsets.{covered_rest, state_rest, shown_sum, shown_fields}
use Rattle.abi_pack.proofs.Spaced.{each_byteless, each_of_none, each_field, each_struct, each_row, each_array, array_room, one_row}
use Rattle.abi_pack.proofs.Steps.{raw_below}
use Rattle.abi_pack.proofs.shown.+shown.Goals as goal

pub is_shown-is_det_ok-first-requires : goal.is_shown-is_det_ok-first-requires
is_shown-is_det_ok-first-requires t c =
    covered_rest c.args.part.now c.in-Sum.names c.in-Sum.ok c.in-Sum.err c.in-Sum.sum_layout c.args.at c.args.bytes.now c.in-Sum.is c.requires.sound c.requires.within

pub is_shown-returns-in-Sum : goal.is_shown-returns-in-Sum
is_shown-returns-in-Sum t c =
    shown_sum c.args.part.now c.side-variant.result.now c.in-Sum.names c.in-Sum.ok c.in-Sum.err c.in-Sum.sum_layout c.is_det_ok-first.result (slice_index c.args.bytes.now) c.args.at
    (c.args.at + c.start.result) c.is_shown.result c.in-Sum.is (rw (← c.deref-in-Sum.ensures, ← c.deref-in-Sum-2.ensures) c.side-variant.ensures)
    (state_rest c.in-Sum.sum_layout.determinant c.args.bytes.now c.args.at c.is_det_ok-first.result c.is_det_ok-first.ensures) (ap (λ n. c.args.at + n) c.start.ensures) c.is_shown.ensures

pub are_shown-returns-then-first : goal.are_shown-returns-then-first
are_shown-returns-then-first t c =
    let cons : c.args.fields.now ≡ c.in-Some.field.now ∷ c.in-Some.fields.now = search rules in
    shown_fields c.args.fields.now c.in-Some.fields.now c.in-Some.field.now (slice_index c.args.bytes.now) c.args.at (c.args.at + c.in-Some.field.now.gap)
    (c.args.at + c.in-Some.field.now.gap + c.size.result) true c.are_shown.result cons refl (ap (λ n. c.args.at + c.in-Some.field.now.gap + n) c.size.ensures)
    (sym c.if-first.true ∙ c.is_shown-first.ensures) c.are_shown.ensures

pub are_shown-returns-else-first : goal.are_shown-returns-else-first
are_shown-returns-else-first t c =
    let cons : c.args.fields.now ≡ c.in-Some.field.now ∷ c.in-Some.fields.now = search rules in
    let end = c.args.at + c.in-Some.field.now.gap + c.size.result in
    c.if-first.false
    ∙ shown_fields c.args.fields.now c.in-Some.fields.now c.in-Some.field.now (slice_index c.args.bytes.now) c.args.at (c.args.at + c.in-Some.field.now.gap)
    end false (is_shown_in (shapes c.in-Some.fields.now) (seen_from end (slice_index c.args.bytes.now))) cons refl (ap (λ n. c.args.at + c.in-Some.field.now.gap + n) c.size.ensures)
    (sym c.if-first.false ∙ c.is_shown-first.ensures) refl

pub is_shown-is_legal-requires-in-Raw-clause-below : goal.is_shown-is_legal-requires-in-Raw-clause-below
is_shown-is_legal-requires-in-Raw-clause-below t c = raw_below c.args.part.now c.in-Raw.size c.in-Raw.free c.in-Raw.forbidden c.in-Raw.is c.requires.sound

pub each_shown-returns : goal.each_shown-returns
each_shown-returns t c =
    let f = seen_from c.args.at (slice_index c.args.bytes.now) in
    c.spaced_shown.ensures ∙ ap (λ d. at_each c.args.len d (is_shown (shape c.args.item.now)) f) c.size-stride.ensures ∙ sym (each_row c.args.len (shape c.args.item.now) f)

pub spaced_shown-returns-then-size-eq0 : goal.spaced_shown-returns-then-size-eq0
spaced_shown-returns-then-size-eq0 t c =
    c.is_shown.ensures
    ∙ each_byteless c.args.count c.args.stride (shape c.args.part.now) (seen_from c.args.at (slice_index c.args.bytes.now)) c.requires.some c.requires.sound
    (sym c.size.ensures ∙ c.if-size-eq0.true)

pub spaced_shown-overflow_mul-step : goal.spaced_shown-overflow_mul-step
spaced_shown-overflow_mul-step t c =
    let room =
    array_room c.args.part.now c.deref.result.now c.in-Array.item c.in-Array.len c.in-Array.size c.size-step.result c.in-Array.is c.deref.ensures c.size-step.ensures
    c.requires.sound in
    omega (arith, room, c.requires.apart, c.requires.near, c.requires.small)

pub spaced_shown-overflow_mul-count : goal.spaced_shown-overflow_mul-count
spaced_shown-overflow_mul-count t c =
    let row =
    one_row c.args.count c.args.stride c.size-step.result c.args.at (length c.args.bytes.now) c.args.part.now c.deref.result.now c.in-Array.item c.in-Array.len c.in-Array.size
    c.in-Array.is c.deref.ensures c.size-step.ensures c.if-stride-step.true c.requires.sound c.requires.some (omega (arith, c.if-size-eq0.false, c.size.ensures)) c.requires.apart
    c.requires.within in
    omega (arith, row.few, c.requires.within, c.requires.near, c.requires.small)

pub spaced_shown-spaced_shown-requires : goal.spaced_shown-spaced_shown-requires
spaced_shown-spaced_shown-requires t c =
    let again : c.deref.result.now ≡ c.deref-then-stride-step.result.now = c.deref.ensures ∙ sym c.deref-then-stride-step.ensures in
    let step : c.size-step.result ≡ size (shape c.deref-then-stride-step.result.now) = c.size-step.ensures ∙ ap (λ q. size (shape q)) again in
    let row =
    one_row c.args.count c.args.stride c.size-step.result c.args.at (length c.args.bytes.now) c.args.part.now c.deref-then-stride-step.result.now c.in-Array.item c.in-Array.len
    c.in-Array.size c.in-Array.is c.deref-then-stride-step.ensures step c.if-stride-step.true c.requires.sound c.requires.some (omega (arith, c.if-size-eq0.false, c.size.ensures))
    c.requires.apart c.requires.within in
    let fewer = row.fewer in
    let within = row.within in
    let near = row.near in (
      omega (arith, fewer),
      (row.sound, (c.requires.small, (row.some, (omega (arith, step), (omega (arith, near, c.requires.near), omega (arith, within, step)))))),
    )

pub spaced_shown-returns-in-Struct : goal.spaced_shown-returns-in-Struct
spaced_shown-returns-in-Struct t c =
    each_struct c.args.count c.args.stride c.args.part.now c.as_slice.result.now c.in-Struct.fields c.in-Struct.size _ c.spaced_fields_shown.result c.in-Struct.is c.as_slice.ensures
    c.spaced_fields_shown.ensures

pub spaced_shown-returns-then-stride-step : goal.spaced_shown-returns-then-stride-step
spaced_shown-returns-then-stride-step t c =
    let again : c.deref.result.now ≡ c.deref-then-stride-step.result.now = c.deref.ensures ∙ sym c.deref-then-stride-step.ensures in
    each_array c.args.count c.args.stride c.size-step.result c.args.part.now c.deref-then-stride-step.result.now c.in-Array.item c.in-Array.len c.in-Array.size _
    c.spaced_shown.result c.in-Array.is c.deref-then-stride-step.ensures (c.size-step.ensures ∙ ap (λ q. size (shape q)) again) c.if-stride-step.true c.spaced_shown.ensures

pub spaced_fields_shown-returns-then-first : goal.spaced_fields_shown-returns-then-first
spaced_fields_shown-returns-then-first t c =
    let cons : c.args.fields.now ≡ c.in-Some.field.now ∷ c.in-Some.fields.now = search rules in
    each_field c.args.count c.args.stride c.args.fields.now c.in-Some.fields.now c.in-Some.field.now (slice_index c.args.bytes.now) c.args.at
    (c.args.at + c.in-Some.field.now.gap) (c.args.at + c.in-Some.field.now.gap + c.size.result) true c.spaced_fields_shown.result cons refl
    (ap (λ n. c.args.at + c.in-Some.field.now.gap + n) c.size.ensures) (sym c.if-first.true ∙ c.spaced_shown-first.ensures) c.spaced_fields_shown.ensures

pub spaced_fields_shown-returns-else-first : goal.spaced_fields_shown-returns-else-first
spaced_fields_shown-returns-else-first t c =
    let cons : c.args.fields.now ≡ c.in-Some.field.now ∷ c.in-Some.fields.now = search rules in
    let end = c.args.at + c.in-Some.field.now.gap + c.size.result in
    c.if-first.false
    ∙ each_field c.args.count c.args.stride c.args.fields.now c.in-Some.fields.now c.in-Some.field.now (slice_index c.args.bytes.now) c.args.at
    (c.args.at + c.in-Some.field.now.gap) end false _ cons refl (ap (λ n. c.args.at + c.in-Some.field.now.gap + n) c.size.ensures)
    (sym c.if-first.false ∙ c.spaced_shown-first.ensures) refl

pub spaced_fields_shown-returns-in-None : goal.spaced_fields_shown-returns-in-None
spaced_fields_shown-returns-in-None t c =
    each_of_none c.args.count c.args.stride c.args.fields.now (seen_from c.args.at (slice_index c.args.bytes.now)) c.in-None.ensures.cases
