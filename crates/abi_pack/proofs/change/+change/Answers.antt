use Rattle.std.proofs.Common.{◌≡◌, ◌<◌, ◌∷◌, ap, length, rules, arith}
use Rattle.abi_pack.specs.View.{shape, plain}
use Rattle.abi_pack.proofs.Inners.{named_inner, range_inside, reaches_next}
use Rattle.abi_pack.proofs.change.+change.Goals as goal

pub split_at_mut-rest-requires : goal.split_at_mut-rest-requires
split_at_mut-rest-requires t c =
    let of = named_inner (shape c.args.part.now) c.in-Some.step.now _ c.requires.sound c.in-Some-named.ensures in
    omega (arith, of.high, c.requires.room)

pub split_at_mut-here-requires : goal.split_at_mut-here-requires
split_at_mut-here-requires t c =
    let of = named_inner (shape c.args.part.now) c.in-Some.step.now _ c.requires.sound c.in-Some-named.ensures in
    omega (arith, of.high, c.requires.room, c.split_at_mut-rest.ensures.back_len, c.size-in-Some-named.ensures)

pub change-replaced-requires : goal.change-replaced-requires
change-replaced-requires t c =
    let cons : c.args.path.now ≡ c.in-Some.step.now ∷ c.in-Some.path.now = search rules in
    let fewer : length c.in-Some.path.now < length c.args.path.now = rw cons (omega arith) in
    let of = named_inner (shape c.args.part.now) c.in-Some.step.now _ c.requires.sound c.in-Some-named.ensures in
    let there = reaches_next (shape c.args.part.now) c.in-Some.step.now c.in-Some.path.now (plain c.args.value.now) _ c.in-Some-named.ensures (rw cons at c.requires.reaches) in (
      omega (arith, c.decreases, fewer),
      (of.sound, (omega (arith, of.high, c.requires.small), (there, omega (arith, c.split_at_mut-here.ensures.front_len, c.size-in-Some-named.ensures)))),
    )

pub overflow_add-replaced : goal.overflow_add-replaced
overflow_add-replaced t c =
    let of = named_inner (shape c.args.part.now) c.in-Some.step.now _ c.requires.sound c.in-Some-named.ensures in
    let in_ = range_inside c.in-Some.path.now (shape c.in-Some-named.inner.part.now) of.sound in
    let start = ap (λ r. r.start) c.change-replaced.ensures.range in
    omega (arith, of.high, c.requires.small, in_, start)

pub restore_variant-requires-clause-small : goal.restore_variant-requires-clause-small
restore_variant-requires-clause-small t c =
    let of = named_inner (shape c.args.part.now) c.in-Some.step.now _ c.requires.sound c.in-Some-named.ensures in
    let in_ = range_inside c.in-Some.path.now (shape c.in-Some-named.inner.part.now) of.sound in
    let start = ap (λ r. r.start) c.change-replaced.ensures.range in
    let size = ap (λ r. r.size) c.change-replaced.ensures.range in
    omega (arith, of.high, c.requires.small, in_, start, size)
