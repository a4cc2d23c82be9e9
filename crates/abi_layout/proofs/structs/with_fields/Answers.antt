use Rattle.std.proofs.Common.{◌+◌, ◌≤◌, refl, sym, subst, arith}
use Rattle.abi_det.specs.FrameOf.{frame}
use Rattle.abi_layout.specs.Builders.{IsOpen, start_after}
use Rattle.abi_layout.proofs.Opening.{pair_open}
use Rattle.abi_layout.proofs.Steps.{fold_more, end_more, lawful_more, too_far}
use Rattle.abi_layout.proofs.structs.with_fields.Goals as goal

pub loop-field-init : goal.loop-field-init
loop-field-init c = record { built = c.requires.built; same = refl; ends = refl; lawful = c.requires.lawful }

pub returns-then-end_after-gt-MAX_SIZE : goal.returns-then-end_after-gt-MAX_SIZE
returns-then-end_after-gt-MAX_SIZE c =
    too_far c.loop-field.whole.size _ c.end_after.result c.field-item.result c.args.others.now c.loop-field.field-index c.loop-field-test.true c.field-item.is c.loop-field.invariant.ends
    c.end_after.ensures c.if-end_after-gt-MAX_SIZE.true

pub loop-field-preserved : goal.loop-field-preserved
loop-field-preserved c =
    let rest = lawful_more c.field-item.result c.args.others.now c.loop-field.field-index c.loop-field-test.true c.field-item.is c.loop-field.invariant.lawful in
    let room : start_after c.loop-field.whole.size c.field-item.result + c.field-item.result.size ≤ 1048576 = omega (arith, c.end_after.ensures, c.if-end_after-gt-MAX_SIZE.false) in
    record {
      built = subst IsOpen (sym c.in_ok-whole.ensures.same) (pair_open (frame c.loop-field.whole) c.field-item.result c.loop-field.invariant.built rest.0 room);
      same = fold_more (frame c.loop-field.whole) (frame c.in_ok-whole.whole) c.field-item.result _ c.args.others.now c.loop-field.field-index c.loop-field-test.true c.field-item.is
          c.in_ok-whole.ensures.same c.loop-field.invariant.same;
      ends = end_more (frame c.loop-field.whole) (frame c.in_ok-whole.whole) c.field-item.result c.args.others.now c.loop-field.field-index _ c.loop-field-test.true c.field-item.is
          c.in_ok-whole.ensures.same c.loop-field.invariant.ends;
      lawful = rest.1;
    }
