use Rattle.std.proofs.Common.{◌<◌, get_or, arith, lit<}
use Rattle.abi_pack.proofs.Written.{worth_step, worth_fits}
use Rattle.abi_pack.proofs.integer.number_in.Goals as goal

pub overflow_mul-number : goal.overflow_mul-number
overflow_mul-number c =
    let small : c.loop-rank.rank < 16 = omega arith in
    omega (arith, (worth_fits c.loop-rank.rank c.loop-rank.number 0 small c.loop-rank.invariant.1 (lit< tt)).0)

pub overflow_add-number : goal.overflow_add-number
overflow_add-number c =
    let small : c.loop-rank.rank < 16 = omega arith in
    let byte : get_or c.args.bytes.now c.place.result 0 < 256 = omega (arith, c.type_inv.bytes c.place.result) in
    omega (arith, (worth_fits c.loop-rank.rank c.loop-rank.number (get_or c.args.bytes.now c.place.result 0) small c.loop-rank.invariant.1 byte).1)

pub loop-rank-preserved : goal.loop-rank-preserved
loop-rank-preserved c =
    let small : c.loop-rank.rank < 16 = omega arith in
    let byte : get_or c.args.bytes.now c.place.result 0 < 256 = omega (arith, c.type_inv.bytes c.place.result) in (
      worth_step c.args.little c.args.bytes.now c.loop-rank.rank c.loop-rank.number c.place.result c.loop-rank-test.true c.place.ensures c.loop-rank.invariant.0,
      (worth_fits c.loop-rank.rank c.loop-rank.number (get_or c.args.bytes.now c.place.result 0) small c.loop-rank.invariant.1 byte).2,
    )
