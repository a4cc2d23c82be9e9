use Rattle.std.proofs.Common.{arith}
use Rattle.abi_layout.specs.Faults.{sum_fault}
use Rattle.abi_layout.proofs.Walking.{starts_inside, memory_fault}
use Rattle.abi_layout.proofs.Repeating.{sum_named}
use Rattle.abi_layout.proofs.packed_sums.lay_out_sum.Goals as goal

pub taken_apart-requires-clause-ok : goal.taken_apart-requires-clause-ok
taken_apart-requires-clause-ok c =
    let inside = starts_inside c.args.rules c.args.ok.layout c.args.err.layout c.in_ok-placement.placement c.in_ok-placement.layout c.in_ok-placement.ensures.sound
    c.in_ok-placement.ensures.placement c.in_ok-placement.ensures.layout c.size.ensures.lawful in omega (arith, inside.0)

pub taken_apart-requires-clause-err : goal.taken_apart-requires-clause-err
taken_apart-requires-clause-err c =
    let inside = starts_inside c.args.rules c.args.ok.layout c.args.err.layout c.in_ok-placement.placement c.in_ok-placement.layout c.in_ok-placement.ensures.sound
    c.in_ok-placement.ensures.placement c.in_ok-placement.ensures.layout c.size.ensures.lawful in omega (arith, inside.1)

pub returns-in_err-insert-clause-err : goal.returns-in_err-insert-clause-err
returns-in_err-insert-clause-err c =
    memory_fault c.from_residual-in_err-insert.result (sum_fault c.args.rules c.args.err.next c.args.ok.layout c.args.err.layout) c.from_residual-in_err-insert.ensures.1

pub returns-clause-named : goal.returns-clause-named
returns-clause-named c = sum_named _ _ _ c.args.names _ c.in_ok-part.ensures c.requires.ok c.requires.err c.requires.second
