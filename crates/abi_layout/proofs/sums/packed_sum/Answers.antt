use Rattle.abi_layout.proofs.Steps.{sum_large}
use Rattle.abi_layout.proofs.sums.packed_sum.Goals as goal

pub returns-then-sum_size-gt-MAX_SIZE-clause-err : goal.returns-then-sum_size-gt-MAX_SIZE-clause-err
returns-then-sum_size-gt-MAX_SIZE-clause-err c =
    λ ne. sum_large c.args.rules c.args.part c.args.ok.now c.args.err.now c.in_ok-placement.placement c.sum_size.result c.in_ok-placement.ensures.written c.sum_size.ensures
    c.if-sum_size-gt-MAX_SIZE.true
