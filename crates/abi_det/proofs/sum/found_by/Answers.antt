use Rattle.abi_det.proofs.Seen.{found_same}
use Rattle.abi_det.proofs.sum.found_by.Goals as goal

pub returns-clause-same : goal.returns-clause-same
returns-clause-same c =
    found_same c.args.rules c.args.ok.now c.args.err.now c.of-ok.result c.of-err.result c.in_ok-found.found c.of-ok.ensures c.of-err.ensures c.in_ok-found.ensures
