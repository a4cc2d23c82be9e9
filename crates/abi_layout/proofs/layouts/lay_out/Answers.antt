use Rattle.std.proofs.Common.{rules}
use Rattle.abi_layout.specs.Trees.{tree}
use Rattle.abi_layout.proofs.Steps.{then_parts}
use Rattle.abi_layout.proofs.layouts.lay_out.Goals as goal

pub returns-in_err-found-clause-err : goal.returns-in_err-found-clause-err
returns-in_err-found-clause-err c =
    let same = then_parts c.args.rules c.args.target.now (tree c.args.desc.now) c.in_ok-check.ensures.ok.0 c.in_ok-check.ensures.ok.1 in
    rw same (search rules)
