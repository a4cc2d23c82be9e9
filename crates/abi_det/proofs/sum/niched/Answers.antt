use Rattle.abi_det.proofs.Placing.{niched_made}
use Rattle.abi_det.proofs.sum.niched.Goals as goal

pub returns-clause-same : goal.returns-clause-same
returns-clause-same c =
    let roles = c.bare-roles.ensures in
    niched_made c.args.ok.now c.args.err.now c.args.found c.shift_unless.result c.shift_unless-2.result c.in_ok-exported.exported c.requires.same
    (rw (roles.ok, c.shift-shift.ensures.same, roles.small) at c.shift_unless.ensures)
    (rw (roles.ok, c.shift-shift.ensures.same, roles.small) at c.shift_unless-2.ensures)
    (rw (c.shift-shift.ensures.same, roles.large, roles.small, roles.size) at c.in_ok-exported.ensures)
