use Rattle.std.proofs.Common.{◌≡◌}
use Rattle.abi_layout.specs.Builders.{start_after}
use Rattle.abi_layout.proofs.Making.{forbids_move, after_made}
use Rattle.abi_layout.proofs.builders.aligned_after.Goals as goal

pub shift-requires : goal.shift-requires
shift-requires c =
    let start : c.next_multiple_of-from.result ≡ start_after c.args.start c.args.t.now = cc in
    forbids_move c.args.t.now c.next_multiple_of-from.result _ c.align.ensures.lawful c.forbidden.ensures.same (rw start c.requires)

pub returns : goal.returns
returns c =
    let start : c.next_multiple_of-from.result ≡ start_after c.args.start c.args.t.now = cc in
    after_made c.args.t.now _ c.args.start c.next_multiple_of-from.result c.new.result c.new.ensures start (cc) (cc) c.in_ok-unused.ensures
    (rw c.forbidden.ensures.same at c.in_ok-forbidden.ensures) c.niches.ensures c.indirections.ensures
