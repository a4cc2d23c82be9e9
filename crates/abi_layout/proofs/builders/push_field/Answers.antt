use Rattle.std.proofs.Common.{◌≡◌, ◌+◌, ◌∙◌, refl, ap}
use Rattle.abi_bits.specs.Forbidden.{or, tree}
use Rattle.abi_det.specs.FrameOf.{frame}
use Rattle.abi_layout.specs.Builders.{start_after}
use Rattle.abi_layout.proofs.Making.{forbids_move, pair_made}
use Rattle.abi_layout.proofs.builders.push_field.Goals as goal

pub shift-requires : goal.shift-requires
shift-requires c =
    let start : c.next_multiple_of-start.result ≡ start_after c.args.before.size c.args.field.now = cc in
    forbids_move c.args.field.now c.next_multiple_of-start.result _ c.align.ensures.lawful c.forbidden.ensures.same (rw start c.requires.room)

pub returns-clause-same : goal.returns-clause-same
returns-clause-same c =
    let start : c.next_multiple_of-start.result ≡ start_after c.args.before.size c.args.field.now = cc in
    pair_made (frame c.args.before) c.args.field.now _ c.next_multiple_of-start.result (c.next_multiple_of-start.result + c.size.result) c.saturating_add-together.result
    start (cc) refl (cc) c.in_ok-unused.ensures
    (c.in_ok-forbidden.ensures ∙ ap (or (tree c.args.before.forbidden)) (rw c.forbidden.ensures.same at c.in_ok-moved.ensures)) (cc)
    (rw c.size-2.ensures.same at c.counted.ensures) (cc)
