use Rattle.std.proofs.Common.{sym, ◌∙◌}
use Rattle.abi_det.proofs.Placing.{niche_placed, tag_placed}
use Rattle.abi_det.proofs.SoundPlacements.{placement_sound}
use Rattle.abi_det.proofs.sum.placement_by.Goals as goal

pub niched-requires : goal.niched-requires
niched-requires c =
    let found = c.in_ok-found.ensures in
    (niche_placed c.args.rules c.args.ok.now c.args.err.now c.in_ok-found.found found.well_formed.0.mask found.well_formed.1.mask found.same
    (sym c.is_niche_trick.ensures ∙ c.if-is_niche_trick.true)).0

pub tagged-requires : goal.tagged-requires
tagged-requires c =
    let found = c.in_ok-found.ensures in
    (tag_placed c.args.rules c.args.ok.now c.args.err.now c.in_ok-found.found found.well_formed.0.mask found.well_formed.1.mask found.same
    (sym c.is_niche_trick.ensures ∙ c.if-is_niche_trick.false)).0

pub returns-in_ok-placement-clause-written : goal.returns-in_ok-placement-clause-written
returns-in_ok-placement-clause-written c =
    let found = c.in_ok-found.ensures in
    c.in_ok-placement.ensures.same
    ∙ (niche_placed c.args.rules c.args.ok.now c.args.err.now c.in_ok-found.found found.well_formed.0.mask found.well_formed.1.mask found.same
    (sym c.is_niche_trick.ensures ∙ c.if-is_niche_trick.true)).1

pub returns-in_ok-placement-clause-placed : goal.returns-in_ok-placement-clause-placed
returns-in_ok-placement-clause-placed c = (c.args.rules, returns-in_ok-placement-clause-written c)

pub returns-in_ok-placement-clause-sound : goal.returns-in_ok-placement-clause-sound
returns-in_ok-placement-clause-sound c =
    let sound = c.in_ok-found.ensures.well_formed in
    placement_sound c.args.rules c.args.ok.now c.args.err.now _ sound.0 sound.1 (returns-in_ok-placement-clause-written c)

pub returns-in_ok-placement-2-clause-written : goal.returns-in_ok-placement-2-clause-written
returns-in_ok-placement-2-clause-written c =
    let found = c.in_ok-found.ensures in
    c.in_ok-placement-2.ensures.same
    ∙ (tag_placed c.args.rules c.args.ok.now c.args.err.now c.in_ok-found.found found.well_formed.0.mask found.well_formed.1.mask found.same
    (sym c.is_niche_trick.ensures ∙ c.if-is_niche_trick.false)).1

pub returns-in_ok-placement-2-clause-placed : goal.returns-in_ok-placement-2-clause-placed
returns-in_ok-placement-2-clause-placed c = (c.args.rules, returns-in_ok-placement-2-clause-written c)

pub returns-in_ok-placement-2-clause-sound : goal.returns-in_ok-placement-2-clause-sound
returns-in_ok-placement-2-clause-sound c =
    let sound = c.in_ok-found.ensures.well_formed in
    placement_sound c.args.rules c.args.ok.now c.args.err.now _ sound.0 sound.1 (returns-in_ok-placement-2-clause-written c)
