use Rattle.abi_det.proofs.Placing.{niche_found, tag_found}
use Rattle.abi_det.proofs.counted.find.Goals as goal

pub returns-in-Some : goal.returns-in-Some
returns-in-Some c =
    niche_found c.args.rules c.args.ok c.args.err
    c.new-roles.result.large c.new-roles.result.small c.new-roles.result.size c.new-roles.result.ok_is_larger c.means_ok.result
    c.in_ok-place.field-0 c.new.result c.in-Some.place c.in-Some.offer
    c.new-roles.ensures.large c.new-roles.ensures.small c.new-roles.ensures.size c.new-roles.ensures.ok c.in_ok-place.ensures c.in-Some.is c.means_ok.ensures c.new.ensures

pub returns-in_ok-refusals-in-None : goal.returns-in_ok-refusals-in-None
returns-in_ok-refusals-in-None c =
    tag_found c.args.rules c.args.ok c.args.err
    c.new-roles.result.large c.new-roles.result.small c.new-roles.result.size c.new-roles.result.ok_is_larger c.means_ok-in-None.result
    c.in_ok-place.field-0 c.in_ok-refusals-in-None.refusals
    c.new-roles.ensures.large c.new-roles.ensures.small c.new-roles.ensures.size c.new-roles.ensures.ok c.in_ok-place.ensures c.in-None.is c.means_ok-in-None.ensures c.in_ok-refusals-in-None.ensures
