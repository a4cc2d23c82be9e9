use Rattle.abi_det.specs.Offers.{One}
use Rattle.abi_layout.specs.PartView.{shape}
use Rattle.abi_layout.specs.Trees.{tree}
use Rattle.abi_pack.proofs.Planning.{plan_kept}
use Rattle.abi_pack.proofs.plan.Plan.of.Goals as goal

pub invariant_of-result : goal.invariant_of-result
invariant_of-result c =
    let found = c.in_ok-part.ensures in (
      plan_kept One c.args.target.now (tree c.args.desc.now) (shape c.in_ok-part.field-0.part) found.faultless found.part found.named,
      (
        One,
        (
          c.args.target.now,
          (tree c.args.desc.now, record { faultless = found.faultless; part = found.part; layout = found.layout; sums = found.placed }),
        ),
      ),
    )
