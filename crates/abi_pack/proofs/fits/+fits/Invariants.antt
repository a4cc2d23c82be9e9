use Rattle.std.proofs.Common.{◌≡◌, length, drop}
use Rattle.abi_layout.specs.Shape.{repeated}
use Rattle.abi_pack.specs.Shows.{fits_in}
use Rattle.abi_pack.specs.View.{shape, shapes, plains}
use Rattle.abi_pack.proofs.Nodes.{nodes, nodes_in}
use Rattle.abi_pack.proofs.fits.+fits.Given as goal

abbrev pub decreases-fits : goal.decreases-fits
decreases-fits l = nodes (shape l.part.now)

abbrev pub decreases-fit_all : goal.decreases-fit_all
decreases-fit_all l = nodes_in (shapes l.fields.now)

abbrev pub decreases-fit_each : goal.decreases-fit_each
decreases-fit_each l = nodes_in (repeated l.len (shape l.item.now))

abbrev pub invariant-fit_each-loop-value : goal.invariant-fit_each-loop-value
invariant-fit_each-loop-value l =
    (length l.values ≡ l.len)
    × (fits_in (repeated (length (drop l.value-index l.values)) (shape l.item)) (plains (drop l.value-index l.values)) ≡ fits_in (repeated l.len (shape l.item)) (plains l.values))
