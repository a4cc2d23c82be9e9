use Rattle.std.proofs.Common.{◌≡◌, drop, map}
use Rattle.std.specs.List.{list_all}
use Rattle.abi_bits.specs.Forbidden.{is_solid_item}
use Rattle.abi_layout.specs.Trees.{item_of}
use Rattle.abi_layout.proofs.leaves.are_solid.Given as goal

abbrev pub invariant-loop-item : goal.invariant-loop-item
invariant-loop-item l =
    list_all (is_solid_item l.size l.free) (map item_of l.forbidden)
    ≡ list_all (is_solid_item l.size l.free) (map item_of (drop l.item-index l.forbidden))
