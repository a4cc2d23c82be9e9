use Rattle.std.proofs.Common.{◌≡◌, drop, map, true}
use Rattle.std.specs.List.{list_all}
use Rattle.abi_bits.specs.Pairs.{is_pattern}
use Rattle.abi_bits.specs.Forbidden.{tree, joined_from, offered}
use Rattle.abi_layout.specs.Trees.{item_of}
use Rattle.abi_layout.proofs.leaves.with_items.Given as goal

abbrev pub invariant-loop-item : goal.invariant-loop-item
invariant-loop-item l = record {
  patterns : list_all is_pattern (offered (map item_of (drop l.item-index l.others))) ≡ true;
  together : joined_from (tree l.values) (map item_of (drop l.item-index l.others)) ≡ joined_from (tree l.initial.values) (map item_of l.others);
}
