-- A variant as a search sees it.
use Rattle.std.proofs.Common.{◌≡◌, ◌%◌, true, false, ◌&&◌, List, [], ◌∷◌, Bool, cond, None, eqb, leb, map, refl, sym, ap, ◌∙◌}
use Rattle.std.specs.List.{list_all}
use Rattle.std.proofs.lemmas.Bool.{and_parts, and_from}
use Rattle.abi_num.specs.Alignment.{is_alignment}
use Rattle.abi_bits.specs.Pairs.{Pair, are_below}
use Rattle.abi_bits.specs.Forbidden.{pattern, offered, items_of, head_of, tree_of, is_solid_item}
use Rattle.abi_bits.proofs.Trees.{items_made, head_made}
use Rattle.abi_det.specs.Frame.{Frame, IsLawful, forbids}
use Rattle.abi_det.specs.Roles.{ok_is_larger, larger, smaller}
use Rattle.abi_det.specs.Offers.{first_of}
use Rattle.abi_det.specs.Sides.{bare, tree_of_side}

pub bare_lawful : (f : Frame) → IsLawful f → IsLawful (bare f)
bare_lawful f h =
    and_from (is_alignment f.align && leb f.size 1048576 && eqb (f.size % f.align) 0 && are_below f.size f.free) true
    (and_parts (is_alignment f.align && leb f.size 1048576 && eqb (f.size % f.align) 0 && are_below f.size f.free) (list_all (is_solid_item f.size f.free) (forbids f)) h).0 refl

-- the patterns that stand as items are offered as they are
pub offered_patterns : (pss : List (List Pair)) → offered (map pattern pss) ≡ pss
offered_patterns [] = refl
offered_patterns (ps ∷ pss) = rw (offered_patterns pss) refl

-- a side's frame forbids its patterns, whether one of them leads or not
pub seen_forbids : (pss : List (List Pair)) (headed : Bool) → items_of (tree_of_side pss headed) ≡ map pattern pss
seen_forbids pss true = items_made (map pattern pss)
seen_forbids pss false = items_made (map pattern pss)

head_of_patterns : (pss : List (List Pair)) → head_of (tree_of (map pattern pss)) ≡ first_of pss
head_of_patterns [] = refl
head_of_patterns (ps ∷ pss) = head_made (pattern ps) (map pattern pss)

-- and the first of them leads where it is said to
pub seen_head : (pss : List (List Pair)) (headed : Bool) → head_of (tree_of_side pss headed) ≡ cond headed (first_of pss) None
seen_head pss true = head_of_patterns pss
seen_head pss false = refl

pub offered_seen : (pss : List (List Pair)) (headed : Bool) → pss ≡ offered (items_of (tree_of_side pss headed))
offered_seen pss headed = sym (ap offered (seen_forbids pss headed) ∙ offered_patterns pss)

pub leading_one : (pss : List (List Pair)) (headed : Bool) → headed ≡ true → first_of pss ≡ head_of (tree_of_side pss headed)
leading_one pss true is = sym (head_of_patterns pss)
leading_one pss false is = absurd (cc)

pub leading_two : (pss : List (List Pair)) (headed : Bool) → first_of pss ≡ first_of (offered (items_of (tree_of_side pss headed)))
leading_two pss headed = ap first_of (offered_seen pss headed)

bare_if : (b : Bool) (f g : Frame) → cond b (bare f) (bare g) ≡ bare (cond b f g)
bare_if true f g = refl
bare_if false f g = refl

pub larger_bare : (ok err : Frame) → larger (bare ok) (bare err) ≡ bare (larger ok err)
larger_bare ok err = bare_if (ok_is_larger ok err) ok err

pub smaller_bare : (ok err : Frame) → smaller (bare ok) (bare err) ≡ bare (smaller ok err)
smaller_bare ok err = bare_if (ok_is_larger ok err) err ok
