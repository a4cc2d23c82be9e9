-- The head of forbidden values is what their first item offers, and what a frame keeps.
use Rattle.std.specs.List.{list_all}
use Rattle.std.proofs.Common.{◌≡◌, true, List, [], ◌∷◌, ◌++◌, Some, ap, ◌∙◌}
use Rattle.std.proofs.lemmas.List.{map-append}
use Rattle.abi_bits.specs.Pairs.{Pair, is_pattern, are_bytes}
use Rattle.abi_bits.specs.Mask.{IsMask}
use Rattle.abi_bits.specs.Forbidden.{nothing, alone, or, items, items_of, tree, offer, offered}
use Rattle.abi_bits.specs.declared.forbidden_values.ForbiddenValues.{ForbiddenValues}
use Rattle.abi_det.specs.Frame.{Frame, IsLawful}
use Rattle.abi_det.specs.Offers.{first_of}
use Rattle.abi_det.specs.SoundPlacement.{IsWellFormed}
use Rattle.abi_det.specs.Laws.{HeadLaw}

first_and : (xs ys : List (List Pair)) (ps : List Pair) → first_of xs ≡ Some ps → first_of (xs ++ ys) ≡ Some ps
first_and [] ys ps is = absurd (cc)
first_and (x ∷ xs) ys ps is = is

pub head_leads : HeadLaw
head_leads nothing ps is = absurd (cc)
head_leads (alone it) ps is = is
head_leads (or left right) ps is =
    ap first_of (map-append offer (items_of left) (items_of right)) ∙ first_and (offered (items_of left)) (offered (items_of right)) ps (head_leads left ps is)

-- a lawful frame with the forbidden values is well-formed
pub frame_sound : (f : Frame) (v : ForbiddenValues) (pss : List (List Pair)) → IsLawful f → IsMask f.free → tree v ≡ f.forbidden → pss ≡ offered (items v)
    → list_all is_pattern pss ≡ true → list_all are_bytes pss ≡ true → IsWellFormed f
frame_sound f v pss lawful mask same is patterns bytes = record {
  lawful = lawful;
  mask = mask;
  patterns = rw (← same, ← is) patterns;
  bytes = rw (← same, ← is) bytes;
}
