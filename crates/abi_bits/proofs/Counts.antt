-- Niche counts add up in any order and grouping.
use Rattle.std.proofs.Common.{◌≡◌, refl, sym, ap, ◌∙◌}
use Rattle.abi_bits.specs.Count.{added}
use Rattle.abi_bits.specs.declared.saturating_add_value.SaturatingAddValue.{SaturatingAddValue}
use Rattle.abi_bits.specs.declared.saturating_add_value.SaturatingAddValue.TheVariants.{B0, B1, Saturator}

none_left : (a : SaturatingAddValue) → added B0 a ≡ a
none_left B0 = refl
none_left B1 = refl
none_left Saturator = refl

many_left : (a : SaturatingAddValue) → added Saturator a ≡ Saturator
many_left B0 = refl
many_left B1 = refl
many_left Saturator = refl

two_more : (a : SaturatingAddValue) → added B1 (added B1 a) ≡ Saturator
two_more B0 = refl
two_more B1 = refl
two_more Saturator = refl

pub associative : (a b c : SaturatingAddValue) → added (added a b) c ≡ added a (added b c)
associative B0 b c = ap (λ x. added x c) (none_left b) ∙ sym (none_left (added b c))
associative B1 B0 c = ap (λ x. added B1 x) (sym (none_left c))
associative B1 B1 c = many_left c ∙ sym (two_more c)
associative B1 Saturator c = many_left c ∙ ap (λ x. added B1 x) (sym (many_left c))
associative Saturator b c = ap (λ x. added x c) (many_left b) ∙ many_left c ∙ sym (many_left (added b c))
