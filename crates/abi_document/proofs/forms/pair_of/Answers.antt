use Rattle.std.proofs.Common.{◌≡◌, ◌∙◌, length, ap, arith}
use Rattle.std.proofs.lemmas.Bool.{ltb-true, ltb-false}
use Rattle.abi_document.proofs.Arrays.{no_pair}
use Rattle.abi_document.proofs.forms.pair_of.Goals as goal
use Rattle.abi_document.proofs.forms.pair_of.Goals.{in_default-via-then-as_slice-lt2, in_default-via-else-as_slice-lt2+else-this-lt3}

pub returns-in_default : goal.returns-in_default
returns-in_default c =
    no_pair _ c.in_ok-as_array.field-0.now.items c.in_ok-as_array.ensures (
    λ two. let both : length c.as_slice.result.now ≡ 2 = ap length c.as_slice.ensures.value ∙ two in
    elim c.in_default.branch [ in_default-via-then-as_slice-lt2 w ↦ omega (arith, both, ltb-true, ltb-false) | in_default-via-else-as_slice-lt2+else-this-lt3 w ↦ omega (arith, both, ltb-true, ltb-false) ]
    )
