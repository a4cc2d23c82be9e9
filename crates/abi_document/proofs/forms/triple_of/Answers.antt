use Rattle.std.proofs.Common.{◌≡◌, ◌∙◌, length, ap, arith}
use Rattle.std.proofs.lemmas.Bool.{ltb-true, ltb-false}
use Rattle.abi_document.proofs.Arrays.{no_triple}
use Rattle.abi_document.proofs.forms.triple_of.Goals as goal
use Rattle.abi_document.proofs.forms.triple_of.Goals.{in_default-via-then-as_slice-lt3, in_default-via-else-as_slice-lt3+else-this-lt4}

pub returns-in_default : goal.returns-in_default
returns-in_default c =
    no_triple _ c.in_ok-as_array.field-0.now.items c.in_ok-as_array.ensures (
    λ three. let all : length c.as_slice.result.now ≡ 3 = ap length c.as_slice.ensures.value ∙ three in
    elim c.in_default.branch [ in_default-via-then-as_slice-lt3 w ↦ omega (arith, all, ltb-true, ltb-false) | in_default-via-else-as_slice-lt3+else-this-lt4 w ↦ omega (arith, all, ltb-true, ltb-false) ]
    )
