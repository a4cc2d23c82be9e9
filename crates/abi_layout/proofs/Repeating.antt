-- Arrays: their size and their fault; and the names in arrays and sums.
use Rattle.std.proofs.Common.{◌≡◌, ℕ, zero, suc, ◌*◌, ◌<◌, ◌≤◌, Bool, true, false, Some, refl, inl, inr, arith}
use Rattle.std.proofs.lemmas.Bool.{eq-eqb, ne_eqb, cases_eq, le-ltb, lt-ltb}
use Rattle.abi_det.specs.Frame.{Frame}
use Rattle.abi_layout.specs.Builders.{repeated}
use Rattle.abi_layout.specs.Faults.{array_fault}
use Rattle.abi_layout.specs.Plans.{is_second, IsNamed, AreNamed}
use Rattle.abi_layout.specs.Shape.{Shape, fields, sum, repeated as repeated_shape}
use Rattle.abi_layout.specs.declared.desc_error.DescError.TheVariants as fault
use Rattle.abi_layout.specs.Trees.{sides}
use Rattle.abi_layout.specs.declared.part.Compound.TheVariants as compound
use Rattle.abi_layout.specs.declared.part.Sort.{Sort}
use Rattle.abi_layout.specs.declared.part.SumLayout.{SumLayout}

-- in bytes
pub repeated_size : (item : Frame) (len : ℕ) → (repeated item len).size ≡ item.size * len
unfolding repeated
repeated_size item len = elim (cases_eq len 1) [
  | inl one ↦ let e = eq-eqb len 1 one in rw (e, one) (omega arith)
  | inr many ↦ let e = ne_eqb len 1 many in rw e refl
]

pub array_large : (part : ℕ) (item : Frame) (len : ℕ) → len ≤ 128 → 1048576 < item.size * len → array_fault part item len ≡ Some (fault.TooLarge part)
array_large part item len few large =
    let a = le-ltb 128 len few in
    let b = lt-ltb 1048576 (item.size * len) large in
    rw (a, repeated_size item len, b) refl

repeated_named : (len : ℕ) (s : Shape) → IsNamed s → AreNamed (repeated_shape len s)
repeated_named zero s named = tt
repeated_named (suc n) s named = (named, repeated_named n s named)

pub array_named : (whole item : Shape) (size len : ℕ) → whole ≡ fields compound.Array size (repeated_shape len item) → IsNamed item → IsNamed whole
array_named whole item size len e named = rw e (repeated_named len item named)

pub sum_named : (whole ok err : Shape) (names : Sort) (at : SumLayout) → whole ≡ sum names (sides ok err) at → IsNamed ok → IsNamed err
    → is_second names err ≡ true → IsNamed whole
sum_named whole ok err names at e of_ok of_err second = rw e (λ first. by_side first, second)
  where
    by_side : (first : Bool) → IsNamed (sides ok err first)
    by_side true = of_ok
    by_side false = of_err
