-- Equal fields written one after another.
use Rattle.std.proofs.Common.{◌≡◌, ℕ, suc, ◌+◌, ◌-◌, ◌<◌, ◌≤◌, List, [], ◌∷◌, ◌++◌, length, drop, drop-cons, get_or, take, true, refl, ap, ◌∙◌, sym, subst, arith, append_assoc}
use borrow.Rule.Slice.PartMut.{put_mid}
use Rattle.std.proofs.lemmas.Slice.{take-put_mid}
use Rattle.abi_pack.specs.Packed.{zeros, packed, packed_in}
use Rattle.abi_pack.specs.Plain.{Plain, Plains, list}
use Rattle.abi_layout.specs.Shape.{Shape, Shapes, size, size_in, repeated}
use Rattle.abi_pack.specs.Consistent.{IsConsistent, AreConsistent}
use Rattle.abi_pack.specs.Shows.{fits, fits_in}
use Rattle.abi_pack.specs.View.{shape, shapes, plain, plains}
use Rattle.abi_layout.specs.declared.part.PartField.{PartField}
use Rattle.abi_layout.specs.declared.part.Part.{Part}
use Rattle.abi_layout.specs.declared.part.Part.TheVariants as part
use Rattle.abi_pack.specs.declared.value.Value.{Value}
use Rattle.abi_pack.proofs.Canons.{packed_length, packed_in_length}
use Rattle.abi_pack.proofs.Choice.{and_first, and_second}
use Rattle.abi_pack.proofs.Steps.{struct_is}

pub values_at : (vs : List Value) (i : ℕ) (v : Value) → i < length vs → v ≡ get_or vs i v → drop i vs ≡ v ∷ drop (i + 1) vs
values_at vs i v lt is = let s : i + 1 ≡ suc i = omega arith in rw s (drop-cons vs i v lt ∙ ap (λ w. w ∷ drop (suc i) vs) (sym is))

-- what is written of a struct's fields is written of the struct
pub struct_packed : (p : Part) (fs all : List PartField) (n : ℕ) (v : Plain) (vs : Plains) (out new : List ℕ) → p ≡ part.Struct all n → fs ≡ all
    → v ≡ list vs → length out ≡ size (shape p) → new ≡ packed_in (length out) (shapes fs) vs → new ≡ packed (shape p) v
struct_packed p fs all n v vs out new e same value long is =
    let shape_is = struct_is p fs all n e same in
    let room : length out ≡ n = long ∙ ap size shape_is in
    rw (shape_is, value) (is ∙ ap (λ m. packed_in m (shapes fs) vs) room)

-- the values are left to write; `start` bytes of `n` are written, and with the rest they are `all`
abbrev pub IsWriting : Shape → List Value → ℕ → ℕ → List ℕ → List ℕ → Type 0
IsWriting s vs start n out all =
    (start + size_in (repeated (length vs) s) ≤ n)
    × (fits_in (repeated (length vs) s) (plains vs) ≡ true)
    × (take start out ++ packed_in (n - start) (repeated (length vs) s) (plains vs) ≡ all)

pub writing_one : (s : Shape) (v : Value) (vs rest : List Value) (start n : ℕ) (out all : List ℕ) → vs ≡ v ∷ rest → IsWriting s vs start n out all
    → (fits s (plain v) ≡ true) × (start + size s ≤ n)
writing_one s v vs rest start n out all cons w = let is = rw cons at w in (and_first (fits s (plain v)) _ is.1, omega (arith, is.0))

pub writing_next : (s : Shape) (v : Value) (vs rest : List Value) (start one n k : ℕ) (out bytes all : List ℕ) → vs ≡ v ∷ rest → IsConsistent s → IsWriting s vs start n out all
    → length out ≡ n → one ≡ size s → bytes ≡ packed s (plain v) → IsWriting s rest (start + one) n (put_mid start k out bytes) all
writing_next s v vs rest start one n k out bytes all cons sound w long es eb =
    let is = rw cons at w in
    let filled : length bytes ≡ size s = ap length eb ∙ packed_length s (plain v) sound (and_first (fits s (plain v)) _ is.1) in
    let left : n - start - (0 + size s) ≡ n - (start + one) = omega arith in
    let more_ : List ℕ = packed_in (n - (start + one)) (repeated (length rest) s) (plains rest) in (
      omega (arith, is.0),
      and_second (fits s (plain v)) _ is.1,
      rw (take-put_mid start k out bytes (start + one) (omega arith) (omega (arith, is.0)), append_assoc (take start out) bytes more_, eb)
          (subst (λ m. take start out ++ (packed s (plain v) ++ packed_in m (repeated (length rest) s) (plains rest)) ≡ all) left is.2),
    )

-- after the last value
pub writing_end : (s : Shape) (vs : List Value) (start n : ℕ) (out all : List ℕ) → vs ≡ [] → IsWriting s vs start n out all → take start out ++ zeros (n - start) ≡ all
writing_end s vs start n out all none w = (rw none at w).2

-- fields without bytes
pub nothing_written : (fs : Shapes) (vs : Plains) (out : List ℕ) → AreConsistent fs → fits_in fs vs ≡ true → size_in fs ≤ length out → length out ≡ 0
    → out ≡ packed_in (length out) fs vs
nothing_written fs vs out sound fit room none =
    both_empty out (packed_in (length out) fs vs) none (packed_in_length (length out) fs vs sound room fit ∙ none)
  where
    both_empty : (xs ys : List ℕ) → length xs ≡ 0 → length ys ≡ 0 → xs ≡ ys
    both_empty [] [] e f = refl
    both_empty (x ∷ xs) ys e f = absurd (omega arith)
    both_empty xs (y ∷ ys) e f = absurd (omega arith)
