-- A frame that is made of its parts.
use Rattle.std.proofs.Common.{◌≡◌, ℕ, ◌%◌, ◌≤◌, true, [], Bool, eqb, refl, sym, subst, arith}
use Rattle.std.proofs.lemmas.Bool.{and_parts, and_from, eq-eqb, le-leb}
use Rattle.std.proofs.Math.Nat.{mod_self}
use Rattle.abi_num.specs.Alignment.{is_alignment, IsAlignment}
use Rattle.abi_bits.specs.declared.saturating_add_value.SaturatingAddValue.{SaturatingAddValue}
use Rattle.abi_bits.specs.Forbidden.{tree_of}
use Rattle.abi_det.specs.Frame.{Frame, IsLawful}
use Rattle.abi_layout.specs.Builders.{bare}
use Rattle.abi_layout.specs.Leaves.{is_sized}
use Rattle.abi_layout.specs.Prims.{scalar_size, scalar_items, row_frame}
use Rattle.abi_layout.specs.declared.primitives.Row.{Row}
use Rattle.abi_det.proofs.Sizes.{alignment_parts}
use Rattle.abi_layout.proofs.Folding.{same_frame}

-- a lawful frame in all its parts
pub lawful_made : (made f : Frame) → made ≡ f → IsLawful f → IsLawful made
lawful_made made f same lawful = subst IsLawful (sym same) lawful

pub row_made : (r : Row) (made : Frame) → made.size ≡ scalar_size r.scalar → made.align ≡ r.align → made.free ≡ [] → made.forbidden ≡ tree_of (scalar_items r.scalar)
    → made.niches ≡ r.niches → made.indirections ≡ r.indirections → made ≡ row_frame r
unfolding row_frame
row_made r made a b c d e f = same_frame made (row_frame r) a b c d e f

-- bytes of which nothing is known but their number
pub bare_lawful : (size align : ℕ) (niches : SaturatingAddValue) (indirections : Bool) → is_sized size align ≡ true → size ≤ 1048576
    → IsLawful (bare size align niches indirections)
bare_lawful size align niches indirections sized small =
    let s = and_parts (is_alignment align) (eqb (size % align) 0) sized in
    let le = le-leb size 1048576 small in
    rw (s.0, s.1, le) refl

pub uint_lawful : (n : ℕ) (niches : SaturatingAddValue) (indirections : Bool) → IsAlignment n → IsLawful (bare n n niches indirections)
uint_lawful n niches indirections a =
    let whole : eqb (n % n) 0 ≡ true = eq-eqb (n % n) 0 (mod_self n) in
    let small : n ≤ 1048576 = omega (arith, (alignment_parts n a).0) in
    bare_lawful n n niches indirections (and_from (is_alignment n) (eqb (n % n) 0) a whole) small
