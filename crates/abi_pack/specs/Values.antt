-- Which values a description has, which value bytes show, which bits a value holds, and its canonical bytes, under the rules
-- on a target.
use Rattle.std.specs.Prelude.{◌≡◌, ℕ, zero, suc, ◌+◌, ◌-◌, ◌*◌, ◌%◌, ◌^◌, ◌<◌, List, [], ◌∷◌, length, Bool, true, false, ◌&&◌, ◌||◌, not, ◌==◌, nat_lt, if◌then◌else◌}
use Rattle.std.specs.Int.{bit_at}
use Rattle.std.specs.List.{list_any}
use Rattle.std.specs.declared.cmp.Ordering.{Ordering}
use Rattle.std.specs.declared.cmp.Ordering.TheVariants as ordering
use Rattle.abi_num.specs.Target.{same_bool}
use Rattle.abi_num.specs.declared.target.Target.{Target}
use Rattle.abi_bits.specs.Pairs.{is_matched}
use Rattle.abi_det.specs.Offers.{Rules}
use Rattle.abi_det.specs.State.{is_state_ok}
use Rattle.abi_det.specs.Written.{written_placement}
use Rattle.abi_det.specs.declared.placements.Placement.{Placement}
use Rattle.abi_layout.specs.CoreSums.{payload_first, absence}
use Rattle.abi_layout.specs.Frames.{written_frame, written_frames}
use Rattle.abi_layout.specs.Prims.{width_size, in_width, scalar_of, pointer_row}
use Rattle.abi_layout.specs.Structs.{Positioned, positions}
use Rattle.abi_layout.specs.Trees.{Tree, Branches, prim, struct, array, union, sum, core, wrap, stable_if, pointer, no_niches, leaf, none, field, leaf_items}
use Rattle.abi_layout.specs.declared.scalar.Integer.{Integer}
use Rattle.abi_layout.specs.declared.scalar.Scalar.{Scalar}
use Rattle.abi_layout.specs.declared.scalar.Scalar.TheVariants as scalars
use Rattle.abi_layout.specs.declared.scalar.Stored.{Stored}
use Rattle.abi_layout.specs.declared.scalar.Stored.TheVariants as stored
use Rattle.abi_layout.specs.declared.scalar.Width.{Width}
use Rattle.abi_pack.specs.ByteMap.{ByteMap, AreBytes, bytes_of, seen_from, firsts, has}
use Rattle.abi_pack.specs.Plain.{Plain, Plains, unit, integer, boolean, order, bytes, list, variant, end, more}
use Rattle.abi_pack.specs.Raw.{are_bytes_of, are_raw, match_none, cleared}
use Rattle.abi_pack.specs.Variants.{same_sort, held_at, holds_test}

-- ---- primitives and pointers

-- a number in binary digits: one below 0 as far below the end of the width
abbrev pub digits : Width → ℕ → Bool → ℕ
digits w magnitude negative = if negative then 256 ^ width_size w - magnitude else magnitude

-- the one integer of a width that a restricted kind leaves out: 0, all digits 1 (the greatest without sign), or the stated one
abbrev pub left_out : Stored → Width → Bool → ℕ → Bool → Bool
left_out stored.Itself w has_zero magnitude negative = not has_zero && magnitude == 0
left_out stored.Complement w has_zero magnitude negative =
    digits w magnitude negative + 1 == 256 ^ width_size w
left_out (stored.Distance m n) w has_zero magnitude negative =
    magnitude == m && same_bool negative n

-- the integer of this distance from 0, below it where `negative`, is one of the kind's
abbrev pub in_range : Integer → ℕ → Bool → Bool
in_range g magnitude negative =
    in_width g.width g.signed magnitude negative
    && not (left_out g.stored g.width g.zero magnitude negative)

abbrev pub is_of : Scalar → Plain → Bool
is_of scalars.Unit unit = true
is_of scalars.Bool (boolean b) = true
is_of scalars.Order (order o) = true
is_of (scalars.Int g) (integer magnitude negative) = in_range g magnitude negative
is_of _ _ = false

-- what byte i of n counts for
abbrev pub weight : Bool → ℕ → ℕ → ℕ
weight little n i = 256 ^ (if little then i else n - (i + 1))

-- what the first m of n bytes count for together
abbrev pub counted : Bool → ℕ → ℕ → ByteMap → ℕ
counted little n zero f = 0
counted little n (suc m) f = counted little n m f + f m * weight little n m

-- the number in n bytes, the least significant first where `little`
abbrev pub number : Bool → ℕ → ByteMap → ℕ
number little n f = counted little n n f

-- the number x stands for these digits: it is they, or their complement, or their distance above another integer's
abbrev pub StandsFor : Stored → Width → ℕ → ℕ → Type 0
StandsFor stored.Itself w x ds = x ≡ ds
StandsFor stored.Complement w x ds = x + ds + 1 ≡ 256 ^ width_size w
StandsFor (stored.Distance m n) w x ds = (x + digits w m n) % 256 ^ width_size w ≡ ds

-- less, equal and greater
abbrev pub order_number : Ordering → ℕ
order_number ordering.Less = 255
order_number ordering.Equal = 0
order_number ordering.Greater = 1

-- the bytes are those of the value
abbrev pub ShowsPrim : Scalar → Plain → ByteMap → Type 0
ShowsPrim scalars.Unit unit f = Unit {0}
ShowsPrim scalars.Bool (boolean b) f = f 0 ≡ (if b then 1 else 0)
ShowsPrim scalars.Order (order o) f = f 0 ≡ order_number o
ShowsPrim (scalars.Int g) (integer magnitude negative) f =
    (in_range g magnitude negative ≡ true)
    × StandsFor g.stored g.width (number g.little (width_size g.width) f)
    (digits g.width magnitude negative)
ShowsPrim _ _ f = ⊥

-- ---- arrays

-- one value for each of n items
abbrev pub fit_items : (Plain → Bool) → ℕ → Plains → Bool
fit_items fit zero end = true
fit_items fit (suc n) (more v vs) = fit v && fit_items fit n vs
fit_items fit _ _ = false

-- n items of `size` bytes, of which the first has number i: each stands at its number times the size
abbrev pub ShowItems : (Plain → ByteMap → Type 0) → ℕ → ℕ → ℕ → Plains → ByteMap → Type 0
ShowItems Show size i zero end f = Unit {0}
ShowItems Show size i (suc n) (more v vs) f =
    Show v (seen_from (i * size) f) × ShowItems Show size (i + 1) n vs f
ShowItems Show size i _ _ f = ⊥

abbrev pub held_items : (Plain → ℕ → ℕ → Bool) → ℕ → ℕ → ℕ → Plains → ℕ → ℕ → Bool
held_items held size i (suc n) (more v vs) at k =
    held_at (i * size) size (λ j l. held v j l) at k || held_items held size (i + 1) n vs at k
held_items held size i _ _ at k = false

-- ---- sums

-- the written placement of the two variants
abbrev pub placement_of : Rules → Target → (Bool → Tree) → Placement
placement_of rules target side =
    written_placement rules
    (written_frame rules target (side true))
    (written_frame rules target (side false))

-- where a variant starts in its sum: `Ok` and `Some` are the first
abbrev pub variant_start : Placement → Bool → ℕ
variant_start p true = p.front + p.ok_shift
variant_start p false = p.front + p.err_shift

-- the variant of a core sum in which the bytes are: what the payload never is means the other
abbrev pub core_state : Rules → Target → (Bool → Tree) → ByteMap → Bool
core_state rules target side f =
    let ok = written_frame rules target (side true) in
    let err = written_frame rules target (side false) in
    if is_matched (absence ok err) f then not (payload_first ok err) else payload_first ok err

-- the variant of a core sum without bytes holds the bytes that mean it
abbrev pub holds_absence : Rules → Target → (Bool → Tree) → Bool → ℕ → Bool
holds_absence rules target side first i =
    let ok = written_frame rules target (side true) in
    let err = written_frame rules target (side false) in
    not (same_bool first (payload_first ok err)) && list_any (λ p. p.0 == i) (absence ok err)

-- ---- every description

-- the value is one of the description's
abbrev mutual
  pub fits : Rules → Target → Tree → Plain → Bool
  fits rules target (prim p) v = is_of (scalar_of target p) v
  fits rules target (struct label fs align) (list vs) = fits_in rules target fs vs
  fits rules target (array item len) (list vs) = fit_items (λ v. fits rules target item v) len vs
  fits rules target (union side) (bytes xs) =
      are_bytes_of (written_frame rules target (union side)).size xs
  fits rules target (sum names side) (variant kind first v) =
      same_sort names kind && fits rules target (side first) v
  fits rules target (core names side) (variant kind first v) =
      same_sort names kind && fits rules target (side first) v
  fits rules target (wrap kind t) v = fits rules target t v
  fits rules target (stable_if value condition) v = fits rules target value v
  fits rules target (pointer kind t) v = is_of (pointer_row target kind).scalar v
  fits rules target (no_niches size align niches indirections) (bytes xs) = are_bytes_of size xs
  fits rules target (leaf l) (bytes xs) = are_raw l.size l.free (leaf_items l) xs
  fits rules target _ _ = false

  pub fits_in : Rules → Target → Branches → Plains → Bool
  fits_in rules target none end = true
  fits_in rules target (field name t fs) (more v vs) =
      fits rules target t v && fits_in rules target fs vs
  fits_in rules target _ _ = false

-- the bytes show the value
abbrev mutual
  pub Shows : Rules → Target → Tree → Plain → ByteMap → Type 0
  Shows rules target (prim p) v f = ShowsPrim (scalar_of target p) v f
  Shows rules target (struct label fs align) (list vs) f =
      ShowIn rules target fs (positions 0 (written_frames rules target fs)) vs f
  Shows rules target (array item len) (list vs) f =
      ShowItems (λ v g. Shows rules target item v g) (written_frame rules target item).size
      0 len vs f
  Shows rules target (union side) (bytes xs) f =
      xs ≡ firsts (written_frame rules target (union side)).size f
  Shows rules target (sum names side) (variant kind first v) f =
      (same_sort names kind ≡ true)
      × (is_state_ok (placement_of rules target side).determinant f ≡ first)
      × Shows rules target (side first) v
      (seen_from (variant_start (placement_of rules target side) first) f)
  Shows rules target (core names side) (variant kind first v) f =
      (same_sort names kind ≡ true) × (core_state rules target side f ≡ first)
      × Shows rules target (side first) v f
  Shows rules target (wrap kind t) v f = Shows rules target t v f
  Shows rules target (stable_if value condition) v f = Shows rules target value v f
  Shows rules target (pointer kind t) v f = ShowsPrim (pointer_row target kind).scalar v f
  Shows rules target (no_niches size align niches indirections) (bytes xs) f = xs ≡ firsts size f
  Shows rules target (leaf l) (bytes xs) f =
      (match_none (leaf_items l) f ≡ true) × (xs ≡ cleared l.free l.size f)
  Shows rules target _ _ f = ⊥

  -- each field's bytes, from its position, show its value
  pub ShowIn : Rules → Target → Branches → List Positioned → Plains → ByteMap → Type 0
  ShowIn rules target none [] end f = Unit {0}
  ShowIn rules target (field name t fs) (p ∷ ps) (more v vs) f =
      Shows rules target t v (seen_from p.start f) × ShowIn rules target fs ps vs f
  ShowIn rules target _ _ _ f = ⊥

-- the value holds bit k of byte i
abbrev mutual
  pub holds : Rules → Target → Tree → Plain → ℕ → ℕ → Bool
  holds rules target (prim p) v i k = nat_lt i (written_frame rules target (prim p)).size
  holds rules target (struct label fs align) (list vs) i k =
      holds_in rules target fs (positions 0 (written_frames rules target fs)) vs i k
  holds rules target (array item len) (list vs) i k =
      held_items (λ v j l. holds rules target item v j l) (written_frame rules target item).size
      0 len vs i k
  holds rules target (union side) v i k = nat_lt i (written_frame rules target (union side)).size
  holds rules target (sum names side) (variant kind first v) i k =
      held_at (variant_start (placement_of rules target side) first)
      (written_frame rules target (side first)).size
      (λ j l. holds rules target (side first) v j l) i k
      || holds_test (placement_of rules target side).determinant first i k
  holds rules target (core names side) (variant kind first v) i k =
      held_at 0 (written_frame rules target (side first)).size
      (λ j l. holds rules target (side first) v j l) i k
      || holds_absence rules target side first i
  holds rules target (wrap kind t) v i k = holds rules target t v i k
  holds rules target (stable_if value condition) v i k = holds rules target value v i k
  holds rules target (pointer kind t) v i k =
      nat_lt i (written_frame rules target (pointer kind t)).size
  holds rules target (no_niches size align niches indirections) v i k = nat_lt i size
  holds rules target (leaf l) v i k = nat_lt i l.size && not (has l.free i k)
  holds rules target _ _ i k = false

  -- each field's value holds its bits, from its position on
  pub holds_in : Rules → Target → Branches → List Positioned → Plains → ℕ → ℕ → Bool
  holds_in rules target (field name t fs) (p ∷ ps) (more v vs) i k =
      held_at p.start p.held.size (λ j l. holds rules target t v j l) i k
      || holds_in rules target fs ps vs i k
  holds_in rules target _ _ _ i k = false

-- the bytes show the value, and every bit that it does not hold is 0
pub record IsCanonical (rules : Rules) (target : Target) (t : Tree) (v : Plain) (f : ByteMap)
    : Type 0 where
  pub shows : Shows rules target t v f
  pub clear : (i k : ℕ) → i < (written_frame rules target t).size → k < 8
      → holds rules target t v i k ≡ false
      → bit_at (f i) k ≡ 0

-- as many bytes as the description has
abbrev pub IsLong : Rules → Target → Tree → List ℕ → Type 0
IsLong rules target t bs = length bs ≡ (written_frame rules target t).size

-- canonical bytes of the value, as many as the description has
pub record IsImageOf (rules : Rules) (target : Target) (t : Tree) (v : Plain) (bs : List ℕ)
    : Type 0 where
  pub long : IsLong rules target t bs
  pub bytes : AreBytes (bytes_of bs)
  pub canonical : IsCanonical rules target t v (bytes_of bs)
