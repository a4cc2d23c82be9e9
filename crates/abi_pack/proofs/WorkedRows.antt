-- Rows worked out by hand: bytes of each primitive in both byte orders, numbers that are none of its values, and the values and
-- bytes of other forms.
use Rattle.std.proofs.Common.{◌≡◌, ℕ, ◌-◌, ◌*◌, ◌^◌, List, [], ◌∷◌, replicate, Bool, true, false, refl}
use Rattle.std.specs.Prelude.{reverse}
use Rattle.std.specs.declared.cmp.Ordering.TheVariants as ordering
use Rattle.abi_num.specs.declared.target.Target.{Target}
use Rattle.abi_bits.specs.declared.saturating_add_value.SaturatingAddValue.TheVariants as count
use Rattle.abi_det.specs.Offers.{One}
use Rattle.abi_layout.specs.Builders.{overlaid}
use Rattle.abi_layout.specs.Prims.{row_frame}
use Rattle.abi_layout.specs.Trees.{Tree, prim, array, union, pointer, leaf, sides, result, option, core_option}
use Rattle.abi_layout.specs.declared.desc.PointerKind.TheVariants as pointers
use Rattle.abi_layout.specs.declared.part.Sort.TheVariants as sort
use Rattle.abi_layout.specs.declared.prim.IntKind.TheVariants as kind
use Rattle.abi_layout.specs.declared.prim.Primitive.{Primitive}
use Rattle.abi_layout.specs.declared.prim.Primitive.TheVariants as primitive
use Rattle.abi_pack.specs.ByteMap.{bytes_of}
use Rattle.abi_pack.specs.Plain.{Plain, unit, integer, boolean, order, bytes, list, variant, end, more}
use Rattle.abi_pack.specs.Values.{fits, Shows, holds}

abbrev ordered_by : Bool → Target
ordered_by little = record { little = little; pointer = 8; u64_align = 8; u128_align = 16 }

-- 254 and then as many bytes of 255 as make n: the greatest number but one, and -2 in two's complement
abbrev last_but_one : ℕ → List ℕ
last_but_one n = 254 ∷ replicate (n - 1) 255

-- the bytes of that value of n bytes, the least significant first and last
abbrev HasBytes : Primitive → ℕ → Plain → Type 0
HasBytes p n v =
    Shows One (ordered_by true) (prim p) v (bytes_of (last_but_one n))
    × Shows One (ordered_by false) (prim p) v (bytes_of (reverse (last_but_one n)))

abbrev Unsigned : Primitive → ℕ → Type 0
Unsigned p n = HasBytes p n (integer (2 ^ (8 * n) - 2) false)

abbrev Signed : Primitive → ℕ → Type 0
Signed p n = HasBytes p n (integer 2 true)

u8 : Unsigned primitive.U8 1
u8 = ((refl, refl), (refl, refl))

u16 : Unsigned primitive.U16 2
u16 = ((refl, refl), (refl, refl))

u32 : Unsigned primitive.U32 4
u32 = ((refl, refl), (refl, refl))

u64 : Unsigned primitive.U64 8
u64 = ((refl, refl), (refl, refl))

u128 : Unsigned primitive.U128 16
u128 = ((refl, refl), (refl, refl))

i8 : Signed primitive.I8 1
i8 = ((refl, refl), (refl, refl))

i16 : Signed primitive.I16 2
i16 = ((refl, refl), (refl, refl))

i32 : Signed primitive.I32 4
i32 = ((refl, refl), (refl, refl))

i64 : Signed primitive.I64 8
i64 = ((refl, refl), (refl, refl))

i128 : Signed primitive.I128 16
i128 = ((refl, refl), (refl, refl))

non_zero_u8 : Unsigned primitive.NonZeroU8 1
non_zero_u8 = ((refl, refl), (refl, refl))

non_zero_u16 : Unsigned primitive.NonZeroU16 2
non_zero_u16 = ((refl, refl), (refl, refl))

non_zero_u32 : Unsigned primitive.NonZeroU32 4
non_zero_u32 = ((refl, refl), (refl, refl))

non_zero_u64 : Unsigned primitive.NonZeroU64 8
non_zero_u64 = ((refl, refl), (refl, refl))

non_zero_u128 : Unsigned primitive.NonZeroU128 16
non_zero_u128 = ((refl, refl), (refl, refl))

-- `true` is 1, and `false` is 0
truths : Shows One (ordered_by true) (prim primitive.Bool) (boolean true) (bytes_of (1 ∷ replicate 0 0))
    × Shows One (ordered_by true) (prim primitive.Bool) (boolean false) (bytes_of (0 ∷ replicate 0 0))
truths = (refl, refl)

-- 0 is a `u32` and an `i32` and no `NonZeroU32`
zeros : (fits One (ordered_by true) (prim primitive.U32) (integer 0 false) ≡ true)
    × (fits One (ordered_by true) (prim primitive.I32) (integer 0 false) ≡ true)
    × (fits One (ordered_by true) (prim primitive.NonZeroU32) (integer 0 false) ≡ false)
zeros = (refl, refl, refl)

-- the ends of an `i8`: -129 and 128 lie past them; no integer is a negative 0
ends : (fits One (ordered_by true) (prim primitive.I8) (integer 129 true) ≡ false)
    × (fits One (ordered_by true) (prim primitive.I8) (integer 128 true) ≡ true)
    × (fits One (ordered_by true) (prim primitive.I8) (integer 127 false) ≡ true)
    × (fits One (ordered_by true) (prim primitive.I8) (integer 128 false) ≡ false)
    × (fits One (ordered_by true) (prim primitive.I8) (integer 0 true) ≡ false)
ends = (refl, refl, refl, refl, refl)

-- and of a `u8`: 256 and -1 lie past them
ends_unsigned : (fits One (ordered_by true) (prim primitive.U8) (integer 255 false) ≡ true)
    × (fits One (ordered_by true) (prim primitive.U8) (integer 256 false) ≡ false)
    × (fits One (ordered_by true) (prim primitive.U8) (integer 1 true) ≡ false)
ends_unsigned = (refl, refl, refl)

abbrev byte : Tree
byte = prim primitive.U8

abbrev natural : ℕ → Plain
natural n = integer n false

-- a pointer of two bytes: 258 is 1 * 256 + 2, and 65536 lies past the end
pointers_of_two_bytes : (t : Target) → t.pointer ≡ 2 → t.little ≡ true
    → Shows One t (prim primitive.Usize) (natural 258) (bytes_of (2 ∷ 1 ∷ []))
    × (fits One t (prim primitive.Usize) (natural 65535) ≡ true) × (fits One t (prim primitive.Usize) (natural 65536) ≡ false)
pointers_of_two_bytes t two little = rw (two, little) ((refl, refl), refl, refl)

-- 5 turned over is 250, and 255 is none
complement_of_five : Shows One (ordered_by true) (prim primitive.NonMaxU8) (natural 5) (bytes_of (250 ∷ []))
    × (fits One (ordered_by true) (prim primitive.NonMaxU8) (natural 255) ≡ false)
complement_of_five = ((refl, refl), refl)

-- 73 is 1 above 72, which is none; 71 is 255 above it, around the end
above_seventy_two : Shows One (ordered_by true) (prim (primitive.NonX kind.U8 72 false)) (natural 73) (bytes_of (1 ∷ []))
    × Shows One (ordered_by true) (prim (primitive.NonX kind.U8 72 false)) (natural 71) (bytes_of (255 ∷ []))
    × (fits One (ordered_by true) (prim (primitive.NonX kind.U8 72 false)) (natural 72) ≡ false)
above_seventy_two = ((refl, refl), (refl, refl), refl)

orders : Shows One (ordered_by true) (prim primitive.Ordering) (order ordering.Less) (bytes_of (255 ∷ []))
    × Shows One (ordered_by true) (prim primitive.Ordering) (order ordering.Equal) (bytes_of (0 ∷ []))
    × Shows One (ordered_by true) (prim primitive.Ordering) (order ordering.Greater) (bytes_of (1 ∷ []))
orders = (refl, refl, refl)

-- variants of another name do not fit: `None` is no `Err` of `()`, nor `Some` of it
names_of_variants : (fits One (ordered_by true) (option byte) (variant sort.OfOption false unit) ≡ true)
    × (fits One (ordered_by true) (option byte) (variant sort.OfResult false unit) ≡ false)
    × (fits One (ordered_by true) (option byte) (variant sort.OfOption true unit) ≡ false)
    × (fits One (ordered_by true) (result byte (prim primitive.Unit)) (variant sort.OfOption false unit) ≡ false)
names_of_variants = (refl, refl, refl, refl)

-- the second item of two bytes each stands at 2: 772 is 3 * 256 + 4
words : Shows One (ordered_by true) (array (prim primitive.U16) 2) (list (more (natural 513) (more (natural 772) end))) (bytes_of (1 ∷ 2 ∷ 4 ∷ 3 ∷ []))
    × (fits One (ordered_by true) (array (prim primitive.U16) 2) (list (more (natural 513) end)) ≡ false)
unfolding row_frame
words = (((refl, refl), ((refl, refl), tt)), refl)

-- three bytes, of which the second is free, and its bits are 0 in a value
gapped : Tree
gapped = leaf (record { name = []; «module» = []; size = 3; align = 1; free = (1, 255) ∷ []; forbidden = []; niches = count.B0; indirections = false })

free_byte : (fits One (ordered_by true) gapped (bytes (170 ∷ 0 ∷ 187 ∷ [])) ≡ true)
    × (fits One (ordered_by true) gapped (bytes (170 ∷ 1 ∷ 187 ∷ [])) ≡ false)
    × Shows One (ordered_by true) gapped (bytes (170 ∷ 0 ∷ 187 ∷ [])) (bytes_of (170 ∷ 2 ∷ 187 ∷ []))
    × (holds One (ordered_by true) gapped (bytes (170 ∷ 0 ∷ 187 ∷ [])) 1 0 ≡ false)
    × (holds One (ordered_by true) gapped (bytes (170 ∷ 0 ∷ 187 ∷ [])) 2 0 ≡ true)
unfolding gapped
free_byte = (refl, refl, (refl, refl), refl, refl)

-- a byte that is never 0: 0 means `None`, which then holds that byte
absent_byte : Shows One (ordered_by true) (core_option (prim primitive.NonZeroU8)) (variant sort.OfOption true (natural 5)) (bytes_of (5 ∷ []))
    × Shows One (ordered_by true) (core_option (prim primitive.NonZeroU8)) (variant sort.OfOption false unit) (bytes_of (0 ∷ []))
    × (holds One (ordered_by true) (core_option (prim primitive.NonZeroU8)) (variant sort.OfOption false unit) 0 7 ≡ true)
unfolding row_frame
absent_byte = ((refl, refl, (refl, refl)), (refl, refl, tt), refl)

-- 0 is the address that only some pointers have
null : (fits One (ordered_by true) (pointer pointers.ConstPtr byte) (natural 0) ≡ true)
    × (fits One (ordered_by true) (pointer pointers.Ref byte) (natural 0) ≡ false)
null = (refl, refl)

-- the bytes of a union are those of its size, whatever they mean
overlaid_bytes : Shows One (ordered_by true) (union (sides byte (prim primitive.U16))) (bytes (1 ∷ 2 ∷ [])) (bytes_of (1 ∷ 2 ∷ []))
    × (fits One (ordered_by true) (union (sides byte (prim primitive.Bool))) (bytes (2 ∷ [])) ≡ true)
    × (fits One (ordered_by true) (union (sides byte (prim primitive.U16))) (bytes (1 ∷ [])) ≡ false)
unfolding overlaid row_frame
overlaid_bytes = (refl, refl, refl)
