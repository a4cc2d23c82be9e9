-- Frames of small types, worked out by hand.
use Rattle.std.proofs.Common.{◌≡◌, refl, ℕ, List, [], ◌∷◌, map, true, false, Some, None}
use Rattle.abi_num.specs.declared.target.Target.{Target}
use Rattle.abi_bits.specs.Mask.{entries_below}
use Rattle.abi_bits.specs.Forbidden.{Item, pattern, range, Forbidden, nothing, alone, or}
use Rattle.abi_bits.specs.declared.saturating_add_value.SaturatingAddValue.{SaturatingAddValue}
use Rattle.abi_bits.specs.declared.saturating_add_value.SaturatingAddValue.TheVariants as count
use Rattle.abi_det.specs.Frame.{Frame, forbids}
use Rattle.abi_det.specs.Offers.{One, offer_at, first_offer}
use Rattle.abi_det.specs.Written.{written_placement, written_sum, refusals_below}
use Rattle.abi_layout.specs.Builders.{after, pair, rounded_to, closed, closed_at, overlaid, repeated}
use Rattle.abi_layout.specs.Structs.{struct_frame}
use Rattle.abi_layout.specs.Prims.{row_frame, prim_frame}
use Rattle.abi_layout.specs.Leaves.{leaf_frame}
use Rattle.abi_layout.specs.Trees.{Tree, Label, prim, struct, array, union, sides, result, option, core_option, wrap, stable_if, pointer, no_niches, leaf, none, field}
use Rattle.abi_layout.specs.Frames.{written_frame}
use Rattle.abi_layout.specs.Faults.{desc_fault}
use Rattle.abi_layout.specs.declared.desc.Forbid.TheVariants as forbid
use Rattle.abi_layout.specs.declared.desc.PointerKind.TheVariants as pointers
use Rattle.abi_layout.specs.declared.desc.WrapKind.TheVariants as wrapper
use Rattle.abi_layout.specs.declared.prim.IntKind.TheVariants as kind
use Rattle.abi_layout.specs.declared.prim.Primitive.{Primitive}
use Rattle.abi_layout.specs.declared.prim.Primitive.TheVariants as the
use Rattle.abi_layout.specs.declared.desc_error.DescError.TheVariants as fault

le64 : Target
le64 = record { little = true; pointer = 8; u64_align = 8; u128_align = 16 }

le32o : Target
le32o = record { little = true; pointer = 4; u64_align = 4; u128_align = 16 }

plain : ℕ → ℕ → Frame
plain size align = record { size = size; align = align; free = []; forbidden = nothing; niches = count.B0; indirections = false }

bool_frame : Frame
bool_frame = record { size = 1; align = 1; free = []; forbidden = alone (range 0 2 255); niches = count.Saturator; indirections = false }

non_zero_byte : Frame
non_zero_byte = record { size = 1; align = 1; free = []; forbidden = alone (pattern ((0, 0) ∷ [])); niches = count.B1; indirections = false }

after_three : after (plain 2 2) 3 ≡ record (plain 6 2) { free = (3, 255) ∷ [] }
unfolding after entries_below plain
after_three = refl

word_and_bool : Frame
word_and_bool = record { size = 5; align = 4; free = []; forbidden = or nothing (alone (range 4 2 255)); niches = count.Saturator; indirections = false }

pair_of_word_and_bool : pair (plain 4 4) bool_frame ≡ word_and_bool
unfolding pair entries_below plain bool_frame word_and_bool
pair_of_word_and_bool = refl

whole_word_and_bool : closed word_and_bool ≡ record word_and_bool { size = 8; free = (5, 255) ∷ (6, 255) ∷ (7, 255) ∷ [] }
unfolding rounded_to entries_below word_and_bool
whole_word_and_bool = refl

-- what two that forbid nothing forbid
two_free : Forbidden
two_free = or nothing nothing

word_and_byte : pair (plain 4 4) (plain 1 1) ≡ record (plain 5 4) { forbidden = two_free }
unfolding pair entries_below plain two_free
word_and_byte = refl

-- bytes 8 to 15 are not free
sixteen : closed_at (plain 5 4) 16 ≡ record (plain 16 16) { free = (5, 255) ∷ (6, 255) ∷ (7, 255) ∷ []; niches = count.Saturator }
unfolding rounded_to entries_below plain
sixteen = refl

sixteen_by_positions : struct_frame (plain 4 4 ∷ plain 1 1 ∷ []) (Some 16) ≡ record (plain 16 16) { forbidden = two_free; free = (5, 255) ∷ (6, 255) ∷ (7, 255) ∷ []; niches = count.Saturator }
unfolding struct_frame entries_below plain two_free
sixteen_by_positions = refl

one_bool : repeated bool_frame 1 ≡ bool_frame
unfolding repeated bool_frame
one_bool = refl

two_bools : repeated bool_frame 2 ≡ record (plain 2 1) { niches = count.Saturator }
unfolding repeated bool_frame plain
two_bools = refl

no_bools : repeated bool_frame 0 ≡ plain 0 1
unfolding repeated bool_frame plain
no_bools = refl

word_or_byte : overlaid (plain 4 4) (plain 1 1) ≡ plain 4 4
unfolding overlaid plain
word_or_byte = refl

-- what the layout of a primitive says: its size and alignment, the forbidden items, and their count
record Row : Type 0 where
  size : ℕ
  align : ℕ
  items : List Item
  niches : SaturatingAddValue

row : Primitive → Row
row p = let f : Frame = prim_frame le64 p in record { size = f.size; align = f.align; items = forbids f; niches = f.niches }

-- n bytes aligned to n, of which none is forbidden
whole : ℕ → Row
whole n = record { size = n; align = n; items = []; niches = count.B0 }

-- n bytes aligned to n, which are not 0 at all of the offsets
not_zero : ℕ → List ℕ → Row
not_zero n offsets = record { size = n; align = n; items = pattern (map (λ at. (at, 0)) offsets) ∷ []; niches = count.B1 }

empty_and_truth : map row (the.Unit ∷ the.Bool ∷ [])
    ≡ record { size = 0; align = 1; items = []; niches = count.B0 } ∷ record { size = 1; align = 1; items = range 0 2 255 ∷ []; niches = count.Saturator } ∷ []
unfolding row row_frame le64
empty_and_truth = refl

unsigned_integers : map row (the.U8 ∷ the.U16 ∷ the.U32 ∷ the.U64 ∷ the.U128 ∷ []) ≡ map whole (1 ∷ 2 ∷ 4 ∷ 8 ∷ 16 ∷ [])
unfolding row whole row_frame le64
unsigned_integers = refl

signed_integers : map row (the.I8 ∷ the.I16 ∷ the.I32 ∷ the.I64 ∷ the.I128 ∷ []) ≡ map whole (1 ∷ 2 ∷ 4 ∷ 8 ∷ 16 ∷ [])
unfolding row whole row_frame le64
signed_integers = refl

integers_but_zero : map row (the.NonZeroU8 ∷ the.NonZeroU16 ∷ the.NonZeroU32 ∷ the.NonZeroU64 ∷ the.NonZeroU128 ∷ [])
    ≡ not_zero 1 (0 ∷ []) ∷ not_zero 2 (0 ∷ 1 ∷ []) ∷ not_zero 4 (0 ∷ 1 ∷ 2 ∷ 3 ∷ []) ∷ not_zero 8 (0 ∷ 1 ∷ 2 ∷ 3 ∷ 4 ∷ 5 ∷ 6 ∷ 7 ∷ [])
    ∷ not_zero 16 (0 ∷ 1 ∷ 2 ∷ 3 ∷ 4 ∷ 5 ∷ 6 ∷ 7 ∷ 8 ∷ 9 ∷ 10 ∷ 11 ∷ 12 ∷ 13 ∷ 14 ∷ 15 ∷ []) ∷ []
unfolding row not_zero row_frame le64
integers_but_zero = refl

old_word : prim_frame le32o the.U64 ≡ plain 8 4
unfolding row_frame plain le32o
old_word = refl

le16 : Target
le16 = record { little = true; pointer = 2; u64_align = 4; u128_align = 8 }

word_of_two_bytes : prim_frame le16 the.Usize ≡ plain 2 2
unfolding row_frame plain le16
word_of_two_bytes = refl

wide_word : prim_frame le16 the.U128 ≡ plain 16 8
unfolding row_frame plain le16
wide_word = refl

-- threads share it only at its own size
shared_word : prim_frame le32o the.AtomicU64 ≡ plain 8 8
unfolding row_frame plain le32o
shared_word = refl

but_the_greatest : prim_frame le64 the.NonMaxU8 ≡ non_zero_byte
unfolding row_frame non_zero_byte le64
but_the_greatest = refl

order : row the.Ordering ≡ record { size = 1; align = 1; items = range 0 2 254 ∷ []; niches = count.Saturator }
unfolding row row_frame le64
order = refl

descriptor : prim_frame le64 the.OwnedFd ≡ record (plain 4 4) { niches = count.Saturator; indirections = true }
unfolding row_frame plain le64
descriptor = refl

one_niche : pair (plain 1 1) non_zero_byte
    ≡ record { size = 2; align = 1; free = []; forbidden = or nothing (alone (pattern ((1, 0) ∷ []))); niches = count.B1; indirections = false }
unfolding pair entries_below plain non_zero_byte
one_niche = refl

many_niches : pair non_zero_byte non_zero_byte
    ≡ record { size = 2; align = 1; free = []; forbidden = or (alone (pattern ((0, 0) ∷ []))) (alone (pattern ((1, 0) ∷ []))); niches = count.Saturator; indirections = false }
unfolding pair entries_below non_zero_byte
many_niches = refl

empty_struct : struct_frame [] None ≡ plain 0 1
unfolding struct_frame entries_below plain
empty_struct = refl

label : Label
label = record { name = []; module_name = []; version = 0 }

-- a byte, then two bytes, with a byte between that is free
pair_tree : Tree
pair_tree = struct label (field [] (prim the.U8) (field [] (prim the.NonZeroU16) none)) None

byte_and_word : written_frame One le64 pair_tree
    ≡ record { size = 4; align = 2; free = (1, 255) ∷ []; forbidden = or nothing (alone (pattern ((2, 0) ∷ (3, 0) ∷ []))); niches = count.Saturator; indirections = false }
unfolding struct_frame row_frame entries_below pair_tree le64 label
byte_and_word = refl

tagged_bytes : written_frame One le64 (result (result (prim the.U8) (prim the.U8)) (prim the.U8))
    ≡ record (plain 2 1) { free = (0, 252) ∷ [] }
unfolding written_sum written_placement first_offer offer_at entries_below refusals_below row_frame plain le64 lib.Count.count_trailing_zeros
tagged_bytes = refl

-- the second field's request is refused: it is part 3, after the three parts before it
ill_formed : desc_fault One le64 (struct label (field [] (option (prim the.Bool)) (field [] (struct label (field [] (prim the.U8) none) (Some 3)) none)) None)
    ≡ Some (fault.IllFormed 3)
unfolding desc_fault label written_sum written_placement first_offer offer_at entries_below refusals_below row_frame le64 lib.Count.ones
ill_formed = refl

-- ---- arrays, unions, sums of the compiler, pointers, conditions

few_bools : map (λ n. written_frame One le64 (array (prim the.Bool) n)) (1 ∷ 2 ∷ [])
    ≡ bool_frame ∷ record (plain 2 1) { niches = count.Saturator } ∷ []
unfolding repeated row_frame bool_frame plain le64
few_bools = refl

bytes : ℕ → Tree
bytes n = array (prim the.U8) n

long_array : map (λ n. desc_fault One le64 (bytes n)) (128 ∷ 129 ∷ []) ≡ None ∷ Some (fault.ArrayLength 1) ∷ []
unfolding desc_fault bytes repeated row_frame le64
long_array = refl

-- 2^14 bytes in the item: 64 of them make 2^20 bytes, 128 twice as many
large_array : map (λ n. desc_fault One le64 (array (array (bytes 128) 128) n)) (64 ∷ 128 ∷ []) ≡ None ∷ Some (fault.TooLarge 3) ∷ []
unfolding desc_fault bytes repeated row_frame le64
large_array = refl

truth_or_word : written_frame One le64 (union (sides (prim the.Bool) (prim the.U32))) ≡ plain 4 4
unfolding overlaid row_frame plain le64
truth_or_word = refl

none_is_zero : written_frame One le64 (core_option (prim the.NonZeroU8)) ≡ plain 1 1
unfolding row_frame plain le64
none_is_zero = refl

-- one niche, and a pattern: what the compiler needs
stable_options : map (λ t. desc_fault One le64 (core_option t)) (prim the.NonZeroU8 ∷ prim the.Bool ∷ no_niches 1 1 count.B1 false ∷ [])
    ≡ None ∷ Some (fault.NotStable 1) ∷ Some (fault.NotStable 1) ∷ []
unfolding desc_fault row_frame le64 lib.Count.ones
stable_options = refl

-- the count of both is one, but the second forbids 0 still
two_patterns : desc_fault One le64 (core_option (struct label (field [] (prim the.NonZeroU8) (field [] (wrap wrapper.MaybeUninit (prim the.NonZeroU8)) none)) None))
    ≡ Some (fault.NotStable 4)
unfolding desc_fault label struct_frame entries_below row_frame le64
two_patterns = refl

-- whatever it points to
reference : written_frame One le16 (pointer pointers.Ref (bytes 128))
    ≡ record { size = 2; align = 2; free = []; forbidden = alone (pattern ((0, 0) ∷ (1, 0) ∷ [])); niches = count.B1; indirections = true }
unfolding bytes row_frame le16
reference = refl

raw_pointer : written_frame One le64 (pointer pointers.ConstPtr (prim the.Bool)) ≡ record (plain 8 8) { indirections = true }
unfolding row_frame plain le64
raw_pointer = refl

-- what holds no bytes must be well-formed too: the pointee is part 1, the condition the part after the value
ill_formed_aside : desc_fault One le64 (pointer pointers.Ref (bytes 129)) ∷ desc_fault One le64 (stable_if (prim the.U8) (bytes 129)) ∷ []
    ≡ Some (fault.ArrayLength 1) ∷ Some (fault.ArrayLength 2) ∷ []
unfolding desc_fault bytes repeated row_frame le64
ill_formed_aside = refl

-- an integer of 8 bits is never 256
no_such_number : desc_fault One le64 (prim (the.NonX kind.U8 256 false)) ≡ Some (fault.IllFormed 0)
unfolding desc_fault row_frame le64
no_such_number = refl

-- byte 0 has a free bit
pattern_in_a_free_byte : desc_fault One le64 (leaf (record {
  name = [];
  «module» = [];
  size = 2;
  align = 1;
  free = (0, 1) ∷ [];
  forbidden = forbid.Pattern ((0, 5) ∷ []) ∷ [];
  niches = count.B1;
  indirections = false;
})) ≡ Some (fault.IllFormed 0)
unfolding desc_fault leaf_frame le64 lib.Count.ones
pattern_in_a_free_byte = refl

bad_target : desc_fault One (record { little = true; pointer = 3; u64_align = 8; u128_align = 16 }) (prim the.U8) ≡ Some fault.BadTarget
unfolding desc_fault
bad_target = refl
