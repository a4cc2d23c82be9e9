-- The written placement of some sums, worked out by hand.
use lib.Count.{count_trailing_zeros}
use Rattle.std.proofs.Common.{◌≡◌, refl, ℕ, [], ◌∷◌, true, false}
use Rattle.abi_bits.specs.Mask.{entries_below}
use Rattle.abi_bits.specs.Forbidden.{nothing, alone, or, pattern, range}
use Rattle.abi_bits.specs.declared.saturating_add_value.SaturatingAddValue.TheVariants as count
use Rattle.abi_det.specs.Frame.{Frame}
use Rattle.abi_det.specs.Offers.{One, Two, offer_at, first_offer}
use Rattle.abi_det.specs.Written.{written_placement, refusals_below}
use Rattle.abi_det.specs.declared.placements.Kind.TheVariants as kind
use Rattle.abi_det.specs.declared.determinant.Test.TheVariants as test

-- all bytes hold what they like, and none is free
unfoldable pub plain : ℕ → ℕ → Frame
plain size align = record { size = size; align = align; free = []; forbidden = nothing; niches = count.B0; indirections = false }

bool_frame : Frame
bool_frame = record { size = 1; align = 1; free = []; forbidden = alone (range 0 2 255); niches = count.Saturator; indirections = false }

option_bool : written_placement One bool_frame (plain 0 1) ≡ record {
  ok_shift = 0;
  err_shift = 0;
  place = 0;
  front = 0;
  kind = kind.LargerPattern;
  determinant = record { «not» = false; test = test.ValueIsErr ((0, 2) ∷ []) };
  exported = [];
  refusals = [];
}
unfolding written_placement first_offer offer_at entries_below refusals_below plain bool_frame
option_bool = refl

bytes : written_placement One (plain 1 1) (plain 1 1) ≡ record {
  ok_shift = 0;
  err_shift = 0;
  place = 0;
  front = 1;
  kind = kind.Tag;
  determinant = record { «not» = false; test = test.BitDeterminant };
  exported = (0, 254) ∷ [];
  refusals = record { place = 0; smaller = []; larger = [] } ∷ [];
}
unfolding written_placement first_offer offer_at entries_below refusals_below plain
bytes = refl

byte_and_pair : written_placement One (plain 1 1) (plain 2 2) ≡ record {
  ok_shift = 0;
  err_shift = 0;
  place = 0;
  front = 2;
  kind = kind.Tag;
  determinant = record { «not» = true; test = test.BitDeterminant };
  exported = (0, 254) ∷ (1, 255) ∷ [];
  refusals = record { place = 0; smaller = []; larger = [] } ∷ record { place = 1; smaller = []; larger = [] } ∷ [];
}
unfolding written_placement first_offer offer_at entries_below refusals_below plain
byte_and_pair = refl

-- a struct of u32 and bool, or of u32 and u8
unfoldable pub word_and_bool : Frame
word_and_bool = record { size = 8; align = 4; free = (5, 255) ∷ (6, 255) ∷ (7, 255) ∷ []; forbidden = or nothing (alone (range 4 2 255)); niches = count.Saturator; indirections = false }

word_and_byte : Frame
word_and_byte = record { size = 8; align = 4; free = (5, 255) ∷ (6, 255) ∷ (7, 255) ∷ []; forbidden = nothing; niches = count.Saturator; indirections = false }

non_zero_byte : Frame
non_zero_byte = record { size = 1; align = 1; free = []; forbidden = alone (pattern ((0, 0) ∷ [])); niches = count.B1; indirections = false }

larger_pattern_first : written_placement One word_and_bool (plain 1 1) ≡ record {
  ok_shift = 0;
  err_shift = 0;
  place = 0;
  front = 0;
  kind = kind.LargerPattern;
  determinant = record { «not» = false; test = test.ValueIsErr ((4, 2) ∷ []) };
  exported = (5, 255) ∷ (6, 255) ∷ (7, 255) ∷ [];
  refusals = [];
}
unfolding written_placement first_offer offer_at entries_below refusals_below plain word_and_bool
larger_pattern_first = refl

bit_before_later_pattern : written_placement One word_and_byte non_zero_byte ≡ record {
  ok_shift = 0;
  err_shift = 0;
  place = 0;
  front = 0;
  kind = kind.SharedBit;
  determinant = record { «not» = false; test = test.BitIsErr 5 1 };
  exported = (5, 254) ∷ (6, 255) ∷ (7, 255) ∷ [];
  refusals = [];
}
unfolding written_placement first_offer offer_at entries_below refusals_below count_trailing_zeros word_and_byte non_zero_byte
bit_before_later_pattern = refl

second_place : written_placement One (record { size = 2; align = 1; free = (0, 254) ∷ []; forbidden = nothing; niches = count.B0; indirections = false }) (plain 1 1) ≡ record {
  ok_shift = 0;
  err_shift = 1;
  place = 1;
  front = 0;
  kind = kind.SharedBit;
  determinant = record { «not» = false; test = test.BitIsErr 0 2 };
  exported = (0, 252) ∷ [];
  refusals = [];
}
unfolding written_placement first_offer offer_at entries_below refusals_below count_trailing_zeros plain
second_place = refl

-- beside `()`, which is empty: the leftmost leaf is the u32's and offers nothing, so under rules one no pattern is taken, and the least free bit is bit 0 of byte 5
bit_under_one : written_placement One word_and_bool (plain 0 1) ≡ record {
  ok_shift = 0;
  err_shift = 0;
  place = 0;
  front = 0;
  kind = kind.SharedBit;
  determinant = record { «not» = false; test = test.BitIsErr 5 1 };
  exported = (5, 254) ∷ (6, 255) ∷ (7, 255) ∷ [];
  refusals = [];
}
unfolding written_placement first_offer offer_at entries_below refusals_below count_trailing_zeros plain word_and_bool
bit_under_one = refl

-- under rules two the first that any item offers is taken: the least value that no bool has, in the bool's byte 4; the padding stays free
pattern_under_two : written_placement Two word_and_bool (plain 0 1) ≡ record {
  ok_shift = 0;
  err_shift = 0;
  place = 0;
  front = 0;
  kind = kind.LargerPattern;
  determinant = record { «not» = false; test = test.ValueIsErr ((4, 2) ∷ []) };
  exported = (5, 255) ∷ (6, 255) ∷ (7, 255) ∷ [];
  refusals = [];
}
unfolding written_placement first_offer offer_at entries_below refusals_below plain word_and_bool
pattern_under_two = refl
