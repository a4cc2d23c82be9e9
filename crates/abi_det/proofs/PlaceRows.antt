-- Written placements in which niches compete, worked out by hand.
use lib.Count.{count_trailing_zeros}
use Rattle.std.proofs.Common.{◌≡◌, refl, [], ◌∷◌, true, false}
use Rattle.abi_bits.specs.Mask.{entries_below}
use Rattle.abi_bits.specs.Forbidden.{alone, pattern, range}
use Rattle.abi_bits.specs.declared.saturating_add_value.SaturatingAddValue.TheVariants as count
use Rattle.abi_det.specs.Frame.{Frame}
use Rattle.abi_det.specs.Offers.{One, Two, offer_at, first_offer}
use Rattle.abi_det.specs.Written.{written_placement, refusals_below, refusal_holds}
use Rattle.abi_det.specs.declared.placements.Kind.TheVariants as kind
use Rattle.abi_det.specs.declared.determinant.Test.TheVariants as test
use Rattle.abi_det.proofs.WorkedRows.{plain, word_and_bool}

-- two bytes: in the first a truth, the second free; so 2 is the least value that the first never has
truth_and_room : Frame
truth_and_room = record { size = 2; align = 1; free = (1, 255) ∷ []; forbidden = alone (range 0 2 255); niches = count.Saturator; indirections = false }

-- two bytes: the first is free, the second is never 0
room_and_some : Frame
room_and_some = record { size = 2; align = 1; free = (0, 255) ∷ []; forbidden = alone (pattern ((1, 0) ∷ [])); niches = count.B1; indirections = false }

-- at place 0 both variants have a pattern that lies in bytes that the other leaves free: 1 = 0 of the smaller, `Err`,
-- and 0 = 2 of the larger, `Ok`. The smaller's is taken and means `Ok`; no byte is free in both.
kinds_compete : written_placement One truth_and_room room_and_some ≡ record {
  ok_shift = 0;
  err_shift = 0;
  place = 0;
  front = 0;
  kind = kind.SmallerPattern;
  determinant = record { «not» = true; test = test.ValueIsErr ((1, 0) ∷ []) };
  exported = [];
  refusals = [];
}
unfolding written_placement first_offer offer_at entries_below refusals_below truth_and_room room_and_some
kinds_compete = refl

-- exchanged, `Err` is still the smaller of the two equal sizes: its pattern is now 0 = 2
kinds_compete_exchanged : written_placement One room_and_some truth_and_room ≡ record {
  ok_shift = 0;
  err_shift = 0;
  place = 0;
  front = 0;
  kind = kind.SmallerPattern;
  determinant = record { «not» = true; test = test.ValueIsErr ((0, 2) ∷ []) };
  exported = [];
  refusals = [];
}
unfolding written_placement first_offer offer_at entries_below refusals_below truth_and_room room_and_some
kinds_compete_exchanged = refl

-- with `()` as `Ok`, the struct of a `u32` and a `bool` is `Err` and the larger. Its leftmost leaf is the `u32`'s,
-- which forbids nothing: rules one find no head, and take bit 0 of byte 5; a 1 means `Ok`
unit_first_under_one : written_placement One (plain 0 1) word_and_bool ≡ record {
  ok_shift = 0;
  err_shift = 0;
  place = 0;
  front = 0;
  kind = kind.SharedBit;
  determinant = record { «not» = true; test = test.BitIsErr 5 1 };
  exported = (5, 254) ∷ (6, 255) ∷ (7, 255) ∷ [];
  refusals = [];
}
unfolding written_placement first_offer offer_at entries_below refusals_below count_trailing_zeros plain word_and_bool
unit_first_under_one = refl

-- rules two take the first value that the struct never has, 4 = 2, which means `Ok`
unit_first_under_two : written_placement Two (plain 0 1) word_and_bool ≡ record {
  ok_shift = 0;
  err_shift = 0;
  place = 0;
  front = 0;
  kind = kind.LargerPattern;
  determinant = record { «not» = true; test = test.ValueIsErr ((4, 2) ∷ []) };
  exported = (5, 255) ∷ (6, 255) ∷ (7, 255) ∷ [];
  refusals = [];
}
unfolding written_placement first_offer offer_at entries_below refusals_below plain word_and_bool
unit_first_under_two = refl

-- two bytes that are never both 0
some_pair : Frame
some_pair = record { size = 2; align = 1; free = []; forbidden = alone (pattern ((0, 0) ∷ (1, 0) ∷ [])); niches = count.B1; indirections = false }

-- at place 0, the one at which two bytes fit into two, both bytes of the larger's one pattern are the smaller's: the
-- refusal names the first
two_bytes_block : written_placement One some_pair (plain 2 1) ≡ record {
  ok_shift = 0;
  err_shift = 0;
  place = 0;
  front = 1;
  kind = kind.Tag;
  determinant = record { «not» = false; test = test.BitDeterminant };
  exported = (0, 254) ∷ [];
  refusals = record { place = 0; smaller = []; larger = 0 ∷ [] } ∷ [];
}
unfolding written_placement first_offer offer_at entries_below refusals_below plain some_pair
two_bytes_block = refl

-- a refusal that names the second byte holds too; one that names neither, or both, does not
second_byte_holds : refusal_holds One some_pair (plain 2 1) (record { place = 0; smaller = []; larger = 1 ∷ [] }) ≡ true
unfolding entries_below plain some_pair
second_byte_holds = refl

no_byte_fails : refusal_holds One some_pair (plain 2 1) (record { place = 0; smaller = []; larger = [] }) ≡ false
unfolding entries_below plain some_pair
no_byte_fails = refl

both_bytes_fail : refusal_holds One some_pair (plain 2 1) (record { place = 0; smaller = []; larger = 0 ∷ 1 ∷ [] }) ≡ false
unfolding entries_below plain some_pair
both_bytes_fail = refl
