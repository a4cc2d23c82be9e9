-- Sound frames, so that the laws on them speak of something: a boolean, and the option of one.
use lib.Count.{ones, ones_step}
use Rattle.std.proofs.Common.{◌≡◌, [], false, refl, arith}
use Rattle.std.proofs.lemmas.Nat.{ones_le_self}
use Rattle.abi_bits.specs.Forbidden.{nothing, alone, range}
use Rattle.abi_bits.specs.declared.saturating_add_value.SaturatingAddValue.TheVariants as counts
use Rattle.abi_det.specs.Frame.{Frame}
use Rattle.abi_det.specs.Offers.{One}
use Rattle.abi_det.specs.Written.{written_placement}
use Rattle.abi_det.specs.SoundPlacement.{IsWellFormed, IsSoundPlacement}
use Rattle.abi_det.proofs.SoundPlacements.{placements_sound}

abbrev bool_frame : Frame
bool_frame = record { size = 1; align = 1; free = []; forbidden = alone (range 0 2 255); niches = counts.Saturator; indirections = false }

abbrev unit_frame : Frame
unit_frame = record { size = 0; align = 1; free = []; forbidden = nothing; niches = counts.B0; indirections = false }

one_bit : ones 1 ≡ 1
one_bit = omega (arith, ones_step 1, ones_le_self 0)

bool_well_formed : IsWellFormed bool_frame
bool_well_formed = record { lawful = rw one_bit refl; mask = refl; patterns = refl; bytes = refl }

unit_well_formed : IsWellFormed unit_frame
unit_well_formed = record { lawful = rw one_bit refl; mask = refl; patterns = refl; bytes = refl }

option_sound : IsSoundPlacement bool_frame unit_frame (written_placement One bool_frame unit_frame)
option_sound = placements_sound One bool_frame unit_frame bool_well_formed unit_well_formed
