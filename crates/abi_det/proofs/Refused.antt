-- The written refusals, place by place.
use Rattle.std.proofs.Common.{◌*◌, ◌<◌, eqb, map, arith, ◌≡◌, ℕ, ◌+◌, true, false, List, [], ◌∷◌, ◌++◌, refl, ◌∙◌, add-one, append-nil}
use Rattle.std.proofs.lemmas.Bool.{ne_eqb}
use Rattle.abi_bits.specs.Pairs.{moved_pairs}
use Rattle.abi_bits.specs.Forbidden.{offered}
use Rattle.abi_det.specs.Frame.{Frame, forbids}
use Rattle.abi_det.specs.Roles.{is_place, union_byte}
use Rattle.abi_det.specs.Written.{first_blocking, refusal_at, refusals_below}
use Rattle.abi_det.specs.declared.placements.Refusal.{Refusal}
use Rattle.abi_det.proofs.Moving.{all_moved_by_none}

module _ (large small : Frame) (size : ℕ) where
  pub none_at_start : [] ≡ refusals_below large small size 0
  unfolding refusals_below
  none_at_start = refl

  pub one_more : (k : ℕ) (old new : List Refusal) → is_place small size k ≡ true → old ≡ refusals_below large small size k
      → new ≡ old ++ refusal_at large small size k ∷ [] → new ≡ refusals_below large small size (k + 1)
  unfolding refusals_below
  one_more k old new is before after = rw (add-one, is) (after ∙ rw before refl)

  pub no_place : (k : ℕ) (old : List Refusal) → is_place small size k ≡ false → old ≡ refusals_below large small size k → old ≡ refusals_below large small size (k + 1)
  unfolding refusals_below
  no_place k old none before = rw (add-one, none, append-nil) before

  -- the first blocking byte of each pattern refuses a place of a variant that is not empty
  pub refused_beside : (k shift : ℕ) (smaller larger : List ℕ) → 0 < small.size → shift ≡ k * small.align
      → smaller ≡ map (first_blocking (union_byte large 0 size)) (map (moved_pairs shift) (offered (forbids small)))
      → larger ≡ map (first_blocking (union_byte small shift size)) (map (moved_pairs 0) (offered (forbids large)))
      → record { place = k; smaller = smaller; larger = larger } ≡ refusal_at large small size k
  refused_beside k shift smaller larger some at first second =
      let beside : eqb small.size 0 ≡ false = ne_eqb small.size 0 (λ q. absurd (omega (arith, some, q))) in
      rw (beside, first, second, all_moved_by_none (offered (forbids large)), at) refl
