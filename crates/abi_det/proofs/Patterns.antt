-- A pattern that a variant offers, moved to the variant's place: where it lies, and that the variant never matches it.
use Rattle.std.proofs.Common.{◌≡◌, ℕ, zero, suc, ◌+◌, ◌-◌, ◌<◌, ◌≤◌, Bool, true, false, List, [], ◌∷◌, length, get_or, eqb, ltb, leb, refl, sym, subst, inl, inr, arith}
use Rattle.std.specs.List.{list_all, list_any}
use Rattle.std.specs.Int.{bit_at}
use Rattle.std.proofs.Math.Nat.{add_comm}
use Rattle.std.proofs.lemmas.Nat.Bits.{bit_at-zero}
use Rattle.std.proofs.lemmas.Bool.{and_parts, and_from, or_left, or_right, or_cases, ltb-true, eqb-true, lt-ltb, le-ltb, le-leb}
use Rattle.abi_bits.specs.Pairs.{Pair, moved_pairs, is_matched, is_pattern, IsPattern, are_below}
use Rattle.abi_bits.specs.Mask.{mask_at}
use Rattle.abi_bits.specs.Forbidden.{Item, pattern, range, offer, offered, is_match, is_solid_byte, is_solid_item}
use Rattle.abi_det.specs.Frame.{Frame, forbids}
use Rattle.abi_det.specs.Roles.{lies_free}
use Rattle.abi_det.specs.State.{seen_from}
use Rattle.abi_det.specs.SoundPlacement.{are_bytes, IsWellFormed, is_free_at}
use Rattle.abi_bits.proofs.Sets.{moved_is_pattern, moved_below}
use Rattle.abi_det.proofs.Lawful.{parts, bytes_in}

pub all_nth : {A : Type 0} (p : A → Bool) (d : A) (xs : List A) (n : ℕ) → list_all p xs ≡ true → n < length xs → p (get_or xs n d) ≡ true
all_nth p d [] n all lt = absurd (omega (arith, lt))
all_nth p d (x ∷ xs) zero all lt = (and_parts (p x) (list_all p xs) all).0
all_nth p d (x ∷ xs) (suc n) all lt = all_nth p d xs n (and_parts (p x) (list_all p xs) all).1 (omega (arith, lt))

-- a byte of a pattern that lies free is wholly free
pub free_named : (free : ℕ → ℕ) (at : ℕ) (ps : List Pair) → lies_free free ps ≡ true → list_any (λ p. eqb p.0 at) ps ≡ true → free at ≡ 255
free_named free at [] lies named = absurd (cc)
free_named free at (p ∷ ps) lies named =
    let l = and_parts (eqb (free p.0) 255) (lies_free free ps) lies in
    elim (or_cases (eqb p.0 at) (list_any (λ p. eqb p.0 at) ps) named) [
      | inl here ↦ subst (λ (x : ℕ). free x ≡ 255) (eqb-true p.0 at here) (eqb-true (free p.0) 255 l.0)
      | inr there ↦ free_named free at ps l.1 there
    ]

abbrev AreSolid : ℕ → List Pair → List Pair → Type 0
AreSolid size free ps = list_all (λ p. is_solid_byte size free p.0) ps ≡ true

solid_offers : (size : ℕ) (free : List Pair) (its : List Item) → list_all (is_solid_item size free) its ≡ true
    → list_all (λ ps. list_all (λ p. is_solid_byte size free p.0) ps) (offered its) ≡ true
solid_offers size free [] solid = refl
solid_offers size free (it ∷ its) solid =
    let s = and_parts (is_solid_item size free it) (list_all (is_solid_item size free) its) solid in
    and_from (list_all (λ p. is_solid_byte size free p.0) (offer it)) (list_all (λ ps. list_all (λ p. is_solid_byte size free p.0) ps) (offered its))
    (one it s.0) (solid_offers size free its s.1)
  where
    one : (it : Item) → is_solid_item size free it ≡ true → AreSolid size free (offer it)
    one (pattern ps) s = s
    one (range at least greatest) s = let a = and_parts (is_solid_byte size free at) (ltb least greatest) s in and_from (is_solid_byte size free at) true a.0 refl

-- the bytes of the pattern lie in the variant, and none has a free bit
solid_named : (size : ℕ) (free : List Pair) (shift at : ℕ) (ps : List Pair) → AreSolid size free ps → list_any (λ p. eqb p.0 at) (moved_pairs shift ps) ≡ true
    → (q : ℕ) × (at ≡ q + shift) × (q < size) × (mask_at free q ≡ 0)
solid_named size free shift at [] solid named = absurd (cc)
solid_named size free shift at (p ∷ ps) solid named =
    let s = and_parts (is_solid_byte size free p.0) (list_all (λ p. is_solid_byte size free p.0) ps) solid in
    let b = and_parts (ltb p.0 size) (eqb (mask_at free p.0) 0) s.0 in
    elim (or_cases (eqb (p.0 + shift) at) (list_any (λ p. eqb p.0 at) (moved_pairs shift ps)) named) [
      | inl here ↦ (p.0, sym (eqb-true (p.0 + shift) at here), ltb-true p.0 size b.0, eqb-true (mask_at free p.0) 0 b.1)
      | inr there ↦ solid_named size free shift at ps s.1 there
    ]

not_free : (f : Frame) (shift at k q : ℕ) → at ≡ q + shift → q < f.size → mask_at f.free q ≡ 0 → is_free_at f shift at k ≡ false
not_free f shift at k q place lt none =
    let t : ltb at shift ≡ false = le-ltb at shift (omega (arith, place)) in
    let u : ltb at (shift + f.size) ≡ true = lt-ltb at (shift + f.size) (omega (arith, place, lt)) in
    let v : at - shift ≡ q = omega (arith, place) in
    let w : bit_at (mask_at f.free q) k ≡ 0 = rw none (bit_at-zero k) in
    rw (t, u, v, w) refl

-- a pattern is matched further on where it is matched by what is seen from there
moved_match : (shift : ℕ) (ps : List Pair) (image : ℕ → ℕ) → is_matched (moved_pairs shift ps) image ≡ true → is_matched ps (seen_from shift image) ≡ true
moved_match shift [] image m = refl
moved_match shift (p ∷ ps) image m =
    let a = and_parts (eqb (image (p.0 + shift)) p.1) (is_matched (moved_pairs shift ps) image) m in
    and_from (eqb (seen_from shift image p.0) p.1) (is_matched ps (seen_from shift image))
    (subst (λ (x : ℕ). eqb (image x) p.1 ≡ true) (add_comm p.0 shift) a.0) (moved_match shift ps image a.1)

offer_match : (size : ℕ) (free : List Pair) (it : Item) (image : ℕ → ℕ) → is_solid_item size free it ≡ true → is_matched (offer it) image ≡ true → is_match image it ≡ true
offer_match size free (pattern ps) image solid m = m
offer_match size free (range at least greatest) image solid m =
    let s = and_parts (is_solid_byte size free at) (ltb least greatest) solid in
    let rises = ltb-true least greatest s.1 in
    let a = and_parts (eqb (image at) least) true m in
    let e = eqb-true (image at) least a.0 in
    and_from (leb least (image at)) (leb (image at) greatest) (le-leb least (image at) (omega (arith, e))) (le-leb (image at) greatest (omega (arith, e, rises)))

offered_match : (size : ℕ) (free : List Pair) (its : List Item) (n : ℕ) (image : ℕ → ℕ) → list_all (is_solid_item size free) its ≡ true → n < length (offered its)
    → is_matched (get_or (offered its) n []) image ≡ true → list_any (is_match image) its ≡ true
offered_match size free [] n image solid lt m = absurd (omega (arith, lt))
offered_match size free (it ∷ its) zero image solid lt m =
    let s = and_parts (is_solid_item size free it) (list_all (is_solid_item size free) its) solid in
    or_left (is_match image it) (list_any (is_match image) its) (offer_match size free it image s.0 m)
offered_match size free (it ∷ its) (suc n) image solid lt m =
    let s = and_parts (is_solid_item size free it) (list_all (is_solid_item size free) its) solid in
    or_right (is_match image it) (list_any (is_match image) its) (offered_match size free its n image s.1 (omega (arith, lt)) m)

moved_bytes : (shift : ℕ) (ps : List Pair) → are_bytes ps ≡ true → are_bytes (moved_pairs shift ps) ≡ true
moved_bytes shift [] h = refl
moved_bytes shift (p ∷ ps) h =
    let a = and_parts (ltb p.1 256) (are_bytes ps) h in
    and_from (ltb p.1 256) (are_bytes (moved_pairs shift ps)) a.0 (moved_bytes shift ps a.1)

-- pattern number n that the frame offers, at the variant's place
module _ (f : Frame) (sound : IsWellFormed f) (shift n : ℕ) (there : n < length (offered (forbids f))) where
  abbrev pub moved : List Pair
  moved = moved_pairs shift (get_or (offered (forbids f)) n [])

  solid : AreSolid f.size f.free (get_or (offered (forbids f)) n [])
  solid = all_nth (λ ps. list_all (λ p. is_solid_byte f.size f.free p.0) ps) [] (offered (forbids f)) n
      (solid_offers f.size f.free (forbids f) (parts f sound.lawful).solid) there

  pub pattern_not_free : (at k : ℕ) → list_any (λ p. eqb p.0 at) moved ≡ true → is_free_at f shift at k ≡ false
  pattern_not_free at k named =
      let q = solid_named f.size f.free shift at (get_or (offered (forbids f)) n []) solid named in
      not_free f shift at k q.0 q.1 q.2 q.3

  pub pattern_forbidden : (image : ℕ → ℕ) → is_matched moved image ≡ true → list_any (is_match (seen_from shift image)) (forbids f) ≡ true
  pattern_forbidden image m =
      offered_match f.size f.free (forbids f) n (seen_from shift image) (parts f sound.lawful).solid there (moved_match shift (get_or (offered (forbids f)) n []) image m)

  pub pattern_in : (size : ℕ) → shift + f.size ≤ size → size ≤ 1048576 → IsPattern moved × (are_below size moved ≡ true) × (are_bytes moved ≡ true)
  pattern_in size inside small =
      let ps : List Pair = get_or (offered (forbids f)) n [] in
      let is : IsPattern ps = all_nth is_pattern [] (offered (forbids f)) n sound.patterns there in
      let own : are_below f.size ps ≡ true = bytes_in f.size f.size f.free ps (omega arith) solid in (
        moved_is_pattern shift ps moved is (moved_below shift f.size 1048576 ps own (omega (arith, inside, small))) refl,
        moved_below shift f.size size ps own (omega (arith, inside)),
        moved_bytes shift ps (all_nth are_bytes [] (offered (forbids f)) n sound.bytes there),
      )
