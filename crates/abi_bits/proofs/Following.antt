-- A set followed by one that lies past it.
use Rattle.std.proofs.Common.{◌≡◌, ℕ, ◌+◌, ◌-◌, ◌≤◌, true, ◌&&◌, List, [], ◌∷◌, ◌++◌, cond, leb, ltb, bit_or, refl, sym, ap, ◌∙◌, arith}
use Rattle.std.proofs.lemmas.List.Folds.{list_all-append}
use Rattle.std.proofs.lemmas.Bool.{and_from}
use Rattle.abi_bits.specs.Pairs.{Pair, are_rising, are_below, moved_pairs}
use Rattle.abi_bits.specs.Mask.{mask_at, IsMask, have_bits}
use Rattle.abi_bits.proofs.Masks.{rising_parts, rising_with, rising_lower, below_parts, mask_parts}
use Rattle.abi_bits.proofs.Entries.{mask_append, same_bytes}
use Rattle.abi_bits.proofs.Sets.{moved_rising, moved_is_mask, moved_bytes}

followed_rises : (by : ℕ) (es fs : List Pair) (least : ℕ) → are_rising least es ≡ true → are_below by es ≡ true → least ≤ by → are_rising by fs ≡ true → are_rising least (es ++ fs) ≡ true
followed_rises by [] fs least r b le s = rising_lower fs by least le s
followed_rises by (e ∷ es) fs least r b le s =
    let x = rising_parts least e es r in
    let y = below_parts e es by b in
    rising_with least e (es ++ fs) x.0 x.1 (followed_rises by es fs (e.0 + 1) x.2 y.1 (omega (arith, y.0)) s)

pub followed_is_mask : (by : ℕ) (es fs out : List Pair) → IsMask es → IsMask fs → are_below by es ≡ true → are_below 1048576 (moved_pairs by fs) ≡ true
    → out ≡ es ++ moved_pairs by fs → IsMask out
followed_is_mask by es fs out m n b w q =
    let x = mask_parts es m in
    let y = mask_parts fs n in
    let z = mask_parts (moved_pairs by fs) (moved_is_mask by fs (moved_pairs by fs) n w refl) in
    let r : are_rising by (moved_pairs by fs) ≡ true = rising_lower (moved_pairs by fs) (0 + by) by (omega arith) (moved_rising by fs 0 y.0 w) in
    rw q (and_from (are_rising 0 (es ++ moved_pairs by fs)) (have_bits (es ++ moved_pairs by fs))
    (followed_rises by es (moved_pairs by fs) 0 x.0 b (omega arith) r)
    (list_all-append (λ e. ltb 0 e.1 && ltb e.1 256) es (moved_pairs by fs) ∙ and_from (have_bits es) (have_bits (moved_pairs by fs)) x.1 z.1))

pub followed_bytes : (by : ℕ) (es fs out : List Pair) → out ≡ es ++ moved_pairs by fs
    → (at : ℕ) → mask_at out at ≡ bit_or (mask_at es at) (cond (leb by at) (mask_at fs (at - by)) 0)
followed_bytes by es fs out q at = rw q (mask_append es (moved_pairs by fs) at ∙ ap (bit_or (mask_at es at)) (moved_bytes by fs (moved_pairs by fs) refl at))

-- the joined set of the two is the one followed by the other
pub followed : (by : ℕ) (es fs out : List Pair) → IsMask es → IsMask fs → IsMask out → are_below by es ≡ true → are_below 1048576 (moved_pairs by fs) ≡ true
    → ((at : ℕ) → mask_at out at ≡ bit_or (mask_at es at) (cond (leb by at) (mask_at fs (at - by)) 0)) → out ≡ es ++ moved_pairs by fs
followed by es fs out m n o b w same =
    same_bytes out (es ++ moved_pairs by fs) o (followed_is_mask by es fs (es ++ moved_pairs by fs) m n b w refl)
    (λ at. same at ∙ sym (followed_bytes by es fs (es ++ moved_pairs by fs) refl at))
