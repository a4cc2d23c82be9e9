-- What is written shows the value, and every bit that the value does not hold is 0.
use Rattle.std.specs.Int.{bit_at}
use Rattle.std.proofs.Common.{◌≡◌, ℕ, ◌+◌, ◌-◌, ◌<◌, ◌≤◌, ◌⊎◌, inl, inr, List, ◌++◌, length, get_or, Bool, true, false, ◌&&◌, refl, ap, ◌∙◌, sym, arith, lit<}
use Rattle.std.proofs.lemmas.Nat.Bits.{bit_at-zero}
use Rattle.abi_det.specs.State.{test_holds, is_tested, is_state_ok, imposed}
use Rattle.abi_det.specs.SoundPlacement.{is_imposed, IsTest}
use Rattle.abi_pack.specs.ByteMap.{ByteMap, AreBytes, seen_from, bytes_of}
use Rattle.abi_pack.specs.Packed.{zeros, zero_padded, packed, packed_in}
use Rattle.abi_pack.specs.Plain.{Plain, Plains, list, variant, end, more}
use Rattle.abi_layout.specs.Shape.{Shape, Shapes, atom, fields, sum, last, field, size, size_in}
use Rattle.abi_pack.specs.Shows.{Shows, ShowIn, fits, fits_in, same_sort, holds, holds_in, held_at, start_of, sign_of, holds_test, IsCanonical}
use Rattle.abi_pack.specs.Consistent.{IsConsistent, AreConsistent, IsSide}
use Rattle.abi_layout.specs.declared.part.SumLayout.{SumLayout}
use Rattle.abi_pack.proofs.Atoms.{atom_length, atom_small, atom_canonical, atom_clear}
use Rattle.abi_pack.proofs.Choice.{in_field, behind_field, three_places, and_first, and_second, neither_first, neither_second, two_truths}
use Rattle.abi_pack.proofs.Numbers.{AllBytes}
use Rattle.abi_pack.proofs.Agreed.{agree, agree_in, missing, side_holds, held_there}
use Rattle.abi_pack.proofs.Truths.{sign_state}
use Rattle.abi_pack.proofs.Lists.{zeros_length, zeros_at, before_part, in_part, behind_part, parts_length}
use Rattle.abi_pack.proofs.Imposed.{imposed_length, imposed_small, imposed_kept, imposed_truth}

no_bit : (x k : ℕ) → x ≡ 0 → bit_at x k ≡ 0
no_bit x k e = rw e (bit_at-zero k)

-- ---- a part of a list that begins with zeros

parts_small : (n m : ℕ) (b c : List ℕ) → length b ≡ m → AllBytes b → AllBytes c → AllBytes (zeros n ++ (b ++ c))
parts_small n m b c long sb sc i =
    three_places i n m
    (λ h. rw (before_part n (b ++ c) i h) (lit< tt))
    (λ g l. rw (in_part n m b c i long g l) (sb (i - n)))
    (λ h. rw (behind_part n m b c i long h) (sc (i - (n + m))))

zeros_small : (n : ℕ) → AllBytes (zeros n)
zeros_small n i = rw (zeros_at n i) (lit< tt)

-- ---- a variant at its place, before and after its test is written

pub padded_length : (total shift n : ℕ) (xs : List ℕ) → length xs ≡ n → shift + n ≤ total → length (zero_padded total shift n xs) ≡ total
padded_length total shift n xs long inside =
    parts_length shift n (total - (shift + n)) xs (zeros (total - (shift + n))) long (zeros_length (total - (shift + n))) ∙ omega arith

pub padded_small : (total shift n : ℕ) (xs : List ℕ) → length xs ≡ n → AllBytes xs → AllBytes (zero_padded total shift n xs)
padded_small total shift n xs long small = parts_small shift n xs (zeros (total - (shift + n))) long small (zeros_small (total - (shift + n)))

pub padded_at : (total shift n : ℕ) (xs : List ℕ) (i : ℕ) → length xs ≡ n → i < n → get_or (zero_padded total shift n xs) (shift + i) 0 ≡ get_or xs i 0
padded_at total shift n xs i long h =
    let back : shift + i - shift ≡ i = omega arith in
    in_part shift n xs (zeros (total - (shift + n))) (shift + i) long (omega arith) (omega arith) ∙ ap (λ j. get_or xs j 0) back

-- a bit that a value of the part holds is none of the test's that are written over it
pub apart : (s : Shape) (v : Plain) (first : Bool) (at : SumLayout) → IsSide s first at
    → (i k : ℕ) → i < size s → k < 8 → holds s v i k ≡ true → holds_test at.determinant first (start_of at first + i) k ≡ false
apart s v first at side i k low small held =
    by_truths (is_imposed at.determinant.test (sign_of at first)) (is_tested at.determinant.test (start_of at first + i) k) (two_truths _) (two_truths _)
    (λ imposed own.
    let there : held_at (start_of at first) (size s) (λ j l. holds s v j l) (start_of at first + i) k ≡ true = held_there s v (start_of at first) i k low held in
    let none : held_at (start_of at first) (size s) (λ j l. holds s v j l) (start_of at first + i) k ≡ false =
    side.imposed imposed v (start_of at first + i) k small own in absurd (cc))
  where
    by_truths : (p q : Bool) → (p ≡ true) ⊎ (p ≡ false) → (q ≡ true) ⊎ (q ≡ false) → (p ≡ true → q ≡ true → ⊥) → (p && q) ≡ false
    by_truths true true a b never = absurd (never refl refl)
    by_truths true false a b never = refl
    by_truths false q a b never = refl

-- the bytes of a variant
abbrev variant_bytes : Shape → Bool → SumLayout → List ℕ → List ℕ
variant_bytes s first at xs = imposed at.determinant.test (sign_of at first) (zero_padded at.size (start_of at first) (size s) xs)

pub record IsVariant (s : Shape) (v : Plain) (first : Bool) (at : SumLayout) (g : List ℕ) : Type 0 where
  pub long : length g ≡ at.size
  pub small : AllBytes g
  pub state : is_state_ok at.determinant (bytes_of g) ≡ first
  pub shows : Shows s v (seen_from (start_of at first) (bytes_of g))
  pub clear : (i k : ℕ) → i < at.size → k < 8 → side_holds s v first at i k ≡ false → bit_at (get_or g i 0) k ≡ 0

variant_shows : (s : Shape) (v : Plain) (first : Bool) (at : SumLayout) (xs : List ℕ) → IsConsistent s → IsSide s first at → IsTest at.determinant.test at.size
    → length xs ≡ size s → AllBytes xs → Shows s v (bytes_of xs) → Shows s v (seen_from (start_of at first) (bytes_of (variant_bytes s first at xs)))
variant_shows s v first at xs sound side tested long small shown =
    let shift : ℕ = start_of at first in
    let sign : Bool = sign_of at first in
    let whole : length (zero_padded at.size shift (size s) xs) ≡ at.size = padded_length at.size shift (size s) xs long side.inside in
    let bytes : AllBytes (zero_padded at.size shift (size s) xs) = padded_small at.size shift (size s) xs long small in
    agree s v (bytes_of xs) (seen_from shift (bytes_of (variant_bytes s first at xs))) sound small
    (λ i. imposed_small at.determinant.test at.size sign (zero_padded at.size shift (size s) xs) tested bytes (shift + i))
    (λ i k low eight held. sym
    (imposed_kept at.determinant.test at.size sign (zero_padded at.size shift (size s) xs) (shift + i) k tested (omega arith) eight
    (apart s v first at side i k low eight held)
    ∙ ap (λ x. bit_at x k) (padded_at at.size shift (size s) xs i long low)))
    shown

variant_truth : (s : Shape) (v : Plain) (first : Bool) (at : SumLayout) (xs : List ℕ) → IsSide s first at → IsTest at.determinant.test at.size
    → length xs ≡ size s → Shows s v (seen_from (start_of at first) (bytes_of (variant_bytes s first at xs)))
    → (is_imposed at.determinant.test (sign_of at first) ≡ true) ⊎ (is_imposed at.determinant.test (sign_of at first) ≡ false)
    → test_holds at.determinant.test (bytes_of (variant_bytes s first at xs)) ≡ sign_of at first
variant_truth s v first at xs side tested long shown (inl imposed) =
    let whole : length (zero_padded at.size (start_of at first) (size s) xs) ≡ at.size = padded_length at.size (start_of at first) (size s) xs long side.inside in
    imposed_truth at.determinant.test at.size (sign_of at first) (zero_padded at.size (start_of at first) (size s) xs) tested (omega arith) imposed
variant_truth s v first at xs side tested long shown (inr lacks) =
    missing s v first at (bytes_of (variant_bytes s first at xs)) side shown lacks

placed_clear : (s : Shape) (v : Plain) (shift total : ℕ) (xs : List ℕ) → length xs ≡ size s
    → ((i k : ℕ) → i < size s → k < 8 → holds s v i k ≡ false → bit_at (get_or xs i 0) k ≡ 0)
    → (i k : ℕ) → k < 8 → held_at shift (size s) (λ j l. holds s v j l) i k ≡ false → bit_at (get_or (zero_padded total shift (size s) xs) i 0) k ≡ 0
placed_clear s v shift total xs long clear i k small none =
    three_places i shift (size s)
    (λ h. no_bit _ k (before_part shift (xs ++ zeros (total - (shift + size s))) i h))
    (λ g l. ap (λ x. bit_at x k) (in_part shift (size s) xs (zeros (total - (shift + size s))) i long g l)
    ∙ clear (i - shift) k (omega arith) small (sym (in_field i shift (size s) false (holds s v (i - shift) k) false g l) ∙ none))
    (λ h. no_bit _ k (behind_part shift (size s) xs (zeros (total - (shift + size s))) i long h ∙ zeros_at (total - (shift + size s)) (i - (shift + size s))))

pub written_variant : (s : Shape) (v : Plain) (first : Bool) (at : SumLayout) (xs : List ℕ) → IsConsistent s → IsSide s first at → IsTest at.determinant.test at.size
    → length xs ≡ size s → AllBytes xs → IsCanonical s v (bytes_of xs) → IsVariant s v first at (variant_bytes s first at xs)
written_variant s v first at xs sound is tested long small canon =
    let shift : ℕ = start_of at first in
    let held : ℕ → ℕ → Bool = λ i k. held_at shift (size s) (λ j l. holds s v j l) i k in
    let whole : length (zero_padded at.size shift (size s) xs) ≡ at.size = padded_length at.size shift (size s) xs long is.inside in
    let bytes : AllBytes (zero_padded at.size shift (size s) xs) = padded_small at.size shift (size s) xs long small in
    let shown : Shows s v (seen_from shift (bytes_of (variant_bytes s first at xs))) = variant_shows s v first at xs sound is tested long small canon.shows in
    record {
      long = imposed_length at.determinant.test (sign_of at first) (zero_padded at.size shift (size s) xs) ∙ whole;
      small = λ i. imposed_small at.determinant.test at.size (sign_of at first) (zero_padded at.size shift (size s) xs) tested bytes i;
      state = sign_state at _ first (variant_truth s v first at xs is tested long shown (two_truths _));
      shows = shown;
      clear = λ i k low eight none.
          imposed_kept at.determinant.test at.size (sign_of at first) (zero_padded at.size shift (size s) xs) i k tested (omega arith) eight
          (neither_second (held i k) _ none)
          ∙ placed_clear s v shift at.size xs long canon.clear i k eight (neither_first (held i k) _ none);
    }

-- ---- a field and those behind it

pub same_shows : (s : Shape) (v : Plain) (f g : ByteMap) → IsConsistent s → AreBytes f → AreBytes g → ((i : ℕ) → i < size s → f i ≡ g i) → Shows s v f → Shows s v g
same_shows s v f g sound fb gb same h = agree s v f g sound fb gb (λ i k low small held. ap (λ x. bit_at x k) (same i low)) h

pub same_show_in : (fs : Shapes) (vs : Plains) (f g : ByteMap) → AreConsistent fs → AreBytes f → AreBytes g → ((i : ℕ) → i < size_in fs → f i ≡ g i) → ShowIn fs vs f → ShowIn fs vs g
same_show_in fs vs f g sound fb gb same h = agree_in fs vs f g sound fb gb (λ i k low small held. ap (λ x. bit_at x k) (same i low)) h

field_here : (gap n : ℕ) (b c : List ℕ) (i : ℕ) → length b ≡ n → i < n → get_or b i 0 ≡ get_or (zeros gap ++ (b ++ c)) (gap + i) 0
field_here gap n b c i long h =
    let back : gap + i - gap ≡ i = omega arith in
    sym (in_part gap n b c (gap + i) long (omega arith) (omega arith) ∙ ap (λ j. get_or b j 0) back)

field_behind : (gap n : ℕ) (b c : List ℕ) (i : ℕ) → length b ≡ n → get_or c i 0 ≡ get_or (zeros gap ++ (b ++ c)) (gap + n + i) 0
field_behind gap n b c i long =
    let back : gap + n + i - (gap + n) ≡ i = omega arith in
    sym (behind_part gap n b c (gap + n + i) long (omega arith) ∙ ap (λ j. get_or c j 0) back)

-- ---- every shape

-- n bytes: a gap, a field, and those behind it
whole_length : (gap n m : ℕ) (b c : List ℕ) → length b ≡ m → length c ≡ n - (gap + m) → gap + m ≤ n → length (zeros gap ++ (b ++ c)) ≡ n
whole_length gap n m b c lb lc le = parts_length gap m (n - (gap + m)) b c lb lc ∙ omega arith

mutual
  pub packed_length : (s : Shape) (v : Plain) → IsConsistent s → fits s v ≡ true → length (packed s v) ≡ size s
  packed_length (atom a) v sound fit = atom_length a v fit
  packed_length (fields compound n fs) (list vs) sound fit = packed_in_length n fs vs sound.0 sound.1 fit
  packed_length (sum names side at) (variant kind first v) sound fit =
      imposed_length at.determinant.test (sign_of at first) (zero_padded at.size (start_of at first) (size (side first)) (packed (side first) v))
      ∙ padded_length at.size (start_of at first) (size (side first)) (packed (side first) v)
      (packed_length (side first) v (sound.0 first) (and_second (same_sort names kind) _ fit)) (sound.1.each first).inside
  packed_length _ _ sound fit = absurd (cc)

  pub packed_in_length : (n : ℕ) (fs : Shapes) (vs : Plains) → AreConsistent fs → size_in fs ≤ n → fits_in fs vs ≡ true → length (packed_in n fs vs) ≡ n
  packed_in_length n last end sound le fit = zeros_length n
  packed_in_length n (field gap s fs) (more v vs) sound le fit =
      whole_length gap n (size s) (packed s v) (packed_in (n - (gap + size s)) fs vs)
      (packed_length s v sound.0 (and_first (fits s v) _ fit))
      (packed_in_length (n - (gap + size s)) fs vs sound.1 (omega arith) (and_second (fits s v) _ fit)) (omega arith)
  packed_in_length n _ _ sound le fit = absurd (cc)

mutual
  pub packed_small : (s : Shape) (v : Plain) → IsConsistent s → fits s v ≡ true → AllBytes (packed s v)
  packed_small (atom a) v sound fit i = atom_small a v fit i
  packed_small (fields compound n fs) (list vs) sound fit i = packed_in_small n fs vs sound.0 fit i
  packed_small (sum names side at) (variant kind first v) sound fit i =
      let fit_ : fits (side first) v ≡ true = and_second (same_sort names kind) _ fit in
      imposed_small at.determinant.test at.size (sign_of at first) (zero_padded at.size (start_of at first) (size (side first)) (packed (side first) v)) sound.1.tested
      (padded_small at.size (start_of at first) (size (side first)) (packed (side first) v) (packed_length (side first) v (sound.0 first) fit_)
      (λ j. packed_small (side first) v (sound.0 first) fit_ j)) i
  packed_small _ _ sound fit i = absurd (cc)

  pub packed_in_small : (n : ℕ) (fs : Shapes) (vs : Plains) → AreConsistent fs → fits_in fs vs ≡ true → AllBytes (packed_in n fs vs)
  packed_in_small n last end sound fit i = zeros_small n i
  packed_in_small n (field gap s fs) (more v vs) sound fit i =
      parts_small gap (size s) (packed s v) (packed_in (n - (gap + size s)) fs vs) (packed_length s v sound.0 (and_first (fits s v) _ fit))
      (λ j. packed_small s v sound.0 (and_first (fits s v) _ fit) j) (λ j. packed_in_small (n - (gap + size s)) fs vs sound.1 (and_second (fits s v) _ fit) j) i
  packed_in_small n _ _ sound fit i = absurd (cc)

pub record AreCanonical (n : ℕ) (fs : Shapes) (vs : Plains) (f : ByteMap) : Type 0 where
  pub shows : ShowIn fs vs f
  pub clear : (i k : ℕ) → i < n → k < 8 → holds_in fs vs i k ≡ false → bit_at (f i) k ≡ 0

field_canonical : (n gap : ℕ) (s : Shape) (fs : Shapes) (v : Plain) (vs : Plains) → AreConsistent (field gap s fs) → size_in (field gap s fs) ≤ n
    → fits_in (field gap s fs) (more v vs) ≡ true → IsCanonical s v (bytes_of (packed s v))
    → AreCanonical (n - (gap + size s)) fs vs (bytes_of (packed_in (n - (gap + size s)) fs vs))
    → AreCanonical n (field gap s fs) (more v vs) (bytes_of (packed_in n (field gap s fs) (more v vs)))
field_canonical n gap s fs v vs sound le fit first rest =
    let long : length (packed s v) ≡ size s = packed_length s v sound.0 (and_first (fits s v) _ fit) in
    let more_ : List ℕ = packed_in (n - (gap + size s)) fs vs in
    let whole : AllBytes (packed_in n (field gap s fs) (more v vs)) = packed_in_small n (field gap s fs) (more v vs) sound fit in
    record {
      shows = (
        same_shows s v (bytes_of (packed s v)) (seen_from gap (bytes_of (packed_in n (field gap s fs) (more v vs)))) sound.0
            (packed_small s v sound.0 (and_first (fits s v) _ fit)) (λ i. whole (gap + i))
            (λ i h. field_here gap (size s) (packed s v) more_ i long h) first.shows,
        same_show_in fs vs (bytes_of more_) (seen_from (gap + size s) (bytes_of (packed_in n (field gap s fs) (more v vs)))) sound.1
            (packed_in_small (n - (gap + size s)) fs vs sound.1 (and_second (fits s v) _ fit)) (λ i. whole (gap + size s + i))
            (λ i h. field_behind gap (size s) (packed s v) more_ i long) rest.shows,
      );
      clear = λ i k low small none.
          three_places i gap (size s)
          (λ h. no_bit _ k (before_part gap (packed s v ++ more_) i h))
          (λ g l. ap (λ x. bit_at x k) (in_part gap (size s) (packed s v) more_ i long g l)
          ∙ first.clear (i - gap) k (omega arith) small
          (sym (in_field i gap (size s) false (holds s v (i - gap) k) (holds_in fs vs (i - (gap + size s)) k) g l) ∙ none))
          (λ h. ap (λ x. bit_at x k) (behind_part gap (size s) (packed s v) more_ i long h)
          ∙ rest.clear (i - (gap + size s)) k (omega arith) small
          (sym (behind_field i gap (size s) false (holds s v (i - gap) k) (holds_in fs vs (i - (gap + size s)) k) h) ∙ none));
    }

mutual
  pub packed_canonical : (s : Shape) (v : Plain) → IsConsistent s → fits s v ≡ true → IsCanonical s v (bytes_of (packed s v))
  packed_canonical (atom a) v sound fit =
      record { shows = atom_canonical a v sound fit; clear = λ i k low small none. atom_clear a v i k fit low small none }
  packed_canonical (fields compound n fs) (list vs) sound fit =
      let all : AreCanonical n fs vs (bytes_of (packed_in n fs vs)) = packed_in_canonical n fs vs sound.0 sound.1 fit in
      record { shows = all.shows; clear = all.clear }
  packed_canonical (sum names side at) (variant kind first v) sound fit =
      let s : Shape = side first in
      let fit_ : fits s v ≡ true = and_second (same_sort names kind) _ fit in
      let is : IsVariant s v first at (packed (sum names side at) (variant kind first v)) =
      written_variant s v first at (packed s v) (sound.0 first) (sound.1.each first) sound.1.tested
      (packed_length s v (sound.0 first) fit_) (packed_small s v (sound.0 first) fit_) (packed_canonical (side first) v (sound.0 first) fit_) in
      record { shows = (and_first (same_sort names kind) _ fit, is.state, is.shows); clear = is.clear }
  packed_canonical _ _ sound fit = absurd (cc)

  packed_in_canonical : (n : ℕ) (fs : Shapes) (vs : Plains) → AreConsistent fs → size_in fs ≤ n → fits_in fs vs ≡ true → AreCanonical n fs vs (bytes_of (packed_in n fs vs))
  packed_in_canonical n last end sound le fit = record { shows = tt; clear = λ i k low small none. no_bit _ k (zeros_at n i) }
  packed_in_canonical n (field gap s fs) (more v vs) sound le fit =
      field_canonical n gap s fs v vs sound le fit
      (packed_canonical s v sound.0 (and_first (fits s v) _ fit))
      (packed_in_canonical (n - (gap + size s)) fs vs sound.1 (omega arith) (and_second (fits s v) _ fit))
  packed_in_canonical n _ _ sound le fit = absurd (cc)
