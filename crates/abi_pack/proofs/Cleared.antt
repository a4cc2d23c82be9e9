-- Bytes with 0 in their free bits: which bits decide them, and what they match.
use Rattle.std.specs.Prelude.{nat_lt}
use Rattle.std.specs.List.{list_all, list_any}
use Rattle.std.specs.Int.{bit_at, bit_not, w8}
use Rattle.std.proofs.Common.{◌≡◌, ℕ, zero, suc, ◌<◌, ◌≤◌, ◌⊎◌, inl, inr, List, [], ◌∷◌, length, get_or, take, drop, Bool, true, false, cond, ◌&&◌, not, ◌==◌, ◌-◌, min, bit_and, bit_or, refl, ap, ◌∙◌, sym, subst, arith, lit<}
use Rattle.std.proofs.lemmas.Bool.{cases_lt}
use Rattle.std.proofs.lemmas.Bool.Decides.{nat_tests}
use Rattle.std.proofs.lemmas.List.{ext_get_or, get_or-take, get_or-drop}
use Rattle.std.proofs.lemmas.Nat.{and_le_l}
use Rattle.std.proofs.lemmas.Nat.Bits.{bit_at-lt, bit_at-zero, bit_at_and, bit_at_or, bit_at_not, same_from_bits}
use Rattle.std.proofs.Math.ListN.{get_or-eq_default}
use Rattle.abi_bits.specs.Pairs.{Pair, is_matched}
use Rattle.abi_bits.specs.Mask.{mask_at, IsMask}
use Rattle.abi_bits.specs.Forbidden.{Item, pattern, range, is_match, is_item_below, are_items_below, is_solid_byte, is_solid_item}
use Rattle.abi_bits.proofs.Entries.{mask_at_lt}
use Rattle.abi_pack.specs.Agree.{Agree}
use Rattle.abi_pack.specs.ByteMap.{ByteMap, AreBytes, bytes_of, seen_from, firsts, has}
use Rattle.abi_pack.specs.Raw.{are_bytes_of, are_clear, match_none, are_raw, cleared}
use Rattle.abi_pack.proofs.Choice.{and_first, and_second, and_both, two_truths}
use Rattle.abi_pack.proofs.Numbers.{AllBytes}
use Rattle.abi_pack.proofs.Stored.{firsts_length, firsts_at}
use Rattle.abi_pack.proofs.Truths.{same_byte}

-- ---- one byte and the mask of its free bits

and_zero : (x : ℕ) → bit_and x 0 ≡ 0
and_zero x = same_from_bits (bit_and x 0) 0 (λ k. simp (bit_at_and, bit_at-zero) (omega arith))

zero_and : (m : ℕ) → bit_and 0 m ≡ 0
zero_and m = let low : bit_and 0 m ≤ 0 = and_le_l 0 m in omega arith

and_either : (x a b : ℕ) → bit_and x a ≡ 0 → bit_and x b ≡ 0 → bit_and x (bit_or a b) ≡ 0
and_either x a b l r =
    same_from_bits (bit_and x (bit_or a b)) 0
    (λ k. let left = sym (bit_at_and x a k) ∙ ap (λ y. bit_at y k) l ∙ bit_at-zero k in
    let right = sym (bit_at_and x b k) ∙ ap (λ y. bit_at y k) r ∙ bit_at-zero k in
    simp (bit_at_and, bit_at_or, bit_at-zero) (omega (arith, left, right)))

and_left : (x a b : ℕ) → bit_and x (bit_or a b) ≡ 0 → bit_and x a ≡ 0
and_left x a b h =
    same_from_bits (bit_and x a) 0
    (λ k. let both = ap (λ y. min (bit_at x k) y) (sym (bit_at_or a b k)) ∙ sym (bit_at_and x (bit_or a b) k) ∙ ap (λ y. bit_at y k) h ∙ bit_at-zero k in
    simp (bit_at_and, bit_at-zero) (omega (arith, both)))

and_right : (x a b : ℕ) → bit_and x (bit_or a b) ≡ 0 → bit_and x b ≡ 0
and_right x a b h =
    same_from_bits (bit_and x b) 0
    (λ k. let both = ap (λ y. min (bit_at x k) y) (sym (bit_at_or a b k)) ∙ sym (bit_at_and x (bit_or a b) k) ∙ ap (λ y. bit_at y k) h ∙ bit_at-zero k in
    simp (bit_at_and, bit_at-zero) (omega (arith, both)))

-- the byte without the mask's bits
abbrev without : ℕ → ℕ → ℕ
without x m = bit_and x (bit_not w8 m)

without_bit : (x m k : ℕ) → m < 256 → k < 8 → bit_at (without x m) k ≡ min (bit_at x k) (1 - bit_at m k)
without_bit x m k h low = bit_at_and x (bit_not w8 m) k ∙ ap (min (bit_at x k)) (bit_at_not w8 m k h low)

without_small : (x m : ℕ) → x < 256 → without x m < 256
without_small x m h = let low : without x m ≤ x = and_le_l x (bit_not w8 m) in omega arith

-- nothing is taken where no bit of the mask is set, and none is left of them
without_none : (x m : ℕ) → x < 256 → m < 256 → bit_and x m ≡ 0 → without x m ≡ x
without_none x m xb mb none =
    same_byte (without x m) x (without_small x m xb) xb
    (λ k low. let bit = without_bit x m k mb low in
    let no_ = sym (bit_at_and x m k) ∙ ap (λ y. bit_at y k) none ∙ bit_at-zero k in
    let one = bit_at-lt x k in let other = bit_at-lt m k in omega (arith, bit, no_, one, other))

none_left : (x m : ℕ) → x < 256 → m < 256 → bit_and (without x m) m ≡ 0
none_left x m xb mb =
    same_byte (bit_and (without x m) m) 0 (let low = and_le_l (without x m) m in omega (arith, low, without_small x m xb)) (lit< tt)
    (λ k low. let bit = without_bit x m k mb low in
    let both = bit_at_and (without x m) m k in
    let other = bit_at-lt m k in let none = bit_at-zero k in omega (arith, bit, both, other, none))

-- a bit that the mask has not stays
kept_bit : (x m k : ℕ) → m < 256 → k < 8 → (bit_at m k == 1) ≡ false → bit_at (without x m) k ≡ bit_at x k
kept_bit x m k mb low no_ =
    let bit = without_bit x m k mb low in let one = bit_at-lt x k in let other = bit_at-lt m k in
    let none : bit_at m k ≡ 0 = grind (arith, nat_tests) in omega (arith, bit, one, none)

-- and one that it has goes
gone_bit : (x m k : ℕ) → m < 256 → k < 8 → (bit_at m k == 1) ≡ true → bit_at (without x m) k ≡ 0
gone_bit x m k mb low yes_ =
    let bit = without_bit x m k mb low in
    let some : bit_at m k ≡ 1 = grind (arith, nat_tests) in omega (arith, bit, some)

-- ---- lists

small_each : (xs : List ℕ) → list_all (λ x. nat_lt x 256) xs ≡ true → AllBytes xs
small_each [] h i = lit< tt
small_each (x ∷ xs) h zero = let first : nat_lt x 256 ≡ true = and_first (nat_lt x 256) _ h in grind (arith, nat_tests)
small_each (x ∷ xs) h (suc i) = small_each xs (and_second (nat_lt x 256) _ h) i

small_all : (xs : List ℕ) → AllBytes xs → list_all (λ x. nat_lt x 256) xs ≡ true
small_all [] b = refl
small_all (x ∷ xs) b = let first : nat_lt x 256 ≡ true = (let low : x < 256 = b 0 in grind (arith, nat_tests)) in and_both (nat_lt x 256) _ first (small_all xs (λ i. b (suc i)))

pub clear_at : (free : List Pair) (xs : List ℕ) (i : ℕ) → are_clear free xs ≡ true → bit_and (get_or xs i 0) (mask_at free i) ≡ 0
clear_at [] xs i h = and_zero (get_or xs i 0)
clear_at (e ∷ es) xs i h =
    and_either (get_or xs i 0) (cond (e.0 == i) e.1 0) (mask_at es i) (entry (two_truths (e.0 == i)))
    (clear_at es xs i (and_second (bit_and (get_or xs e.0 0) e.1 == 0) _ h))
  where
    entry : ((e.0 == i) ≡ true) ⊎ ((e.0 == i) ≡ false) → bit_and (get_or xs i 0) (cond (e.0 == i) e.1 0) ≡ 0
    entry (inl here) =
        let first : (bit_and (get_or xs e.0 0) e.1 == 0) ≡ true = and_first (bit_and (get_or xs e.0 0) e.1 == 0) _ h in
        let same : e.0 ≡ i = grind (arith, nat_tests) in
        let none : bit_and (get_or xs e.0 0) e.1 ≡ 0 = grind (arith, nat_tests) in
        rw here (subst (λ j. bit_and (get_or xs j 0) e.1 ≡ 0) same none)
    entry (inr other) = rw other (and_zero (get_or xs i 0))

pub clear_where : (free : List Pair) (xs : List ℕ) → ((i : ℕ) → bit_and (get_or xs i 0) (mask_at free i) ≡ 0) → are_clear free xs ≡ true
clear_where [] xs h = refl
clear_where (e ∷ es) xs h =
    let self : (e.0 == e.0) ≡ true = grind (arith, nat_tests) in
    let none : bit_and (get_or xs e.0 0) e.1 ≡ 0 =
    and_left (get_or xs e.0 0) e.1 (mask_at es e.0) (rw self at (h e.0)) in
    and_both (bit_and (get_or xs e.0 0) e.1 == 0) _ (grind (arith, nat_tests))
    (clear_where es xs (λ i. and_right (get_or xs i 0) (cond (e.0 == i) e.1 0) (mask_at es i) (h i)))

and_swap : (a b : ℕ) → bit_and a b ≡ bit_and b a
and_swap a b = same_from_bits (bit_and a b) (bit_and b a) (λ k. simp bit_at_and (omega arith))

pub all_clear : (free : List Pair) (xs : List ℕ) (n : ℕ) → length xs ≤ n → ((i : ℕ) → i < n → bit_and (mask_at free i) (get_or xs i 0) ≡ 0) → true ≡ are_clear free xs
all_clear free xs n long h = sym (clear_where free xs (λ i. each i (cases_lt i n)))
  where
    each : (i : ℕ) → (i < n) ⊎ (n ≤ i) → bit_and (get_or xs i 0) (mask_at free i) ≡ 0
    each i (inl low) = and_swap (get_or xs i 0) (mask_at free i) ∙ h i low
    each i (inr past) = let none : get_or xs i 0 ≡ 0 = get_or-eq_default xs 0 (omega arith) in rw none (zero_and (mask_at free i))

never : (p : Bool) → (p ≡ true → ⊥) → false ≡ p
never true not_ = absurd (not_ refl)
never false not_ = refl

pub not_clear : (free : List Pair) (xs : List ℕ) (i : ℕ) → (bit_and (mask_at free i) (get_or xs i 0) ≡ 0 → ⊥) → false ≡ are_clear free xs
not_clear free xs i some = never (are_clear free xs) (λ h. some (and_swap (mask_at free i) (get_or xs i 0) ∙ clear_at free xs i h))

-- ---- what bytes as they stand keep

pub record IsRaw (n : ℕ) (free : List Pair) (its : List Item) (xs : List ℕ) : Type 0 where
  pub long : length xs ≡ n
  pub bytes : AllBytes xs
  pub clear : (i : ℕ) → bit_and (get_or xs i 0) (mask_at free i) ≡ 0
  pub legal : match_none its (bytes_of xs) ≡ true

pub raw_is : (n : ℕ) (free : List Pair) (its : List Item) (xs : List ℕ) → are_raw n free its xs ≡ true → IsRaw n free its xs
raw_is n free its xs h =
    let front : (are_bytes_of n xs && are_clear free xs) ≡ true = and_first (are_bytes_of n xs && are_clear free xs) _ h in
    let whole : are_bytes_of n xs ≡ true = and_first (are_bytes_of n xs) _ front in
    let count : (length xs == n) ≡ true = and_first (length xs == n) _ whole in
    record {
      long = grind (arith, nat_tests);
      bytes = small_each xs (and_second (length xs == n) _ whole);
      clear = λ i. clear_at free xs i (and_second (are_bytes_of n xs) _ front);
      legal = and_second (are_bytes_of n xs && are_clear free xs) _ h;
    }

pub raw_where : (n : ℕ) (free : List Pair) (its : List Item) (xs : List ℕ) → IsRaw n free its xs → are_raw n free its xs ≡ true
raw_where n free its xs is =
    let count : (length xs == n) ≡ true = (let long = is.long in grind (arith, nat_tests)) in
    and_both (are_bytes_of n xs && are_clear free xs) _
    (and_both (are_bytes_of n xs) _ (and_both (length xs == n) _ count (small_all xs is.bytes)) (clear_where free xs is.clear)) is.legal

pub other_count : (n : ℕ) (free : List Pair) (its : List Item) (xs : List ℕ) → (length xs ≡ n → ⊥) → false ≡ are_raw n free its xs
other_count n free its xs other = never (are_raw n free its xs) (λ h. other (raw_is n free its xs h).long)

pub free_bit_set : (n : ℕ) (free : List Pair) (its : List Item) (xs : List ℕ) → false ≡ are_clear free xs → false ≡ are_raw n free its xs
free_bit_set n free its xs some =
    never (are_raw n free its xs) (λ h. let clear : are_clear free xs ≡ true = clear_where free xs (raw_is n free its xs h).clear in absurd (cc))

pub raw_last : (n : ℕ) (free : List Pair) (its : List Item) (xs : List ℕ) (r : Bool) → length xs ≡ n → AllBytes xs → true ≡ are_clear free xs
    → r ≡ list_any (is_match (bytes_of xs)) its → not r ≡ are_raw n free its xs
raw_last n free its xs r long small clear is =
    let count : (length xs == n) ≡ true = grind (arith, nat_tests) in rw (count, small_all xs small, ← clear) (ap not is)

-- ---- items in bytes without free bits

solid_byte : (n : ℕ) (free : List Pair) (at : ℕ) → is_solid_byte n free at ≡ true → (at < n) × (mask_at free at ≡ 0)
solid_byte n free at h =
    let low : nat_lt at n ≡ true = and_first (nat_lt at n) _ h in
    let none : (mask_at free at == 0) ≡ true = and_second (nat_lt at n) _ h in (grind (arith, nat_tests), grind (arith, nat_tests))

-- the images have the same byte wherever an item may look
abbrev pub SameSolid : ℕ → List Pair → ByteMap → ByteMap → Type 0
SameSolid n free f g = (i : ℕ) → i < n → mask_at free i ≡ 0 → f i ≡ g i

-- what an item says depends on the bytes that it names alone
same_matched : (p : ℕ → Bool) (f g : ByteMap) (ps : List Pair) → ((i : ℕ) → p i ≡ true → f i ≡ g i) → list_all (λ q. p q.0) ps ≡ true → is_matched ps f ≡ is_matched ps g
same_matched p f g [] same h = refl
same_matched p f g (q ∷ ps) same h =
    let here : f q.0 ≡ g q.0 = same q.0 (and_first (p q.0) _ h) in
    let rest : is_matched ps f ≡ is_matched ps g = same_matched p f g ps same (and_second (p q.0) _ h) in
    rw (here, rest) refl

same_none : (p : Item → Bool) (f g : ByteMap) (its : List Item) → ((it : Item) → p it ≡ true → is_match f it ≡ is_match g it) → list_all p its ≡ true
    → match_none its f ≡ match_none its g
same_none p f g its same h = ap not (any its h)
  where
    any : (its : List Item) → list_all p its ≡ true → list_any (is_match f) its ≡ list_any (is_match g) its
    any [] h = refl
    any (it ∷ its) h =
        let here : is_match f it ≡ is_match g it = same it (and_first (p it) _ h) in
        let rest : list_any (is_match f) its ≡ list_any (is_match g) its = any its (and_second (p it) _ h) in
        rw (here, rest) refl

solid_match : (n : ℕ) (free : List Pair) (f g : ByteMap) → SameSolid n free f g → (it : Item) → is_solid_item n free it ≡ true → is_match f it ≡ is_match g it
solid_match n free f g same (pattern ps) h =
    same_matched (is_solid_byte n free) f g ps (λ i solid. let at = solid_byte n free i solid in same i at.0 at.1) h
solid_match n free f g same (range at least greatest) h =
    let place = solid_byte n free at (and_first (is_solid_byte n free at) _ h) in
    let here : f at ≡ g at = same at place.0 place.1 in rw here refl

pub solid_none : (n : ℕ) (free : List Pair) (f g : ByteMap) (its : List Item) → SameSolid n free f g → list_all (is_solid_item n free) its ≡ true
    → match_none its f ≡ match_none its g
solid_none n free f g its same h = same_none (is_solid_item n free) f g its (solid_match n free f g same) h

below_match : (n : ℕ) (f g : ByteMap) → ((i : ℕ) → i < n → f i ≡ g i) → (it : Item) → is_item_below n it ≡ true → is_match f it ≡ is_match g it
below_match n f g same (pattern ps) h = same_matched (λ i. nat_lt i n) f g ps (λ i low. same i (grind (arith, nat_tests))) h
below_match n f g same (range at least greatest) h = let here : f at ≡ g at = same at (grind (arith, nat_tests)) in rw here refl

pub below_none : (n : ℕ) (f g : ByteMap) (its : List Item) → ((i : ℕ) → i < n → f i ≡ g i) → are_items_below n its ≡ true → match_none its f ≡ match_none its g
below_none n f g its same h = same_none (is_item_below n) f g its (below_match n f g same) h

-- and so of n bytes of a list from an offset on
pub cut_none : (n at m : ℕ) (xs : List ℕ) (its : List Item) → m ≡ n → are_items_below n its ≡ true
    → match_none its (bytes_of (take m (drop at xs))) ≡ match_none its (seen_from at (bytes_of xs))
cut_none n at m xs its e h =
    below_none n (bytes_of (take m (drop at xs))) (seen_from at (bytes_of xs)) its
    (λ i low. get_or-take m (drop at xs) i 0 (omega arith) ∙ get_or-drop at xs i 0) h

weaker : {X : Type 0} (p q : X → Bool) → ((x : X) → p x ≡ true → q x ≡ true) → (xs : List X) → list_all p xs ≡ true → list_all q xs ≡ true
weaker p q each [] h = refl
weaker p q each (x ∷ xs) h = and_both (q x) _ (each x (and_first (p x) _ h)) (weaker p q each xs (and_second (p x) _ h))

solid_below : (n : ℕ) (free : List Pair) (it : Item) → is_solid_item n free it ≡ true → is_item_below n it ≡ true
solid_below n free (pattern ps) h =
    weaker (λ (p : Pair). is_solid_byte n free p.0) (λ p. nat_lt p.0 n) (λ p solid. and_first (nat_lt p.0 n) _ solid) ps h
solid_below n free (range at least greatest) h = and_first (nat_lt at n) _ (and_first (is_solid_byte n free at) _ h)

pub solid_items_below : (n : ℕ) (free : List Pair) (its : List Item) → list_all (is_solid_item n free) its ≡ true → are_items_below n its ≡ true
solid_items_below n free its h = weaker (is_solid_item n free) (is_item_below n) (solid_below n free) its h

-- ---- the first bytes, cleared

pub cleared_length : (free : List Pair) (n : ℕ) (f : ByteMap) → length (cleared free n f) ≡ n
cleared_length free n f = firsts_length n (λ i. without (f i) (mask_at free i))

pub cleared_at : (free : List Pair) (n : ℕ) (f : ByteMap) (i : ℕ) → i < n → get_or (cleared free n f) i 0 ≡ without (f i) (mask_at free i)
cleared_at free n f i h = firsts_at n (λ i. without (f i) (mask_at free i)) i h

firsts_same : (n : ℕ) (f g : ByteMap) → ((i : ℕ) → i < n → f i ≡ g i) → firsts n f ≡ firsts n g
firsts_same zero f g same = refl
firsts_same (suc n) f g same =
    let rest : firsts n f ≡ firsts n g = firsts_same n f g (λ i h. same i (omega arith)) in
    let last_ : f n ≡ g n = same n (omega arith) in rw (rest, last_) refl

-- the bits that are held
abbrev pub raw_held : ℕ → List Pair → ℕ → ℕ → Bool
raw_held n free i k = nat_lt i n && not (has free i k)

held_raw : (n : ℕ) (free : List Pair) (i k : ℕ) → i < n → has free i k ≡ false → raw_held n free i k ≡ true
held_raw n free i k low none = let inside : nat_lt i n ≡ true = grind (arith, nat_tests) in rw (inside, none) refl

pub raw_free : (n : ℕ) (free : List Pair) (i k : ℕ) → raw_held n free i k ≡ true → has free i k ≡ false
raw_free n free i k held = by_truth (has free i k) (and_second (nat_lt i n) _ held)
  where
    by_truth : (p : Bool) → not p ≡ true → p ≡ false
    by_truth true h = absurd (cc)
    by_truth false h = refl

-- bits that are not held are free
pub raw_unheld : (n : ℕ) (free : List Pair) (i k : ℕ) → i < n → raw_held n free i k ≡ false → has free i k ≡ true
raw_unheld n free i k low none =
    let inside : nat_lt i n ≡ true = grind (arith, nat_tests) in by_truth (has free i k) (rw inside at none)
  where
    by_truth : (p : Bool) → not p ≡ false → p ≡ true
    by_truth true h = refl
    by_truth false h = absurd (cc)

-- images that agree at the held bits are cleared to the same bytes
pub agree_cleared : (n : ℕ) (free : List Pair) (f g : ByteMap) → IsMask free → AreBytes f → AreBytes g → Agree (λ i k. raw_held n free i k) n f g
    → cleared free n f ≡ cleared free n g
agree_cleared n free f g is fb gb same =
    firsts_same n (λ i. without (f i) (mask_at free i)) (λ i. without (g i) (mask_at free i))
    (λ i low. same_byte (without (f i) (mask_at free i)) (without (g i) (mask_at free i)) (without_small (f i) _ (fb i)) (without_small (g i) _ (gb i))
    (λ k eight. each i k low eight (two_truths (has free i k))))
  where
    each : (i k : ℕ) → i < n → k < 8 → (has free i k ≡ true) ⊎ (has free i k ≡ false)
        → bit_at (without (f i) (mask_at free i)) k ≡ bit_at (without (g i) (mask_at free i)) k
    each i k low eight (inl yes_) = gone_bit (f i) (mask_at free i) k (mask_at_lt free i is) eight yes_ ∙ sym (gone_bit (g i) (mask_at free i) k (mask_at_lt free i is) eight yes_)
    each i k low eight (inr no_) =
        kept_bit (f i) (mask_at free i) k (mask_at_lt free i is) eight no_ ∙ same i k low eight (held_raw n free i k low no_)
        ∙ sym (kept_bit (g i) (mask_at free i) k (mask_at_lt free i is) eight no_)

-- and have the same bytes where none is free
pub agree_solid : (n : ℕ) (free : List Pair) (f g : ByteMap) → AreBytes f → AreBytes g → Agree (λ i k. raw_held n free i k) n f g → SameSolid n free f g
agree_solid n free f g fb gb same i low none =
    same_byte (f i) (g i) (fb i) (gb i)
    (λ k eight. same i k low eight (held_raw n free i k low (ap (λ m. bit_at m k == 1) none ∙ ap (λ b. b == 1) (bit_at-zero k))))

-- images that are cleared to the same bytes agree at the held bits
pub cleared_agree : (n : ℕ) (free : List Pair) (f g : ByteMap) → IsMask free → cleared free n f ≡ cleared free n g → Agree (λ i k. raw_held n free i k) n f g
cleared_agree n free f g is same i k low eight held =
    let no_ : has free i k ≡ false = raw_free n free i k held in
    let bytes : without (f i) (mask_at free i) ≡ without (g i) (mask_at free i) = sym (cleared_at free n f i low) ∙ ap (λ xs. get_or xs i 0) same ∙ cleared_at free n g i low in
    sym (kept_bit (f i) (mask_at free i) k (mask_at_lt free i is) eight no_) ∙ ap (λ x. bit_at x k) bytes ∙ kept_bit (g i) (mask_at free i) k (mask_at_lt free i is) eight no_

-- clear bytes are cleared to themselves
pub clear_cleared : (n : ℕ) (free : List Pair) (xs : List ℕ) → IsMask free → length xs ≡ n → AllBytes xs → ((i : ℕ) → bit_and (get_or xs i 0) (mask_at free i) ≡ 0)
    → xs ≡ cleared free n (bytes_of xs)
clear_cleared n free xs is long b none =
    ext_get_or 0 xs (cleared free n (bytes_of xs)) (long ∙ sym (cleared_length free n (bytes_of xs)))
    (λ i h. let low : i < n = omega (arith, h, long) in
    sym (cleared_at free n (bytes_of xs) i low ∙ without_none (get_or xs i 0) (mask_at free i) (b i) (mask_at_lt free i is) (none i)))

past_end : (free : List Pair) (n : ℕ) (f : ByteMap) (i : ℕ) → n ≤ i → get_or (cleared free n f) i 0 ≡ 0
past_end free n f i h = let past : length (cleared free n f) ≤ i = rw (cleared_length free n f) h in get_or-eq_default (cleared free n f) 0 past

-- cleared bytes are such bytes
pub cleared_raw : (n : ℕ) (free : List Pair) (its : List Item) (f : ByteMap) → IsMask free → list_all (is_solid_item n free) its ≡ true → AreBytes f → match_none its f ≡ true
    → IsRaw n free its (cleared free n f)
cleared_raw n free its f is solid fb legal = record {
  long = cleared_length free n f;
  bytes = λ i. small i (cases_lt i n);
  clear = λ i. clear i (cases_lt i n);
  legal = solid_none n free (bytes_of (cleared free n f)) f its
      (λ i low none. cleared_at free n f i low ∙ without_none (f i) (mask_at free i) (fb i) (mask_at_lt free i is) (ap (bit_and (f i)) none ∙ and_zero (f i))) solid ∙ legal;
}
  where
    small : (i : ℕ) → (i < n) ⊎ (n ≤ i) → get_or (cleared free n f) i 0 < 256
    small i (inl h) = rw (cleared_at free n f i h) (without_small (f i) (mask_at free i) (fb i))
    small i (inr h) = rw (past_end free n f i h) (lit< tt)

    clear : (i : ℕ) → (i < n) ⊎ (n ≤ i) → bit_and (get_or (cleared free n f) i 0) (mask_at free i) ≡ 0
    clear i (inl h) = rw (cleared_at free n f i h) (none_left (f i) (mask_at free i) (fb i) (mask_at_lt free i is))
    clear i (inr h) = rw (past_end free n f i h) (zero_and (mask_at free i))
