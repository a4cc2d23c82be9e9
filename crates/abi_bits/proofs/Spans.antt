-- What bytes in a row tell of the set whose bytes they are.
use Rattle.std.proofs.Common.{◌≡◌, ℕ, suc, ◌+◌, ◌-◌, ◌<◌, ◌≤◌, true, false, List, [], ◌∷◌, ◌++◌, cond, eqb, leb, bit_or, length, get_or, replicate, min, max, refl, sym, ◌∙◌, inl, inr, arith}
use Rattle.std.specs.Option.{option_map}
use Rattle.std.proofs.lemmas.Bool.{ne_eqb, eqb-true, eqb-false, le-leb, lt-leb, cases_lt, cases_Bool}
use Rattle.std.proofs.lemmas.Bool.Decides.{nat_tests}
use Rattle.std.proofs.lemmas.Grind.{common_steps}
use Rattle.std.proofs.lemmas.Nat.{or_lt, le_or_l, le_or_r}
use Rattle.std.proofs.lemmas.List.{length-replicate, get_or-replicate, get_or_past}
use Rattle.abi_bits.specs.Pairs.{Pair, are_below, is_empty, moved_pairs}
use Rattle.abi_bits.specs.Mask.{mask_at, IsMask, full_between, least_bit, lowest}
use Rattle.abi_bits.specs.Span.{byte_in, entries_in, first_in, IsSpan, start_with}
use Rattle.abi_bits.proofs.Entries.{mask_append, byte_list, byte_list_at, mask_byte, mask_at_lt, zero_past, told_bytes, none_before, entries_are_mask, entries_lie_below, below_wider, same_bytes}
use Rattle.abi_bits.proofs.Sets.{moved_at, moved_is_mask}
use Rattle.abi_bits.proofs.Least.{least_by_bytes}

pub byte_reached : (start : ℕ) (bs : List ℕ) (at : ℕ) → start ≤ at → byte_in start bs at ≡ get_or bs (at - start) 0
byte_reached start bs at le = grind (arith, nat_tests)

pub first_byte : (start b : ℕ) (bs : List ℕ) → byte_in start (b ∷ bs) start ≡ b
first_byte start b bs = let e : start - start ≡ 0 = omega arith in byte_reached start (b ∷ bs) start (omega arith) ∙ rw e refl

pub byte_before : (start : ℕ) (bs : List ℕ) (at : ℕ) → at < start → byte_in start bs at ≡ 0
byte_before start bs at lt = grind (arith, nat_tests)

pub byte_past : (start : ℕ) (bs : List ℕ) (at : ℕ) → start + length bs ≤ at → byte_in start bs at ≡ 0
byte_past start bs at le = grind (arith, nat_tests, get_or_past)

-- the byte of the set at an offset is the one that stands there
pub span_at : (start : ℕ) (bs : List ℕ) (at : ℕ) → mask_at (entries_in start bs) at ≡ byte_in start bs at
span_at start bs = told_bytes (byte_in start bs) (start + length bs) (entries_in start bs) refl (byte_past start bs)

pub span_before : (start : ℕ) (bs : List ℕ) (at : ℕ) → at < start → mask_at (entries_in start bs) at ≡ 0
span_before start bs at lt = span_at start bs at ∙ byte_before start bs at lt

pub span_past : (start : ℕ) (bs : List ℕ) (at : ℕ) → start + length bs ≤ at → mask_at (entries_in start bs) at ≡ 0
span_past start bs at le = span_at start bs at ∙ byte_past start bs at le

pub byte_lt : (start : ℕ) (bs : List ℕ) (at : ℕ) → IsMask (entries_in start bs) → byte_in start bs at < 256
byte_lt start bs at m = rw (span_at start bs at) at (mask_at_lt (entries_in start bs) at m)

-- bytes below the greatest size are those of a set
pub span_mask : (start : ℕ) (bs : List ℕ) → start + length bs ≤ 1048576 → ((at : ℕ) → byte_in start bs at < 256) → IsMask (entries_in start bs)
span_mask start bs le lt = entries_are_mask (byte_in start bs) (start + length bs) le lt

pub some_first : (start at : ℕ) (bs : List ℕ) → at ≡ start → IsSpan start bs → 0 < length bs → 0 < byte_in start bs at
some_first start at bs q s some = grind (arith, nat_tests)

pub some_last : (start at : ℕ) (bs : List ℕ) → at + 1 ≡ start + length bs → (0 < length bs → 0 < get_or bs (length bs - 1) 0) → 0 < length bs → 0 < byte_in start bs at
some_last start at bs q last some = grind (arith, nat_tests)

-- the last byte has a bit, so that the set lies below no less than their end
pub span_end : (n start : ℕ) (bs : List ℕ) → IsSpan start bs → 0 < length bs → are_below n (entries_in start bs) ≡ true → start + length bs ≤ n
span_end n start bs s some below = elim (cases_lt n (start + length bs)) [
  | inr le ↦ le
  | inl lt ↦
      let last : ℕ = start + length bs - 1 in
      let none : mask_at (entries_in start bs) last ≡ 0 = zero_past (entries_in start bs) n last below (omega (arith, lt)) in
      absurd (omega (arith, some_last start last bs (omega (arith, some)) s.last some, sym (span_at start bs last) ∙ none))
]

pub below_end : (n start : ℕ) (bs : List ℕ) → IsSpan start bs → 0 < length bs → are_below n (entries_in start bs) ≡ leb (start + length bs) n
below_end n start bs s some = elim (cases_lt n (start + length bs)) [
  | inr le ↦ below_wider (entries_in start bs) (start + length bs) n (entries_lie_below (byte_in start bs) (start + length bs)) le ∙ sym (le-leb (start + length bs) n le)
  | inl lt ↦ elim (cases_Bool (are_below n (entries_in start bs))) [
    | inl below ↦ absurd (omega (arith, lt, span_end n start bs s some below))
    | inr past ↦ past ∙ sym (lt-leb (start + length bs) n lt)
  ]
]

-- without bytes there is no entry
pub span_none : (start : ℕ) → entries_in start [] ≡ []
span_none start = none_before (byte_in start []) (start + 0) (λ k lt. byte_before start [] k (omega (arith, lt)))

pub no_entry : (start : ℕ) (bs row : List ℕ) (es : List Pair) → entries_in start bs ≡ es → row ≡ bs → true ≡ eqb (length row) 0 → es ≡ []
no_entry start bs [] es view same none = sym view ∙ rw (← same) (span_none start)
no_entry start bs (b ∷ row) es view same none = absurd (omega (arith, eqb-true (suc (length row)) 0 (sym none)))

pub none_span : (start : ℕ) → start ≤ 1048576 → IsSpan start []
none_span start le = record {
  within = omega (arith, le);
  mask = rw (span_none start) refl;
  first = λ h. absurd (omega (arith, h));
  last = λ h. absurd (omega (arith, h));
}

pub span_is_empty : (start n : ℕ) (bs : List ℕ) → IsSpan start bs → n ≡ length bs → eqb n 0 ≡ is_empty (entries_in start bs)
span_is_empty start n [] s q = rw (span_none start, q) refl
span_is_empty start n (b ∷ bs) s q =
    rw q (some_entry (entries_in start (b ∷ bs)) start (rw (span_at start (b ∷ bs) start) (some_first start start (b ∷ bs) refl s (omega arith))))
  where
    some_entry : (es : List Pair) (at : ℕ) → 0 < mask_at es at → eqb (suc (length bs)) 0 ≡ is_empty es
    some_entry [] at some = absurd (omega (arith, some))
    some_entry (e ∷ es) at some = ne_eqb (suc (length bs)) 0 (λ q. absurd (omega (arith, q)))

-- the least bit is in the first byte
pub span_least : (start : ℕ) (bs : List ℕ) → IsSpan start bs → least_bit (entries_in start bs) ≡ option_map (λ e. (e.0, lowest e.1)) (first_in start bs)
span_least start [] s = rw (span_none start) refl
span_least start (b ∷ bs) s =
    let here : mask_at (entries_in start (b ∷ bs)) start ≡ b = span_at start (b ∷ bs) start ∙ first_byte start b bs in
    rw here at (least_by_bytes (entries_in start (b ∷ bs)) start s.mask (rw here (s.first (omega arith))) (λ k lt. span_before start (b ∷ bs) k lt))

-- bytes that may begin anywhere, as long as there are none, begin at `own`
pub same_start : (own start at : ℕ) (bs : List ℕ) → own ≡ start_with start bs at → entries_in own bs ≡ entries_in start bs
same_start own start at [] q = span_none own ∙ sym (span_none start)
same_start own start at (b ∷ bs) q = let e : own ≡ start = q in rw e refl

pub free_start : (own start at : ℕ) (bs : List ℕ) → own ≡ start_with start bs at → length bs ≡ 0 → own ≡ at
free_start own start at [] q none = q
free_start own start at (b ∷ bs) q none = absurd (omega (arith, none))

pub own_span : (own start at : ℕ) (bs : List ℕ) → own ≡ start_with start bs at → at ≤ 1048576 → IsSpan start bs → IsSpan own bs
own_span own start at [] q le s = let e : own ≡ at = q in record {
  within = omega (arith, e, le);
  mask = rw (same_start own start at [] q) s.mask;
  first = s.first;
  last = s.last;
}
own_span own start at (b ∷ bs) q le s = let e : own ≡ start = q in rw e s

-- a byte past them all stands past their end
pub past_end : (own start at : ℕ) (bs : List ℕ) → own ≡ start_with start bs at → IsSpan start bs → are_below at (entries_in start bs) ≡ true → own + length bs ≤ at
past_end own start at [] q s below = let e : own ≡ at = q in omega (arith, e)
past_end own start at (b ∷ bs) q s below = let e : own ≡ start = q in rw e (span_end at start (b ∷ bs) s (omega arith) below)

-- one byte with a bit
single_at : (at m x : ℕ) → byte_in at (m ∷ []) x ≡ cond (eqb at x) m 0
single_at at m x = grind (arith, nat_tests, common_steps, byte_past)

pub single_span : (at m : ℕ) → at < 1048576 → 0 < m → m < 256 → IsSpan at (m ∷ [])
single_span at m lt some byte = record {
  within = omega (arith, lt);
  mask = span_mask at (m ∷ []) (omega (arith, lt)) (λ x. rw (single_at at m x) (elim (cases_Bool (eqb at x)) [ inl q ↦ rw q byte | inr q ↦ rw q (omega arith) ]));
  first = λ h. some;
  last = λ h. some;
}

-- a byte that is added past them all is one more entry
pub pushed : (at m : ℕ) (es new : List Pair) → IsMask es → IsMask new → are_below at es ≡ true → at < 1048576 → m < 256
    → ((x : ℕ) → mask_at new x ≡ bit_or (mask_at es x) (byte_in at (m ∷ []) x)) → new ≡ es ++ byte_list at m
pushed at m es new i j below lt byte told =
    same_bytes new (es ++ byte_list at m) j (mask_byte es at m i below lt byte) (λ x.
    told x ∙ rw (single_at at m x, mask_append es (byte_list at m) x, byte_list_at at m x) refl)

-- the same bytes further on, where they stay below the greatest size
byte_shifts : (by start at : ℕ) (bs : List ℕ) → byte_in (start + by) bs at ≡ cond (leb by at) (byte_in start bs (at - by)) 0
byte_shifts by start at bs = grind (arith, nat_tests)

pub shifted : (by start : ℕ) (bs row : List ℕ) (es : List Pair) → IsSpan start bs → entries_in start bs ≡ es → row ≡ bs → false ≡ eqb (length row) 0
    → are_below 1048576 (moved_pairs by es) ≡ true → IsSpan (start + by) row × (entries_in (start + by) row ≡ moved_pairs by es)
shifted by start bs row es s view same some below =
    let some : 0 < length row = omega (arith, eqb-false (length row) 0 (sym some)) in
    let s : IsSpan start row = rw same s in
    let view : entries_in start row ≡ es = rw same view in
    let moved : IsMask (moved_pairs by es) = moved_is_mask by es (moved_pairs by es) (rw (← view) s.mask) below refl in
    let told : (at : ℕ) → mask_at (moved_pairs by es) at ≡ byte_in (start + by) row at =
    λ at. rw (← view, moved_at by (entries_in start row) at, span_at start row (at - by)) (sym (byte_shifts by start at row)) in
    let within : (start + by) + length row ≤ 1048576 = elim (cases_lt 1048576 ((start + by) + length row)) [
      | inr le ↦ le
      | inl lt ↦
          let last : ℕ = (start + by) + length row - 1 in
          let none : mask_at (moved_pairs by es) last ≡ 0 = zero_past (moved_pairs by es) 1048576 last below (omega (arith, lt)) in
          absurd (omega (arith, some_last (start + by) last row (omega (arith, some)) s.last some, sym (told last) ∙ none))
    ] in
    let is_mask : IsMask (entries_in (start + by) row) = span_mask (start + by) row within (λ at. rw told at (mask_at_lt (moved_pairs by es) at moved)) in (
      record {
        within = within;
        mask = is_mask;
        first = s.first;
        last = s.last;
      },
      same_bytes (entries_in (start + by) row) (moved_pairs by es) is_mask moved (λ at. span_at (start + by) row at ∙ sym (told at)),
    )

-- bytes put before these, so that they begin at `start`
byte_from : (start own k : ℕ) (bs : List ℕ) → start ≤ own → cond (leb (own - start) k) (get_or bs (k - (own - start)) 0) 0 ≡ byte_in own bs (start + k)
byte_from start own k bs le = grind (arith, nat_tests)

-- what is told of two rows of bytes joined into one from `start` on
pub record Joined (start own from : ℕ) (bs cs new : List ℕ) : Type 0 where
  pub least : start ≡ min own from
  pub greatest : start + length new ≡ max (own + length bs) (from + length cs)
  pub bytes : (k : ℕ) → get_or new k 0 ≡ bit_or (byte_in own bs (start + k)) (byte_in from cs (start + k))

pub joined_from : (start own from top : ℕ) (bs cs wide new : List ℕ) → start ≡ min own from → top ≡ max (own + length bs) (from + length cs) → length wide ≡ top - start
    → ((k : ℕ) → get_or wide k 0 ≡ cond (leb (own - start) k) (get_or bs (k - (own - start)) 0) 0) → length new ≡ length wide
    → ((k : ℕ) → get_or new k 0 ≡ bit_or (get_or wide k 0) (cond (leb (from - start) k) (get_or cs (k - (from - start)) 0) 0)) → Joined start own from bs cs new
joined_from start own from top bs cs wide new least greatest long widened same joined = record {
  least = least;
  greatest = omega (arith, least, greatest, long, same);
  bytes = λ k. joined k ∙ rw (widened k, byte_from start own k bs (omega (arith, least)), byte_from start from k cs (omega (arith, least))) refl;
}

joined_byte : (start own from : ℕ) (bs cs new : List ℕ) → Joined start own from bs cs new → (at : ℕ) → byte_in start new at ≡ bit_or (byte_in own bs at) (byte_in from cs at)
joined_byte start own from bs cs new j at = by_bytes j.least j.bytes
  where
    by_bytes : start ≡ min own from → ((k : ℕ) → get_or new k 0 ≡ bit_or (byte_in own bs (start + k)) (byte_in from cs (start + k))) → byte_in start new at ≡ bit_or (byte_in own bs at) (byte_in from cs at)
    by_bytes least bytes = grind (arith, nat_tests)

pub joined_at : (start own from : ℕ) (bs cs new : List ℕ) → Joined start own from bs cs new
    → (at : ℕ) → mask_at (entries_in start new) at ≡ bit_or (mask_at (entries_in own bs) at) (byte_in from cs at)
joined_at start own from bs cs new j at = rw (span_at start new at, span_at own bs at) (joined_byte start own from bs cs new j at)

left_some : (a b : ℕ) → 0 < a → 0 < bit_or a b
left_some a b some = omega (arith, some, le_or_l a b)

right_some : (a b : ℕ) → 0 < b → 0 < bit_or a b
right_some a b some = omega (arith, some, le_or_r a b)

-- the first and the last byte of the joined row are those of one of the two
pub joined_span : (start own from : ℕ) (bs cs new : List ℕ) → IsSpan own bs → IsSpan from cs → 0 < length cs → (length bs ≡ 0 → own ≡ from) → Joined start own from bs cs new → IsSpan start new
joined_span start own from bs cs new s t some none j =
    let within : start + length new ≤ 1048576 = omega (arith, j.greatest, s.within, t.within) in
    record {
      within = within;
      mask = span_mask start new within (λ at. rw (joined_byte start own from bs cs new j at) (or_lt 8 (byte_in own bs at) (byte_in from cs at) (byte_lt own bs at s.mask) (byte_lt from cs at t.mask)));
      first = λ h. rw (j.bytes 0) (elim (cases_lt own from) [
        | inl lt ↦ left_some _ (byte_in from cs (start + 0)) (some_first own (start + 0) bs (omega (arith, j.least, lt)) s (elim (cases_lt 0 (length bs)) [ inl i ↦ i | inr i ↦ absurd (omega (arith, none (omega (arith, i)), lt)) ]))
        | inr le ↦ right_some (byte_in own bs (start + 0)) _ (some_first from (start + 0) cs (omega (arith, j.least, le)) t some)
      ]);
      last = λ h. rw (j.bytes (length new - 1)) (elim (cases_lt (from + length cs) (own + length bs)) [
        | inl lt ↦ left_some _ (byte_in from cs (start + (length new - 1))) (some_last own (start + (length new - 1)) bs (omega (arith, j.greatest, lt, h)) s.last (elim (cases_lt 0 (length bs)) [ inl i ↦ i | inr i ↦ absurd (omega (arith, none (omega (arith, i)), lt, i)) ]))
        | inr le ↦ right_some (byte_in own bs (start + (length new - 1))) _ (some_last from (start + (length new - 1)) cs (omega (arith, j.greatest, le, h)) t.last some)
      ]);
    }

full_byte : (from count at : ℕ) → byte_in from (replicate count 255) at ≡ full_between from (from + count) at
full_byte from count at = grind (arith, nat_tests, common_steps)

-- whole bytes in a row
pub full_span : (from count : ℕ) → from + count ≤ 1048576 → IsSpan from (replicate count 255)
full_span from count le = record {
  within = omega (arith, le, long);
  mask = span_mask from (replicate count 255) (omega (arith, le, long)) (λ at. rw (full_byte from count at) (full_lt at));
  first = λ h. whole 0 (omega (arith, h, long));
  last = λ h. whole (length (replicate count 255) - 1) (omega (arith, h, long));
}
  where
    long : length (replicate {A = ℕ} count 255) ≡ count
    long = length-replicate {A = ℕ} count 255

    whole : (k : ℕ) → k < count → 0 < get_or (replicate count 255) k 0
    whole k lt = rw (get_or-replicate {A = ℕ} count k 255 0 lt) (omega arith)

    full_lt : (at : ℕ) → full_between from (from + count) at < 256
    full_lt at = grind (arith, nat_tests)

pub full_bytes : (from count at : ℕ) → mask_at (entries_in from (replicate count 255)) at ≡ full_between from (from + count) at
full_bytes from count at = span_at from (replicate count 255) at ∙ full_byte from count at
