-- Entries whose offsets rise, cut at one of them.
use Rattle.std.proofs.Common.{◌≡◌, ℕ, ◌+◌, ◌<◌, ◌≤◌, true, false, not, List, [], ◌∷◌, ◌++◌, nat_lt, eqb, refl, sym, ◌∙◌, arith}
use Rattle.std.proofs.lemmas.Bool.{and_parts, eq-eqb, ne_eqb}
use Rattle.std.proofs.lemmas.Bool.Decides.{nat_tests}
use Rattle.std.proofs.lemmas.List.Folds.{list_all-append}
use Rattle.abi_bits.specs.Pairs.{Pair}
use Rattle.abi_bits.specs.Mask.{mask_at}
use Rattle.abi_bits.proofs.Masks.{or_zero, skip}
use Rattle.abi_layout.specs.Leaves.{rise, AreRising, have_bits}

rise_parts : (n least : ℕ) (e : Pair) (es : List Pair) → rise n least (e ∷ es) ≡ true → (least ≤ e.0) × (e.0 < n) × (rise n (e.0 + 1) es ≡ true)
rise_parts n least e es r = grind (arith, nat_tests)

rise_with : (n least : ℕ) (e : Pair) (es : List Pair) → least ≤ e.0 → e.0 < n → rise n (e.0 + 1) es ≡ true → rise n least (e ∷ es) ≡ true
rise_with n least e es le lt r = grind (arith, nat_tests)

rise_lower : (n a b : ℕ) (es : List Pair) → b ≤ a → rise n a es ≡ true → rise n b es ≡ true
rise_lower n a b [] le r = refl
rise_lower n a b (e ∷ es) le r = let p = rise_parts n a e es r in rise_with n b e es (omega (arith, p.0, le)) p.1 p.2

-- nothing stands before the first offset
zero_before : (n least at : ℕ) (es : List Pair) → rise n least es ≡ true → at < least → mask_at es at ≡ 0
zero_before n least at [] r lt = refl
zero_before n least at (e ∷ es) r lt =
    let p = rise_parts n least e es r in
    skip e es at (λ q. absurd (omega (arith, p.0, lt, q))) ∙ zero_before n (e.0 + 1) at es p.2 (omega (arith, p.0, lt))

-- what a cut at an entry tells
record Cut (n least : ℕ) (before : List Pair) (e : Pair) (after : List Pair) : Type 0 where
  left : rise n least before ≡ true
  right : rise n (e.0 + 1) after ≡ true
  from : least ≤ e.0

cut : (n least : ℕ) (before : List Pair) (e : Pair) (after : List Pair) → rise n least (before ++ e ∷ after) ≡ true → Cut n least before e after
cut n least [] e after r = let p = rise_parts n least e after r in record { left = refl; right = p.2; from = p.0 }
cut n least (x ∷ before) e after r =
    let p = rise_parts n least x (before ++ e ∷ after) r in
    let c = cut n (x.0 + 1) before e after p.2 in
    record { left = rise_with n least x before p.0 p.1 c.left; right = c.right; from = omega (arith, p.0, c.from) }

at_left : (n least at : ℕ) (before : List Pair) (e : Pair) (after : List Pair) → rise n least (before ++ e ∷ after) ≡ true → at < e.0
    → mask_at (before ++ e ∷ after) at ≡ mask_at before at
at_left n least at [] e after r lt =
    skip e after at (λ q. absurd (omega (arith, lt, q))) ∙ zero_before n (e.0 + 1) at after (rise_parts n least e after r).2 (omega (arith, lt))
at_left n least at (x ∷ before) e after r lt =
    let p = rise_parts n least x (before ++ e ∷ after) r in let rest = at_left n (x.0 + 1) at before e after p.2 lt in rw rest refl

at_right : (n least at : ℕ) (before : List Pair) (e : Pair) (after : List Pair) → rise n least (before ++ e ∷ after) ≡ true → e.0 ≤ at
    → mask_at (before ++ e ∷ after) at ≡ mask_at (e ∷ after) at
at_right n least at [] e after r le = refl
at_right n least at (x ∷ before) e after r le =
    let p = rise_parts n least x (before ++ e ∷ after) r in
    let c = cut n (x.0 + 1) before e after p.2 in
    skip x (before ++ e ∷ after) at (λ q. absurd (omega (arith, q, c.from, le))) ∙ at_right n (x.0 + 1) at before e after p.2 le

bits_parts : (before : List Pair) (e : Pair) (after : List Pair) → have_bits (before ++ e ∷ after) ≡ true
    → (have_bits before ≡ true) × (0 < e.1) × (have_bits after ≡ true)
bits_parts before e after h =
    let p = and_parts (have_bits before) (have_bits (e ∷ after)) (sym (list_all-append (λ (e : Pair). nat_lt 0 e.1) before (e ∷ after)) ∙ h) in
    let q : (0 < e.1) × (have_bits after ≡ true) = grind (arith, nat_tests, p.1) in
    (p.0, q.0, q.1)

-- ---- as the search asks

pub left_rises : (es before : List Pair) (e : Pair) (after : List Pair) → es ≡ before ++ e ∷ after → AreRising es → have_bits es ≡ true
    → AreRising before × (have_bits before ≡ true)
left_rises es before e after q r h = ((r.0, (cut r.0 0 before e after (rw q at r.1)).left), (bits_parts before e after (rw q at h)).0)

pub right_rises : (es before : List Pair) (e : Pair) (after : List Pair) → es ≡ before ++ e ∷ after → AreRising es → have_bits es ≡ true
    → AreRising after × (have_bits after ≡ true)
right_rises es before e after q r h =
    ((r.0, rise_lower r.0 (e.0 + 1) 0 after (omega arith) (cut r.0 0 before e after (rw q at r.1)).right), (bits_parts before e after (rw q at h)).2)

pub found_left : (es before : List Pair) (e : Pair) (after : List Pair) (at : ℕ) → es ≡ before ++ e ∷ after → AreRising es → at < e.0
    → mask_at es at ≡ mask_at before at
found_left es before e after at q r lt = rw q (at_left r.0 0 at before e after (rw q at r.1) lt)

pub found_right : (es before : List Pair) (e : Pair) (after : List Pair) (at : ℕ) → es ≡ before ++ e ∷ after → AreRising es → e.0 < at
    → mask_at es at ≡ mask_at after at
found_right es before e after at q r lt =
    rw q (at_right r.0 0 at before e after (rw q at r.1) (omega (arith, lt))) ∙ skip e after at (λ s. absurd (omega (arith, lt, s)))

pub found_here : (es before : List Pair) (e : Pair) (after : List Pair) (at : ℕ) → es ≡ before ++ e ∷ after → AreRising es → have_bits es ≡ true → e.0 ≡ at
    → true ≡ not (eqb (mask_at es at) 0)
found_here es before e after at q r h here =
    let c = cut r.0 0 before e after (rw q at r.1) in
    let some = (bits_parts before e after (rw q at h)).1 in
    let none : mask_at after at ≡ 0 = zero_before r.0 (e.0 + 1) at after c.right (omega (arith, here)) in
    let first : mask_at (e ∷ after) at ≡ e.1 = rw (eq-eqb e.0 at here, none) (or_zero e.1) in
    let mask : mask_at es at ≡ e.1 = rw q (at_right r.0 0 at before e after (rw q at r.1) (omega (arith, here)) ∙ first) in
    let nonzero : eqb e.1 0 ≡ false = ne_eqb e.1 0 (λ z. absurd (omega (arith, some, z))) in
    rw (mask, nonzero) refl
