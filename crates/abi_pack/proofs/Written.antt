-- Numbers written and read byte by byte.
use Rattle.std.proofs.Common.{◌≡◌, ℕ, suc, ◌+◌, ◌-◌, ◌*◌, ◌/◌, ◌%◌, ◌^◌, ◌<◌, ◌≤◌, List, ◌∷◌, ◌++◌, length, get_or, set, take, drop, Bool, true, false, cond, refl, ap, ◌∙◌, sym, arith, append_assoc, drop-cons, add-one, lit<, subst}
use Rattle.std.proofs.Math.Nat.{pow-succ', pow-le-pow_right}
use Rattle.std.proofs.lemmas.Grind.{take-set_at}
use Rattle.std.proofs.lemmas.List.{get_or-reverse, length-set}
use Rattle.abi_pack.specs.Scalars.{low_bytes, low_worth, ordered}
use Rattle.abi_pack.proofs.Numbers.{ordered_length}

pub low_step : (xs : List ℕ) (i r number : ℕ) → i < length xs → take i xs ++ low_bytes (length xs - i) r ≡ low_bytes (length xs) number
    → take (i + 1) (set xs i (r % 256)) ++ low_bytes (length (set xs i (r % 256)) - (i + 1)) (r / 256) ≡ low_bytes (length (set xs i (r % 256))) number
low_step xs i r number h before =
    let more_ : length xs - i ≡ suc (length xs - (i + 1)) = omega arith in
    let step : take i xs ++ (r % 256 ∷ low_bytes (length xs - (i + 1)) (r / 256)) ≡ low_bytes (length xs) number =
    subst (λ n. take i xs ++ low_bytes n r ≡ low_bytes (length xs) number) more_ before in
    rw (length-set xs i (r % 256), take-set_at xs i (i + 1) (r % 256) refl h, append_assoc) step

pub ordered_at : (little : Bool) (xs : List ℕ) (i : ℕ) → i < length xs
    → get_or (ordered little xs) (length xs - 1 - i) 0 ≡ get_or xs (cond little (length xs - 1 - i) i) 0
ordered_at true xs i h = refl
ordered_at false xs i h =
    let back : length xs - 1 - (length xs - 1 - i) ≡ i = omega arith in
    get_or-reverse xs (length xs - 1 - i) 0 (omega arith) ∙ ap (λ j. get_or xs j 0) back

pub worth_step : (little : Bool) (xs : List ℕ) (i n at : ℕ) → i < length xs → at ≡ cond little (length xs - 1 - i) i
    → n ≡ low_worth (drop (length xs - i) (ordered little xs))
    → n * 256 + get_or xs at 0 ≡ low_worth (drop (length xs - (i + 1)) (ordered little xs))
worth_step little xs i n at h e worth =
    let less : length xs - (i + 1) < length (ordered little xs) = rw (ordered_length little xs) (omega arith) in
    let next : suc (length xs - (i + 1)) ≡ length xs - i = omega arith in
    let same : length xs - 1 - i ≡ length xs - (i + 1) = omega arith in
    let byte : get_or (ordered little xs) (length xs - (i + 1)) 0 ≡ get_or xs at 0 =
    ap (λ j. get_or (ordered little xs) j 0) (sym same) ∙ ordered_at little xs i h ∙ ap (λ j. get_or xs j 0) (sym e) in
    let cut : drop (length xs - (i + 1)) (ordered little xs) ≡ get_or (ordered little xs) (length xs - (i + 1)) 0 ∷ drop (length xs - i) (ordered little xs) =
    subst (λ j. drop (length xs - (i + 1)) (ordered little xs) ≡ get_or (ordered little xs) (length xs - (i + 1)) 0 ∷ drop j (ordered little xs)) next
    (drop-cons (ordered little xs) (length xs - (i + 1)) 0 less) in
    rw (cut, byte) (omega arith)

pub worth_fits : (i n b : ℕ) → i < 16 → n < 256 ^ i → b < 256 → (n * 256 < 2 ^ 128) × (n * 256 + b < 2 ^ 128) × (n * 256 + b < 256 ^ (i + 1))
worth_fits i n b h small byte =
    let power : 256 ^ suc i ≡ 256 * 256 ^ i = pow-succ' 256 i in
    let next : n * 256 + b < 256 ^ suc i = omega arith in
    let within : suc i ≤ 16 = omega arith in
    let most : 256 ^ suc i ≤ 256 ^ 16 = pow-le-pow_right {n = 256} (lit< tt) within in
    (omega arith, omega arith, rw (add-one) next)
