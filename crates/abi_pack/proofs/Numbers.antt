-- Numbers in bytes: what is written is read back, in either order.
use Rattle.std.proofs.Common.{◌≡◌, ℕ, zero, suc, ◌+◌, ◌-◌, ◌*◌, ◌/◌, ◌%◌, ◌^◌, ◌<◌, ◌≤◌, List, [], ◌∷◌, length, get_or, reverse, ◌⊎◌, inl, inr, Bool, true, false, refl, ap, arith, lit<}
use Rattle.std.proofs.Math.Nat.{pow-succ'}
use Rattle.std.proofs.lemmas.List.{reverse-reverse, length-reverse, get_or-reverse}
use Rattle.std.proofs.lemmas.Bool.{cases_lt}
use Rattle.std.proofs.Math.ListN.{get_or-eq_default}
use Rattle.abi_pack.specs.Scalars.{low_bytes, low_worth, ordered}

abbrev pub AllBytes : List ℕ → Type 0
AllBytes xs = (i : ℕ) → get_or xs i 0 < 256

pub low_length : (n x : ℕ) → length (low_bytes n x) ≡ n
low_length zero x = refl
low_length (suc n) x = ap suc (low_length n (x / 256))

pub low_small : (n x : ℕ) → AllBytes (low_bytes n x)
low_small zero x i = lit< tt
low_small (suc n) x zero = omega arith
low_small (suc n) x (suc i) = low_small n (x / 256) i

pub low_back : (n x : ℕ) → x < 256 ^ n → low_worth (low_bytes n x) ≡ x
low_back zero x h = omega arith
low_back (suc n) x h =
    let power : 256 ^ suc n ≡ 256 * 256 ^ n = pow-succ' 256 n in
    let below : x / 256 < 256 ^ n = omega arith in
    let rest : low_worth (low_bytes n (x / 256)) ≡ x / 256 = low_back n (x / 256) below in omega arith

pub low_again : (xs : List ℕ) → AllBytes xs → low_bytes (length xs) (low_worth xs) ≡ xs
low_again [] b = refl
low_again (x ∷ xs) b =
    let small : x < 256 = b 0 in
    let tail : low_bytes (length xs) (low_worth xs) ≡ xs = low_again xs (λ i. b (suc i)) in
    let least : (x + 256 * low_worth xs) % 256 ≡ x = omega arith in
    let others : (x + 256 * low_worth xs) / 256 ≡ low_worth xs = omega arith in
    rw (least, others, tail) refl

pub low_bound : (xs : List ℕ) → AllBytes xs → low_worth xs < 256 ^ length xs
low_bound [] b = omega arith
low_bound (x ∷ xs) b =
    let small : x < 256 = b 0 in
    let tail : low_worth xs < 256 ^ length xs = low_bound xs (λ i. b (suc i)) in
    let power : 256 ^ suc (length xs) ≡ 256 * 256 ^ length xs = pow-succ' 256 (length xs) in omega arith

pub ordered_twice : (little : Bool) (xs : List ℕ) → ordered little (ordered little xs) ≡ xs
ordered_twice true xs = refl
ordered_twice false xs = reverse-reverse xs

pub ordered_length : (little : Bool) (xs : List ℕ) → length (ordered little xs) ≡ length xs
ordered_length true xs = refl
ordered_length false xs = length-reverse xs

-- what holds of 0 and of each byte holds of each byte in the other order
reversed_each : (P : ℕ → Type 0) (xs : List ℕ) (i : ℕ) → P 0 → ((j : ℕ) → P (get_or xs j 0)) → (i < length xs) ⊎ (length xs ≤ i) → P (get_or (reverse xs) i 0)
reversed_each P xs i z b (inl h) = rw (get_or-reverse xs i 0 h) (b (length xs - 1 - i))
reversed_each P xs i z b (inr h) =
    let past : length (reverse xs) ≤ i = rw (length-reverse xs) h in rw (get_or-eq_default (reverse xs) 0 past) z

pub ordered_each : (P : ℕ → Type 0) (little : Bool) (xs : List ℕ) → P 0 → ((j : ℕ) → P (get_or xs j 0)) → (i : ℕ) → P (get_or (ordered little xs) i 0)
ordered_each P true xs z b i = b i
ordered_each P false xs z b i = reversed_each P xs i z b (cases_lt i (length xs))

pub ordered_small : (little : Bool) (xs : List ℕ) → AllBytes xs → AllBytes (ordered little xs)
ordered_small little xs b i = ordered_each (λ x. x < 256) little xs (lit< tt) b i

pub no_worth : (xs : List ℕ) → ((i : ℕ) → get_or xs i 0 ≡ 0) → low_worth xs ≡ 0
no_worth [] z = refl
no_worth (x ∷ xs) z =
    let first : x ≡ 0 = z 0 in
    let rest : low_worth xs ≡ 0 = no_worth xs (λ i. z (suc i)) in omega arith
