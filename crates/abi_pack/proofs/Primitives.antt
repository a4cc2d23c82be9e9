-- Scalars in the forms that the code meets.
use Rattle.std.proofs.Common.{◌≡◌, ℕ, ◌+◌, ◌<◌, ◌≤◌, List, [], ◌∷◌, length, set, take, drop, false, refl, ap, ◌∙◌, sym, arith, length-drop}
use Rattle.std.proofs.lemmas.List.{ext_get_or, get_or-take, get_or-drop, length-take-le}
use Rattle.abi_pack.specs.ByteMap.{seen_from, firsts, bytes_of}
use Rattle.abi_pack.specs.Plain.{Plain, unit, integer, boolean, order, is_unit, is_boolean, is_order, is_integer}
use Rattle.abi_layout.specs.Prims.{width_size}
use Rattle.abi_pack.specs.Scalars.{is_value, low_worth, ordered, number_in}
use Rattle.abi_layout.specs.declared.scalar.Scalar.TheVariants as scalars
use Rattle.abi_layout.specs.declared.scalar.Integer.{Integer}
use Rattle.abi_pack.proofs.Stored.{firsts_length, firsts_at}

pub no_unit : (v : Plain) → is_value scalars.Unit v ≡ is_unit v
no_unit unit = refl
no_unit _ = refl

pub no_boolean : (v : Plain) → is_value scalars.Bool v ≡ is_boolean v
no_boolean (boolean b) = refl
no_boolean _ = refl

pub no_order : (v : Plain) → is_value scalars.Order v ≡ is_order v
no_order (order o) = refl
no_order _ = refl

pub no_integer : (f : Integer) (v : Plain) → is_integer v ≡ false → is_value (scalars.Int f) v ≡ false
no_integer f (integer magnitude negative) h = absurd (cc)
no_integer f _ h = refl

pub firsts_cut : (n at : ℕ) (xs : List ℕ) → at + n ≤ length xs → firsts n (seen_from at (bytes_of xs)) ≡ take n (drop at xs)
firsts_cut n at xs h =
    let long : length (take n (drop at xs)) ≡ n = length-take-le n (drop at xs) (rw (length-drop at xs) (omega arith)) in
    ext_get_or 0 (firsts n (seen_from at (bytes_of xs))) (take n (drop at xs)) (firsts_length n (seen_from at (bytes_of xs)) ∙ sym long)
    (λ i l. let inside : i < n = rw (firsts_length n (seen_from at (bytes_of xs))) at l in
    firsts_at n (seen_from at (bytes_of xs)) i inside ∙ sym (get_or-take n (drop at xs) i 0 inside ∙ get_or-drop at xs i 0))

pub number_cut : (f : Integer) (at n : ℕ) (xs : List ℕ) → n ≡ width_size f.width → at + width_size f.width ≤ length xs
    → low_worth (ordered f.little (take n (drop at xs))) ≡ number_in f (seen_from at (bytes_of xs))
number_cut f at n xs e h = rw e (ap (λ ys. low_worth (ordered f.little ys)) (sym (firsts_cut (width_size f.width) at xs h)))

pub one_byte : (xs : List ℕ) (x : ℕ) → length xs ≡ 1 → set xs 0 x ≡ x ∷ []
one_byte [] x h = absurd (omega arith)
one_byte (y ∷ []) x h = refl
one_byte (y ∷ (z ∷ ys)) x h = absurd (omega arith)
