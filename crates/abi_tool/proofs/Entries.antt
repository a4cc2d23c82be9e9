-- The entries of a mask, gone over one after the other.
use Rattle.std.proofs.Common.{◌≡◌, ℕ, ◌+◌, ◌<◌, ◌≤◌, true, false, Bool, ◌&&◌, List, [], ◌∷◌, ◌++◌, Some, None, cond, ltb, leb, refl, sym, ap, subst, ◌∙◌, arith, append_assoc, append-nil}
use Rattle.std.specs.List.{find}
use Rattle.std.proofs.lemmas.Bool.{and_parts, ltb-true, leb-true, leb-false, le-leb, lt-leb}
use Rattle.abi_bits.specs.Pairs.{Pair, are_rising}
use Rattle.abi_bits.specs.Mask.{IsMask, have_bits}
use Rattle.abi_tool.specs.Lines.{entry_text, entries_text}

-- the entries at the offset `from` and past it
abbrev pub from_on : ℕ → List Pair → List Pair
from_on from [] = []
from_on from (e ∷ es) = cond (leb from e.0) (e ∷ es) (from_on from es)

rising_parts : (least : ℕ) (e : Pair) (es : List Pair) → are_rising least (e ∷ es) ≡ true → (least ≤ e.0) × (e.0 < 1048576) × (are_rising (e.0 + 1) es ≡ true)
rising_parts least e es r =
    let ab = and_parts (leb least e.0 && ltb e.0 1048576) (are_rising (e.0 + 1) es) r in
    let a = and_parts (leb least e.0) (ltb e.0 1048576) ab.0 in
    (leb-true least e.0 a.0, ltb-true e.0 1048576 a.1, ab.1)

all_from : (es : List Pair) (least from : ℕ) → are_rising least es ≡ true → from ≤ least → from_on from es ≡ es
all_from [] least from r h = refl
all_from (e ∷ es) least from r h =
    let p = rising_parts least e es r in
    let here : leb from e.0 ≡ true = le-leb from e.0 (omega (arith, h, p.0)) in
    rw here refl

pub record IsFound (from : ℕ) (es : List Pair) (e : Pair) : Type 0 where
  pub bounded : e.0 < 1048576
  pub later : from ≤ e.0
  pub split : from_on from es ≡ e ∷ from_on (e.0 + 1) es

found_if : (b : Bool) (x : Pair) (xs : List Pair) (least from : ℕ) (e : Pair) → leb from x.0 ≡ b → are_rising least (x ∷ xs) ≡ true
    → (find (λ y. leb from y.0) xs ≡ Some e → IsFound from xs e)
    → cond b (Some x) (find (λ y. leb from y.0) xs) ≡ Some e → IsFound from (x ∷ xs) e
found_if true x xs least from e t r more q =
    let p = rising_parts least x xs r in
    let same : x ≡ e = cc in
    let past : leb (x.0 + 1) x.0 ≡ false = lt-leb (x.0 + 1) x.0 (omega arith) in
    let rest : from_on (x.0 + 1) xs ≡ xs = all_from xs (x.0 + 1) (x.0 + 1) p.2 (omega arith) in
    let found : IsFound from (x ∷ xs) x = record {
      bounded = p.1;
      later = leb-true from x.0 t;
      split = rw (t, past, rest) refl;
    } in
    subst (λ (y : Pair). IsFound from (x ∷ xs) y) same found
found_if false x xs least from e t r more q =
    let f = more q in
    let before : x.0 < from = leb-false from x.0 t in
    let past : leb (e.0 + 1) x.0 ≡ false = lt-leb (e.0 + 1) x.0 (omega (arith, before, f.later)) in
    record {
      bounded = f.bounded;
      later = f.later;
      split = rw (t, past) f.split;
    }

found : (es : List Pair) (least from : ℕ) (e : Pair) → are_rising least es ≡ true → find (λ y. leb from y.0) es ≡ Some e → IsFound from es e
found [] least from e r q = cc
found (x ∷ xs) least from e r q = found_if (leb from x.0) x xs least from e refl r (λ h. found xs (x.0 + 1) from e (rising_parts least x xs r).2 h) q

none_if : (b : Bool) (x : Pair) (xs : List Pair) (from : ℕ) → (find (λ y. leb from y.0) xs ≡ None → from_on from xs ≡ [])
    → cond b (Some x) (find (λ y. leb from y.0) xs) ≡ None → cond b (x ∷ xs) (from_on from xs) ≡ []
none_if true x xs from more q = cc
none_if false x xs from more q = more q

none_left : (es : List Pair) (from : ℕ) → find (λ y. leb from y.0) es ≡ None → from_on from es ≡ []
none_left [] from q = refl
none_left (x ∷ xs) from q = none_if (leb from x.0) x xs from (λ h. none_left xs from h) q

pub next_found : (es : List Pair) (from : ℕ) (e : Pair) → IsMask es → Some e ≡ find (λ y. leb from y.0) es → IsFound from es e
next_found es from e m q = found es 0 from e (and_parts (are_rising 0 es) (have_bits es) m).0 (sym q)

pub next_none : (es : List Pair) (from : ℕ) → None ≡ find (λ y. leb from y.0) es → from_on from es ≡ []
next_none es from q = none_left es from (sym q)

begun : (es : List Pair) → from_on 0 es ≡ es
begun [] = refl
begun (e ∷ es) =
    let here : leb 0 e.0 ≡ true = le-leb 0 e.0 (omega arith) in
    rw here refl

pub began : (es : List Pair) (out : List ℕ) → out ++ entries_text (from_on 0 es) ≡ out ++ entries_text es
began es out = ap (λ (t : List Pair). out ++ entries_text t) (begun es)

-- after one more entry
pub went_on : (es : List Pair) (from : ℕ) (e : Pair) (out whole : List ℕ) → IsFound from es e
    → out ++ entries_text (from_on from es) ≡ whole → (out ++ entry_text e) ++ entries_text (from_on (e.0 + 1) es) ≡ whole
unfolding entries_text
went_on es from e out whole f h =
    let q : entries_text (from_on from es) ≡ entry_text e ++ entries_text (from_on (e.0 + 1) es) = ap entries_text f.split in
    append_assoc out (entry_text e) (entries_text (from_on (e.0 + 1) es)) ∙ ap (λ t. out ++ t) (sym q) ∙ h

-- after the last entry
pub ended : (es : List Pair) (from : ℕ) (out whole : List ℕ) → from_on from es ≡ [] → out ++ entries_text (from_on from es) ≡ whole → out ≡ whole
unfolding entries_text
ended es from out whole none h =
    let q : entries_text (from_on from es) ≡ [] = ap entries_text none in
    sym (append-nil out) ∙ ap (λ t. out ++ t) (sym q) ∙ h
