-- Bytes that a source or a sink tells, over one read or write after another.
use Rattle.std.proofs.Common.{◌≡◌, ℕ, ◌+◌, ◌-◌, List, ◌++◌, Option, Some, None, length, take, drop, sym, ap, subst, ◌∙◌, append_assoc}
use Rattle.std.proofs.Math.Seq.{take-add}
use Rattle.std.proofs.lemmas.List.{take_rest}
use Rattle.std.specs.Io.KnownBytes.{Appends, Consumes}

pub consumes_then : (u v w : Option (List ℕ)) (a b : List ℕ) → Consumes u v a → Consumes v w b → Consumes u w (a ++ b)
consumes_then None v w a b x y = tt
consumes_then (Some xs) None w a b x y = absurd x
consumes_then (Some xs) (Some ys) None a b x y = y
consumes_then (Some xs) (Some ys) (Some zs) a b x y = x ∙ ap (λ (t : List ℕ). a ++ t) y ∙ sym (append_assoc a b zs)

appends_then : (u v w : Option (List ℕ)) (a b : List ℕ) → Appends u v a → Appends v w b → Appends u w (a ++ b)
appends_then None v w a b x y = tt
appends_then (Some xs) None w a b x y = absurd x
appends_then (Some xs) (Some ys) None a b x y = y
appends_then (Some xs) (Some ys) (Some zs) a b x y = y ∙ ap (λ (t : List ℕ). t ++ b) x ∙ append_assoc xs a b

-- the piece of the text that one more write takes
next_piece : (text : List ℕ) (i n : ℕ) → take i text ++ take n (take (length text - i) (drop i text)) ≡ take (i + n) text
next_piece text i n = ap (λ (t : List ℕ). take i text ++ take n t) (take_rest text i) ∙ sym (take-add i n text)

pub went_on : (u v w : Option (List ℕ)) (text : List ℕ) (i n : ℕ) → Appends u v (take i text)
    → Appends v w (take n (take (length text - i) (drop i text))) → Appends u w (take (i + n) text)
went_on u v w text i n x y =
    let P : List ℕ → Type 0 = λ t. Appends u w t in
    subst P (next_piece text i n) (appends_then u v w (take i text) (take n (take (length text - i) (drop i text))) x y)
