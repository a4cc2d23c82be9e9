-- Arrays of two, and the items of an array read one after another.
use Rattle.std.proofs.Common.{◌≡◌, ℕ, suc, ◌+◌, ◌<◌, List, [], ◌∷◌, ◌++◌, Option, Some, None, option_map, map, length, get_or, option_and_then, drop, drop-cons, append_assoc, append-nil, refl, sym, ap, ◌∙◌, arith}
use Rattle.std.proofs.lemmas.List.{drop_all, map-append}
use Rattle.serde_json.specs.declared.value.Value.{Value}
use Rattle.serde_json.specs.Data.{Data}
use Rattle.serde_json.specs.Find.{as_array}
use Rattle.serde_json.specs.View.{view, items_view}
use Rattle.abi_document.specs.Forms.{only_two, pair_of, only_three, triple_of, all_of}

not_two : (vs : List Value) → (length vs ≡ 2 → ⊥) → None ≡ only_two (items_view vs)
not_two [] other = refl
not_two (a ∷ []) other = refl
not_two (a ∷ b ∷ []) other = absurd (other refl)
not_two (a ∷ b ∷ c ∷ vs) other = refl

-- an array of fewer or of more than two
pub no_pair : (d : Data) (vs : List Value) → Some (items_view vs) ≡ as_array d → (length vs ≡ 2 → ⊥) → None ≡ pair_of d
no_pair d vs e other = rw (sym e) (not_two vs other)

not_three : (vs : List Value) → (length vs ≡ 3 → ⊥) → None ≡ only_three (items_view vs)
not_three [] other = refl
not_three (a ∷ []) other = refl
not_three (a ∷ b ∷ []) other = refl
not_three (a ∷ b ∷ c ∷ []) other = absurd (other refl)
not_three (a ∷ b ∷ c ∷ e ∷ vs) other = refl

-- an array of fewer or of more than three
pub no_triple : (d : Data) (vs : List Value) → Some (items_view vs) ≡ as_array d → (length vs ≡ 3 → ⊥) → None ≡ triple_of d
no_triple d vs e other = rw (sym e) (not_three vs other)

-- what was read, in front of what is read of the rest
abbrev pub in_front : {A : Type 0} → List A → Option (List A) → Option (List A)
in_front xs rest = option_map (λ ys. xs ++ ys) rest

moved : {A : Type 0} (xs : List A) (x : A) (rest : Option (List A)) → in_front xs (option_and_then (λ ys. Some (x ∷ ys)) rest) ≡ in_front (xs ++ x ∷ []) rest
moved xs x None = refl
moved xs x (Some ys) = ap Some (sym (append_assoc xs (x ∷ []) ys))

opened : {A : Type 0} (read : Data → Option A) (js : List Value) (i : ℕ) (j : Value) → i < length js → j ≡ get_or js i j
    → all_of read (items_view (drop i js)) ≡ option_and_then (λ x. option_and_then (λ ys. Some (x ∷ ys)) (all_of read (items_view (drop (i + 1) js)))) (read (view j))
opened read js i j lt at =
    let s : i + 1 ≡ suc i = omega arith in
    let c : drop i js ≡ j ∷ drop (suc i) js = drop-cons js i j lt ∙ ap (λ y. y ∷ drop (suc i) js) (sym at) in
    rw (s, c) refl

-- one more item is read
pub one_more : {A : Type 0} (read : Data → Option A) (js : List Value) (i : ℕ) (j : Value) (xs : List A) (x : A) (whole : Option (List A)) → i < length js → j ≡ get_or js i j
    → Some x ≡ read (view j)
    → in_front xs (all_of read (items_view (drop i js))) ≡ whole → in_front (xs ++ x ∷ []) (all_of read (items_view (drop (i + 1) js))) ≡ whole
one_more read js i j xs x whole lt at e so_far =
    sym (moved xs x (all_of read (items_view (drop (i + 1) js)))) ∙ rw (opened read js i j lt at, sym e) at so_far

-- and seen as plain data
pub go_on : {A R : Type 0} (read : Data → Option A) (f : R → A) (js : List Value) (i : ℕ) (j : Value) (rs : List R) (r : R) (whole : Option (List A)) → i < length js → j ≡ get_or js i j
    → Some (f r) ≡ read (view j)
    → in_front (map f rs) (all_of read (items_view (drop i js))) ≡ whole → in_front (map f (rs ++ r ∷ [])) (all_of read (items_view (drop (i + 1) js))) ≡ whole
go_on read f js i j rs r whole lt at e so_far =
    ap (λ xs. in_front xs (all_of read (items_view (drop (i + 1) js)))) (map-append f rs (r ∷ [])) ∙ one_more read js i j (map f rs) (f r) whole lt at e so_far

-- an item cannot be read
pub stop : {A : Type 0} (read : Data → Option A) (js : List Value) (i : ℕ) (j : Value) (xs : List A) (whole : Option (List A)) → i < length js → j ≡ get_or js i j
    → None ≡ read (view j) → in_front xs (all_of read (items_view (drop i js))) ≡ whole → None ≡ whole
stop read js i j xs whole lt at e so_far = rw (opened read js i j lt at, sym e) at so_far

-- none is left
pub at_end : {A : Type 0} (read : Data → Option A) (js : List Value) (i : ℕ) (xs : List A) (whole : Option (List A)) → length js ≡ i
    → in_front xs (all_of read (items_view (drop i js))) ≡ whole → Some xs ≡ whole
at_end read js i xs whole e so_far =
    let nothing : drop i js ≡ [] = drop_all i js (omega (arith, e)) in
    ap Some (sym (append-nil xs)) ∙ rw nothing at so_far
