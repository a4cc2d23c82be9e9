-- What no fault of a description means for its parts, whatever their numbers.
use Rattle.std.proofs.Common.{◌≡◌, ℕ, ◌+◌, ◌≤◌, Bool, true, false, Option, Some, None, ltb, refl, inl, inr, arith}
use Rattle.std.proofs.lemmas.Bool.{ltb-false, cases_Bool, le-ltb}
use Rattle.abi_num.specs.Target.{is_row}
use Rattle.abi_num.specs.declared.target.Target.{Target}
use Rattle.abi_det.specs.Frame.{Frame}
use Rattle.abi_det.specs.Offers.{Rules, or_else}
use Rattle.abi_layout.specs.Faults.{unless, size_fault, align_fault, form_fault, stability_fault, own_fault, part_fault, part_fault_in, desc_fault}
use Rattle.abi_layout.specs.Frames.{written_frame}
use Rattle.abi_layout.specs.ReportsOf.{HasSides, HaveSides}
use Rattle.abi_layout.specs.Trees as trees
use Rattle.abi_layout.specs.Trees.{Tree, Branches, parts, parts_in, variant_parts}
use Rattle.abi_layout.specs.declared.desc_error.DescError.{DescError}
use Rattle.abi_layout.specs.declared.desc_error.DescError.TheVariants as fault
use Rattle.abi_layout.specs.declared.part.Sort.TheVariants as sort
use Rattle.abi_layout.proofs.Faultless.{no_fault}

some_fault : (x : DescError) → ◌≡◌ {A = Option DescError} (Some x) None → ⊥
some_fault x e = cc

-- ---- no fault at one number is none at another

abbrev Moves : (ℕ → Option DescError) → Type 0
Moves f = (m n : ℕ) → f m ≡ None → f n ≡ None

never : Moves (λ n. None)
never m n h = refl

or_moves : (f g : ℕ → Option DescError) → Moves f → Moves g → Moves (λ n. or_else (f n) (g n))
or_moves f g a b m n h =
    let p = no_fault (f m) (g m) h in
    let e : f n ≡ None = a m n p.0 in
    rw e (b m n p.1)

unless_moves : (test : Bool) (found : ℕ → DescError) → Moves (λ n. unless test (found n))
unless_moves true found m n h = refl
unless_moves false found m n h = absurd (cc)

size_moves : (f : Frame) → Moves (λ n. size_fault n f)
size_moves f m n h = elim (cases_Bool (ltb 1048576 f.size)) [
  | inl big ↦ absurd (some_fault (fault.TooLarge m) (rw big at h))
  | inr small ↦ rw small refl
]

align_moves : (align : Option ℕ) → Moves (λ n. align_fault n align)
align_moves None = never
align_moves (Some align) = unless_moves _ fault.IllFormed

form_moves : (target : Target) (t : Tree) → Moves (λ n. form_fault target n t)
form_moves target (trees.prim p) = unless_moves _ fault.IllFormed
form_moves target (trees.struct label fs align) = align_moves align
form_moves target (trees.array item len) = unless_moves _ fault.ArrayLength
form_moves target (trees.no_niches size align niches indirections) = unless_moves _ fault.IllFormed
form_moves target (trees.leaf l) = unless_moves _ fault.IllFormed
form_moves target _ = never

stability_moves : (rules : Rules) (target : Target) (t : Tree) → Moves (λ n. stability_fault rules target n t)
stability_moves rules target (trees.core names side) = unless_moves _ fault.NotStable
stability_moves rules target _ = never

own_moves : (rules : Rules) (target : Target) (t : Tree) → Moves (λ n. own_fault rules target n t)
own_moves rules target t =
    or_moves (λ n. form_fault target n t) (λ n. or_else (stability_fault rules target n t) (size_fault n (written_frame rules target t)))
    (form_moves target t) (or_moves (λ n. stability_fault rules target n t) (λ n. size_fault n (written_frame rules target t))
    (stability_moves rules target t) (size_moves (written_frame rules target t)))

-- a part after the parts in it
after : (rules : Rules) (target : Target) (t : Tree) (a b : Option DescError) (m n : ℕ) → (a ≡ None → b ≡ None)
    → or_else a (own_fault rules target m t) ≡ None → or_else b (own_fault rules target n t) ≡ None
after rules target t a b m n move h =
    let p = no_fault a (own_fault rules target m t) h in
    rw (move p.0) (own_moves rules target t m n p.1)

both : (a b c d : Option DescError) → (a ≡ None → b ≡ None) → (c ≡ None → d ≡ None) → or_else a c ≡ None → or_else b d ≡ None
both a b c d first second h = let p = no_fault a c h in rw (first p.0) (second p.1)

module _ (rules : Rules) (target : Target) where
  two : (t : Tree) (a b c d : Option DescError) (m n : ℕ) → (a ≡ None → b ≡ None) → (c ≡ None → d ≡ None)
      → or_else a (or_else c (own_fault rules target m t)) ≡ None → or_else b (or_else d (own_fault rules target n t)) ≡ None
  two t a b c d m n first second =
      both a b (or_else c (own_fault rules target m t)) (or_else d (own_fault rules target n t)) first (after rules target t c d m n second)

  mutual
    moved : (t : Tree) → Moves (λ n. part_fault rules target n t)
    moved (trees.prim p) m n = own_moves rules target (trees.prim p) m n
    moved (trees.struct label fs align) m n =
        after rules target (trees.struct label fs align) _ _ (m + parts_in fs) (n + parts_in fs) (moved_in fs m n)
    moved (trees.array item len) m n = after rules target (trees.array item len) _ _ (m + parts item) (n + parts item) (moved item m n)
    moved (trees.union side) m n =
        let a : ℕ = parts (side true) in
        let both : ℕ = a + parts (side false) in
        two (trees.union side) _ _ _ _ (m + both) (n + both) (moved (side true) m n) (moved (side false) (m + a) (n + a))
    moved (trees.sum names side) m n =
        let a : ℕ = parts (side true) in
        let both : ℕ = variant_parts names a (parts (side false)) in
        two (trees.sum names side) _ _ _ _ (m + both) (n + both) (moved (side true) m n) (moved (side false) (m + a) (n + a))
    moved (trees.core names side) m n =
        let a : ℕ = parts (side true) in
        let both : ℕ = variant_parts names a (parts (side false)) in
        two (trees.core names side) _ _ _ _ (m + both) (n + both) (moved (side true) m n) (moved (side false) (m + a) (n + a))
    moved (trees.wrap kind t) m n = after rules target (trees.wrap kind t) _ _ (m + parts t) (n + parts t) (moved t m n)
    moved (trees.stable_if value condition) m n =
        let a : ℕ = parts value in
        let both : ℕ = a + parts condition in
        two (trees.stable_if value condition) _ _ _ _ (m + both) (n + both) (moved value m n) (moved condition (m + a) (n + a))
    moved (trees.pointer kind t) m n = after rules target (trees.pointer kind t) _ _ (m + parts t) (n + parts t) (moved t m n)
    moved (trees.no_niches size align niches indirections) m n = own_moves rules target (trees.no_niches size align niches indirections) m n
    moved (trees.leaf l) m n = own_moves rules target (trees.leaf l) m n

    moved_in : (fs : Branches) → Moves (λ n. part_fault_in rules target n fs)
    moved_in trees.none m n = never m n
    moved_in (trees.field name t fs) m n = both _ _ _ _ (moved t m n) (moved_in fs (m + parts t) (n + parts t))

-- ---- and so of a part taken by itself

pub supported : (rules : Rules) (target : Target) (t : Tree) → desc_fault rules target t ≡ None → is_row target ≡ true
unfolding desc_fault
supported rules target t h = elim (cases_Bool (is_row target)) [
  | inl row ↦ row
  | inr bad ↦ absurd (some_fault fault.BadTarget (rw bad at h))
]

few : (rules : Rules) (target : Target) (t : Tree) → desc_fault rules target t ≡ None → parts t ≤ 4096
unfolding desc_fault
few rules target t h = elim (cases_Bool (ltb 4096 (parts t))) [
  | inl many ↦ absurd (some_fault fault.TooManyParts (rw (supported rules target t h, many) at h))
  | inr small ↦ ltb-false 4096 (parts t) small
]

each_part : (rules : Rules) (target : Target) (t : Tree) → desc_fault rules target t ≡ None → part_fault rules target 0 t ≡ None
unfolding desc_fault
each_part rules target t h = rw (supported rules target t h, le-ltb 4096 (parts t) (few rules target t h)) at h

alone : (rules : Rules) (target : Target) (t : Tree) → is_row target ≡ true → parts t ≤ 4096 → part_fault rules target 0 t ≡ None → desc_fault rules target t ≡ None
unfolding desc_fault
alone rules target t row le h = rw (row, le-ltb 4096 (parts t) le) h

module _ (rules : Rules) (target : Target) (row : is_row target ≡ true) where
  mutual
    sides : (t : Tree) (first : ℕ) → parts t ≤ 4096 → part_fault rules target first t ≡ None → HasSides rules target t
    sides (trees.prim p) first le h = tt
    sides (trees.struct label fs align) first le h = sides_in fs first (omega (arith, le)) (no_fault _ _ h).0
    sides (trees.array item len) first le h = sides item first (omega (arith, le)) (no_fault _ _ h).0
    sides (trees.union side) first le h = tt
    sides (trees.sum sort.OfResult side) first le h =
        let p = no_fault _ _ h in
        (sides (side true) first (omega (arith, le)) p.0, sides (side false) (first + parts (side true)) (omega (arith, le)) (no_fault _ _ p.1).0)
    sides (trees.sum sort.OfOption side) first le h = sides (side true) first (omega (arith, le)) (no_fault _ _ h).0
    sides (trees.core sort.OfResult side) first le h =
        let p = no_fault _ _ h in
        let second = (no_fault _ _ p.1).0 in
        let small : parts (side false) ≤ 4096 = omega (arith, le) in (
          sides (side true) first (omega (arith, le)) p.0,
          sides (side false) (first + parts (side true)) small second,
          alone rules target (side false) row small (moved rules target (side false) (first + parts (side true)) 0 second),
        )
    sides (trees.core sort.OfOption side) first le h = sides (side true) first (omega (arith, le)) (no_fault _ _ h).0
    sides (trees.wrap kind t) first le h = sides t first (omega (arith, le)) (no_fault _ _ h).0
    sides (trees.stable_if value condition) first le h = sides value first (omega (arith, le)) (no_fault _ _ h).0
    sides (trees.pointer kind t) first le h = sides t first (omega (arith, le)) (no_fault _ _ h).0
    sides (trees.no_niches size align niches indirections) first le h = tt
    sides (trees.leaf l) first le h = tt

    sides_in : (fs : Branches) (first : ℕ) → parts_in fs ≤ 4096 → part_fault_in rules target first fs ≡ None → HaveSides rules target fs
    sides_in trees.none first le h = tt
    sides_in (trees.field name t fs) first le h =
        let p = no_fault _ _ h in (sides t first (omega (arith, le)) p.0, sides_in fs (first + parts t) (omega (arith, le)) p.1)

pub has_sides : (rules : Rules) (target : Target) (t : Tree) → desc_fault rules target t ≡ None → HasSides rules target t
has_sides rules target t h = sides rules target (supported rules target t h) t 0 (few rules target t h) (each_part rules target t h)
