-- There is a restricted integer exactly where the value is one of the primitive's.
use Rattle.std.proofs.Common.{◌≡◌, ◌↔◌, ℕ, Bool, true, false, Option, Some, None, ◌&&◌, not, refl, ap, ◌∙◌, sym, subst}
use Rattle.std.specs.Prelude.{IsSome, IsNone}
use Rattle.std.proofs.lemmas.Bool.{and_parts}
use Rattle.abi_num.specs.declared.target.Target.{Target}
use Rattle.abi_det.specs.Offers.{Rules}
use Rattle.abi_layout.specs.Prims.{in_width}
use Rattle.abi_layout.specs.Trees.{prim}
use Rattle.abi_layout.specs.declared.prim.Primitive.{Primitive}
use Rattle.abi_layout.specs.declared.scalar.Stored.{Stored}
use Rattle.abi_layout.specs.declared.scalar.Width.{Width}
use Rattle.abi_pack.specs.Plain.{Plain, integer}
use Rattle.abi_pack.specs.Values.{left_out, fits}
use Rattle.abi_typed.specs.IntegerLaws.{IsRestricted, restricted_fits, restricted_fitting}
use Rattle.abi_typed.specs.Stable.{FitsWhereSome}

never_both : (p q : Bool) → q ≡ true → (p && not q) ≡ true → ⊥
never_both true q h e = let no : not q ≡ false = ap not h in absurd (cc)
never_both false q h e = absurd (cc)

module _ (p : Primitive) (w : Width) (signed : Bool) (how : Stored) (in_table : IsRestricted p w signed how) where
  placed_answer : (magnitude : ℕ) (negative : Bool) (Forbidden : Type 0)
      → ((left_out how w false magnitude negative ≡ true) ↔ Forbidden)
      → in_width w signed magnitude negative ≡ true → {A : Type 0} → (answer : Option A) → (IsNone answer ↔ Forbidden)
      → FitsWhereSome (prim p) (integer magnitude negative) answer
  placed_answer magnitude negative Forbidden told placed (Some x) none rules target = (
    λ h. restricted_fitting p w signed how in_table magnitude negative Forbidden told placed
        (λ f. let no : true ≡ false = none.1 f in absurd (cc)) rules target,
    λ h. refl,
  )
  placed_answer magnitude negative Forbidden told placed None none rules target = (
    λ h. absurd (cc),
    λ h. absurd (never_both _ _ (told.1 (none.0 refl)) (sym (restricted_fits p w signed how in_table rules target magnitude negative) ∙ h)),
  )

  -- of a number with these parts
  pub answered : (m magnitude : ℕ) (n negative : Bool) → m ≡ magnitude → n ≡ negative → (Forbidden : Type 0)
      → ((left_out how w false m n ≡ true) ↔ Forbidden) → in_width w signed m n ≡ true
      → {A : Type 0} → (answer : Option A) → (IsNone answer ↔ Forbidden) → FitsWhereSome (prim p) (integer magnitude negative) answer
  answered m magnitude n negative e f Forbidden told placed answer none rules target =
      let same : integer m n ≡ integer magnitude negative = ap (λ k. integer k n) e ∙ ap (integer magnitude) f in
      subst (λ (v : Plain). IsSome answer ↔ (fits rules target (prim p) v ≡ true)) same
      (placed_answer m n Forbidden told placed answer none rules target)

  -- where the width has no such integer
  pub unanswered : (magnitude : ℕ) (negative : Bool) → (in_width w signed magnitude negative ≡ true → false ≡ true)
      → (rules : Rules) (target : Target)
      → (false ≡ true) ↔ (fits rules target (prim p) (integer magnitude negative) ≡ true)
  unanswered magnitude negative none rules target = (
    λ h. absurd (cc),
    λ h. none (and_parts _ _ (sym (restricted_fits p w signed how in_table rules target magnitude negative) ∙ h)).0,
  )
