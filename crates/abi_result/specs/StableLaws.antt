-- What typed sums and wrappers owe to their descriptions where their contents keep the laws.
use Rattle.std.proofs.Common.{◌≡◌, Bool, true, false, ◌&&◌, ◌||◌, refl, ap, ◌∙◌}
use Rattle.abi_det.specs.Written.{written_sum}
use Rattle.abi_layout.specs.Frames.{written_frame}
use Rattle.abi_layout.specs.Trees.{Tree, sides, sum, prim, wrap, result, option}
use Rattle.abi_layout.specs.declared.desc.WrapKind.TheVariants as wrapper
use Rattle.abi_layout.specs.declared.part.Sort.{Sort}
use Rattle.abi_layout.specs.declared.part.Sort.TheVariants as sort
use Rattle.abi_layout.specs.declared.prim.Primitive.TheVariants as primitive
use Rattle.abi_pack.specs.Plain.{Plain, variant}
use Rattle.abi_pack.specs.Variants.{same_sort}
use Rattle.abi_typed.specs.IntegerLaws.{no_pointers}
use Rattle.abi_typed.specs.Stable.{IsFixed, Fits, Indirections}
use Rattle.abi_result.specs.Stable.{IsResultOf, IsOptionOf, result_value, option_value}
use Rattle.abi_result.specs.declared.option.Option.{Option}
use Rattle.abi_result.specs.declared.option.Option.TheVariants as of_option
use Rattle.abi_result.specs.declared.result.Result.{Result}
use Rattle.abi_result.specs.declared.result.Result.TheVariants as of_result

-- ---- sums of two

pub sum_fixed : (names : Sort) (t e : Tree) → IsFixed t → IsFixed e → IsFixed (sum names (sides t e))
sum_fixed names t e h k rules elsewhere target other (variant kind true v) =
    ap (λ b. same_sort names kind && b) (h rules elsewhere target other v)
sum_fixed names t e h k rules elsewhere target other (variant kind false v) =
    ap (λ b. same_sort names kind && b) (k rules elsewhere target other v)
sum_fixed names t e h k rules elsewhere target other _ = refl

pub sum_indirect : (names : Sort) (t e : Tree) (p q : Bool) → Indirections t p → Indirections e q
    → Indirections (sum names (sides t e)) (p || q)
unfolding written_sum
sum_indirect names t e p q h k rules target =
    ap (λ b. b || (written_frame rules target e).indirections) (h rules target) ∙ ap (λ b. p || b) (k rules target)

-- ---- results

pub result_fitting : {T E : Type 0} → (P : T → Type 0) → (Q : E → Type 0) → (t e : Tree) (f : T → Plain) (g : E → Plain)
    → ((x : T) → P x → Fits t (f x)) → ((x : E) → Q x → Fits e (g x))
    → (x : Result T E) → IsResultOf P Q x → Fits (result t e) (result_value f g x)
result_fitting P Q t e f g h k (of_result.Ok x) p rules target = h x p rules target
result_fitting P Q t e f g h k (of_result.Err x) p rules target = k x p rules target

-- ---- options

nothing_fixed : IsFixed (prim primitive.Unit)
nothing_fixed rules elsewhere target other v = refl

pub option_fixed : (t : Tree) → IsFixed t → IsFixed (option t)
option_fixed t h = sum_fixed sort.OfOption t (prim primitive.Unit) h nothing_fixed

or_false : (p : Bool) → (p || false) ≡ p
or_false true = refl
or_false false = refl

pub option_indirect : (t : Tree) (p : Bool) → Indirections t p → Indirections (option t) p
option_indirect t p h rules target =
    sum_indirect sort.OfOption t (prim primitive.Unit) p false h (no_pointers primitive.Unit (λ _. refl)) rules target ∙ or_false p

pub option_fitting : {T : Type 0} → (P : T → Type 0) → (t : Tree) (f : T → Plain) → ((x : T) → P x → Fits t (f x))
    → (x : Option T) → IsOptionOf P x → Fits (option t) (option_value f x)
option_fitting P t f h (of_option.Some x) p rules target = h x p rules target
option_fitting P t f h of_option.None p rules target = refl

-- ---- wrappers

pub wrap_fixed : (t : Tree) → IsFixed t → IsFixed (wrap wrapper.NotPod t)
wrap_fixed t h rules elsewhere target other v = h rules elsewhere target other v

pub not_pod_indirect : (t : Tree) → Indirections (wrap wrapper.NotPod t) true
not_pod_indirect t rules target = refl
