-- What a typed sum or a wrapper ends as, once the `&mut` that it lent has ended.
use Rattle.std.specs.Prelude.{Option}
use Rattle.std.specs.Borrow.{Fml, Lends, LendsIf, MutBor, RattleType}
use Rattle.abi_result.specs.contracts.not_pod.NotPod as not_pod
use Rattle.abi_result.specs.contracts.option.Option as typed_option
use Rattle.abi_result.specs.contracts.result.Result as typed_result
use Rattle.abi_result.specs.contracts.stable_if.StableIf as stable_if
use Rattle.abi_result.specs.contracts.stable_like.StableLike as stable_like
use Rattle.abi_result.specs.declared.not_pod.NotPod.{NotPod}
use Rattle.abi_result.specs.declared.option.Option as declared_option
use Rattle.abi_result.specs.declared.option.Option.TheVariants as of_option
use Rattle.abi_result.specs.declared.result.Result as declared_result
use Rattle.abi_result.specs.declared.result.Result.TheVariants as of_result
use Rattle.abi_result.specs.declared.stable_if.StableIf.{StableIf}
use Rattle.abi_result.specs.declared.stable_like.StableLike.{StableLike}

module _ (T E : RattleType) (s : MutBor (declared_result.Result T.Denot E.Denot)) where
  -- s ends as `Ok` of what r ends as, and where there is no r it stays
  abbrev pub LendsOk : Option (MutBor T.Denot) → Fml
  LendsOk r = LendsIf (typed_result.the_row T E) T s r (λ x. of_result.Ok x) s.now

  -- s ends as `Err` of what r ends as, and where there is no r it stays
  abbrev pub LendsErr : Option (MutBor E.Denot) → Fml
  LendsErr r = LendsIf (typed_result.the_row T E) E s r (λ e. of_result.Err e) s.now

module _ (T : RattleType) where
  -- s ends as `Some` of what r ends as, and where there is no r it stays
  abbrev pub LendsSome : MutBor (declared_option.Option T.Denot) → Option (MutBor T.Denot) → Fml
  LendsSome s r = LendsIf (typed_option.the_row T) T s r (λ x. of_option.Some x) s.now

  -- s ends with what r ends as in it
  abbrev pub LendsNotPod : MutBor (NotPod T.Denot) → MutBor T.Denot → Fml
  LendsNotPod s r = Lends (not_pod.the_row T) T s r (λ x. record { 0 = x })

  abbrev pub LendsStableIf : (Cond : RattleType) → MutBor (StableIf T.Denot Cond.Denot) → MutBor T.Denot → Fml
  LendsStableIf Cond s r = Lends (stable_if.the_row T Cond) T s r (λ x. record s.now { value = x })

  abbrev pub LendsStableLike : (As : RattleType) → MutBor (StableLike T.Denot As.Denot) → MutBor T.Denot → Fml
  LendsStableLike As s r = Lends (stable_like.the_row T As) T s r (λ x. record s.now { value = x })
