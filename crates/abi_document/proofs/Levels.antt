-- One level of what is read.
use Rattle.std.proofs.Common.{◌≡◌, ℕ, zero, suc, ◌<◌, ◌-◌, Option, None, refl, arith}
use Rattle.serde_json.specs.Data.{Data}
use Rattle.abi_document.specs.Forms.{nested}

pub no_level : {A : Type 0} (step : (Data → Option A) → Data → Option A) (levels : ℕ) (d : Data) → levels ≡ 0 → None ≡ nested step levels d
unfolding nested
no_level step zero d e = refl
no_level step (suc n) d e = absurd (omega (arith, e))

pub one_level : {A : Type 0} (step : (Data → Option A) → Data → Option A) (levels : ℕ) (d : Data) → 0 < levels → step (nested step (levels - 1)) d ≡ nested step levels d
unfolding nested
one_level step zero d lt = absurd (omega (arith, lt))
one_level step (suc n) d lt = let e : suc n - 1 ≡ n = omega arith in rw e refl
