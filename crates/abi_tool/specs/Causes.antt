-- The one reason that a source or a sink may give for a failure: its count of faults.
use Rattle.std.specs.Prelude.{◌≡◌, ℕ, ◌+◌, ◌-◌, ◌^◌, ◌≤◌, min, Result, OnErr, MatchResult}

-- a count, one higher; it stands still at the last value of its type
abbrev pub raised : ℕ → ℕ
raised count = min (count + 1) (2 ^ 64 - 1)

-- the count rose, or stands at its last value
abbrev pub Rose : ℕ → ℕ → Type 0
Rose before now = raised before ≤ now

-- the count rose by one where the result is a failure, and else stands
abbrev pub Counts : {A E : Type 0} → ℕ → ℕ → Result A E → Type 0
Counts before now result = MatchResult result (λ _. now ≡ before) (λ _. now ≡ raised before)

-- the count never falls, and a failure comes only where it rose
pub record HasCause {A E : Type 0} (before now : ℕ) (result : Result A E) : Type 0 where
  pub later : before ≤ now
  pub failed : OnErr result (Rose before now)
