-- What the source and the sink over memory are to their users.
use Rattle.std.specs.Prelude.{◌≡◌, ◌⊎◌, ◌-◌, ◌<◌, ℕ, List, [], Result, MatchResult, Contains, length}

-- the bytes still to come, the numbers of the calls that fail, the number of the next call, the failures so far
pub record SourceState : Type 0 where
  pub left : List ℕ
  pub fails : List ℕ
  pub calls : ℕ
  pub faults : ℕ

-- the bytes written, how many more fit, and the same three
pub record SinkState : Type 0 where
  pub got : List ℕ
  pub room : ℕ
  pub fails : List ℕ
  pub calls : ℕ
  pub faults : ℕ

-- nothing written yet
abbrev pub empty_sink : ℕ → List ℕ → SinkState
empty_sink room fails = record { got = []; room = room; fails = fails; calls = 0; faults = 0 }

-- the next call is one of those that fail, or there is no room for any byte of the piece
abbrev pub CannotTake : SinkState → List ℕ → Type 0
CannotTake s piece = Contains s.fails s.calls ⊎ ((s.room ≡ 0) × 0 < length piece)

-- the room after a write that took so many bytes, or failed
abbrev pub LeavesRoom : {E : Type 0} → ℕ → ℕ → Result ℕ E → Type 0
LeavesRoom before now result =
    MatchResult result (λ count. now ≡ before - count) (λ _. now ≡ before)
