-- The variants of a sum: what they are called, the truth that names each, and the bits that each holds.
use Rattle.std.specs.Prelude.{ℕ, ◌+◌, ◌-◌, Bool, true, false, ◌&&◌, not, nat_lt, if◌then◌else◌}
use Rattle.abi_det.specs.SoundPlacement.{is_imposed}
use Rattle.abi_det.specs.State.{is_tested}
use Rattle.abi_det.specs.declared.determinant.Determinant.{Determinant}
use Rattle.abi_layout.specs.declared.part.Sort.{Sort}
use Rattle.abi_layout.specs.declared.part.Sort.TheVariants as sort

-- the variants are called the same
abbrev pub same_sort : Sort → Sort → Bool
same_sort sort.OfResult sort.OfResult = true
same_sort sort.OfOption sort.OfOption = true
same_sort _ _ = false

-- the test's truth that names a variant: `Ok` and `Some` are the first
abbrev pub truth_of : Determinant → Bool → Bool
truth_of d true = d.«not»
truth_of d false = not d.«not»

-- of n bytes that stand at `start`, those bits of which `held` tells
abbrev pub held_at : ℕ → ℕ → (ℕ → ℕ → Bool) → ℕ → ℕ → Bool
held_at start n held i k =
    if nat_lt i start then false else (if nat_lt i (start + n) then held (i - start) k else false)

-- the one bit of a tag or of a shared bit, and the bytes of a pattern where its presence names the variant
abbrev pub holds_test : Determinant → Bool → ℕ → ℕ → Bool
holds_test d first i k = is_imposed d.test (truth_of d first) && is_tested d.test i k
