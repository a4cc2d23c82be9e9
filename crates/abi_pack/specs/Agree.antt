-- When two images agree at a set of bits.
use Rattle.std.specs.Prelude.{◌≡◌, ℕ, ◌<◌, Bool, true}
use Rattle.std.specs.Int.{bit_at}
use Rattle.abi_pack.specs.ByteMap.{ByteMap}

-- the images agree at each bit of the first n bytes that `held` tells
abbrev pub Agree : (ℕ → ℕ → Bool) → ℕ → ByteMap → ByteMap → Type 0
Agree held n f g = (i k : ℕ) → i < n → k < 8 → held i k ≡ true → bit_at (f i) k ≡ bit_at (g i) k
