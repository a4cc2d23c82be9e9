-- Bytes with and without a reading, as the parser tells of them.
use Rattle.std.proofs.Common.{◌≡◌, ℕ, List, Bool, true, false, cond, Option, Some, None, refl, sym}
use Rattle.std.specs.Str.{IsUtf8, is_utf8}
use Rattle.std.proofs.lemmas.Str.{is_utf8-from_IsUtf8, IsUtf8-from_is_utf8}
use Rattle.serde_json.specs.Data.{Data}
use Rattle.serde_json.specs.Read.{read}
use Rattle.abi_tool.specs.Reading.{reading}

pub has_reading : (bytes : List ℕ) (tree : Data) → IsUtf8 bytes → read bytes ≡ Some tree → Some tree ≡ reading bytes
unfolding reading
has_reading bytes tree text e = rw (is_utf8-from_IsUtf8 bytes text) (sym e)

none_or : (b : Bool) (o : Option Data) → (b ≡ true → o ≡ None) → None ≡ cond b o None
none_or true o h = sym (h refl)
none_or false o h = refl

pub has_none : (bytes : List ℕ) → (IsUtf8 bytes → read bytes ≡ None) → None ≡ reading bytes
unfolding reading
has_none bytes h = none_or (is_utf8 bytes) (read bytes) (λ t. h (IsUtf8-from_is_utf8 bytes t))
