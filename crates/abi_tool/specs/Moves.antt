-- What a read of a whole document takes from its source, and a write of a whole text puts into its sink.
use Rattle.std.specs.Prelude.{◌≡◌, ℕ, ◌+◌, ◌^◌, ◌<◌, ◌≤◌, List, Option, length, take}
use Rattle.std.specs.Io.KnownBytes.{Consumes, Appends, IsAtEnd}

-- the most bytes of a document
unfoldable pub limit : ℕ
limit = 2 ^ 22

-- the source gave these bytes, which are all that it had, and a document may be so long
pub record CameWhole (old new : Option (List ℕ)) (bytes : List ℕ) : Type 0 where
  pub came : Consumes old new bytes
  pub ended : IsAtEnd new
  pub short : length bytes ≤ limit

-- the source gave one byte more than a document may have
pub record CameTooLong (old new : Option (List ℕ)) : Type 0 where
  pub bytes : List ℕ
  pub came : Consumes old new bytes
  pub long : length bytes ≡ limit + 1

-- the sink got a beginning of the text, and not all of it
pub record WentInPart (old new : Option (List ℕ)) (text : List ℕ) : Type 0 where
  pub count : ℕ
  pub within : count < length text
  pub went : Appends old new (take count text)
