-- Laws of packed bytes, of descriptions without a fault, under either rules. Bit k of the byte at i has the number 8 * i + k.
use Rattle.std.specs.Prelude.{◌≡◌, ℕ, ◌*◌, ◌/◌, ◌%◌, ◌^◌, ◌<◌, ◌↔◌, List, Some, None, true, false, ◌==◌, bit_xor, if◌then◌else◌}
use Rattle.std.specs.Int.{bit_at}
use Rattle.std.specs.List.{list_any}
use Rattle.abi_num.specs.declared.target.Target.{Target}
use Rattle.abi_bits.specs.Forbidden.{is_match}
use Rattle.abi_bits.specs.Mask.{Has}
use Rattle.abi_det.specs.Frame.{forbids}
use Rattle.abi_det.specs.Offers.{Rules}
use Rattle.abi_layout.specs.Faults.{desc_fault}
use Rattle.abi_layout.specs.Frames.{written_frame}
use Rattle.abi_layout.specs.Trees.{Tree}
use Rattle.abi_pack.specs.ByteMap.{ByteMap, AreBytes, bytes_of}
use Rattle.abi_pack.specs.EditLists.{PlainEdit, edits_left}
use Rattle.abi_pack.specs.Jobs.{job_fault, image_of}
use Rattle.abi_pack.specs.Plain.{Plain}
use Rattle.abi_pack.specs.Reading.{value_read}
use Rattle.abi_pack.specs.Values.{fits, Shows, holds, IsLong, IsImageOf}

abbrev pub bit_of : ByteMap → ℕ → ℕ
bit_of f n = bit_at (f (n / 8)) (n % 8)

abbrev pub Holds : Rules → Target → Tree → Plain → ℕ → Type 0
Holds rules target t v n = holds rules target t v (n / 8) (n % 8) ≡ true

-- the bytes with bit n turned over
abbrev pub flipped : ℕ → ByteMap → ByteMap
flipped n f = λ i. if i == n / 8 then bit_xor (f i) (2 ^ (n % 8)) else f i

module _ (rules : Rules) (target : Target) (t : Tree) where
  -- a law on every description without a fault
  abbrev pub Faultless : Type 0
  Faultless = desc_fault rules target t ≡ None

  -- n is the number of a bit of the description's bytes
  abbrev pub IsBit : ℕ → Type 0
  IsBit n = n < 8 * (written_frame rules target t).size

  -- bit n is one of the layout's free bits
  abbrev pub IsFree : ℕ → Type 0
  IsFree n = Has (written_frame rules target t).free n

-- every value that fits has exactly one canonical byte string
abbrev pub CanonicalLaw : Type 0
CanonicalLaw =
    (rules : Rules) (target : Target) (t : Tree) (v : Plain) → Faultless rules target t
    → fits rules target t v ≡ true
    → (bs : List ℕ) × IsImageOf rules target t v bs
    × ((cs : List ℕ) → IsImageOf rules target t v cs → cs ≡ bs)

-- bytes show at most one value
abbrev pub UniqueLaw : Type 0
UniqueLaw =
    (rules : Rules) (target : Target) (t : Tree) (v w : Plain) (f : ByteMap)
    → Faultless rules target t → AreBytes f
    → Shows rules target t v f → Shows rules target t w f → v ≡ w

-- a value that bytes show fits
abbrev pub FitLaw : Type 0
FitLaw =
    (rules : Rules) (target : Target) (t : Tree) (v : Plain) (f : ByteMap)
    → Faultless rules target t → AreBytes f
    → Shows rules target t v f → fits rules target t v ≡ true

-- bytes show a value exactly where they agree with its canonical bytes at every bit that it holds
abbrev pub HeldLaw : Type 0
HeldLaw =
    (rules : Rules) (target : Target) (t : Tree) (v : Plain) (bs cs : List ℕ)
    → Faultless rules target t
    → IsImageOf rules target t v cs → IsLong rules target t bs → AreBytes (bytes_of bs)
    → Shows rules target t v (bytes_of bs)
    ↔ ((n : ℕ) → IsBit rules target t n → Holds rules target t v n
    → bit_of (bytes_of bs) n ≡ bit_of (bytes_of cs) n)

-- in bytes that show a value, a bit is held exactly where its lone flip leaves bytes that do not show the value
abbrev pub FlipLaw : Type 0
FlipLaw =
    (rules : Rules) (target : Target) (t : Tree) (v : Plain) (f : ByteMap) (n : ℕ)
    → Faultless rules target t
    → AreBytes f → IsBit rules target t n → Shows rules target t v f
    → Holds rules target t v n ↔ (Shows rules target t v (flipped n f) → ⊥)

-- no value holds a free bit of the layout
abbrev pub FreeLaw : Type 0
FreeLaw =
    (rules : Rules) (target : Target) (t : Tree) (v : Plain) (n : ℕ) → Faultless rules target t
    → IsFree rules target t n → Holds rules target t v n → ⊥

-- bytes that show a value show it after any change of the layout's free bits
abbrev pub ChangeLaw : Type 0
ChangeLaw =
    (rules : Rules) (target : Target) (t : Tree) (v : Plain) (f g : ByteMap)
    → Faultless rules target t
    → AreBytes f → AreBytes g → Shows rules target t v f
    → ((n : ℕ) → IsBit rules target t n → (IsFree rules target t n → ⊥) → bit_of f n ≡ bit_of g n)
    → Shows rules target t v g

-- bytes that show a value match no forbidden item of the layout
abbrev pub ItemLaw : Type 0
ItemLaw =
    (rules : Rules) (target : Target) (t : Tree) (v : Plain) (f : ByteMap)
    → Faultless rules target t → AreBytes f
    → Shows rules target t v f
    → list_any (is_match f) (forbids (written_frame rules target t)) ≡ false

-- two values have equal canonical bytes exactly where they are equal
abbrev pub PackedLaw : Type 0
PackedLaw =
    (rules : Rules) (target : Target) (t : Tree) (v w : Plain) (bs cs : List ℕ)
    → Faultless rules target t
    → IsImageOf rules target t v bs → IsImageOf rules target t w cs → (bs ≡ cs) ↔ (v ≡ w)

-- canonical bytes show the value and no other, so reading what was packed gives it back
abbrev pub BackLaw : Type 0
BackLaw =
    (rules : Rules) (target : Target) (t : Tree) (v w : Plain) (bs : List ℕ)
    → Faultless rules target t → IsImageOf rules target t v bs
    → Shows rules target t w (bytes_of bs) ↔ (w ≡ v)

-- what is read of bytes is the value that they show, and nothing exactly where they show none
abbrev pub ReadLaw : Type 0
ReadLaw =
    (rules : Rules) (target : Target) (t : Tree) (v : Plain) (bs : List ℕ)
    → Faultless rules target t → AreBytes (bytes_of bs)
    → (value_read rules target t bs ≡ Some v)
    ↔ (IsLong rules target t bs × Shows rules target t v (bytes_of bs))

-- the image of a job without a fault has the canonical bytes of the value that its edits leave
abbrev pub ImageLaw : Type 0
ImageLaw =
    (rules : Rules) (target : Target) (t : Tree) (v : Plain) (es : List PlainEdit)
    → job_fault rules target t v es ≡ None
    → IsImageOf rules target t (edits_left rules target t v es)
    (image_of rules target t (edits_left rules target t v es)).bytes
