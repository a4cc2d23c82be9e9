-- Laws over the definitions of documents.
use Rattle.std.specs.Prelude.{◌≡◌, ◌<◌, ℕ, [], None, IsTrue}
use Rattle.serde_json.specs.Data.{Data, depth}
use Rattle.abi_det.specs.Offers.{One}
use Rattle.abi_pack.specs.Jobs.{job_fault}
use Rattle.abi_document.specs.Descriptions.{desc_at}
use Rattle.abi_document.specs.Made.{is_count, le64, made_desc, made_value}
use Rattle.abi_document.specs.Values.{value_at}

-- a tree that nests fewer levels than are counted is the same description whatever the count
abbrev pub DescriptionLaw : Type 0
DescriptionLaw =
    (d : Data) (n m : ℕ) → depth d < n → depth d < m → desc_at n d ≡ desc_at m d

-- and the same value
abbrev pub ValueLaw : Type 0
ValueLaw = (d : Data) (n m : ℕ) → depth d < n → depth d < m → value_at n d ≡ value_at m d

-- a made job has no fault
abbrev pub MadeLaw : Type 0
MadeLaw =
    (k : ℕ) → IsTrue (is_count k) → job_fault One le64 (made_desc k) (made_value k) [] ≡ None
