-- What status 0 says: of `pack`, that an image with the written layout was written, which shows the value that the
-- edits leave and no other; of `layout`, that the written layout was; of `read`, that the one value was that the bytes
-- show; of `edit`, that the edited bytes were; of `report`, that the identifier and the report were; of `made`, that
-- the summary of the made job's image was.
use Rattle.std.specs.Prelude.{◌≡◌, ◌≢◌, ◌↔◌, ◌⊎◌, ℕ, ◌+◌, ◌*◌, ◌<◌, List, [], Bool, true, false, Option, Some, None, length}
use Rattle.std.specs.List.{list_any}
use Rattle.std.specs.Io.KnownBytes.{Appends, Keeps}
use Rattle.serde_json.specs.Data.{Data}
use Rattle.abi_num.specs.declared.target.Target.{Target}
use Rattle.abi_bits.specs.Pairs.{Pair}
use Rattle.abi_bits.specs.Mask.{Has}
use Rattle.abi_bits.specs.Forbidden.{is_match}
use Rattle.abi_det.specs.Frame.{Frame, forbids}
use Rattle.abi_det.specs.Roles.{larger, smaller, is_place, union_size, sum_align}
use Rattle.abi_det.specs.Offers.{One}
use Rattle.abi_det.specs.Niches.{IsNiche, OffersNone}
use Rattle.abi_det.specs.Refusals.{AreComplete}
use Rattle.abi_det.specs.Written.{written_placement, written_sum}
use Rattle.abi_det.specs.declared.placements.Kind.{Kind}
use Rattle.abi_det.specs.declared.placements.Kind.TheVariants as kind
use Rattle.abi_det.specs.declared.determinant.Test.{Test}
use Rattle.abi_layout.specs.Faults.{desc_fault}
use Rattle.abi_layout.specs.Frames.{written_frame}
use Rattle.abi_layout.specs.Sums.{written_sums}
use Rattle.abi_layout.specs.Trees as trees
use Rattle.abi_layout.specs.Trees.{Tree, Branches}
use Rattle.abi_pack.specs.ByteMap.{ByteMap as Bytes, AreBytes, bytes_of}
use Rattle.abi_pack.specs.EditLists.{PlainEdit, edits_left, AreEdited}
use Rattle.abi_pack.specs.Jobs.{job_fault, edits_fault}
use Rattle.abi_pack.specs.Laws.{bit_of}
use Rattle.abi_pack.specs.Plain.{Plain}
use Rattle.abi_pack.specs.Values.{Shows, IsCanonical}
use Rattle.abi_pack.specs.declared.image.Image.{Image}
use Rattle.abi_document.specs.Documents.{pack, layout, read, edit, report, job_of}
use Rattle.abi_document.specs.Made.{le64, made_desc, made_value}
use Rattle.abi_document.specs.declared.command.Command.TheVariants.{Pack, Layout, Read, Edit, Report}
use Rattle.abi_tool.specs.Lines.{image_text, value_line, bytes_line, made_text}
use Rattle.abi_tool.specs.Moves.{WentInPart}
use Rattle.abi_tool.specs.Outcomes.{laid_out_text, report_lines}
use Rattle.abi_tool.specs.Reading.{reading}
use Rattle.abi_tool.specs.Reply.{made_reply}

-- the two images are equal in each bit below the size that is not free
abbrev pub AgreesOutside : List Pair → ℕ → Bytes → Bytes → Type 0
AgreesOutside free size f g = (n : ℕ) → n < 8 * size → (Has free n → ⊥) → bit_of f n ≡ bit_of g n

-- the image shows this value and no other, and matches no forbidden item
pub record ShowsOnly (target : Target) (t : Tree) (value : Plain) (image : Bytes) : Type 0 where
  pub shown : (v : Plain) → Shows One target t v image ↔ (v ≡ value)
  pub allowed : list_any (is_match image) (forbids (written_frame One target t)) ≡ false

-- ---- the packed sums

-- a sum is as large as its larger variant, rounded up, and by one alignment larger exactly where no existing place
-- offers a niche
pub record IsSized (ok err : Frame) : Type 0 where
  pub niched : (k : ℕ) (a : Kind) (n : ℕ) (t : Test)
      → is_place (smaller ok err) (union_size ok err) k ≡ true
      → IsNiche One (larger ok err) (smaller ok err) (union_size ok err) k a n t
      → (written_sum One ok err).size ≡ union_size ok err
  pub tagged : OffersNone One (larger ok err) (smaller ok err) (union_size ok err) 8
      → (written_sum One ok err).size ≡ union_size ok err + sum_align ok err

-- with a tag, and only with one, there are refusals: one that holds for each existing place, by rising place
pub record IsExplained (ok err : Frame) : Type 0 where
  pub refused : (written_placement One ok err).kind ≡ kind.Tag
      → AreComplete One ok err (written_placement One ok err).refusals
  pub niched : (written_placement One ok err).kind ≢ kind.Tag
      → (written_placement One ok err).refusals ≡ []

-- P holds of the frames of the two variants of each packed sum; those of a pointee and of a condition are none of the
-- description's
abbrev mutual
  pub EachSum : (Frame → Frame → Type 0) → Target → Tree → Type 0
  EachSum P target (trees.prim p) = Unit {0}
  EachSum P target (trees.struct label fs align) = EachSumIn P target fs
  EachSum P target (trees.array item len) = EachSum P target item
  EachSum P target (trees.union side) = (first : Bool) → EachSum P target (side first)
  EachSum P target (trees.sum names side) =
      P (written_frame One target (side true)) (written_frame One target (side false))
      × ((first : Bool) → EachSum P target (side first))
  EachSum P target (trees.core names side) = (first : Bool) → EachSum P target (side first)
  EachSum P target (trees.wrap kind t) = EachSum P target t
  EachSum P target (trees.stable_if value condition) = EachSum P target value
  EachSum P target (trees.pointer kind t) = Unit {0}
  EachSum P target (trees.no_niches size align niches indirections) = Unit {0}
  EachSum P target (trees.leaf l) = Unit {0}

  pub EachSumIn : (Frame → Frame → Type 0) → Target → Branches → Type 0
  EachSumIn P target trees.none = Unit {0}
  EachSumIn P target (trees.field name t fs) = EachSum P target t × EachSumIn P target fs

-- ---- the commands

-- the document was a job without a fault, and what the sink got is the text of an image: of the written layout and
-- sums, as long as the layout says, canonical for the value that the edits leave, and with each image that differs in
-- free bits alone it shows this value only
pub record Packs (bytes : List ℕ) (old new : Option (List ℕ)) : Type 0 where
  pub tree : Data
  pub target : Target
  pub desc : Tree
  pub given : Plain
  pub edits : List PlainEdit
  pub value : Plain
  pub image : Image
  pub is_read : reading bytes ≡ Some tree
  pub is_job : job_of Pack tree ≡ Some (record { target = target; task = pack desc given edits })
  pub no_fault : job_fault One target desc given edits ≡ None
  pub is_left : value ≡ edits_left One target desc given edits
  pub wrote : Appends old new (image_text image)
  pub is_layout : image.layout ≡ written_frame One target desc
  pub are_sums : image.placed ≡ written_sums One target 0 desc
  pub are_sized : EachSum IsSized target desc
  pub fills : length image.bytes ≡ image.layout.size
  pub canonical : IsCanonical One target desc value (bytes_of image.bytes)
  pub shows : (f : Bytes) → AreBytes f
      → AgreesOutside image.layout.free image.layout.size (bytes_of image.bytes) f
      → ShowsOnly target desc value f

-- the document was a description without a fault, and what the sink got is the text of its written layout and written
-- sums, each sum with a tag followed by its refusals
pub record LaysOut (bytes : List ℕ) (old new : Option (List ℕ)) : Type 0 where
  pub tree : Data
  pub target : Target
  pub desc : Tree
  pub is_read : reading bytes ≡ Some tree
  pub is_job : job_of Layout tree ≡ Some (record { target = target; task = layout desc })
  pub no_fault : desc_fault One target desc ≡ None
  pub wrote : Appends old new (laid_out_text target desc)
  pub are_explained : EachSum IsExplained target desc

-- the document was a description without a fault, with as many bytes as it has; they show one value and no other, and
-- what the sink got is the line of this value
pub record Reads (bytes : List ℕ) (old new : Option (List ℕ)) : Type 0 where
  pub tree : Data
  pub target : Target
  pub desc : Tree
  pub given : List ℕ
  pub value : Plain
  pub is_read : reading bytes ≡ Some tree
  pub is_job : job_of Read tree ≡ Some (record { target = target; task = read desc given })
  pub no_fault : desc_fault One target desc ≡ None
  pub fills : length given ≡ (written_frame One target desc).size
  pub shows : ShowsOnly target desc value (bytes_of given)
  pub wrote : Appends old new (value_line value)

-- the document was a description without a fault, with as many bytes as it has; they show one value and no other, none
-- of its edits has a fault, and what the sink got is the line of the bytes that come of those handed in by one edit
-- after the other
pub record Edits (bytes : List ℕ) (old new : Option (List ℕ)) : Type 0 where
  pub tree : Data
  pub target : Target
  pub desc : Tree
  pub given : List ℕ
  pub edits : List PlainEdit
  pub value : Plain
  pub edited : List ℕ
  pub is_read : reading bytes ≡ Some tree
  pub is_job : job_of Edit tree ≡ Some (record { target = target; task = edit desc given edits })
  pub no_fault : desc_fault One target desc ≡ None
  pub fills : length given ≡ (written_frame One target desc).size
  pub shows : ShowsOnly target desc value (bytes_of given)
  pub no_edit_fault : edits_fault One target desc value 0 edits ≡ None
  pub are_edited : AreEdited One target desc value edits given edited
  pub wrote : Appends old new (bytes_line edited)

-- the document was a description without a fault, and what the sink got are the lines of its identifier and its report
pub record Reports (bytes : List ℕ) (old new : Option (List ℕ)) : Type 0 where
  pub tree : Data
  pub target : Target
  pub desc : Tree
  pub is_read : reading bytes ≡ Some tree
  pub is_job : job_of Report tree ≡ Some (record { target = target; task = report desc })
  pub no_fault : desc_fault One target desc ≡ None
  pub wrote : Appends old new (report_lines target desc)

-- the job of k fields has no fault, and what the sink got are the lines of its image: of the written layout and sums,
-- as long as the layout says, canonical for the job's value, which is read back
pub record MakesWhole (k : ℕ) (old new : Option (List ℕ)) : Type 0 where
  pub image : Image
  pub no_fault : job_fault One le64 (made_desc k) (made_value k) [] ≡ None
  pub is_layout : image.layout ≡ written_frame One le64 (made_desc k)
  pub are_sums : image.placed ≡ written_sums One le64 0 (made_desc k)
  pub fills : length image.bytes ≡ image.layout.size
  pub canonical : IsCanonical One le64 (made_desc k) (made_value k) (bytes_of image.bytes)
  pub wrote : Appends old new (made_text k true image)

-- the lines of the made job, or with 3 a beginning of them, or with 8 nothing
abbrev pub Makes : ℕ → Option (List ℕ) → Option (List ℕ) → ℕ → Type 0
Makes k old new status =
    ((status ≡ 0) × MakesWhole k old new)
    ⊎ ((status ≡ 3) × WentInPart old new (made_reply k).text)
    ⊎ ((status ≡ 8) × Keeps old new)
