-- What a header becomes, step by step.
use Rattle.std.proofs.Common.{◌≡◌, sym, subst, ℕ, Bool, List, Result, Ok, Err, refl}
use Rattle.std.specs.Prelude.{nat_le}
use Rattle.dw_base.specs.declared.common.Encoding.{Encoding}
use Rattle.dw_base.specs.declared.common.LineEncoding.{LineEncoding}
use Rattle.dw_base.specs.declared.ids.FileId.{FileId}
use Rattle.dw_line.specs.declared.line_string.LineString.{LineString}
use Rattle.dw_read.specs.Reading.{Reading, left}
use Rattle.dw_read_lines.specs.FileEntryIters.{layout_of, HasParts, BeginsEntries}
use Rattle.dw_read_lines.specs.LineEntries.{Directories, next_read}
use Rattle.dw_read_lines.specs.declared.file_entries.FileEntryIter.{FileEntryIter}
use Rattle.dw_read_lines.specs.declared.file_entries.Layout.{Layout as HeldLayout}
use Rattle.dw_read_lines.specs.declared.file_entries.Layout.TheVariants as held
use Rattle.dw_read_lines.specs.declared.header.LineProgramHeader.{LineProgramHeader}
use Rattle.dw_sources.specs.declared.convert_error.ConvertError.{ConvertError}
use Rattle.dw_convert_lines.specs.Entries.{IsSameList, IsConvertibleList}
use Rattle.dw_convert_lines.specs.EntryImages.{Converting}
use Rattle.dw_convert_lines.specs.EntryNames.{Texts, Tables}
use Rattle.dw_convert_lines.specs.HeaderImages.{Working, BeginOutcome, working_image, DirectoriesOutcome, HeaderOutcome}
use Rattle.dw_convert_lines.specs.HeaderLists.{AreDirectories, AreOfHeader, ProgramMade, list_of, working_at}
use Rattle.dw_convert_lines.proofs.Beginnings.{BeginsList, begins_directories, laid}

module _ (R E : Type 0) (reading : R → Reading) (texts : Texts) (h : LineProgramHeader R E) (e : Encoding) (parameters : LineEncoding) (t : Tables) where
  abbrev read : Encoding
  read = h.encoding.encoding

  abbrev big : Bool
  big = (reading h.tables).is_big

  abbrev bytes : List ℕ
  bytes = left (reading h.tables)

  abbrev Outcome : Result (Converting FileId) ConvertError → Type 0
  Outcome r = HeaderOutcome texts read big (reading h.parameters.operand_counts).is_big bytes e parameters t r

  pub no_directories : (x : ConvertError) → BeginOutcome (nat_le 5 read.version) Directories big read bytes (Err x) → Outcome (Err x)
  no_directories x k = (Err x, k, refl)

  -- an iterator over the directories of the header
  pub record BeginsHeader (i : FileEntryIter R E) : Type 0 where
    pub begins : BeginsEntries reading (nat_le 5 read.version) held.Directories big read bytes i
    pub ordered : (reading i.input).is_big ≡ big
    pub convertible : IsConvertibleList reading i

  abbrev listed : (i : FileEntryIter R E) → BeginsHeader i → BeginsList R E reading (nat_le 5 read.version) Directories big read bytes i
  listed i b = begins_directories R E reading (nat_le 5 read.version) big read bytes i b.begins b.convertible

  abbrev parts_of : (i : FileEntryIter R E) → BeginsHeader i → List (ℕ × ℕ)
  parts_of i b = (listed i b).open_yet.parts

  -- what the working directory becomes, from version 5 of the header on the first of the directories
  abbrev pub IsWorking : Bool → FileEntryIter R E → Result Working ConvertError → Type 0
  IsWorking new i r =
      (parts : List (ℕ × ℕ)) → HasParts reading i.layout parts → working_image new (nat_le 5 e.version) texts (next_read (reading i.input).is_big (layout_of reading i.layout parts)) i.remaining (left (reading i.input)) t ≡ r

  -- the working directory, in the order of the header
  image_in : (new : Bool) (i : FileEntryIter R E) (b : BeginsHeader i) (r : Result Working ConvertError) → new ≡ nat_le 5 read.version → IsWorking new i r
      → r ≡ working_image (nat_le 5 read.version) (nat_le 5 e.version) texts (next_read big (layout_of reading i.layout (parts_of i b))) i.remaining (left (reading i.input)) t
  image_in new i b r q f =
      let g : IsWorking (nat_le 5 read.version) i r = subst (λ (n : Bool). IsWorking n i r) q f in
      subst (λ (o : Bool). r ≡ working_image (nat_le 5 read.version) (nat_le 5 e.version) texts (next_read o (layout_of reading i.layout (parts_of i b))) i.remaining (left (reading i.input)) t) b.ordered
      (sym (g (parts_of i b) (listed i b).open_yet.described))

  pub no_working : (new : Bool) (i : FileEntryIter R E) (x : ConvertError) → BeginsHeader i → new ≡ nat_le 5 read.version → IsWorking new i (Err x) → Outcome (Err x)
  no_working new i x b q f = (Ok (list_of reading i (parts_of i b)), (listed i b).outcome, (Err x, image_in new i b (Err x) q f, refl))

  -- the rest of the list is laid out as all of it
  pub laid_behind : (i j : FileEntryIter R E) → BeginsHeader i → IsSameList reading i j → AreOfHeader reading h j
  laid_behind i j b same = subst (λ (l : HeldLayout R E). AreDirectories (nat_le 5 read.version) read l) (sym same.layout) (laid R E reading (nat_le 5 read.version) big read bytes i b.begins)

  -- the working directory was converted, and the rest of the list follows
  pub behind_working : (new : Bool) (i j : FileEntryIter R E) (name : LineString) (u : Tables) (r : Result (Converting FileId) ConvertError)
      → BeginsHeader i → new ≡ nat_le 5 read.version → IsWorking new i (Ok (working_at reading name u j)) → IsSameList reading i j → ProgramMade reading texts h e parameters j name u r → Outcome r
  behind_working new i j name u r b q f same made =
      let has : HasParts reading j.layout (parts_of i b) = subst (λ (l : HeldLayout R E). HasParts reading l (parts_of i b)) (sym same.layout) (listed i b).open_yet.described in
      let d = made (parts_of i b) has in
      let c : DirectoriesOutcome texts read (reading i.input).is_big (reading h.parameters.operand_counts).is_big bytes e parameters (list_of reading j (parts_of i b)) (working_at reading name u j) r =
      subst (λ (o : Bool). DirectoriesOutcome texts read o (reading h.parameters.operand_counts).is_big bytes e parameters (list_of reading j (parts_of i b)) (working_at reading name u j) r) same.order d in
      let a : DirectoriesOutcome texts read big (reading h.parameters.operand_counts).is_big bytes e parameters (list_of reading j (parts_of i b)) (working_at reading name u j) r =
      subst (λ (o : Bool). DirectoriesOutcome texts read o (reading h.parameters.operand_counts).is_big bytes e parameters (list_of reading j (parts_of i b)) (working_at reading name u j) r) b.ordered c in
      let z : DirectoriesOutcome texts read big (reading h.parameters.operand_counts).is_big bytes e parameters (list_of reading i (parts_of i b)) (working_at reading name u j) r =
      subst (λ (l : HeldLayout R E). DirectoriesOutcome texts read big (reading h.parameters.operand_counts).is_big bytes e parameters (record { layout = layout_of reading l (parts_of i b); count = i.remaining; bytes = left (reading i.input) }) (working_at reading name u j) r) same.layout a in
      (Ok (list_of reading i (parts_of i b)), (listed i b).outcome, (Ok (working_at reading name u j), image_in new i b (Ok (working_at reading name u j)) q f, z))
