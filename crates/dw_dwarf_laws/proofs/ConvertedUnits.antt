-- Units that were read, which stand for the same.
use Rattle.std.proofs.Common.{◌≡◌, ◌∙◌, sym, ap, subst, ℕ, zero, suc, ◌<◌, List, [], ◌∷◌, length, map, Bool, Option, Some, None, Result, Ok, refl, arith}
use Rattle.std.specs.Prelude.{◌==◌, unwrap_or, if◌then◌else◌}
use Rattle.dw_base.specs.Abbreviations.{Declaration}
use Rattle.dw_base.specs.Entries.{ReadEntry, Mark, Open, Row, mark_at, next_depth}
use Rattle.dw_base.specs.Info.{ReadUnit}
use Rattle.dw_base.specs.declared.common.Encoding.{Encoding}
use Rattle.dw_base.specs.declared.common.Format.{Format}
use Rattle.dw_base.specs.declared.constants.DwUt.{DwUt}
use Rattle.dw_base.specs.declared.constants.TheConstants.{DW_UT_compile, DW_UT_split_compile, DW_AT_str_offsets_base, DW_AT_addr_base, DW_AT_loclists_base, DW_AT_rnglists_base, DW_AT_low_pc, DW_AT_GNU_addr_base, DW_AT_GNU_ranges_base}
use Rattle.dw_read.specs.FormReasons.{mark_read}
use Rattle.dw_read.specs.Reading.{Reading, left}
use Rattle.dw_read.specs.Took.{option_of}
use Rattle.dw_read.specs.Values.{Value}
use Rattle.dw_read.specs.declared.error.ReadError.{ReadError}
use Rattle.dw_read.specs.declared.value.AttributeValue.TheVariants as read
use Rattle.dw_read.proofs.FormLaws.{mark_law}
use Rattle.dw_read.proofs.Items.{then_parts}
use Rattle.dw_read.proofs.Laws.{read_is}
use Rattle.dw_read.proofs.Shorter.{mark_shorter}
use Rattle.dw_read_units.specs.Passes.{rows_reading}
use Rattle.dw_read_units.specs.RootFields.{IsLowPc}
use Rattle.dw_read_units.specs.Roots.{base_of, base_or, first_part, last_value, named_of, program_in}
use Rattle.dw_read_units.specs.Walks.{rows_read}
use Rattle.dw_read_units.specs.declared.dwarf.Dwarf.{Dwarf}
use Rattle.dw_read_units.specs.declared.unit_ref.UnitRef.{UnitRef}
use Rattle.dw_sources.specs.RawListIters.{encoding_in}
use Rattle.dw_entry_ids.specs.Units.{IsNumbered}
use Rattle.dw_entry_ids.specs.declared.units.NumberedUnit.{NumberedUnit}
use Rattle.dw_convert.specs.Lookups.{address_behind}
use Rattle.dw_convert.specs.Outcomes.{of_read}
use Rattle.dw_convert.specs.Sources.{text_from, text_behind, list_behind}
use Rattle.dw_base.specs.Numbers.{word_of}
use Rattle.dw_dwarf_laws.proofs.Results.{same_some}
use Rattle.dw_dwarf_laws.proofs.ConvertedValues.{LeadAlike}

-- the same sections
pub record AreSameSections {R E : Type 0} (reading : R → Reading) (d e : Dwarf R E) : Type 0 where
  pub debug_abbrev : reading d.debug_abbrev ≡ reading e.debug_abbrev
  pub debug_str : reading d.debug_str ≡ reading e.debug_str
  pub debug_line_str : reading d.debug_line_str ≡ reading e.debug_line_str
  pub debug_line : reading d.debug_line ≡ reading e.debug_line
  pub debug_ranges : reading d.debug_ranges ≡ reading e.debug_ranges
  pub debug_rnglists : reading d.debug_rnglists ≡ reading e.debug_rnglists
  pub debug_loc : reading d.debug_loc ≡ reading e.debug_loc
  pub debug_loclists : reading d.debug_loclists ≡ reading e.debug_loclists
  pub debug_info : reading d.debug_info ≡ reading e.debug_info
  pub debug_addr : reading d.debug_addr ≡ reading e.debug_addr
  pub debug_str_offsets : reading d.debug_str_offsets ≡ reading e.debug_str_offsets

-- Two units that become the same: all that is looked at when they are converted.
pub record AreUnitsAlike {R E : Type 0} (reading : R → Reading) (u v : UnitRef R E) : Type 0 where
  pub sections : AreSameSections reading u.dwarf.now v.dwarf.now
  pub offset : u.unit.now.header.offset.0 ≡ v.unit.now.header.offset.0
  pub encoding : encoding_in u ≡ encoding_in v
  pub order : (reading u.unit.now.header.body).is_big ≡ (reading v.unit.now.header.body).is_big
  pub rows : rows_reading reading u.unit.now.header u.unit.now.abbreviations ≡ rows_reading reading v.unit.now.header v.unit.now.abbreviations
  pub base : u.unit.now.low_pc ≡ v.unit.now.low_pc
  pub program : u.unit.now.line_program ≡ v.unit.now.line_program
  pub str_offsets : u.unit.now.str_offsets_base ≡ v.unit.now.str_offsets_base
  pub addr : u.unit.now.addr_base ≡ v.unit.now.addr_base
  pub loclists : u.unit.now.loclists_base ≡ v.unit.now.loclists_base
  pub rnglists : u.unit.now.rnglists_base ≡ v.unit.now.rnglists_base

pub lead_alike : {R E : Type 0} (reading : R → Reading) (u v : UnitRef R E) → AreUnitsAlike reading u v → LeadAlike reading u v
lead_alike reading u v a =
    let s = a.sections in
    record {
      encoding = a.encoding;
      base = a.base;
      program = a.program;
      addresses = λ i k. of_read (address_behind (s.debug_addr i) (a.addr i) (a.encoding i).address_size k);
      strings = λ i k. of_read (text_from (s.debug_str i) k);
      line_strings = λ i k. of_read (text_from (s.debug_line_str i) k);
      indexed_strings = λ i k. of_read (text_behind (s.debug_str_offsets i) (s.debug_str i) (a.str_offsets i) (word_of (a.encoding i).format) k);
      indexed_ranges = λ i k. of_read (list_behind (s.debug_rnglists i) (a.rnglists i) (word_of (a.encoding i).format) k);
      indexed_locations = λ i k. of_read (list_behind (s.debug_loclists i) (a.loclists i) (word_of (a.encoding i).format) k);
      ranges = λ i. if (a.encoding i).version == 5 then s.debug_rnglists i else s.debug_ranges i;
      locations = λ i. if (a.encoding i).version == 5 then s.debug_loclists i else s.debug_loc i;
    }

-- The rows of a unit tell its root.

abbrev first_mark : List Row → Option (Mark ReadEntry)
first_mark [] = None
first_mark (r ∷ rows) = Some r.mark

marked : (r : Row) (rows all : List Row) (root : ReadEntry) → r.mark ≡ Open root → ◌≡◌ {A = Result (List Row) ReadError} (Ok (r ∷ rows)) (Ok all) → first_mark all ≡ Some (Open root)
marked r rows all root m e = let q : r ∷ rows ≡ all = cc in ap first_mark (sym q) ∙ ap (λ (k : Mark ReadEntry). Some k) m

rows_marked : (fuel : ℕ) (big : Bool) (e : Encoding) (table : List Declaration) (from depth : ℕ) (bytes rest : List ℕ) (root : ReadEntry) (rows : List Row)
    → mark_read big e table bytes ≡ Ok (Open root, rest) → rows_read fuel big e table from depth bytes ≡ Ok rows → first_mark rows ≡ Some (Open root)
unfolding rows_read
rows_marked fuel big e table from depth [] rest root rows m r = absurd (let s : length rest < 0 = mark_shorter big e table [] (Open root, rest) m in omega arith)
rows_marked zero big e table from depth (b ∷ bs) rest root rows m r = absurd (cc)
rows_marked (suc fuel) big e table from depth (b ∷ bs) rest root rows m r =
    let x = then_parts (mark_read big e table (b ∷ bs)) _ rows r in
    let more = then_parts (rows_read fuel big e table _ (next_depth x.0.0 depth) x.0.1) _ rows x.2 in
    let q : x.0 ≡ (Open root, rest) = cc in
    marked _ more.0 rows root (ap (λ (y : Mark ReadEntry × List ℕ). y.0) q) more.2

module _ {R E : Type 0} (keep : ℕ → Bool) (reading : R → Reading) (d : Dwarf R E) (held : NumberedUnit R E) (u : ReadUnit) (n : IsNumbered keep reading d held u) where
  root_first : first_mark u.rows ≡ Some (Open n.unit.root)
  root_first =
      let h = held.unit.header in
      let bytes = left (reading h.body) in
      let m = read_is (Mark ReadEntry) (mark_at (reading h.body).is_big h.fields.encoding held.unit.abbreviations) (mark_read (reading h.body).is_big h.fields.encoding held.unit.abbreviations) bytes (Open n.unit.root, n.unit.rest) (mark_law (reading h.body).is_big h.fields.encoding held.unit.abbreviations) n.unit.row in
      rows_marked (length bytes) (reading h.body).is_big h.fields.encoding held.unit.abbreviations _ 0 bytes n.unit.rest n.unit.root u.rows m n.rows

-- What the root tells is one thing.

abbrev read_number : ℕ → List ℕ → Option (ℕ × List ℕ)
read_number n rest = Some (n, rest)

same_number : (m n : ℕ) (r s : List ℕ) → read_number m r ≡ read_number n s → m ≡ n
same_number m n r s e = let q : ◌≡◌ {A = ℕ × List ℕ} (m, r) (n, s) = cc in ap (λ (z : ℕ × List ℕ). z.0) q

low_pc_once : (section : Reading) (base size : ℕ) (v : Option Value) (x y : ℕ) → IsLowPc section base size v x → IsLowPc section base size v y → x ≡ y
low_pc_once section base size (Some (read.DebugAddrIndex i)) x y h k = same_number x y h.rest k.rest (sym h.is ∙ k.is)
low_pc_once section base size (Some (read.Addr a)) x y h k = h ∙ sym k
low_pc_once section base size v x y h k = h ∙ sym k

abbrev type_or : Option DwUt → ℕ
type_or t = (unwrap_or t DW_UT_compile).0

abbrev type_of : Option ℕ → ℕ
type_of None = DW_UT_compile.0
type_of (Some n) = n

type_told : (t : Option DwUt) → type_or t ≡ type_of (option_of (λ t. t.0) t)
type_told None = refl
type_told (Some t) = refl

-- the bases of a unit that is split or not
abbrev BasesBy : Type 0
BasesBy = ℕ × ℕ × ℕ × ℕ

abbrev bases_by : Bool → Format → List (ℕ × Value) → BasesBy
bases_by split format xs = (
  base_or (first_part split format 8 16) (last_value DW_AT_str_offsets_base.0 DW_AT_str_offsets_base.0 xs),
  base_of 0 DW_AT_addr_base.0 DW_AT_GNU_addr_base.0 xs,
  base_or (first_part split format 12 20) (last_value DW_AT_loclists_base.0 DW_AT_loclists_base.0 xs),
  base_of (first_part split format 12 20) DW_AT_rnglists_base.0 DW_AT_GNU_ranges_base.0 xs,
)

module _ {R E : Type 0} (keep : ℕ → Bool) (reading : R → Reading) (u v : UnitRef R E) (sections : AreSameSections reading u.dwarf.now v.dwarf.now) (x y : NumberedUnit R E) (is_x : u.unit.now ≡ x.unit) (is_y : v.unit.now ≡ y.unit)
    (t : ReadUnit) (m : IsNumbered keep reading u.dwarf.now x t) (n : IsNumbered keep reading v.dwarf.now y t) (order : (reading x.unit.header.body).is_big ≡ (reading y.unit.header.body).is_big) where
  same_root : m.unit.root ≡ n.unit.root
  same_root =
      let o : Open m.unit.root ≡ Open n.unit.root = same_some (first_mark t.rows) (Open m.unit.root) (Open n.unit.root) (root_first keep reading u.dwarf.now x t m) (root_first keep reading v.dwarf.now y t n) in cc

  same_encoding : x.unit.header.fields.encoding ≡ y.unit.header.fields.encoding
  same_encoding = ap (λ z. z.encoding) (sym m.header ∙ n.header)

  same_type : type_or x.unit.header.fields.unit_type ≡ type_or y.unit.header.fields.unit_type
  same_type = type_told x.unit.header.fields.unit_type ∙ ap (λ z. type_of z.unit_type) (sym m.header ∙ n.header) ∙ sym (type_told y.unit.header.fields.unit_type)

  same_names : map (named_of x.unit.header.fields.encoding) m.unit.root.attributes ≡ map (named_of y.unit.header.fields.encoding) n.unit.root.attributes
  same_names = λ i. map (named_of (same_encoding i)) (same_root i).attributes

  same_bases : ◌≡◌ {A = BasesBy} (x.unit.str_offsets_base, x.unit.addr_base, x.unit.loclists_base, x.unit.rnglists_base) (y.unit.str_offsets_base, y.unit.addr_base, y.unit.loclists_base, y.unit.rnglists_base)
  same_bases =
      ap (λ b. (b.str_offsets, b.addr, b.loclists, b.rnglists)) m.unit.fields.bases
      ∙ (λ i. bases_by (same_type i == DW_UT_split_compile.0) (same_encoding i).format (same_names i))
      ∙ sym (ap (λ b. (b.str_offsets, b.addr, b.loclists, b.rnglists)) n.unit.fields.bases)

  same_addr : x.unit.addr_base ≡ y.unit.addr_base
  same_addr = ap (λ (b : BasesBy). b.1) same_bases

  same_base : x.unit.low_pc ≡ y.unit.low_pc
  same_base =
      let moved = subst (λ (s : Reading). IsLowPc s y.unit.addr_base y.unit.header.fields.encoding.address_size (last_value DW_AT_low_pc.0 DW_AT_low_pc.0 (map (named_of y.unit.header.fields.encoding) n.unit.root.attributes)) y.unit.low_pc) (sym sections.debug_addr) n.unit.fields.low_pc in
      let again = subst (λ (b : ℕ). IsLowPc (reading u.dwarf.now.debug_addr) b y.unit.header.fields.encoding.address_size (last_value DW_AT_low_pc.0 DW_AT_low_pc.0 (map (named_of y.unit.header.fields.encoding) n.unit.root.attributes)) y.unit.low_pc) (sym same_addr) moved in
      let more = subst (λ (e : Encoding). IsLowPc (reading u.dwarf.now.debug_addr) x.unit.addr_base e.address_size (last_value DW_AT_low_pc.0 DW_AT_low_pc.0 (map (named_of y.unit.header.fields.encoding) n.unit.root.attributes)) y.unit.low_pc) (sym same_encoding) again in
      let here = subst (λ (xs : List (ℕ × Value)). IsLowPc (reading u.dwarf.now.debug_addr) x.unit.addr_base x.unit.header.fields.encoding.address_size (last_value DW_AT_low_pc.0 DW_AT_low_pc.0 xs) y.unit.low_pc) (sym same_names) more in
      low_pc_once (reading u.dwarf.now.debug_addr) x.unit.addr_base x.unit.header.fields.encoding.address_size (last_value DW_AT_low_pc.0 DW_AT_low_pc.0 (map (named_of x.unit.header.fields.encoding) m.unit.root.attributes)) x.unit.low_pc y.unit.low_pc m.unit.fields.low_pc here

  -- units that hold one unit of the grammar, with bodies in one byte order
  pub numbered_alike : AreUnitsAlike reading u v
  numbered_alike = record {
    sections = sections;
    offset = ap (λ z. z.header.offset.0) is_x ∙ sym m.from ∙ n.from ∙ sym (ap (λ z. z.header.offset.0) is_y);
    encoding = ap (λ z. z.header.fields.encoding) is_x ∙ same_encoding ∙ sym (ap (λ z. z.header.fields.encoding) is_y);
    order = ap (λ z. (reading z.header.body).is_big) is_x ∙ order ∙ sym (ap (λ z. (reading z.header.body).is_big) is_y);
    rows = ap (λ z. rows_reading reading z.header z.abbreviations) is_x ∙ m.rows ∙ sym n.rows ∙ sym (ap (λ z. rows_reading reading z.header z.abbreviations) is_y);
    base = ap (λ z. z.low_pc) is_x ∙ same_base ∙ sym (ap (λ z. z.low_pc) is_y);
    program = ap (λ z. z.line_program) is_x ∙ m.unit.fields.program ∙ ap program_in same_names ∙ sym n.unit.fields.program ∙ sym (ap (λ z. z.line_program) is_y);
    str_offsets = ap (λ z. z.str_offsets_base) is_x ∙ ap (λ (b : BasesBy). b.0) same_bases ∙ sym (ap (λ z. z.str_offsets_base) is_y);
    addr = ap (λ z. z.addr_base) is_x ∙ same_addr ∙ sym (ap (λ z. z.addr_base) is_y);
    loclists = ap (λ z. z.loclists_base) is_x ∙ ap (λ (b : BasesBy). b.2) same_bases ∙ sym (ap (λ z. z.loclists_base) is_y);
    rnglists = ap (λ z. z.rnglists_base) is_x ∙ ap (λ (b : BasesBy). b.3) same_bases ∙ sym (ap (λ z. z.rnglists_base) is_y);
  }

  pub numbered_encoding : x.unit.header.fields.encoding ≡ y.unit.header.fields.encoding
  numbered_encoding = same_encoding
