-- The text of a unit: a header, and entries with their codes, each with a zero behind its children (DWARF 5, 7.5.1 to 7.5.3).
use Rattle.std.specs.Prelude.{ℕ, ◌+◌, List, [], ◌∷◌, length, map, Option, Some, None, ◌==◌, if◌then◌else◌}
use Rattle.dw_base.specs.Numbers.{◌>>=◌, when, word_of, escape_of, length_fits}
use Rattle.dw_base.specs.Leb128.{uleb}
use Rattle.dw_base.specs.Abbreviations.{Shape}
use Rattle.dw_base.specs.Entries.{Mark, Open, Null}
use Rattle.dw_base.specs.Spelling.{kind_bytes, header_size, fields_size}
use Rattle.dw_base.specs.declared.address.DebugInfoRef.{DebugInfoRef as InfoRef}
use Rattle.dw_base.specs.declared.address.DebugInfoRef.TheVariants as refs
use Rattle.dw_base.specs.declared.common.Encoding.{Encoding}
use Rattle.dw_base.specs.declared.common.Format.{Format}
use Rattle.dw_base.specs.declared.constants.TheConstants.{DW_UT_compile}
use Rattle.dw_base.specs.declared.section_id.SectionId.{SectionId}
use Rattle.dw_base.specs.declared.section_id.SectionId.TheVariants.{DebugAbbrev}
use Rattle.dw_writer.specs.Texts.{num_text}
use Rattle.dw_writer.specs.Meaning.{Model}
use Rattle.dw_writer.specs.SectionTexts.{bytes_text, offset_text, after}
use Rattle.dw_writer.specs.Drafts.{Draft, no_draft, whole, then_draft, all_drafts, reference}
use Rattle.dw_expr.specs.Trees.{Node}
use Rattle.dw_expr.specs.Spelling.{bytes, expression_draft}
use Rattle.dw_entries.specs.Content.{Content, content_operand, content_kind, content_size, content_holes}
use Rattle.dw_entries.specs.declared.attribute.Attribute.{Attribute}
use Rattle.dw_entries.specs.Entries.{EntryValue, entry_at, has_sibling}
use Rattle.dw_entries.specs.Targets.{UnitTargets, targets_in}
use Rattle.dw_entries.specs.Values.{value_draft}
use Rattle.dw_entries.specs.Tree.{preorder}
use Rattle.dw_tree.specs.Coded.{code_at}
use Rattle.dw_tree.specs.Whole.{tree_shapes}

-- a number, where it fits so many bytes
unfoldable pub fitting_text : ℕ → ℕ → Model
fitting_text w n big l = num_text big w n

-- a length, where the format has a spelling for it
unfoldable pub length_text : Format → ℕ → Model
length_text format n big l = when (length_fits format n) (num_text big (word_of format) n)

-- what follows the version: in version 5 the type of a compile unit, the address size and the table's place
abbrev pub after_version_text : Encoding → ℕ → Model
after_version_text e table =
    if e.version == 5 then after (fitting_text 1 DW_UT_compile.0) (after (fitting_text 1 e.address_size) (offset_text (word_of e.format) DebugAbbrev table))
    else after (offset_text (word_of e.format) DebugAbbrev table) (fitting_text 1 e.address_size)

-- what follows the length in a header
unfoldable pub fields_text : Encoding → ℕ → Model
fields_text e table = after (fitting_text 2 e.version) (after_version_text e table)

-- the unit's length counts what follows it: the fields and the entries
abbrev pub unit_length : Encoding → ℕ → ℕ
unit_length e size = fields_size e + size

-- a header whose table stands at a place, before so many bytes of entries
unfoldable pub header_text : Encoding → ℕ → ℕ → Model
header_text e table size = after (bytes_text (escape_of e.format)) (after (length_text e.format (unit_length e size)) (fields_text e table))

-- the place of what a table has, counted from where its section starts
abbrev pub table_text : ℕ → SectionId → Option ℕ → Model
table_text w section place big l = place >>= λ n. offset_text w section n big l

-- the place of an entry in .debug_info, left open; an entry of another object has none
abbrev pub info_draft : ℕ → InfoRef → Draft
info_draft width (refs.Symbol s) = whole width (λ big l. None)
info_draft width (refs.Entry u i) = reference width u i

-- an expression, its length before it
abbrev pub counted_draft : Encoding → (ℕ → Option ℕ) → List Node → Draft
counted_draft e place ns = let d = expression_draft e place ns in then_draft (bytes (uleb d.size)) d

-- what stands for a value, by how it is laid out
abbrev pub content_draft : Encoding → UnitTargets → Content → Draft
content_draft e u c = record {
  size = content_size e u.place c;
  text = λ info big l. content_operand big e (targets_in u l info) c >>= λ o. Some (kind_bytes big (content_kind e c) o);
  holes = content_holes e u.place c;
}

-- the values of attributes
abbrev pub attribute_draft : Encoding → UnitTargets → Attribute → Draft
attribute_draft e u a = value_draft e u a.value

abbrev pub attributes_draft : Encoding → UnitTargets → List Attribute → Draft
attributes_draft e u xs = all_drafts (map (attribute_draft e u) xs)

-- the place past an entry, where the entry names that
abbrev pub sibling_draft : Encoding → ℕ → EntryValue → Draft
sibling_draft e past x = if has_sibling x then whole (word_of e.format) (fitting_text (word_of e.format) past) else no_draft

-- a code
abbrev pub code_draft : ℕ → Draft
code_draft code = whole (length (uleb code)) (bytes_text (uleb code))

-- the entry at an index, with its code
abbrev pub entry_draft : Encoding → UnitTargets → ℕ → ℕ → EntryValue → Draft
entry_draft e u code i x = then_draft (code_draft code) (then_draft (sibling_draft e (u.past i) x) (attributes_draft e u x.attributes))

-- an entry with its code, or the zero that closes a list of children
abbrev pub mark_draft : Encoding → List EntryValue → UnitTargets → ℕ → Mark ℕ → Draft
mark_draft e es u code (Open i) = entry_draft e u code i (entry_at es i)
mark_draft e es u code Null = whole 1 (bytes_text (0 ∷ []))

-- the marks, where the shapes give the codes
abbrev pub coded_draft : Encoding → List EntryValue → UnitTargets → List Shape → Mark ℕ → Draft
coded_draft e es u shapes m = mark_draft e es u (code_at e es shapes m) m

abbrev pub marks_draft : Encoding → List EntryValue → UnitTargets → List Shape → List (Mark ℕ) → Draft
marks_draft e es u shapes ms = all_drafts (map (coded_draft e es u shapes) ms)

-- the tree's entries
abbrev pub tree_draft : Encoding → List EntryValue → UnitTargets → Draft
tree_draft e es u = marks_draft e es u (tree_shapes e es) (preorder es)

-- a unit whose table stands at a place of .debug_abbrev
abbrev pub unit_draft : Encoding → ℕ → Draft → Draft
unit_draft e table body = then_draft (whole (header_size e) (header_text e table body.size)) body
