-- The parts of a table of lists that hold none of its lists, and the addresses of items.
use Rattle.std.specs.Prelude.{ℕ, ◌+◌, List, [], ◌∷◌, ◌++◌, length, map, Some}
use Rattle.dw_base.specs.Numbers.{when, num, word_of, length_fits, length_size, escape_of}
use Rattle.dw_base.specs.Leb128.{uleb}
use Rattle.dw_base.specs.declared.address.Address.{Address}
use Rattle.dw_base.specs.declared.common.Encoding.{Encoding}
use Rattle.dw_base.specs.declared.common.Format.{Format}
use Rattle.dw_writer.specs.Texts.{num_text, followed}
use Rattle.dw_writer.specs.Meaning.{Meaning, Model, Appends}
use Rattle.dw_writer.specs.SectionTexts.{address_text}
use Rattle.dw_writer.specs.Drafts.{Draft, whole, then_draft, all_drafts, open_text}
use Rattle.dw_lists.specs.declared.kinds.Kinds.{Kinds}
use Rattle.dw_lists.specs.declared.range.Range.{Range}
use Rattle.dw_lists.specs.declared.range.Range.TheVariants as built

-- the bytes of a draft are added, with its references left open
abbrev pub IsWritten : Meaning → Meaning → Draft → Type 0
IsWritten old new d = Appends old new d.size (open_text d)

-- two addresses
abbrev pub ends_text : ℕ → Address → Address → Model
ends_text w a b big l = followed (address_text w a big l) (address_text w b big l)

-- an item of version 5 is its kind, and what stands behind that
abbrev pub kind_of : Kinds → Range → ℕ
kind_of k (built.BaseAddress a) = k.base_address
kind_of k (built.OffsetPair m n) = k.offset_pair
kind_of k (built.StartEnd a b) = k.start_end
kind_of k (built.StartLength a n) = k.start_length

abbrev pub operands_size : ℕ → Range → ℕ
operands_size w (built.BaseAddress a) = w
operands_size w (built.OffsetPair m n) = length (uleb m) + length (uleb n)
operands_size w (built.StartEnd a b) = w + w
operands_size w (built.StartLength a n) = w + length (uleb n)

abbrev pub operands_text : ℕ → Range → Model
operands_text w (built.BaseAddress a) big l = address_text w a big l
operands_text w (built.OffsetPair m n) big l = followed (Some (uleb m)) (Some (uleb n))
operands_text w (built.StartEnd a b) big l = ends_text w a b big l
operands_text w (built.StartLength a n) big l = followed (address_text w a big l) (Some (uleb n))

-- a length, where the format can spell it (DWARF 5, 7.4)
abbrev pub length_draft : Format → ℕ → Draft
length_draft format n =
    whole (length_size format) (λ big l. when (length_fits format n) (Some (escape_of format ++ num big (word_of format) n)))

-- the bytes between a table's length and its offset entries
abbrev pub fields_size : ℕ
fields_size = 8

-- the version, the address size, no segment selector, and the number of offset entries (DWARF 5, 7.28 and 7.29)
abbrev pub fields_draft : ℕ → ℕ → Draft
fields_draft w count = whole fields_size (λ big l. followed (Some (num big 2 5 ++ (w ∷ 0 ∷ []))) (num_text big 4 count))

abbrev pub word_draft : Format → ℕ → Draft
word_draft format n = whole (word_of format) (λ big l. num_text big (word_of format) n)

-- offset entries
abbrev pub words_draft : Format → List ℕ → Draft
words_draft format ns = all_drafts (map (word_draft format) ns)

-- what stands before the lists: the length of what follows it, the fields, and the offset entries
abbrev pub head_draft : Encoding → ℕ → List ℕ → Draft
head_draft e size ns = then_draft (length_draft e.format size) (then_draft (fields_draft e.address_size (length ns)) (words_draft e.format ns))
