-- What writers' calls add, resolved.
use Rattle.std.specs.Prelude.{ℕ, ◌+◌, List, Some, None, slice_get, pos, ◌+ℤ◌}
use Rattle.std.specs.Option.{unwrap_or}
use Rattle.dw_base.specs.Numbers.{◌>>=◌, num}
use Rattle.dw_base.specs.Pointers.{format_of, pointer_width}
use Rattle.dw_writer.specs.Pointers.{address_of, pointer_text, layout_by, laid_size, counted, constant_pointer}
use Rattle.dw_base.specs.declared.section_id.SectionId.{SectionId}
use Rattle.dw_base.specs.declared.address.Address.{Address}
use Rattle.dw_base.specs.declared.address.Address.TheVariants.{Constant, Symbol}
use Rattle.dw_writer.specs.Texts.{num_text, int_text, followed}
use Rattle.dw_writer.specs.Meaning.{Model, start_of}

-- an offset into a section, as the number plus the section's start
unfoldable pub offset_text : ℕ → SectionId → ℕ → Model
offset_text w section n big l = num_text big w (n + start_of l section)

-- an address, a symbol's as its value plus the addend
unfoldable pub address_text : ℕ → Address → Model
address_text w (Constant n) big l = num_text big w n
address_text w (Symbol s addend) big l = elim (slice_get l.symbols s) [ None ↦ None | Some v ↦ int_text big w (addend +ℤ pos v) ]

-- A pointer by its encoding, at a place in the writer's own part: one to a known address counts from there, and one to a
-- symbol from where that place comes to stand in the section.
unfoldable pub eh_pointer_text : ℕ → ℕ → ℕ → Address → Model
eh_pointer_text size encoding place (Constant n) big l = constant_pointer big size encoding place n
eh_pointer_text size encoding place (Symbol s addend) big l =
    pointer_width size (format_of encoding) >>= λ w. slice_get l.symbols s >>= λ v.
    address_of (addend +ℤ pos v) >>= pointer_text big w encoding (l.own_start + place)

-- the bytes of such a pointer
unfoldable pub eh_pointer_size : ℕ → ℕ → ℕ → Address → ℕ
eh_pointer_size size encoding place (Constant n) =
    unwrap_or (counted encoding place n >>= λ k. layout_by size (format_of encoding) >>= λ layout. Some (laid_size layout k)) 0
eh_pointer_size size encoding place (Symbol s addend) = unwrap_or (pointer_width size (format_of encoding)) 0

-- a number, as it is
unfoldable pub number_text : ℕ → ℕ → Model
number_text w n big l = Some (num big w n)

-- bytes, as they are
unfoldable pub bytes_text : List ℕ → Model
bytes_text xs big l = Some xs

-- one model after another
unfoldable pub after : Model → Model → Model
after t u big l = followed (t big l) (u big l)
