-- What becomes of a writer's bytes once sections are placed and symbols have values.
use Rattle.std.specs.Prelude.{ℕ, ◌+◌, ℤ, Bool, ◌&&◌, not, nat_le, List, [], ◌∷◌, length, take, drop, Option, Some, None, pos, ◌+ℤ◌, if◌then◌else◌}
use Rattle.dw_base.specs.Numbers.{◌>>=◌, when, value_of, is_width}
use Rattle.dw_base.specs.declared.constants.DwEhPe.{DwEhPe}
use Rattle.dw_writer.specs.Texts.{Text, int_text, patched}
use Rattle.dw_writer.specs.Pointers.{address_of, pointer_text}
use Rattle.dw_writer.specs.Layout.{Layout, target_value, is_symbol, is_at_zero}
use Rattle.dw_writer.specs.Contents.{Meaning}
use Rattle.dw_writer.specs.declared.relocate.Relocation.{Relocation}

-- the number that stands in the w bytes from place p on
unfoldable pub number_at_place : Bool → ℕ → ℕ → List ℕ → ℕ
number_at_place big p w bytes = value_of big (take w (drop p bytes))

-- a sum in the w bytes at a place, or by a pointer encoding a pointer to it, which only a symbol has
unfoldable pub sum_text : Bool → ℕ → ℕ → Bool → Option DwEhPe → ℤ → Text
sum_text big w place is_symbolic None z = int_text big w z
sum_text big w place is_symbolic (Some encoding) z = when is_symbolic (address_of z >>= pointer_text big w encoding.0 place)

-- what a record puts in its place, where n stands: the sum is of n, the addend and the target's value
unfoldable pub record_text : Bool → Layout → Relocation → ℕ → Text
record_text big l r n =
    target_value l r.target >>= λ v. sum_text big r.size (l.own_start + r.offset) (is_symbol r.target) r.eh_pe (pos n +ℤ r.addend +ℤ pos v)

-- whether a record has a width and lies inside so many bytes
abbrev pub is_inside : ℕ → Relocation → Bool
is_inside size r = is_width r.size && nat_le (r.offset + r.size) size

-- a text with a record's number put in
unfoldable pub put_record : Bool → Layout → Relocation → Text → Text
put_record big l r None = None
put_record big l r (Some bytes) =
    if is_inside (length bytes) r then patched r.offset (record_text big l r (number_at_place big r.offset r.size bytes)) (Some bytes) else None

-- a text with the numbers of records put in, one after another
abbrev pub put_records : Bool → Layout → List Relocation → Text → Text
put_records big l [] t = t
put_records big l (r ∷ rs) t = put_records big l rs (put_record big l r t)

-- a writer's bytes in a layout; a plain writer tells them only where every section starts at 0
unfoldable pub resolved : Layout → Meaning → Text
resolved l m = if m.is_plain && not (is_at_zero l) then None else put_records m.is_big l m.records m.bytes
