-- The bytes that are written for a row are those of its instructions.
use Rattle.std.proofs.Common.{◌≡◌, ◌∙◌, sym, ap, ap₂, ℕ, Option, Some, None, ◌-◌, ◌/◌, Bool, true, false, not, ◌==◌, List, [], ◌∷◌, ◌++◌, refl, append_assoc, append-nil}
use Rattle.std.specs.Bool.{beq}
use Rattle.std.specs.List.{flat_map}
use Rattle.std.proofs.lemmas.List.Concat.{flat_map-append}
use Rattle.dw_base.specs.declared.constants.TheConstants.{DW_LNS_copy, DW_LNE_end_sequence}
use Rattle.dw_base.specs.LineMachine.{LineHeader, Instruction, Copy, AdvancePc, AdvanceLine, SetFile, SetColumn, NegateStatement, SetBasicBlock, SetPrologueEnd, SetEpilogueBegin, SetIsa, EndSequence, SetDiscriminator}
use Rattle.dw_base.specs.Instructions.{extended_bytes, instruction_bytes}
use Rattle.dw_line.specs.RawRows.{RawRow, given, line_change, row_instructions, end_instructions, rows_instructions}
use Rattle.dw_line.specs.RowTexts.{where_needed, row_text, rows_text, last_row, end_text, sequence_rows_text}

record Spelled (h : LineHeader) (is : List Instruction) (bytes : List ℕ) : Type 0 where
  same : bytes ≡ flat_map (instruction_bytes h) is

given_bytes : {h : LineHeader} {more : List Instruction} {bytes : List ℕ} (b : Bool) (i : Instruction) → Spelled h more bytes → Spelled h (given b i ++ more) (where_needed b (instruction_bytes h i) ++ bytes)
given_bytes {h} {more} {bytes} true i s = record { same = ap (λ bs. instruction_bytes h i ++ bs) s.same }
given_bytes {h} {more} {bytes} false i s = s

copy_bytes : {h : LineHeader} → Spelled h (Copy ∷ []) (DW_LNS_copy.0 ∷ [])
copy_bytes {h} = record { same = refl }

pub row_text-is : (h : LineHeader) (old new : RawRow) → row_text h.minimum_length old new ≡ flat_map (instruction_bytes h) (row_instructions h old new)
row_text-is h old new =
    let spelled : Spelled h (row_instructions h old new) (row_text h.minimum_length old new) =
    given_bytes (not (new.discriminator == 0)) (SetDiscriminator new.discriminator)
    (given_bytes new.basic_block SetBasicBlock
    (given_bytes new.prologue_end SetPrologueEnd
    (given_bytes new.epilogue_begin SetEpilogueBegin
    (given_bytes (not (beq new.is_statement old.is_statement)) NegateStatement
    (given_bytes (not (new.file == old.file)) (SetFile new.file)
    (given_bytes (not (new.column == old.column)) (SetColumn new.column)
    (given_bytes (not (new.isa == old.isa)) (SetIsa new.isa)
    (given_bytes (not (new.line == old.line)) (AdvanceLine (line_change old.line new.line))
    (given_bytes (not (new.address_offset == old.address_offset)) (AdvancePc ((new.address_offset - old.address_offset) / h.minimum_length)) copy_bytes))))))))) in
    spelled.same

end_bytes : {h : LineHeader} → Spelled h (EndSequence ∷ []) (0 ∷ extended_bytes DW_LNE_end_sequence.0 [])
end_bytes {h} = record { same = sym (append-nil (0 ∷ extended_bytes DW_LNE_end_sequence.0 [])) }

end_text-is : (h : LineHeader) (last : RawRow) (end : Option ℕ) → end_text h.minimum_length last.address_offset end ≡ flat_map (instruction_bytes h) (end_instructions h last end)
end_text-is h last None = refl
end_text-is h last (Some end) =
    let spelled : Spelled h (end_instructions h last (Some end)) (end_text h.minimum_length last.address_offset (Some end)) =
    given_bytes (not (end == last.address_offset)) (AdvancePc ((end - last.address_offset) / h.minimum_length)) end_bytes in
    spelled.same

pub rows_text-is : (h : LineHeader) (old : RawRow) (rows : List RawRow) (end : Option ℕ) → sequence_rows_text h.minimum_length old rows end ≡ flat_map (instruction_bytes h) (rows_instructions h old rows end)
rows_text-is h old [] end = end_text-is h old end
rows_text-is h old (r ∷ rows) end =
    append_assoc (row_text h.minimum_length old r) (rows_text h.minimum_length r rows) (end_text h.minimum_length (last_row r rows).address_offset end)
    ∙ ap₂ (λ x y. x ++ y) (row_text-is h old r) (rows_text-is h r rows end)
    ∙ sym (flat_map-append (instruction_bytes h) (row_instructions h old r) (rows_instructions h r rows end))
