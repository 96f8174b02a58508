-- Lines that change line programs, read on the definition.
use Rattle.std.proofs.Common.{◌≡◌, ◌∷◌, ◌-◌, [], negsuc, Some, None, Ok, Err, codes, refl}
use Rattle.dw_base.specs.declared.address.Address.TheVariants as address
use Rattle.dw_script.specs.declared.command.Command.TheVariants as command
use Rattle.dw_script.specs.declared.line_change.LineChange.TheVariants as change
use Rattle.dw_script.specs.declared.line_change.LineText.TheVariants as text
use Rattle.dw_ends.specs.declared.reason.Reason.TheVariants.{UnknownWord, BadNumber, BadHex, WrongFields}
use Rattle.dw_script.specs.Lines.{parsed_line}
use Rattle.hex.specs.Hex.{decode_pairs}

-- a line program, whose working directory is a string of .debug_line_str
line : parsed_line (codes "line 0 line_str 3") ≡ Ok (Some (command.Line 0 (change.New (text.LineStringRef 3))))
unfolding parsed_line
line = refl

-- a directory, by the bytes of its name
dir : parsed_line (codes "dir 1 text 61") ≡ Ok (Some (command.Line 1 (change.AddDirectory (text.String (0x61 ∷ [])))))
unfolding parsed_line decode_pairs
dir = refl

-- a file: the unit comes before the name, and the directory after it
file : parsed_line (codes "file 1 str 2 3") ≡ Ok (Some (command.Line 1 (change.AddFile (text.StringRef 2) 3)))
unfolding parsed_line
file = refl

-- a sequence at a symbol less 4, and one without an address
sequence : parsed_line (codes "sequence 0 sym:1:-4") ≡ Ok (Some (command.Line 0 (change.BeginSequence (Some (address.Symbol 1 (negsuc 3))))))
unfolding parsed_line
sequence = refl

sequence_none : parsed_line (codes "sequence 0 none") ≡ Ok (Some (command.Line 0 (change.BeginSequence None)))
unfolding parsed_line
sequence_none = refl

-- a row: the unit, the offset, the file, the line and the column
row : parsed_line (codes "row 1 2 3 4 5") ≡ Ok (Some (command.Line 1 (change.AddRow 2 3 4 5)))
unfolding parsed_line
row = refl

-- the end of a sequence
end_of_sequence : parsed_line (codes "end 0 0x10") ≡ Ok (Some (command.Line 0 (change.EndSequence 16)))
unfolding parsed_line
end_of_sequence = refl

-- the leftmost cause is the one given: a word that stands before no name, and one that is no address
unknown_name : parsed_line (codes "file 0 string x") ≡ Err UnknownWord
unfolding parsed_line
unknown_name = refl

odd_name : parsed_line (codes "file 0 text 6 x") ≡ Err BadHex
unfolding parsed_line decode_pairs
odd_name = refl

no_address : parsed_line (codes "sequence 0 None x") ≡ Err BadNumber
unfolding parsed_line
no_address = refl

no_column : parsed_line (codes "row 1 2 3 4") ≡ Err WrongFields
unfolding parsed_line
no_column = refl
