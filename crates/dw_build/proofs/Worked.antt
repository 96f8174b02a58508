-- Scripts, read on the definitions.
use Rattle.std.proofs.Common.{◌≡◌, [], ◌∷◌, true, Ok, Err, codes, refl}
use Rattle.dw_script.specs.Lines.{parsed_line}
use Rattle.dw_script.specs.declared.command.Command.TheVariants.{String as AddString, LineString as AddLineString}
use Rattle.dw_ends.specs.declared.reason.Reason.TheVariants.{ZeroByte}
use Rattle.dw_base.specs.declared.common.Format.TheVariants.{Dwarf32, Dwarf64}
use Rattle.dw_base.specs.declared.endianity.RunTimeEndian.TheVariants.{Little}
use Rattle.dw_line.specs.LinePrograms.{no_line_program}
use Rattle.dw_tree.specs.UnitValue.{new_unit}
use Rattle.dw_build.specs.Script.{after_command, after_string, script}
use Rattle.dw_build.specs.ScriptValue.{empty_script}

-- no line at all
empty : script [] ≡ Ok empty_script
unfolding script parsed_line
empty = refl

-- a second unit behind the first
second_unit : script (codes "unit 5 8 32\nunit 4 4 64") ≡ Ok (record {
  endian = Little;
  dwarf = record {
    units = new_unit (record { address_size = 8; format = Dwarf32; version = 5 }) no_line_program ∷ new_unit (record { address_size = 4; format = Dwarf64; version = 4 }) no_line_program ∷ [];
    line_programs = [];
    line_strings = [];
    strings = [];
  };
  has_begun = true;
})
unfolding script parsed_line
second_unit = refl

-- an equal string stands once, and a zero byte is refused
equal_string : after_command (after_string empty_script (97 ∷ [])) (AddString (97 ∷ [])) ≡ Ok (after_string empty_script (97 ∷ []))
equal_string = refl

other_string : (after_string (after_string empty_script (97 ∷ [])) (97 ∷ 97 ∷ [])).dwarf.strings ≡ (97 ∷ []) ∷ (97 ∷ 97 ∷ []) ∷ []
other_string = refl

zero_string : after_command empty_script (AddLineString (97 ∷ 0 ∷ [])) ≡ Err ZeroByte
zero_string = refl
