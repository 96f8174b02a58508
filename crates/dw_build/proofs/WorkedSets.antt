-- Scripts of the command `link`, read on the definitions.
use Rattle.std.proofs.Common.{◌≡◌, [], ◌∷◌, Ok, Err, codes, refl}
use Rattle.dw_base.specs.declared.common.Format.TheVariants.{Dwarf32}
use Rattle.dw_base.specs.declared.endianity.RunTimeEndian.TheVariants.{Little, Big}
use Rattle.dw_ends.specs.declared.reason.Reason.TheVariants.{BadSymbol, OrderNotFirst}
use Rattle.dw_line.specs.LinePrograms.{no_line_program}
use Rattle.dw_script.specs.LinkLines.{parsed_link_line}
use Rattle.dw_tree.specs.UnitValue.{new_unit}
use Rattle.dw_build.specs.ScriptValue.{empty_script}
use Rattle.dw_build.specs.Sets.{sets}

-- no line at all is one set, of nothing
one_set : sets [] ≡ Ok (record { endian = Little; dwarfs = empty_script.dwarf ∷ []; symbols = [] })
unfolding sets parsed_link_line
one_set = refl

-- a unit in the first of two sets, and two symbols, in the byte order of all
two_sets : sets (codes "order big\nsymbol 0 7\nunit 5 8 32\nnext\nsymbol 1 8") ≡ Ok (record {
  endian = Big;
  dwarfs =
      record { units = new_unit (record { address_size = 8; format = Dwarf32; version = 5 }) no_line_program ∷ []; line_programs = []; line_strings = []; strings = [] }
      ∷ record { units = []; line_programs = []; line_strings = []; strings = [] } ∷ [];
  symbols = 7 ∷ 8 ∷ [];
})
unfolding sets parsed_link_line
two_sets = refl

-- symbols are numbered through all sets
same_number : sets (codes "symbol 0 7\nnext\nsymbol 0 7") ≡ Err (record { line = 3; reason = BadSymbol })
unfolding sets parsed_link_line
same_number = refl

-- the order comes before all else
late_order : sets (codes "next\norder big") ≡ Err (record { line = 2; reason = OrderNotFirst })
unfolding sets parsed_link_line
late_order = refl

late_behind_symbol : sets (codes "symbol 0 7\norder big") ≡ Err (record { line = 2; reason = OrderNotFirst })
unfolding sets parsed_link_line
late_behind_symbol = refl
