-- The words of the command line.
use Rattle.std.specs.Prelude.{ℕ, ◌^◌, List, [], ◌∷◌, Option, Some, None, codes, bytes_eq, if◌then◌else◌}
use Rattle.std.specs.Option.{option_map}
use Rattle.dw_ends.specs.Numbers.{number_below}
use Rattle.dw_arange_table.specs.declared.command.Command.{Command}
use Rattle.dw_arange_table.specs.declared.command.Command.TheVariants.{Table, Find}

-- the command that finds the address which a field spells
abbrev pub find_of : List ℕ → Option Command
find_of field = option_map (λ a. Find a) (number_below (2 ^ 64) field)

-- the command that the words are: `table`, or `find` and an address
abbrev pub command_of : List (List ℕ) → Option Command
command_of [] = None
command_of (word ∷ []) = if bytes_eq word (codes "table") then Some Table else None
command_of (word ∷ field ∷ []) = if bytes_eq word (codes "find") then find_of field else None
command_of (word ∷ field ∷ more ∷ words) = None
