-- Why a command isn't carried out.
use Rattle.std.specs.Prelude.{◌≡◌, Err}
use Rattle.dw_ends.specs.Fields.{Outcome}
use Rattle.dw_script_units.specs.declared.command_error.CommandError.{CommandError}
use Rattle.dw_script_units.specs.declared.command_error.CommandError.TheVariants as command

-- why something isn't done: its condition, or want of memory
abbrev pub RefusedFor : {T : Type 0} → Outcome T → CommandError → Type 0
RefusedFor outcome (command.Refused reason) = outcome ≡ Err reason
RefusedFor outcome command.NoMemory = Unit {0}
