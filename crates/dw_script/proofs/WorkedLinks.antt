-- Lines of the command `link`, read on the definition.
use Rattle.std.proofs.Common.{◌≡◌, Some, None, Ok, Err, codes, refl}
use Rattle.dw_ends.specs.declared.reason.Reason.TheVariants.{UnknownWord, BadNumber, WrongFields}
use Rattle.dw_script.specs.declared.change.Change.TheVariants as change
use Rattle.dw_script.specs.declared.command.Command.TheVariants as command
use Rattle.dw_script.specs.declared.link_command.LinkCommand.TheVariants as link
use Rattle.dw_script.specs.Lines.{parsed_line}
use Rattle.dw_script.specs.LinkLines.{parsed_link_line}

-- the next set, which is no line of scripts
next : parsed_link_line (codes "next") ≡ Ok (Some link.Next)
unfolding parsed_link_line
next = refl

no_script : parsed_line (codes "next") ≡ Err UnknownWord
unfolding parsed_line
no_script = refl

-- a symbol: its number comes first
symbol : parsed_link_line (codes "symbol 2 0x10") ≡ Ok (Some (link.Symbol 2 16))
unfolding parsed_link_line
symbol = refl

below_zero : parsed_link_line (codes "symbol 0 -1") ≡ Err BadNumber
unfolding parsed_link_line
below_zero = refl

left_over : parsed_link_line (codes "next 1") ≡ Err WrongFields
unfolding parsed_link_line
left_over = refl

-- all other lines are a script's
of_script : parsed_link_line (codes "reserve 0") ≡ Ok (Some (link.Script (command.Change 0 change.Reserve)))
unfolding parsed_link_line
of_script = refl

remark : parsed_link_line (codes "# next") ≡ Ok None
unfolding parsed_link_line
remark = refl
