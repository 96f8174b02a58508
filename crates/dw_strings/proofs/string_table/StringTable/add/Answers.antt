use Rattle.std.proofs.Common.{sym, subst}
use Rattle.dw_strings.specs.Strings.{KeepStrings}
use Rattle.dw_strings.proofs.StringLaws.{KeepStrings-with}
use Rattle.dw_strings.proofs.string_table.StringTable.add.Goals as goal

pub returns-clause-stay : goal.returns-clause-stay
returns-clause-stay c =
    let here = c.self.inside.strings in
    subst (λ xs. KeepStrings xs c.add.new.self) c.self.view_is (subst (KeepStrings here) (sym c.in_ok-add.ensures.ok) (KeepStrings-with here c.args.bytes.now))
