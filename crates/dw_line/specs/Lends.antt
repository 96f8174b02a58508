-- What a `&mut` into a line program leaves, once its borrow has ended.
use Rattle.std.specs.Borrow.{Lends, MutBor, Fml}
use Rattle.dw_line.specs.contracts.line_program.LineProgram as program
use Rattle.dw_line.specs.contracts.row.LineRow as row
use Rattle.dw_line.specs.LinePrograms.{LineProgramValue}
use Rattle.dw_line.specs.declared.row.LineRow.{LineRow}

-- the program ends with the last row written
abbrev pub LendsRow : MutBor LineProgramValue → MutBor LineRow → Fml
LendsRow p r = Lends program.the_row row.the_row p r (λ w. record p.now { row = w })
