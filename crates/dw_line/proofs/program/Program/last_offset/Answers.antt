use Rattle.std.proofs.Common.{◌≡◌, ◌∙◌, sym, ap}
use Rattle.std.specs.Prelude.{slice_get, length, Some, ◌-◌}
use Rattle.dw_line.specs.LineRows.{last_offset}
use Rattle.dw_line.proofs.OrderSteps.{last_offset_is}
use Rattle.dw_line.proofs.program.Program.last_offset.Goals as goal

pub returns-in-Some : goal.returns-in-Some
returns-in-Some c =
    let there : slice_get c.self.inside.rows.items (length c.self.inside.rows.items - 1) ≡ Some c.in-Some.row.now = rw c.deref.ensures.value at (sym c.in-Some.ensures.value) in
    sym (last_offset_is 0 c.self.inside.rows.items c.in-Some.row.now there) ∙ ap (λ p. last_offset 0 p.rows) c.self.view_is
