use Rattle.std.proofs.Common.{◌≡◌, ◌<◌, ◌≤◌, ◌%◌, ◌∙◌, ap, length, arith, IsTrue, [], ◌∷◌, ◌++◌}
use Rattle.dw_line.specs.LineRows.{are_in_order, last_offset}
use Rattle.dw_line.proofs.OrderSteps.{order_more}
use Rattle.std.proofs.lemmas.Result.{err_from_is_err_and}
use Rattle.dw_line.proofs.program.Program.generate_row.Goals as goal

pub invariant_of-self-2 : goal.invariant_of-self-2
invariant_of-self-2 c =
    let v = c.self.view_is in
    let small : c.args.row.file.0 < 0xffff_ffff_ffff_ffff = omega (arith, c.requires.file, ap (λ p. length p.files) v, c.len.ensures.small, c.len.ensures.len) in
    let behind : last_offset 0 c.self.inside.rows.items ≤ c.args.row.address_offset = omega (arith, c.requires.order, ap (λ p. last_offset 0 p.rows) v) in
    let multiple : c.args.row.address_offset % c.self.inside.line_encoding.minimum_instruction_length ≡ 0 =
    ap (λ p. c.args.row.address_offset % p.line_encoding.minimum_instruction_length) v ∙ c.requires.multiple in
    let more : IsTrue (are_in_order c.self.inside.line_encoding.minimum_instruction_length 0 (c.self.inside.rows.items ++ c.args.row ∷ [])) =
    order_more c.self.inside.line_encoding.minimum_instruction_length 0 c.self.inside.rows.items c.args.row c.self.invariant.unended behind multiple small in
    record { encoding = c.self.invariant.encoding; rooted = c.self.invariant.rooted; names = c.self.invariant.names; listed = c.self.invariant.listed; told = c.self.invariant.told; ordered = c.self.invariant.ordered; unended = rw c.in_ok-push.ensures.items more }

pub returns-in_err-push-clause-ok : goal.returns-in_err-push-clause-ok
returns-in_err-push-clause-ok c = rw (err_from_is_err_and c.from_residual.result c.from_residual.ensures.1).1 tt

pub returns-clause-err : goal.returns-clause-err
returns-clause-err c = tt

pub returns-clause-kept : goal.returns-clause-kept
returns-clause-kept c = tt
