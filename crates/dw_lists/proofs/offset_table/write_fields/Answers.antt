use Rattle.std.proofs.Common.{arith}
use Rattle.dw_writer.proofs.Outcomes.{OnOk-map}
use Rattle.dw_lists.proofs.Tables.{written-fields}
use Rattle.std.proofs.lemmas.Result.{err_from_is_err_and}
use Rattle.dw_writer.proofs.Steps.{IsSameWriter-trans}
use Rattle.dw_lists.proofs.offset_table.write_fields.Goals as goal

pub returns-clause-ok : goal.returns-clause-ok
returns-clause-ok g c =
    OnOk-map c.write_u32.result c.write_u32.ensures.ok
    (λ p. written-fields c.args.address_size c.args.count (omega (arith, c.ranges.address_size)) (omega (arith, c.ranges.count)) c.in_ok-write_u16.ensures.ok c.in_ok-write_u8.ensures.ok c.in_ok-write_u8-2.ensures.ok p)

pub returns-in_err-write_u16-clause-ok : goal.returns-in_err-write_u16-clause-ok
returns-in_err-write_u16-clause-ok g c = rw (err_from_is_err_and c.from_residual.result c.from_residual.ensures.1).1 tt

pub returns-in_err-write_u8-clause-ok : goal.returns-in_err-write_u8-clause-ok
returns-in_err-write_u8-clause-ok g c = rw (err_from_is_err_and c.from_residual-in_err-write_u8.result c.from_residual-in_err-write_u8.ensures.1).1 tt

pub returns-in_err-write_u8-2-clause-ok : goal.returns-in_err-write_u8-2-clause-ok
returns-in_err-write_u8-2-clause-ok g c = rw (err_from_is_err_and c.from_residual-in_err-write_u8-2.result c.from_residual-in_err-write_u8-2.ensures.1).1 tt

pub returns-in_err-write_u16-clause-same : goal.returns-in_err-write_u16-clause-same
returns-in_err-write_u16-clause-same g c = c.in_err-write_u16.ensures.same

pub returns-in_err-write_u8-clause-same : goal.returns-in_err-write_u8-clause-same
returns-in_err-write_u8-clause-same g c = IsSameWriter-trans c.in_ok-write_u16.ensures.same c.in_err-write_u8.ensures.same

pub returns-in_err-write_u8-2-clause-same : goal.returns-in_err-write_u8-2-clause-same
returns-in_err-write_u8-2-clause-same g c = IsSameWriter-trans c.in_ok-write_u16.ensures.same (IsSameWriter-trans c.in_ok-write_u8.ensures.same c.in_err-write_u8-2.ensures.same)

pub returns-clause-same : goal.returns-clause-same
returns-clause-same g c = IsSameWriter-trans c.in_ok-write_u16.ensures.same (IsSameWriter-trans c.in_ok-write_u8.ensures.same (IsSameWriter-trans c.in_ok-write_u8-2.ensures.same c.write_u32.ensures.same))
