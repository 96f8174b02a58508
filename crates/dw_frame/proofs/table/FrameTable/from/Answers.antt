use Rattle.std.proofs.Common.{◌≡◌, Err}
use Rattle.dw_frame.proofs.ConvertLaws.{is_err}
use Rattle.dw_frame.proofs.table.FrameTable.from.Goals as goal

pub add_frames-requires-clause-cies : goal.add_frames-requires-clause-cies
add_frames-requires-clause-cies g c = c.new-table.ensures.cies

pub add_frames-requires-clause-fdes : goal.add_frames-requires-clause-fdes
add_frames-requires-clause-fdes g c = c.new-table.ensures.fdes

pub returns-in_err-add_frames-clause-ok : goal.returns-in_err-add_frames-clause-ok
returns-in_err-add_frames-clause-ok g c = rw (is_err _ _ c.from_residual.ensures) tt

pub returns-in_err-add_frames-clause-err : goal.returns-in_err-add_frames-clause-err
returns-in_err-add_frames-clause-err g c =
    let e : c.from_residual.result ≡ Err c.in_err-add_frames.field-0.0 = is_err _ _ c.from_residual.ensures in
    rw e c.in_err-add_frames.ensures.err

pub returns-clause-ok : goal.returns-clause-ok
returns-clause-ok g c = c.in_ok-add_frames.ensures.ok

pub returns-clause-err : goal.returns-clause-err
returns-clause-err g c = tt
