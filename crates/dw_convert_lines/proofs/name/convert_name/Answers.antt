use Rattle.dw_convert_lines.proofs.Reasons.{is_err}
use Rattle.std.proofs.Common.{inr}
use Rattle.dw_convert_lines.proofs.Unnamed.{is_unnamed}
use Rattle.dw_convert_lines.proofs.name.convert_name.Goals as goal

pub returns-in_default-name-clause-err : goal.returns-in_default-name-clause-err
returns-in_default-name-clause-err g c = inr (is_unnamed _ _ g.R.Reader.reading _ _ _ c.args.name.now c.in-Some.name c.in-Some.is (record {
  string = c.in_default-name.not-String;
  in_strings = c.in_default-name.not-DebugStrRef;
  in_line_strings = c.in_default-name.not-DebugLineStrRef;
}))

pub returns-in_err-text-in-DebugStrRef-clause-ok : goal.returns-in_err-text-in-DebugStrRef-clause-ok
returns-in_err-text-in-DebugStrRef-clause-ok g c = rw (is_err _ _ c.from_residual.ensures) tt

pub returns-in_err-text-in-DebugStrRef-clause-text : goal.returns-in_err-text-in-DebugStrRef-clause-text
returns-in_err-text-in-DebugStrRef-clause-text g c = rw (is_err _ _ c.from_residual.ensures) tt

pub returns-in_err-text-in-DebugLineStrRef-clause-ok : goal.returns-in_err-text-in-DebugLineStrRef-clause-ok
returns-in_err-text-in-DebugLineStrRef-clause-ok g c = rw (is_err _ _ c.from_residual-in_err-text-in-DebugLineStrRef.ensures) tt

pub returns-in_err-text-in-DebugLineStrRef-clause-text : goal.returns-in_err-text-in-DebugLineStrRef-clause-text
returns-in_err-text-in-DebugLineStrRef-clause-text g c = rw (is_err _ _ c.from_residual-in_err-text-in-DebugLineStrRef.ensures) tt

pub returns-in_default-name-clause-ok : goal.returns-in_default-name-clause-ok
returns-in_default-name-clause-ok g c = tt

pub returns-in_default-name-clause-text : goal.returns-in_default-name-clause-text
returns-in_default-name-clause-text g c = tt
