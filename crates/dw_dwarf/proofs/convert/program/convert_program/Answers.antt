use Rattle.std.proofs.Common.{◌≡◌, sym, subst, ap, Option, Ok, ⊎_elim, inl, inr}
use Rattle.dw_base.specs.declared.offsets.DebugLineOffset.{DebugLineOffset}
use Rattle.dw_lists.proofs.Causes.{IfOk-map}
use Rattle.dw_read.specs.Reading.{left}
use Rattle.dw_read_lines.specs.LineHeaders.{lines_at_place}
use Rattle.dw_read_lines.specs.LineHeaderViews.{lines_of}
use Rattle.dw_writer.proofs.Outcomes.{IfErr-map}
use Rattle.dw_convert_lines.specs.Views.{tables, converting}
use Rattle.dw_dwarf.specs.ConvertedPrograms.{ProgramConverts, ProgramRefuses}
use Rattle.dw_dwarf.proofs.Setting.{is_err}
use Rattle.dw_dwarf.proofs.convert.program.convert_program.Goals as goal

pub returns-clause-ok : goal.returns-clause-ok
returns-clause-ok g c =
    let reading = g.R.Reader.reading in
    let lines = reading c.args.read.dwarf.now.debug_line in
    let size = ap (λ e. e.address_size) c.encoding-size.ensures in
    IfOk-map c.convert_line_program.result c.convert_line_program.ensures.ok
    (λ x becomes. subst (λ (o : Option DebugLineOffset). ProgramConverts reading (goal.F-post g c.args.convert_address.now) c.args.read o (tables c.args.strings.now c.args.line_strings.now) (converting x.0 x.1.items c.convert_line_program.new.strings c.convert_line_program.new.line_strings)) (sym c.in-Some.is)
    (record {
      program = c.in_ok-program.program;
      stands = subst (λ n. lines_at_place lines.is_big n c.in-Some.offset.0 (left lines) ≡ Ok (lines_of reading c.in_ok-program.program.header)) size c.in_ok-program.ensures.ok;
      order = c.in_ok-program.ensures.order;
      becomes = becomes;
    }))

pub returns-clause-err : goal.returns-clause-err
returns-clause-err g c =
    let reading = g.R.Reader.reading in
    let lines = reading c.args.read.dwarf.now.debug_line in
    let size = ap (λ e. e.address_size) c.encoding-size.ensures in
    IfErr-map c.convert_line_program.result c.convert_line_program.ensures.err
    (λ e. ⊎_elim inl (λ r. inr (subst (λ (o : Option DebugLineOffset). ProgramRefuses reading (goal.F-post g c.args.convert_address.now) c.args.read o (tables c.args.strings.now c.args.line_strings.now) e) (sym c.in-Some.is)
    (inr (record {
      program = c.in_ok-program.program;
      stands = subst (λ n. lines_at_place lines.is_big n c.in-Some.offset.0 (left lines) ≡ Ok (lines_of reading c.in_ok-program.program.header)) size c.in_ok-program.ensures.ok;
      order = c.in_ok-program.ensures.order;
      becomes = r;
    })))))

pub returns-in_err-program-clause-ok : goal.returns-in_err-program-clause-ok
returns-in_err-program-clause-ok g c = rw (is_err _ _ c.from_residual.ensures) tt

pub returns-in_default-clause-err : goal.returns-in_default-clause-err
returns-in_default-clause-err g c = tt
