use Rattle.std.proofs.Common.{◌≡◌, ◌⊎◌, ◌∙◌, sym, ap, subst, ℕ, Option, inl, inr, refl, ⊎_elim}
use Rattle.dw_entry_ids.specs.Ids.{entry_count}
use Rattle.dw_entry_ids.specs.KeptRows.{keep_of, kept_rows}
use Rattle.dw_dwarf.specs.UnitIds.{IsFree, id_of}
use Rattle.dw_tree.specs.UnitValue.{UnitValue}
use Rattle.dw_convert_lines.specs.Views.{tables}
use Rattle.dw_sources.specs.declared.convert_error.ConvertError.TheVariants.{NoMemory}
use Rattle.dw_dwarf.specs.ConvertedPrograms.{ConvertsProgram, RefusesProgram}
use Rattle.dw_writer.proofs.Outcomes.{OnOk-map, IfErr-map}
use Rattle.dw_dwarf.proofs.Setting.{is_err}
use Rattle.dw_dwarf.proofs.convert.unit.convert_unit.Goals as goal

pub convert_rows-requires-clause-ready : goal.convert_rows-requires-clause-ready
convert_rows-requires-clause-ready g c =
    let ready = c.requires.ready in
    let set = c.set_program.ensures in
    record {
      rows = ready.rows;
      are = ready.are;
      behind = ready.behind;
      tagged = ready.tagged;
      closed = ready.closed;
      free = subst IsFree (sym c.first_of.ensures) ready.free;
      reserved = ap (λ (u : UnitValue). u.reserved) set ∙ ready.reserved ∙ ap (λ (o : Option ℕ). id_of o (entry_count (kept_rows (keep_of c.args.kept.now) c.args.read.unit.now.header.offset.0 ready.rows))) (sym c.first_of.ensures);
      entries = ap (λ (u : UnitValue). u.entries) set ∙ ready.entries;
      kept = ap (λ (u : UnitValue). u.is_freed) set ∙ ready.kept;
    }

pub returns-in_err-program-clause-ok : goal.returns-in_err-program-clause-ok
returns-in_err-program-clause-ok g c = rw (is_err _ _ c.from_residual.ensures) tt

pub returns-in_err-program-clause-err : goal.returns-in_err-program-clause-err
returns-in_err-program-clause-err g c = rw (is_err _ _ c.from_residual.ensures) (⊎_elim inl (λ r. inr (inl r)) (subst (λ l. (c.in_err-program.field-0.0 ≡ NoMemory) ⊎ RefusesProgram g.R.Reader.reading (goal.F-post g c.args.convert_address.now) l (tables c.args.strings.now c.args.line_strings.now) c.in_err-program.field-0.0) c.lines_of-lines.ensures c.in_err-program.ensures.err))

pub returns-clause-ok : goal.returns-clause-ok
returns-clause-ok g c =
    let converted = rw (c.set_program.ensures, c.as_slice.ensures.value, c.first_of.ensures) at c.convert_rows.ensures.ok in
    OnOk-map c.convert_rows.result converted
    (λ tree. record {
      unit = record {
        program = _;
        files = c.in_ok-program.ids.items;
        between = _;
        program_is = subst (λ l. ConvertsProgram g.R.Reader.reading (goal.F-post g c.args.convert_address.now) l (tables c.args.strings.now c.args.line_strings.now) c.in_ok-program.program c.in_ok-program.ids.items (tables c.convert_program.new.strings c.convert_program.new.line_strings)) c.lines_of-lines.ensures c.in_ok-program.ensures.ok;
        tree = tree;
      };
      files = refl;
    })

pub returns-clause-err : goal.returns-clause-err
returns-clause-err g c =
    let refused = rw (c.set_program.ensures, c.as_slice.ensures.value) at c.convert_rows.ensures.err in
    IfErr-map c.convert_rows.result refused
    (λ e. ⊎_elim inl (λ r. inr (inr (record {
      program = _;
      files = c.in_ok-program.ids.items;
      between = _;
      program_is = subst (λ l. ConvertsProgram g.R.Reader.reading (goal.F-post g c.args.convert_address.now) l (tables c.args.strings.now c.args.line_strings.now) c.in_ok-program.program c.in_ok-program.ids.items (tables c.convert_program.new.strings c.convert_program.new.line_strings)) c.lines_of-lines.ensures c.in_ok-program.ensures.ok;
      refused = r;
    }))))
