use Rattle.std.proofs.Common.{[], ap, refl, inr, inl, ⊎_elim}
use Rattle.std.proofs.lemmas.List.Elements.{All-cons, All-nil}
use Rattle.std.proofs.lemmas.Result.{err_from_is_err_and}
use Rattle.dw_writer.proofs.Outcomes.{OnOk-map, IfErr-map, OnOk-always, OnErr-always}
use Rattle.dw_unit.specs.Alone.{AloneFails}
use Rattle.dw_tree.specs.Elsewhere.{elsewhere, unit_tables}
use Rattle.dw_tree.specs.Whole.{settled}
use Rattle.dw_tree.proofs.Faults.{OnOk-both}
use Rattle.dw_dwarf.specs.DwarfValue.{dwarf_of}
use Rattle.dw_dwarf.specs.Valid.{IsUnwritten, programs_fail}
use Rattle.dw_dwarf.proofs.Held.{dwarf_held, dwarf_resolved}
use Rattle.dw_dwarf.proofs.OneUnit.{alone_whole, line_alone, line_behind, ranges_alone, no_program, alone_complete}
use Rattle.dw_dwarf.proofs.RestSections.{appends_after, unit_ranges_after, strings_after, rest_because, rest_memory, others_after, fixups_after}
use Rattle.dw_dwarf.proofs.dwarf_unit.DwarfUnit.write.Goals as goal

-- where the unit is refused

pub returns-in_err-write_alone-clause-complete : goal.returns-in_err-write_alone-clause-complete
returns-in_err-write_alone-clause-complete g c = λ writable alone calm.
    let d = c.args.self.now in
    let p = err_from_is_err_and c.from_residual.result c.from_residual.ensures.1 in
    rw (p.1, p.2)
    (alone_complete g.W.Writer.meaning c.args.sections.now c.write_alone.new.sections (elsewhere g.W.Writer.meaning c.args.sections.now d.line_strings d.strings) d.unit writable alone calm c.in_err-write_alone.field-0.0 c.in_err-write_alone.ensures.err)

-- behind the unit

pub returns-clause-built : goal.returns-clause-built
returns-clause-built g c =
    let meaning = g.W.Writer.meaning in
    let old = c.args.sections.now in
    let mid = c.write_alone.new.sections in
    let new = c.write_rest.new.sections in
    let d = c.args.self.now in
    let u = d.unit in
    let others = c.in_ok-write_alone.ensures.others in
    let same = c.write_rest.ensures.others in
    let p = appends_after meaning old mid new (settled u) (unit_tables (elsewhere meaning old d.line_strings d.strings) u) c.write_alone.new.self.offsets same c.in_ok-write_alone.ensures.appends in
    OnOk-both c.write_rest.result c.write_rest.ensures.lines c.write_rest.ensures.strings
    (λ lines strings empty.
    dwarf_held meaning old new (dwarf_of d.line_strings d.strings u) (alone_whole meaning old new d.line_strings d.strings u c.write_alone.new.self.offsets p) g.met.W.Writer.plain_records_nothing empty (All-cons IsUnwritten u [] c.requires.unwritten (All-nil IsUnwritten))
    (line_alone meaning old mid new d.line_strings d.strings u c.requires.unwritten c.in_ok-write_alone.ensures.lines lines)
    (ranges_alone meaning old new u c.requires.unwritten (unit_ranges_after meaning old mid new u same c.in_ok-write_alone.ensures.ranges)) (inr c.in_ok-write_alone.ensures.writable, tt)
    (strings_after meaning old mid new d.line_strings d.strings (ap (λ s. s.debug_line_str) others) (ap (λ s. s.debug_str) others) strings) (others_after meaning old mid new others same))

pub returns-clause-resolves : goal.returns-clause-resolves
returns-clause-resolves g c =
    let meaning = g.W.Writer.meaning in
    let old = c.args.sections.now in
    let mid = c.write_alone.new.sections in
    let new = c.write_rest.new.sections in
    let d = c.args.self.now in
    let u = d.unit in
    let p = appends_after meaning old mid new (settled u) (unit_tables (elsewhere meaning old d.line_strings d.strings) u) c.write_alone.new.self.offsets c.write_rest.ensures.others c.in_ok-write_alone.ensures.appends in
    OnOk-map c.write_rest.result c.write_rest.ensures.lines
    (λ lines empty. dwarf_resolved meaning old new (dwarf_of d.line_strings d.strings u) (alone_whole meaning old new d.line_strings d.strings u c.write_alone.new.self.offsets p) empty (All-cons IsUnwritten u [] c.requires.unwritten (All-nil IsUnwritten))
    (line_alone meaning old mid new d.line_strings d.strings u c.requires.unwritten c.in_ok-write_alone.ensures.lines lines)
    (ranges_alone meaning old new u c.requires.unwritten (unit_ranges_after meaning old mid new u c.write_rest.ensures.others c.in_ok-write_alone.ensures.ranges)))

pub returns-clause-appends : goal.returns-clause-appends
returns-clause-appends g c =
    let meaning = g.W.Writer.meaning in
    let old = c.args.sections.now in
    let d = c.args.self.now in
    let p = appends_after meaning old c.write_alone.new.sections c.write_rest.new.sections (settled d.unit) (unit_tables (elsewhere meaning old d.line_strings d.strings) d.unit) c.write_alone.new.self.offsets c.write_rest.ensures.others c.in_ok-write_alone.ensures.appends in
    OnOk-map c.write_rest.result c.write_rest.ensures.lines (λ lines. p)

pub returns-clause-lines : goal.returns-clause-lines
returns-clause-lines g c =
    let d = c.args.self.now in
    OnOk-map c.write_rest.result c.write_rest.ensures.lines
    (line_behind g.W.Writer.meaning c.args.sections.now c.write_alone.new.sections c.write_rest.new.sections d.line_strings d.strings d.unit c.in_ok-write_alone.ensures.lines)

pub returns-clause-ranges : goal.returns-clause-ranges
returns-clause-ranges g c =
    let ranges = unit_ranges_after g.W.Writer.meaning c.args.sections.now c.write_alone.new.sections c.write_rest.new.sections c.args.self.now.unit c.write_rest.ensures.others c.in_ok-write_alone.ensures.ranges in
    OnOk-map c.write_rest.result c.write_rest.ensures.lines (λ lines. ranges)

pub returns-clause-strings : goal.returns-clause-strings
returns-clause-strings g c =
    let others = c.in_ok-write_alone.ensures.others in
    OnOk-map c.write_rest.result c.write_rest.ensures.strings
    (strings_after g.W.Writer.meaning c.args.sections.now c.write_alone.new.sections c.write_rest.new.sections c.args.self.now.line_strings c.args.self.now.strings (ap (λ s. s.debug_line_str) others) (ap (λ s. s.debug_str) others))

pub returns-clause-emptied : goal.returns-clause-emptied
returns-clause-emptied g c =
    let mid = c.write_alone.new.sections in
    OnOk-map c.write_rest.result c.write_rest.ensures.lines
    (λ lines. fixups_after g.W.Writer.meaning mid c.write_rest.new.sections c.write_rest.ensures.others c.in_ok-write_alone.ensures.closed)

pub returns-clause-err : goal.returns-clause-err
returns-clause-err g c =
    let meaning = g.W.Writer.meaning in
    let old = c.args.sections.now in
    let mid = c.write_alone.new.sections in
    let d = c.args.self.now in
    let others = c.in_ok-write_alone.ensures.others in
    IfErr-map c.write_rest.result c.write_rest.ensures.err
    (λ err h.
    rest_because meaning old mid c.write_rest.new.sections (ap (λ s. s.debug_line_str) others) (ap (λ s. s.debug_str) others) c.in_ok-write_alone.ensures.lines.text_is.same.faults
    (programs_fail d.line_strings d.strings (meaning mid.debug_line.0).is_plain [])
    (AloneFails d.unit (elsewhere meaning old d.line_strings d.strings) (meaning old.debug_abbrev.0).size (meaning old.debug_info.0).is_plain) err (λ e k. absurd (no_program d.line_strings d.strings (meaning mid.debug_line.0).is_plain e k)) h)

pub returns-clause-complete : goal.returns-clause-complete
returns-clause-complete g c = λ writable alone calm.
    let meaning = g.W.Writer.meaning in
    let mid = c.write_alone.new.sections in
    let d = c.args.self.now in
    let others = c.in_ok-write_alone.ensures.others in
    IfErr-map c.write_rest.result c.write_rest.ensures.err
    (λ err h. rest_memory meaning c.args.sections.now mid c.write_rest.new.sections (ap (λ s. s.debug_line_str) others) (ap (λ s. s.debug_str) others) c.in_ok-write_alone.ensures.lines.text_is.same.faults
    (programs_fail d.line_strings d.strings (meaning mid.debug_line.0).is_plain []) err (λ e. refl) calm h)

pub returns-clause-others : goal.returns-clause-others
returns-clause-others g c =
    others_after g.W.Writer.meaning c.args.sections.now c.write_alone.new.sections c.write_rest.new.sections c.in_ok-write_alone.ensures.others c.write_rest.ensures.others

pub returns-in_err-write_alone-clause-built : goal.returns-in_err-write_alone-clause-built
returns-in_err-write_alone-clause-built g c = rw (err_from_is_err_and c.from_residual.result c.from_residual.ensures.1).1 tt

pub returns-in_err-write_alone-clause-resolves : goal.returns-in_err-write_alone-clause-resolves
returns-in_err-write_alone-clause-resolves g c = rw (err_from_is_err_and c.from_residual.result c.from_residual.ensures.1).1 tt

pub returns-in_err-write_alone-clause-appends : goal.returns-in_err-write_alone-clause-appends
returns-in_err-write_alone-clause-appends g c = rw (err_from_is_err_and c.from_residual.result c.from_residual.ensures.1).1 tt

pub returns-in_err-write_alone-clause-lines : goal.returns-in_err-write_alone-clause-lines
returns-in_err-write_alone-clause-lines g c = rw (err_from_is_err_and c.from_residual.result c.from_residual.ensures.1).1 tt

pub returns-in_err-write_alone-clause-ranges : goal.returns-in_err-write_alone-clause-ranges
returns-in_err-write_alone-clause-ranges g c = rw (err_from_is_err_and c.from_residual.result c.from_residual.ensures.1).1 tt

pub returns-in_err-write_alone-clause-strings : goal.returns-in_err-write_alone-clause-strings
returns-in_err-write_alone-clause-strings g c = rw (err_from_is_err_and c.from_residual.result c.from_residual.ensures.1).1 tt

pub returns-in_err-write_alone-clause-emptied : goal.returns-in_err-write_alone-clause-emptied
returns-in_err-write_alone-clause-emptied g c = rw (err_from_is_err_and c.from_residual.result c.from_residual.ensures.1).1 tt

pub returns-in_err-write_alone-clause-marked : goal.returns-in_err-write_alone-clause-marked
returns-in_err-write_alone-clause-marked g c = rw (err_from_is_err_and c.from_residual.result c.from_residual.ensures.1).1 tt

pub returns-in_err-write_alone-clause-writable : goal.returns-in_err-write_alone-clause-writable
returns-in_err-write_alone-clause-writable g c = rw (err_from_is_err_and c.from_residual.result c.from_residual.ensures.1).1 tt

pub returns-in_err-write_alone-clause-alone : goal.returns-in_err-write_alone-clause-alone
returns-in_err-write_alone-clause-alone g c = rw (err_from_is_err_and c.from_residual.result c.from_residual.ensures.1).1 tt

pub returns-in_err-write_alone-clause-err : goal.returns-in_err-write_alone-clause-err
returns-in_err-write_alone-clause-err g c =
    let p = err_from_is_err_and c.from_residual.result c.from_residual.ensures.1 in rw (p.1, p.2) c.in_err-write_alone.ensures.err

pub returns-in_err-write_alone-clause-kept : goal.returns-in_err-write_alone-clause-kept
returns-in_err-write_alone-clause-kept g c =
    rw (err_from_is_err_and c.from_residual.result c.from_residual.ensures.1).1 (⊎_elim inl (λ h. inr (inl h)) c.in_err-write_alone.ensures.kept)

pub returns-in_err-write_alone-clause-others : goal.returns-in_err-write_alone-clause-others
returns-in_err-write_alone-clause-others g c =
    others_after g.W.Writer.meaning c.args.sections.now c.write_alone.new.sections c.write_alone.new.sections c.in_err-write_alone.ensures.others refl

pub returns-clause-kept : goal.returns-clause-kept
returns-clause-kept g c = OnErr-always c.write_rest.result (inr (inr c.in_ok-write_alone.ensures.marked))

pub returns-clause-marked : goal.returns-clause-marked
returns-clause-marked g c = OnOk-always c.write_rest.result c.in_ok-write_alone.ensures.marked

pub returns-clause-writable : goal.returns-clause-writable
returns-clause-writable g c = OnOk-always c.write_rest.result c.in_ok-write_alone.ensures.writable

pub returns-clause-alone : goal.returns-clause-alone
returns-clause-alone g c = OnOk-always c.write_rest.result c.in_ok-write_alone.ensures.alone
