use Rattle.std.proofs.Common.{◌∙◌, sym, ap, subst, inl, inr}
use Rattle.std.proofs.lemmas.Result.{err_from_is_err_and}
use Rattle.std.specs.Prelude.{◌⊎◌, IsTrue}
use Rattle.dw_writer.proofs.Outcomes.{OnOk-map, IfErr-map, OnErr-always}
use Rattle.dw_line.specs.Parts.{NoCause}
use Rattle.dw_tree.specs.Causes.{RefusesAny}
use Rattle.dw_tree.proofs.Faults.{OnOk-both}
use Rattle.dw_tree.specs.Elsewhere.{ends_of}
use Rattle.dw_tree.specs.Pending.{starts_of}
use Rattle.dw_tree.specs.Written.{AreWritten}
use Rattle.dw_unit.proofs.TableSteps.{stopped_after}
use Rattle.dw_dwarf.specs.DwarfValue.{dwarf_in}
use Rattle.dw_dwarf.specs.Valid.{DwarfFails, extra_fails, found_in}
use Rattle.dw_dwarf.proofs.Left.{dwarf_left}
use Rattle.dw_dwarf.proofs.FileHeld.{file_held}
use Rattle.dw_dwarf.proofs.Held.{writes_whole, dwarf_held, dwarf_resolved}
use Rattle.dw_dwarf.proofs.Complete.{whole_valid, whole_refused, dwarf_complete}
use Rattle.dw_dwarf.proofs.RestSections.{completes_after, lines_after, ranges_after, strings_after, rest_because, rest_memory, refuses_any, others_after, fixups_after, starts_after}
use Rattle.dw_dwarf.proofs.dwarf.Dwarf.write.Goals as goal

-- where the units are refused

pub returns-in_err-write-clause-err : goal.returns-in_err-write-clause-err
returns-in_err-write-clause-err g c =
    let p = err_from_is_err_and c.from_residual.result c.from_residual.ensures.1 in
    rw (p.1, p.2)
    (λ none unwritten.
    whole_refused g.W.Writer.meaning c.args.sections.now c.write.new.sections (dwarf_in c.args.self.now) c.write.new.self c.in_err-write.field-0.0 none unwritten c.in_err-write.ensures.err)

pub returns-in_err-write-clause-complete : goal.returns-in_err-write-clause-complete
returns-in_err-write-clause-complete g c = λ empty unwritten valid calm.
    let meaning = g.W.Writer.meaning in
    let old = c.args.sections.now in
    let new = c.write.new.sections in
    let d = dwarf_in c.args.self.now in
    let p = err_from_is_err_and c.from_residual.result c.from_residual.ensures.1 in
    rw (p.1, p.2)
    (dwarf_complete meaning old new empty calm d valid c.in_err-write.field-0.0
    (whole_refused meaning old new d c.write.new.self c.in_err-write.field-0.0 empty.fixups unwritten c.in_err-write.ensures.err))

pub returns-in_err-write-clause-refused : goal.returns-in_err-write-clause-refused
returns-in_err-write-clause-refused g c =
    let p = err_from_is_err_and c.from_residual.result c.from_residual.ensures.1 in
    rw (p.1, p.2) (inl c.in_err-write.ensures.err)

-- behind the units

pub returns-clause-built : goal.returns-clause-built
returns-clause-built g c =
    let meaning = g.W.Writer.meaning in
    let old = c.args.sections.now in
    let mid = c.write.new.sections in
    let new = c.write_rest.new.sections in
    let d = dwarf_in c.args.self.now in
    let others = c.in_ok-write.ensures.others in
    let same = c.write_rest.ensures.others in
    let any = completes_after meaning old mid new d.units c.write.new.self (found_in meaning old d) same c.in_ok-write.ensures.completes in
    let programs = rw c.as_slice.ensures.value at c.write_rest.ensures.lines in
    OnOk-both c.write_rest.result programs c.write_rest.ensures.strings
    (λ lines strings empty unwritten.
    dwarf_held meaning old new d (writes_whole meaning old new d c.write.new.self empty.fixups unwritten any) g.met.W.Writer.plain_records_nothing empty unwritten
    (lines_after meaning old mid new d c.in_ok-write.ensures.lines lines) (ranges_after meaning old mid new d.units same c.in_ok-write.ensures.ranges) c.in_ok-write.ensures.writable
    (strings_after meaning old mid new d.line_strings d.strings (ap (λ s. s.debug_line_str) others) (ap (λ s. s.debug_str) others) strings) (others_after meaning old mid new others same))

pub returns-clause-whole : goal.returns-clause-whole
returns-clause-whole g c =
    let meaning = g.W.Writer.meaning in
    let old = c.args.sections.now in
    let mid = c.write.new.sections in
    let new = c.write_rest.new.sections in
    let d = dwarf_in c.args.self.now in
    let others = c.in_ok-write.ensures.others in
    let same = c.write_rest.ensures.others in
    let any = completes_after meaning old mid new d.units c.write.new.self (found_in meaning old d) same c.in_ok-write.ensures.completes in
    let programs = rw c.as_slice.ensures.value at c.write_rest.ensures.lines in
    OnOk-both c.write_rest.result programs c.write_rest.ensures.strings
    (λ lines strings.
    file_held meaning g.met.W.Writer.plain_records_nothing old new d c.write.new.self any (lines_after meaning old mid new d c.in_ok-write.ensures.lines lines) (ranges_after meaning old mid new d.units same c.in_ok-write.ensures.ranges)
    c.in_ok-write.ensures.writable (strings_after meaning old mid new d.line_strings d.strings (ap (λ s. s.debug_line_str) others) (ap (λ s. s.debug_str) others) strings) (others_after meaning old mid new others same))

pub returns-clause-resolves : goal.returns-clause-resolves
returns-clause-resolves g c =
    let meaning = g.W.Writer.meaning in
    let old = c.args.sections.now in
    let mid = c.write.new.sections in
    let new = c.write_rest.new.sections in
    let d = dwarf_in c.args.self.now in
    let any = completes_after meaning old mid new d.units c.write.new.self (found_in meaning old d) c.write_rest.ensures.others c.in_ok-write.ensures.completes in
    let programs = rw c.as_slice.ensures.value at c.write_rest.ensures.lines in
    OnOk-map c.write_rest.result programs
    (λ lines empty unwritten. dwarf_resolved meaning old new d (writes_whole meaning old new d c.write.new.self empty.fixups unwritten any) empty unwritten (lines_after meaning old mid new d c.in_ok-write.ensures.lines lines)
    (ranges_after meaning old mid new d.units c.write_rest.ensures.others c.in_ok-write.ensures.ranges))

pub returns-clause-left : goal.returns-clause-left
returns-clause-left g c =
    let meaning = g.W.Writer.meaning in
    let old = c.args.sections.now in
    let mid = c.write.new.sections in
    let new = c.write_rest.new.sections in
    let d = dwarf_in c.args.self.now in
    let others = c.in_ok-write.ensures.others in
    let any = completes_after meaning old mid new d.units c.write.new.self (found_in meaning old d) c.write_rest.ensures.others c.in_ok-write.ensures.completes in
    let programs = rw c.as_slice.ensures.value at c.write_rest.ensures.lines in
    OnOk-both c.write_rest.result programs c.write_rest.ensures.strings
    (λ lines strings big empty unwritten.
    dwarf_left meaning big old new d empty (writes_whole meaning old new d c.write.new.self empty.fixups unwritten any) unwritten (lines_after meaning old mid new d c.in_ok-write.ensures.lines lines)
    (ranges_after meaning old mid new d.units c.write_rest.ensures.others c.in_ok-write.ensures.ranges)
    (strings_after meaning old mid new d.line_strings d.strings (ap (λ s. s.debug_line_str) others) (ap (λ s. s.debug_str) others) strings))

pub returns-clause-completes : goal.returns-clause-completes
returns-clause-completes g c =
    let meaning = g.W.Writer.meaning in
    let old = c.args.sections.now in
    let d = dwarf_in c.args.self.now in
    let any = completes_after meaning old c.write.new.sections c.write_rest.new.sections d.units c.write.new.self (found_in meaning old d) c.write_rest.ensures.others c.in_ok-write.ensures.completes in
    OnOk-map c.write_rest.result c.write_rest.ensures.lines (λ lines. any)

pub returns-clause-lines : goal.returns-clause-lines
returns-clause-lines g c =
    let programs = rw c.as_slice.ensures.value at c.write_rest.ensures.lines in
    OnOk-map c.write_rest.result programs
    (lines_after g.W.Writer.meaning c.args.sections.now c.write.new.sections c.write_rest.new.sections (dwarf_in c.args.self.now) c.in_ok-write.ensures.lines)

pub returns-clause-ranges : goal.returns-clause-ranges
returns-clause-ranges g c =
    let ranges = ranges_after g.W.Writer.meaning c.args.sections.now c.write.new.sections c.write_rest.new.sections c.args.self.now.units c.write_rest.ensures.others c.in_ok-write.ensures.ranges in
    OnOk-map c.write_rest.result c.write_rest.ensures.lines (λ lines. ranges)

pub returns-clause-strings : goal.returns-clause-strings
returns-clause-strings g c =
    let others = c.in_ok-write.ensures.others in
    OnOk-map c.write_rest.result c.write_rest.ensures.strings
    (strings_after g.W.Writer.meaning c.args.sections.now c.write.new.sections c.write_rest.new.sections c.args.self.now.line_strings c.args.self.now.strings (ap (λ s. s.debug_line_str) others) (ap (λ s. s.debug_str) others))

pub returns-clause-emptied : goal.returns-clause-emptied
returns-clause-emptied g c =
    OnOk-map c.write_rest.result c.write_rest.ensures.lines
    (λ lines. fixups_after g.W.Writer.meaning c.write.new.sections c.write_rest.new.sections c.write_rest.ensures.others c.in_ok-write.ensures.emptied)

pub returns-clause-marked : goal.returns-clause-marked
returns-clause-marked g c =
    let meaning = g.W.Writer.meaning in
    let old = c.args.sections.now in
    let d = dwarf_in c.args.self.now in
    let marked = subst (λ e. AreWritten (starts_of meaning old) e (found_in meaning old d) d.units c.write.new.self)
    (starts_after meaning c.write.new.sections c.write_rest.new.sections c.write_rest.ensures.others) c.in_ok-write.ensures.marked
    in
    OnOk-map c.write_rest.result c.write_rest.ensures.lines (λ lines. marked)

pub returns-clause-valid : goal.returns-clause-valid
returns-clause-valid g c =
    let meaning = g.W.Writer.meaning in
    let old = c.args.sections.now in
    let new = c.write_rest.new.sections in
    let d = dwarf_in c.args.self.now in
    let any = completes_after meaning old c.write.new.sections new d.units c.write.new.self (found_in meaning old d) c.write_rest.ensures.others c.in_ok-write.ensures.completes in
    let kind = c.in_ok-write.ensures.lines.text_is.same.kind in
    let sound_there = rw c.as_slice.ensures.value at c.write_rest.ensures.sound in
    OnOk-map c.write_rest.result sound_there
    (λ sound none unwritten. whole_valid meaning old new d c.in_ok-write.ensures.writable (writes_whole meaning old new d c.write.new.self none unwritten any) (subst (λ b. NoCause (extra_fails b d)) kind sound))

pub returns-clause-refused : goal.returns-clause-refused
returns-clause-refused g c =
    let meaning = g.W.Writer.meaning in
    let old = c.args.sections.now in
    let mid = c.write.new.sections in
    let new = c.write_rest.new.sections in
    let d = dwarf_in c.args.self.now in
    let others = c.in_ok-write.ensures.others in
    let line = c.in_ok-write.ensures.lines.text_is.same in
    let refused = rw c.as_slice.ensures.value at c.write_rest.ensures.err in
    IfErr-map c.write_rest.result refused
    (λ err h.
    subst (λ b. RefusesAny meaning old new d.units c.write.new.self (found_in meaning old d) err ⊎ IsTrue (extra_fails b d err)) line.kind
    (refuses_any meaning old mid new (ap (λ s. s.debug_line_str) others) (ap (λ s. s.debug_str) others) line.faults d.units c.write.new.self (found_in meaning old d) (extra_fails (meaning mid.debug_line.0).is_plain d) err h))

pub returns-clause-err : goal.returns-clause-err
returns-clause-err g c =
    let meaning = g.W.Writer.meaning in
    let old = c.args.sections.now in
    let mid = c.write.new.sections in
    let new = c.write_rest.new.sections in
    let d = dwarf_in c.args.self.now in
    let others = c.in_ok-write.ensures.others in
    let line = c.in_ok-write.ensures.lines.text_is.same in
    let refused = rw c.as_slice.ensures.value at c.write_rest.ensures.err in
    IfErr-map c.write_rest.result refused
    (λ err h none unwritten.
    rest_because meaning old mid new (ap (λ s. s.debug_line_str) others) (ap (λ s. s.debug_str) others) line.faults (extra_fails (meaning mid.debug_line.0).is_plain d)
    (DwarfFails (meaning old.debug_info.0).is_plain (starts_of meaning old) (ends_of meaning old) d) err (λ e k. inr (inr (subst (λ b. IsTrue (extra_fails b d e)) line.kind k))) h)

pub returns-clause-stopped : goal.returns-clause-stopped
returns-clause-stopped g c =
    let meaning = g.W.Writer.meaning in
    let d = dwarf_in c.args.self.now in
    OnErr-always c.write_rest.result
    (stopped_after (starts_of meaning c.args.sections.now) (starts_of meaning c.write.new.sections) (found_in meaning c.args.sections.now d) d.units c.write.new.self c.in_ok-write.ensures.marked)

pub returns-clause-complete : goal.returns-clause-complete
returns-clause-complete g c = λ empty unwritten valid calm.
    let meaning = g.W.Writer.meaning in
    let old = c.args.sections.now in
    let mid = c.write.new.sections in
    let d = dwarf_in c.args.self.now in
    let others = c.in_ok-write.ensures.others in
    let line = c.in_ok-write.ensures.lines.text_is.same in
    let refused = rw c.as_slice.ensures.value at c.write_rest.ensures.err in
    IfErr-map c.write_rest.result refused
    (λ err h. rest_memory meaning old mid c.write_rest.new.sections (ap (λ s. s.debug_line_str) others) (ap (λ s. s.debug_str) others) line.faults (extra_fails (meaning mid.debug_line.0).is_plain d) err
    (subst (λ b. NoCause (extra_fails b d)) (sym (line.kind ∙ empty.kind)) valid.extra) calm h)

pub returns-clause-follows : goal.returns-clause-follows
returns-clause-follows g c = λ can sound calm.
    let meaning = g.W.Writer.meaning in
    let old = c.args.sections.now in
    let mid = c.write.new.sections in
    let d = dwarf_in c.args.self.now in
    let others = c.in_ok-write.ensures.others in
    let line = c.in_ok-write.ensures.lines.text_is.same in
    let refused = rw c.as_slice.ensures.value at c.write_rest.ensures.err in
    IfErr-map c.write_rest.result refused
    (λ err h. rest_memory meaning old mid c.write_rest.new.sections (ap (λ s. s.debug_line_str) others) (ap (λ s. s.debug_str) others) line.faults (extra_fails (meaning mid.debug_line.0).is_plain d) err
    (subst (λ b. NoCause (extra_fails b d)) (sym line.kind) sound) calm h)

pub returns-clause-others : goal.returns-clause-others
returns-clause-others g c =
    others_after g.W.Writer.meaning c.args.sections.now c.write.new.sections c.write_rest.new.sections c.in_ok-write.ensures.others c.write_rest.ensures.others

pub returns-in_err-write-clause-built : goal.returns-in_err-write-clause-built
returns-in_err-write-clause-built g c = rw (err_from_is_err_and c.from_residual.result c.from_residual.ensures.1).1 tt

pub returns-in_err-write-clause-resolves : goal.returns-in_err-write-clause-resolves
returns-in_err-write-clause-resolves g c = rw (err_from_is_err_and c.from_residual.result c.from_residual.ensures.1).1 tt

pub returns-in_err-write-clause-left : goal.returns-in_err-write-clause-left
returns-in_err-write-clause-left g c = rw (err_from_is_err_and c.from_residual.result c.from_residual.ensures.1).1 tt

pub returns-in_err-write-clause-completes : goal.returns-in_err-write-clause-completes
returns-in_err-write-clause-completes g c = rw (err_from_is_err_and c.from_residual.result c.from_residual.ensures.1).1 tt

pub returns-in_err-write-clause-lines : goal.returns-in_err-write-clause-lines
returns-in_err-write-clause-lines g c = rw (err_from_is_err_and c.from_residual.result c.from_residual.ensures.1).1 tt

pub returns-in_err-write-clause-ranges : goal.returns-in_err-write-clause-ranges
returns-in_err-write-clause-ranges g c = rw (err_from_is_err_and c.from_residual.result c.from_residual.ensures.1).1 tt

pub returns-in_err-write-clause-strings : goal.returns-in_err-write-clause-strings
returns-in_err-write-clause-strings g c = rw (err_from_is_err_and c.from_residual.result c.from_residual.ensures.1).1 tt

pub returns-in_err-write-clause-emptied : goal.returns-in_err-write-clause-emptied
returns-in_err-write-clause-emptied g c = rw (err_from_is_err_and c.from_residual.result c.from_residual.ensures.1).1 tt

pub returns-in_err-write-clause-marked : goal.returns-in_err-write-clause-marked
returns-in_err-write-clause-marked g c = rw (err_from_is_err_and c.from_residual.result c.from_residual.ensures.1).1 tt

pub returns-in_err-write-clause-valid : goal.returns-in_err-write-clause-valid
returns-in_err-write-clause-valid g c = rw (err_from_is_err_and c.from_residual.result c.from_residual.ensures.1).1 tt

pub returns-in_err-write-clause-whole : goal.returns-in_err-write-clause-whole
returns-in_err-write-clause-whole g c = rw (err_from_is_err_and c.from_residual.result c.from_residual.ensures.1).1 tt
