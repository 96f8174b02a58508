use Rattle.std.proofs.Common.{sym, ap, subst}
use Rattle.dw_unit.specs.WrittenUnits.{ExtendsFile}
use Rattle.dw_dwarf.proofs.convert.convert_unit.ConvertUnit.write.Goals as goal

pub returns-clause-file : goal.returns-clause-file
returns-clause-file g c =
    let s = c.args.self.now in
    subst (ExtendsFile g.W.Writer.meaning c.args.sections.now c.write.new.sections s.line_strings.now s.strings.now s.unit.now) (sym (ap (λ u. u.offsets) c.free.ensures)) c.in_ok-write.ensures.file
