use Rattle.dw_writer.proofs.Outcomes.{OnOk-map}
use Rattle.dw_entry_ids.specs.KeptRows.{keep_of}
use Rattle.dw_dwarf.specs.Converters.{behind}
use Rattle.dw_dwarf.proofs.Readability.{can_convert_new}
use Rattle.dw_dwarf.proofs.convert.convert_unit.ConvertUnit.convert.Goals as goal

pub convert_unit-converted-requires-clause-ready : goal.convert_unit-converted-requires-clause-ready
convert_unit-converted-requires-clause-ready g c =
    let c_self = c.args.self.now in
    can_convert_new (keep_of c_self.given.kept.now) g.R.Reader.reading c_self.given.read (behind c_self) c_self.given.entries _ c_self.unit.now c_self.given.free c_self.given.readable c.requires.fresh.unit

pub returns-then-is_ok-clause-ok : goal.returns-then-is_ok-clause-ok
returns-then-is_ok-clause-ok g c = OnOk-map c.convert_unit-converted.result c.convert_unit-converted.ensures.ok (λ whole. record { unit = whole.unit; files = whole.files })
