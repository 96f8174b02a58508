use Rattle.dw_writer.proofs.Outcomes.{OnOk-map, IfErr-map}
use Rattle.dw_tree.proofs.ValueRefusals.{address_sound, address_because}
use Rattle.dw_tree.proofs.value.write_target.Goals as goal

pub returns-clause-sound : goal.returns-clause-sound
returns-clause-sound g c = OnOk-map c.write_address.result c.write_address.ensures.fits (address_sound (g.W.Writer.meaning c.args.w.now).is_plain c.args.size c.args.address)

pub returns-clause-err : goal.returns-clause-err
returns-clause-err g c = IfErr-map c.write_address.result c.write_address.ensures.err (address_because (g.W.Writer.meaning c.args.w.now) (g.W.Writer.meaning c.write_address.new.self) (g.W.Writer.meaning c.args.w.now).is_plain c.args.size c.args.address c.requires)
