use Rattle.dw_writer.proofs.Outcomes.{OnOk-map, IfErr-map}
use Rattle.dw_tree.proofs.ValueRefusals.{number_sound, number_because}
use Rattle.std.proofs.Common.{ap, not}
use Rattle.dw_base.specs.Numbers.{fits}
use Rattle.dw_entries.specs.Content.{number_fails}
use Rattle.dw_tree.proofs.value.write_plain.Goals as goal

pub returns-clause-sound : goal.returns-clause-sound
returns-clause-sound g c = OnOk-map c.write_udata.result c.write_udata.ensures.fits (λ h. number_sound c.args.size c.args.value h.1)

pub returns-clause-err : goal.returns-clause-err
returns-clause-err g c =
    let w = c.args.size in
    let n = c.args.value in
    IfErr-map c.write_udata.result c.write_udata.ensures.err (number_because (g.W.Writer.meaning c.args.w.now) (g.W.Writer.meaning c.write_udata.new.self) w (fits w n) (number_fails w n) c.requires (λ k. ap not k))
