use Rattle.std.proofs.Common.{refl}
use Rattle.dw_build.specs.SetsValue.{sets_in}
use Rattle.dw_program.proofs.Outcomes.{IfOk-map, IfOk-two}
use Rattle.dw_program.proofs.SetsSaid.{sets_unwritten, says_set_refused}
use Rattle.dw_program.proofs.link.link_sets.Goals as goal

pub write_sets-requires : goal.write_sets-requires
write_sets-requires c = sets_unwritten (sets_in c.args.sets).dwarfs c.requires

pub returns-in-Ok : goal.returns-in-Ok
returns-in-Ok c =
    IfOk-map c.join_sets.result c.join_sets.ensures (λ a says. says (sets_in c.args.sets) refl refl c.in-Ok.ensures.valid c.in-Ok.ensures.left c.in-Ok.ensures.parts)

pub returns : goal.returns
returns c =
    IfOk-two c.answer_write_refusal.result c.answer_write_refusal.ensures.says c.answer_write_refusal.ensures.other
    (λ a says other. says_set_refused (sets_in c.args.sets) a.status a.text.items c.in-Err.error says.0 says.1 (c.in-Err.ensures.err other))
