use Rattle.std.proofs.Common.{refl, sym, subst}
use Rattle.dw_base.specs.Order.{is_big_of}
use Rattle.dw_link.proofs.Held.{held, held_beside}
use Rattle.dw_program.specs.Answers.{SaysOfSets}
use Rattle.dw_program.proofs.Outcomes.{IfOk-two, IfOk-three}
use Rattle.dw_program.proofs.SetsSaid.{says_listed, says_link_refused}
use Rattle.dw_program.proofs.link.join_sets.Goals as goal

pub returns-in-Ok : goal.returns-in-Ok
returns-in-Ok c =
    IfOk-three c.answer_listed.result c.answer_listed.ensures.status c.answer_listed.ensures.lists c.answer_listed.ensures.read_back
    (λ a is lists back s endian symbols valid left parts.
    subst (λ x. SaysOfSets s x a.text.items) (sym is)
    (says_listed (held_beside is_big_of) (held is_big_of) (λ x. (x.bytes.items, refl)) c.args.endian c.args.symbols.now.items s c.args.sets.now.items c.in-Ok.joined a.text.items endian symbols valid left parts
    c.in-Ok.ensures.dwarfs c.in-Ok.ensures.parts c.in-Ok.ensures.order lists back))

pub returns-in-Err : goal.returns-in-Err
returns-in-Err c =
    IfOk-two c.answer_link_refusal.result c.answer_link_refusal.ensures.says c.answer_link_refusal.ensures.other
    (λ a says other s endian symbols valid left parts.
    says_link_refused (held_beside is_big_of) c.args.endian c.args.symbols.now.items s c.args.sets.now.items a.status a.text.items c.in-Err.error endian symbols valid parts c.in-Err.ensures.err says.0 says.1 other)
