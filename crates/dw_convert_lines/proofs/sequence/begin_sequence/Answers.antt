use Rattle.std.proofs.Common.{◌∙◌, sym, inl, refl}
use Rattle.dw_convert_lines.proofs.SequenceLaws.{answered, unset, begun_at}
use Rattle.dw_convert_lines.proofs.sequence.begin_sequence.Goals as goal
use Rattle.dw_convert_lines.proofs.sequence.begin_sequence.Goals.{in-Some+in-Some-convert_address, in-None}

pub returns-in-Ok-clause-ok : goal.returns-in-Ok-clause-ok
returns-in-Ok-clause-ok g c =
    let closed = sym c.in_sequence.ensures ∙ c.if-in_sequence.false in
    let answers = goal.F-post g c.args.convert_address.now in
    elim c.match-base.branch [
      | in-Some+in-Some-convert_address w ↦ begun_at answers c.args.base _ _ c.match-base.address c.requires.there closed
          (answered answers c.args.base w.in-Some.base w.in-Some-convert_address.address c.match-base.address w.convert_address.result w.in-Some.is w.address-is w.in-Some-convert_address.is w.convert_address.ensures) c.begin_sequence.ensures.ok
      | in-None w ↦ begun_at answers c.args.base _ _ c.match-base.address c.requires.there closed (unset answers c.args.base c.match-base.address w.in-None.is w.address-is) c.begin_sequence.ensures.ok
    ]

pub returns-in-Err-clause-ok : goal.returns-in-Err-clause-ok
returns-in-Err-clause-ok g c = tt

pub returns-in-Err-clause-err : goal.returns-in-Err-clause-err
returns-in-Err-clause-err g c = inl refl

pub returns-in-Ok-clause-err : goal.returns-in-Ok-clause-err
returns-in-Ok-clause-err g c = tt

pub returns-then-in_sequence-clause-err : goal.returns-then-in_sequence-clause-err
returns-then-in_sequence-clause-err g c = tt
