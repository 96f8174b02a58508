use Rattle.std.proofs.Common.{◌∙◌, ◌∷◌, [], ap, sym, Err, Bool}
use Rattle.std.proofs.lemmas.Bool.{or_left, or_right}
use Rattle.std.proofs.lemmas.Result.{err_from_is_err_and}
use Rattle.dw_base.specs.declared.error.Error.{Error}
use Rattle.dw_writer.proofs.Outcomes.{OnOk-map}
use Rattle.dw_writer.proofs.Steps.{IsSameWriter-trans}
use Rattle.dw_expr.specs.Operands.{Operand, dense}
use Rattle.dw_expr.specs.OperandViews.{operand_in}
use Rattle.dw_expr.specs.Places.{known_by}
use Rattle.dw_expr.specs.Causes.{operand_fails, operands_fail}
use Rattle.dw_expr.proofs.WriteSteps.{four_drafts, four_writes_fail, four_writes_sound, same_kind, refused_after, err_at, IfErr-more, IsSameWriter-refl}
use Rattle.dw_expr.proofs.op.write.write_operands.Goals as goal

pub returns-clause-ok : goal.returns-clause-ok
returns-clause-ok g c =
    let e = c.args.encoding in
    let known = known_by g.P.EntryPlaces.places c.args.places in
    let keeps = c.args.keeps in
    let S = c.args.starts.now in
    let to = c.args.end in
    let meaning = g.W.Writer.meaning in
    let plain = (meaning c.args.w.now).is_plain in
    let code = operand_in c.args.operands.now.code in
    let first = operand_in c.args.operands.now.first in
    let second = operand_in c.args.operands.now.second in
    let third = operand_in c.args.operands.now.third in
    let all : Error → Bool = operands_fail e known keeps plain S to (dense (code ∷ first ∷ second ∷ third ∷ [])) in
    let F : Operand → Error → Bool = operand_fails e known keeps plain S to in
    OnOk-map c.write_operand-4.result c.write_operand-4.ensures.ok
    (λ last. four_drafts e known S to code first second third c.in_ok-write_operand.ensures.ok c.in_ok-write_operand-2.ensures.ok c.in_ok-write_operand-3.ensures.ok last)

pub returns-clause-sound : goal.returns-clause-sound
returns-clause-sound g c =
    let e = c.args.encoding in
    let known = known_by g.P.EntryPlaces.places c.args.places in
    let keeps = c.args.keeps in
    let S = c.args.starts.now in
    let to = c.args.end in
    let meaning = g.W.Writer.meaning in
    let plain = (meaning c.args.w.now).is_plain in
    let code = operand_in c.args.operands.now.code in
    let first = operand_in c.args.operands.now.first in
    let second = operand_in c.args.operands.now.second in
    let third = operand_in c.args.operands.now.third in
    let all : Error → Bool = operands_fail e known keeps plain S to (dense (code ∷ first ∷ second ∷ third ∷ [])) in
    let F : Operand → Error → Bool = operand_fails e known keeps plain S to in
    let kind1 = c.write_operand.ensures.same.kind in
    let kind2 = c.write_operand-2.ensures.same.kind ∙ kind1 in
    let kind3 = c.write_operand-3.ensures.same.kind ∙ kind2 in
    OnOk-map c.write_operand-4.result c.write_operand-4.ensures.sound
    (λ last. four_writes_sound e known S to keeps plain code first second third c.in_ok-write_operand.ensures.sound
    (λ err. sym (same_kind e known S to keeps first err kind1) ∙ c.in_ok-write_operand-2.ensures.sound err)
    (λ err. sym (same_kind e known S to keeps second err kind2) ∙ c.in_ok-write_operand-3.ensures.sound err)
    (λ err. sym (same_kind e known S to keeps third err kind3) ∙ last err))

pub returns-clause-err : goal.returns-clause-err
returns-clause-err g c =
    let e = c.args.encoding in
    let known = known_by g.P.EntryPlaces.places c.args.places in
    let keeps = c.args.keeps in
    let S = c.args.starts.now in
    let to = c.args.end in
    let meaning = g.W.Writer.meaning in
    let plain = (meaning c.args.w.now).is_plain in
    let code = operand_in c.args.operands.now.code in
    let first = operand_in c.args.operands.now.first in
    let second = operand_in c.args.operands.now.second in
    let third = operand_in c.args.operands.now.third in
    let all : Error → Bool = operands_fail e known keeps plain S to (dense (code ∷ first ∷ second ∷ third ∷ [])) in
    let F : Operand → Error → Bool = operand_fails e known keeps plain S to in
    let same2 = IsSameWriter-trans c.write_operand.ensures.same c.write_operand-2.ensures.same in
    let same3 = IsSameWriter-trans same2 c.write_operand-3.ensures.same in
    IfErr-more c.write_operand-4.result _ _
    (refused_after (meaning c.args.w.now) (meaning c.write_operand-3.new.w) (meaning c.write_operand-4.new.w) _ all same3
    (λ err h. four_writes_fail e known S to keeps plain code first second third err
    (or_right (F code err) _ (or_right (F first err) _ (or_right (F second err) _ (or_left (F third err) _ (sym (same_kind e known S to keeps third err same3.kind) ∙ h)))))))
    c.write_operand-4.ensures.err

pub returns-in_err-write_operand-clause-err : goal.returns-in_err-write_operand-clause-err
returns-in_err-write_operand-clause-err g c =
    let e = c.args.encoding in
    let known = known_by g.P.EntryPlaces.places c.args.places in
    let keeps = c.args.keeps in
    let S = c.args.starts.now in
    let to = c.args.end in
    let meaning = g.W.Writer.meaning in
    let plain = (meaning c.args.w.now).is_plain in
    let code = operand_in c.args.operands.now.code in
    let first = operand_in c.args.operands.now.first in
    let second = operand_in c.args.operands.now.second in
    let third = operand_in c.args.operands.now.third in
    let all : Error → Bool = operands_fail e known keeps plain S to (dense (code ∷ first ∷ second ∷ third ∷ [])) in
    let F : Operand → Error → Bool = operand_fails e known keeps plain S to in
    let p = err_from_is_err_and c.from_residual.result c.from_residual.ensures.1 in
    let err = c.in_err-write_operand.field-0.0 in
    err_at c.from_residual.result _ err (p.1 ∙ ap Err p.2)
    (refused_after (meaning c.args.w.now) (meaning c.args.w.now) (meaning c.write_operand.new.w) _ all (IsSameWriter-refl (meaning c.args.w.now))
    (λ err h. four_writes_fail e known S to keeps plain code first second third err (or_left (F code err) _ h)) err c.in_err-write_operand.ensures.err)

pub returns-in_err-write_operand-2-clause-err : goal.returns-in_err-write_operand-2-clause-err
returns-in_err-write_operand-2-clause-err g c =
    let e = c.args.encoding in
    let known = known_by g.P.EntryPlaces.places c.args.places in
    let keeps = c.args.keeps in
    let S = c.args.starts.now in
    let to = c.args.end in
    let meaning = g.W.Writer.meaning in
    let plain = (meaning c.args.w.now).is_plain in
    let code = operand_in c.args.operands.now.code in
    let first = operand_in c.args.operands.now.first in
    let second = operand_in c.args.operands.now.second in
    let third = operand_in c.args.operands.now.third in
    let all : Error → Bool = operands_fail e known keeps plain S to (dense (code ∷ first ∷ second ∷ third ∷ [])) in
    let F : Operand → Error → Bool = operand_fails e known keeps plain S to in
    let p = err_from_is_err_and c.from_residual-in_err-write_operand-2.result c.from_residual-in_err-write_operand-2.ensures.1 in
    let err = c.in_err-write_operand-2.field-0.0 in
    let same1 = c.write_operand.ensures.same in
    err_at c.from_residual-in_err-write_operand-2.result _ err (p.1 ∙ ap Err p.2)
    (refused_after (meaning c.args.w.now) (meaning c.write_operand.new.w) (meaning c.write_operand-2.new.w) _ all same1
    (λ err h. four_writes_fail e known S to keeps plain code first second third err
    (or_right (F code err) _ (or_left (F first err) _ (sym (same_kind e known S to keeps first err same1.kind) ∙ h)))) err c.in_err-write_operand-2.ensures.err)

pub returns-in_err-write_operand-3-clause-err : goal.returns-in_err-write_operand-3-clause-err
returns-in_err-write_operand-3-clause-err g c =
    let e = c.args.encoding in
    let known = known_by g.P.EntryPlaces.places c.args.places in
    let keeps = c.args.keeps in
    let S = c.args.starts.now in
    let to = c.args.end in
    let meaning = g.W.Writer.meaning in
    let plain = (meaning c.args.w.now).is_plain in
    let code = operand_in c.args.operands.now.code in
    let first = operand_in c.args.operands.now.first in
    let second = operand_in c.args.operands.now.second in
    let third = operand_in c.args.operands.now.third in
    let all : Error → Bool = operands_fail e known keeps plain S to (dense (code ∷ first ∷ second ∷ third ∷ [])) in
    let F : Operand → Error → Bool = operand_fails e known keeps plain S to in
    let p = err_from_is_err_and c.from_residual-in_err-write_operand-3.result c.from_residual-in_err-write_operand-3.ensures.1 in
    let err = c.in_err-write_operand-3.field-0.0 in
    let same2 = IsSameWriter-trans c.write_operand.ensures.same c.write_operand-2.ensures.same in
    err_at c.from_residual-in_err-write_operand-3.result _ err (p.1 ∙ ap Err p.2)
    (refused_after (meaning c.args.w.now) (meaning c.write_operand-2.new.w) (meaning c.write_operand-3.new.w) _ all same2
    (λ err h. four_writes_fail e known S to keeps plain code first second third err
    (or_right (F code err) _ (or_right (F first err) _ (or_left (F second err) _ (sym (same_kind e known S to keeps second err same2.kind) ∙ h))))) err c.in_err-write_operand-3.ensures.err)

pub returns-clause-same : goal.returns-clause-same
returns-clause-same g c = IsSameWriter-trans c.write_operand.ensures.same (IsSameWriter-trans c.write_operand-2.ensures.same (IsSameWriter-trans c.write_operand-3.ensures.same c.write_operand-4.ensures.same))

pub returns-clause-unkept : goal.returns-clause-unkept
returns-clause-unkept g c = λ k. c.write_operand-4.ensures.unkept k ∙ c.write_operand-3.ensures.unkept k ∙ c.write_operand-2.ensures.unkept k ∙ c.write_operand.ensures.unkept k

pub returns-in_err-write_operand-2-clause-same : goal.returns-in_err-write_operand-2-clause-same
returns-in_err-write_operand-2-clause-same g c = IsSameWriter-trans c.write_operand.ensures.same c.write_operand-2.ensures.same

pub returns-in_err-write_operand-2-clause-unkept : goal.returns-in_err-write_operand-2-clause-unkept
returns-in_err-write_operand-2-clause-unkept g c = λ k. c.write_operand-2.ensures.unkept k ∙ c.write_operand.ensures.unkept k

pub returns-in_err-write_operand-3-clause-same : goal.returns-in_err-write_operand-3-clause-same
returns-in_err-write_operand-3-clause-same g c = IsSameWriter-trans c.write_operand.ensures.same (IsSameWriter-trans c.write_operand-2.ensures.same c.write_operand-3.ensures.same)

pub returns-in_err-write_operand-3-clause-unkept : goal.returns-in_err-write_operand-3-clause-unkept
returns-in_err-write_operand-3-clause-unkept g c = λ k. c.write_operand-3.ensures.unkept k ∙ c.write_operand-2.ensures.unkept k ∙ c.write_operand.ensures.unkept k
