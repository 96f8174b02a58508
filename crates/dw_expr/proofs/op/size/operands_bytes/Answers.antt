use Rattle.std.proofs.Common.{◌∷◌, [], ◌≡◌, ◌∙◌, ◌+◌, ap, Err, arith}
use Rattle.std.proofs.lemmas.Bool.{or_left, or_right}
use Rattle.std.proofs.lemmas.Result.{err_from_is_err_and}
use Rattle.dw_expr.specs.OperandViews.{operand_in}
use Rattle.dw_expr.specs.Places.{known_by, place_by}
use Rattle.dw_expr.specs.Causes.{base_fails}
use Rattle.dw_expr.specs.Spelling.{operands_size}
use Rattle.dw_expr.specs.Operands.{dense}
use Rattle.dw_expr.proofs.SizeLaws.{Sized-err, Sized-is, four_size, four_fail, four_long, four_sound}
use Rattle.dw_expr.proofs.op.size.operands_bytes.Goals as goal

pub returns-in_err-second : goal.returns-in_err-second
returns-in_err-second g c =
    let e = c.args.encoding in
    let known = known_by g.P.EntryPlaces.places c.args.places in
    let os = c.args.operands.now in
    let p = err_from_is_err_and c.from_residual-in_err-second.result c.from_residual-in_err-second.ensures.1 in
    let err = c.in_err-second.field-0.0 in
    Sized-err c.from_residual-in_err-second.result _ _ err (p.1 ∙ ap Err p.2)
    (four_fail e known (operand_in os.code) (operand_in os.first) (operand_in os.second) (operand_in os.third) err
    (or_right (base_fails e known (operand_in os.code) err) _ (or_right (base_fails e known (operand_in os.first) err) _ (or_left (base_fails e known (operand_in os.second) err) _ c.in_err-second.ensures.err))))

pub returns-in_err-third : goal.returns-in_err-third
returns-in_err-third g c =
    let e = c.args.encoding in
    let known = known_by g.P.EntryPlaces.places c.args.places in
    let os = c.args.operands.now in
    let p = err_from_is_err_and c.from_residual-in_err-third.result c.from_residual-in_err-third.ensures.1 in
    let err = c.in_err-third.field-0.0 in
    Sized-err c.from_residual-in_err-third.result _ _ err (p.1 ∙ ap Err p.2)
    (four_fail e known (operand_in os.code) (operand_in os.first) (operand_in os.second) (operand_in os.third) err
    (or_right (base_fails e known (operand_in os.code) err) _ (or_right (base_fails e known (operand_in os.first) err) _ (or_right (base_fails e known (operand_in os.second) err) _ (or_left (base_fails e known (operand_in os.third) err) _ c.in_err-third.ensures.err)))))

pub returns-in_err-last : goal.returns-in_err-last
returns-in_err-last g c =
    let e = c.args.encoding in
    let known = known_by g.P.EntryPlaces.places c.args.places in
    let os = c.args.operands.now in
    let p = err_from_is_err_and c.from_residual-in_err-last.result c.from_residual-in_err-last.ensures.1 in
    let all = four_size e known (operand_in os.code) (operand_in os.first) (operand_in os.second) (operand_in os.third) _ _ _ _ c.in_ok-code.ensures.ok c.in_ok-first.ensures.ok c.in_ok-second.ensures.ok c.in_ok-third.ensures.ok in
    Sized-err c.from_residual-in_err-last.result _ _ c.in_err-last.field-0.0 (p.1 ∙ ap Err p.2)
    (four_long e known (operand_in os.code) (operand_in os.first) (operand_in os.second) (operand_in os.third) (c.in_ok-second.second + c.in_ok-third.third) c.in_err-last.field-0.0 (omega (arith, all)) c.in_err-last.ensures)

pub returns-in_err-behind : goal.returns-in_err-behind
returns-in_err-behind g c =
    let e = c.args.encoding in
    let known = known_by g.P.EntryPlaces.places c.args.places in
    let os = c.args.operands.now in
    let p = err_from_is_err_and c.from_residual-in_err-behind.result c.from_residual-in_err-behind.ensures.1 in
    let all = four_size e known (operand_in os.code) (operand_in os.first) (operand_in os.second) (operand_in os.third) _ _ _ _ c.in_ok-code.ensures.ok c.in_ok-first.ensures.ok c.in_ok-second.ensures.ok c.in_ok-third.ensures.ok in
    Sized-err c.from_residual-in_err-behind.result _ _ c.in_err-behind.field-0.0 (p.1 ∙ ap Err p.2)
    (four_long e known (operand_in os.code) (operand_in os.first) (operand_in os.second) (operand_in os.third) (c.in_ok-first.first + c.in_ok-last.last) c.in_err-behind.field-0.0 (omega (arith, all, c.in_ok-last.ensures.0)) c.in_err-behind.ensures)

pub returns : goal.returns
returns g c =
    let e = c.args.encoding in
    let known = known_by g.P.EntryPlaces.places c.args.places in
    let os = c.args.operands.now in
    let n = c.in_ok-code.code + c.in_ok-behind.behind in
    let all = four_size e known (operand_in os.code) (operand_in os.first) (operand_in os.second) (operand_in os.third) _ _ _ _ c.in_ok-code.ensures.ok c.in_ok-first.ensures.ok c.in_ok-second.ensures.ok c.in_ok-third.ensures.ok in
    let total : n ≡ operands_size e (place_by known) (dense (operand_in os.code ∷ operand_in os.first ∷ operand_in os.second ∷ operand_in os.third ∷ [])) = omega (arith, all, c.in_ok-last.ensures.0, c.in_ok-behind.ensures.0) in
    Sized-is c.sum-3.result c.sum-3.ensures total
    (four_sound e known (operand_in os.code) (operand_in os.first) (operand_in os.second) (operand_in os.third) n total c.in_ok-code.ensures.sound c.in_ok-first.ensures.sound c.in_ok-second.ensures.sound c.in_ok-third.ensures.sound)

pub returns-in_err-code : goal.returns-in_err-code
returns-in_err-code g c =
    let e = c.args.encoding in
    let known = known_by g.P.EntryPlaces.places c.args.places in
    let os = c.args.operands.now in
    let p = err_from_is_err_and c.from_residual.result c.from_residual.ensures.1 in
    let err = c.in_err-code.field-0.0 in
    Sized-err c.from_residual.result _ _ err (p.1 ∙ ap Err p.2)
    (four_fail e known (operand_in os.code) (operand_in os.first) (operand_in os.second) (operand_in os.third) err
    (or_left (base_fails e known (operand_in os.code) err) _ c.in_err-code.ensures.err))

pub returns-in_err-first : goal.returns-in_err-first
returns-in_err-first g c =
    let e = c.args.encoding in
    let known = known_by g.P.EntryPlaces.places c.args.places in
    let os = c.args.operands.now in
    let p = err_from_is_err_and c.from_residual-in_err-first.result c.from_residual-in_err-first.ensures.1 in
    let err = c.in_err-first.field-0.0 in
    Sized-err c.from_residual-in_err-first.result _ _ err (p.1 ∙ ap Err p.2)
    (four_fail e known (operand_in os.code) (operand_in os.first) (operand_in os.second) (operand_in os.third) err
    (or_right (base_fails e known (operand_in os.code) err) _ (or_left (base_fails e known (operand_in os.first) err) _ c.in_err-first.ensures.err)))
