use Rattle.std.proofs.Common.{◌≡◌, ◌∙◌, ap, subst, true, false, None, All, Err}
use Rattle.std.proofs.lemmas.Result.{err_from_is_err_and}
use Rattle.dw_lists.specs.Causes.{Refused, Is, IsNone, table_fails}
use Rattle.dw_lists.specs.Pieces.{IsWritten}
use Rattle.dw_lists.specs.Tables.{table_draft, offsets_from, ranges_in, no_place, AreNumbered, IsReadAgain}
use Rattle.dw_lists.proofs.Causes.{refused_at}
use Rattle.dw_lists.proofs.Numbered.{table_numbered}
use Rattle.dw_lists.proofs.TableAgain.{read-again, ranges_shaped}
use Rattle.dw_lists.proofs.table.RangeListTable.write_to.Goals as goal

pub returns-clause-ok : goal.returns-clause-ok
returns-clause-ok g c =
    let same = c.as_slice-lists.ensures.keys ∙ c.self.view_is in
    subst (λ ls. IsWritten (g.W.Writer.meaning c.args.w.now) (g.W.Writer.meaning c.write_table.new.w) (table_draft false c.args.encoding no_place (ranges_in ls))) same
    c.in_ok-lists.ensures.ok.text

pub returns-clause-offsets : goal.returns-clause-offsets
returns-clause-offsets g c =
    let same = c.as_slice-lists.ensures.keys ∙ c.self.view_is in
    c.in_ok-lists.ensures.offsets ∙ ap (λ ls. offsets_from false c.args.encoding no_place (g.W.Writer.meaning c.args.w.now).size (ranges_in ls)) same

pub returns-clause-again : goal.returns-clause-again
returns-clause-again g c =
    let same = c.as_slice-lists.ensures.keys ∙ c.self.view_is in
    let lists = c.as_slice-lists.result.now in
    subst (λ ls. IsReadAgain false c.args.encoding no_place (ranges_in ls)) same
    (read-again false c.args.encoding no_place None c.args.has_base (g.W.Writer.meaning c.args.w.now).is_plain (ranges_in lists)
    c.in_ok-lists.ensures.readable (ranges_shaped lists) c.in_ok-lists.ensures.sound)

pub returns-clause-numbered : goal.returns-clause-numbered
returns-clause-numbered g c =
    let same = c.as_slice-lists.ensures.keys ∙ c.self.view_is in
    let lists = c.as_slice-lists.result.now in
    let plain = (g.W.Writer.meaning c.args.w.now).is_plain in
    subst (λ ls. plain ≡ true → All AreNumbered (ranges_in ls)) same
    (table_numbered c.args.encoding None false c.args.has_base plain (ranges_in lists) c.in_ok-lists.ensures.sound)

pub returns-clause-sound : goal.returns-clause-sound
returns-clause-sound g c =
    let same = c.as_slice-lists.ensures.keys ∙ c.self.view_is in
    let plain = (g.W.Writer.meaning c.args.w.now).is_plain in
    subst (λ ls. IsNone (table_fails false c.args.encoding None c.args.has_base plain (ranges_in ls))) same c.in_ok-lists.ensures.sound

pub returns-in_err-lists-clause-err : goal.returns-in_err-lists-clause-err
returns-in_err-lists-clause-err g c =
    let same = c.as_slice-lists.ensures.keys ∙ c.self.view_is in
    let old = g.W.Writer.meaning c.args.w.now in
    let new = g.W.Writer.meaning c.write_table.new.w in
    let p = err_from_is_err_and c.from_residual.result c.from_residual.ensures.1 in
    let err = c.in_err-lists.field-0.0 in
    refused_at c.from_residual.result _ err (p.1 ∙ ap Err p.2)
    (subst (λ ls. Refused old new (Is (table_fails false c.args.encoding None c.args.has_base old.is_plain (ranges_in ls))) err) same c.in_err-lists.ensures.err)

pub returns-in_err-lists-clause-ok : goal.returns-in_err-lists-clause-ok
returns-in_err-lists-clause-ok g c = rw (err_from_is_err_and c.from_residual.result c.from_residual.ensures.1).1 tt

pub returns-in_err-lists-clause-offsets : goal.returns-in_err-lists-clause-offsets
returns-in_err-lists-clause-offsets g c = rw (err_from_is_err_and c.from_residual.result c.from_residual.ensures.1).1 tt

pub returns-in_err-lists-clause-again : goal.returns-in_err-lists-clause-again
returns-in_err-lists-clause-again g c = rw (err_from_is_err_and c.from_residual.result c.from_residual.ensures.1).1 tt

pub returns-in_err-lists-clause-numbered : goal.returns-in_err-lists-clause-numbered
returns-in_err-lists-clause-numbered g c = rw (err_from_is_err_and c.from_residual.result c.from_residual.ensures.1).1 tt

pub returns-in_err-lists-clause-sound : goal.returns-in_err-lists-clause-sound
returns-in_err-lists-clause-sound g c = rw (err_from_is_err_and c.from_residual.result c.from_residual.ensures.1).1 tt

pub returns-clause-err : goal.returns-clause-err
returns-clause-err g c = tt

pub returns-in_err-lists-clause-same : goal.returns-in_err-lists-clause-same
returns-in_err-lists-clause-same g c = c.in_err-lists.ensures.same

pub returns-clause-same : goal.returns-clause-same
returns-clause-same g c = c.in_ok-lists.ensures.same
