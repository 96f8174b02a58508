use Rattle.std.proofs.Common.{◌≡◌, ◌∙◌, ap, subst, true, All, Err}
use Rattle.std.proofs.lemmas.Result.{err_from_is_err_and}
use Rattle.dw_writer.proofs.WriteLaws.{Drafts-is}
use Rattle.dw_expr.specs.Places.{known_by, place_by}
use Rattle.dw_lists.specs.Causes.{Refused, Is, IsNone, table_fails}
use Rattle.dw_lists.specs.Tables.{table_draft, offsets_from, locations_in, AreNumbered, IsReadAgain}
use Rattle.dw_lists.proofs.Causes.{refused_at}
use Rattle.dw_lists.proofs.Numbered.{table_numbered}
use Rattle.dw_lists.proofs.TableAgain.{read-again, locations_shaped}
use Rattle.dw_lists.proofs.location_table.LocationListTable.write_to.Goals as goal

pub returns-clause-ok : goal.returns-clause-ok
returns-clause-ok g c =
    let same = c.as_slice-lists.ensures.keys ∙ c.self.view_is in
    let place = place_by (known_by g.P.EntryPlaces.places c.args.places) in
    Drafts-is c.in_ok-lists.ensures.ok (ap (λ ls. table_draft true c.args.encoding place (locations_in ls)) same)

pub returns-clause-offsets : goal.returns-clause-offsets
returns-clause-offsets g c =
    let same = c.as_slice-lists.ensures.keys ∙ c.self.view_is in
    let place = place_by (known_by g.P.EntryPlaces.places c.args.places) in
    c.in_ok-lists.ensures.offsets ∙ ap (λ ls. offsets_from true c.args.encoding place (g.W.Writer.meaning c.args.w.now).size (locations_in ls)) same

pub returns-clause-again : goal.returns-clause-again
returns-clause-again g c =
    let same = c.as_slice-lists.ensures.keys ∙ c.self.view_is in
    let lists = c.as_slice-lists.result.now in
    let known = known_by g.P.EntryPlaces.places c.args.places in
    subst (λ ls. IsReadAgain true c.args.encoding (place_by known) (locations_in ls)) same
    (read-again true c.args.encoding (place_by known) known c.args.has_base (g.W.Writer.meaning c.args.w.now).is_plain (locations_in lists)
    c.in_ok-lists.ensures.readable (locations_shaped lists) c.in_ok-lists.ensures.sound)

pub returns-clause-numbered : goal.returns-clause-numbered
returns-clause-numbered g c =
    let same = c.as_slice-lists.ensures.keys ∙ c.self.view_is in
    let lists = c.as_slice-lists.result.now in
    let known = known_by g.P.EntryPlaces.places c.args.places in
    let plain = (g.W.Writer.meaning c.args.w.now).is_plain in
    subst (λ ls. plain ≡ true → All AreNumbered (locations_in ls)) same
    (table_numbered c.args.encoding known true c.args.has_base plain (locations_in lists) c.in_ok-lists.ensures.sound)

pub returns-clause-sound : goal.returns-clause-sound
returns-clause-sound g c =
    let same = c.as_slice-lists.ensures.keys ∙ c.self.view_is in
    let known = known_by g.P.EntryPlaces.places c.args.places in
    let plain = (g.W.Writer.meaning c.args.w.now).is_plain in
    subst (λ ls. IsNone (table_fails true c.args.encoding known c.args.has_base plain (locations_in ls))) same c.in_ok-lists.ensures.sound

pub returns-in_err-lists-clause-err : goal.returns-in_err-lists-clause-err
returns-in_err-lists-clause-err g c =
    let same = c.as_slice-lists.ensures.keys ∙ c.self.view_is in
    let known = known_by g.P.EntryPlaces.places c.args.places in
    let old = g.W.Writer.meaning c.args.w.now in
    let new = g.W.Writer.meaning c.write_table.new.w in
    let p = err_from_is_err_and c.from_residual.result c.from_residual.ensures.1 in
    let err = c.in_err-lists.field-0.0 in
    refused_at c.from_residual.result _ err (p.1 ∙ ap Err p.2)
    (subst (λ ls. Refused old new (Is (table_fails true c.args.encoding known c.args.has_base old.is_plain (locations_in ls))) err) same c.in_err-lists.ensures.err)

pub returns-in_err-lists-clause-ok : goal.returns-in_err-lists-clause-ok
returns-in_err-lists-clause-ok g c = rw (err_from_is_err_and c.from_residual.result c.from_residual.ensures.1).1 tt

pub returns-in_err-lists-clause-offsets : goal.returns-in_err-lists-clause-offsets
returns-in_err-lists-clause-offsets g c = rw (err_from_is_err_and c.from_residual.result c.from_residual.ensures.1).1 tt

pub returns-in_err-lists-clause-again : goal.returns-in_err-lists-clause-again
returns-in_err-lists-clause-again g c = rw (err_from_is_err_and c.from_residual.result c.from_residual.ensures.1).1 tt

pub returns-in_err-lists-clause-numbered : goal.returns-in_err-lists-clause-numbered
returns-in_err-lists-clause-numbered g c = rw (err_from_is_err_and c.from_residual.result c.from_residual.ensures.1).1 tt

pub returns-in_err-lists-clause-sound : goal.returns-in_err-lists-clause-sound
returns-in_err-lists-clause-sound g c = rw (err_from_is_err_and c.from_residual.result c.from_residual.ensures.1).1 tt

pub returns-clause-err : goal.returns-clause-err
returns-clause-err g c = tt

pub returns-in_err-lists-clause-same : goal.returns-in_err-lists-clause-same
returns-in_err-lists-clause-same g c = c.in_err-lists.ensures.same

pub returns-clause-same : goal.returns-clause-same
returns-clause-same g c = c.in_ok-lists.ensures.same
