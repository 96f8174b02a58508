use Rattle.std.proofs.Common.{◌∙◌, ap, sym, Some, slice_get}
use Rattle.dw_lists.specs.EqualLocations.{locations_Decides}
use Rattle.std.proofs.lemmas.Result.{err_from_is_err_and}
use Rattle.dw_lists.proofs.location_table.LocationListTable.add.Goals as goal

pub returns-clause-named : goal.returns-clause-named
returns-clause-named c =
    let stored = c.in_ok-index.ensures.stored in
    ap (slice_get c.insert_full.new.self.keys) c.new.ensures ∙ stored.1 ∙ ap Some (sym ((locations_Decides c.args.location_list stored.0).0 stored.2))

pub returns-in_err-index-clause-id : goal.returns-in_err-index-clause-id
returns-in_err-index-clause-id c = rw (err_from_is_err_and c.from_residual.result c.from_residual.ensures.1).1 tt

pub returns-in_err-index-clause-ok : goal.returns-in_err-index-clause-ok
returns-in_err-index-clause-ok c = rw (err_from_is_err_and c.from_residual.result c.from_residual.ensures.1).1 tt

pub returns-in_err-index-clause-named : goal.returns-in_err-index-clause-named
returns-in_err-index-clause-named c = rw (err_from_is_err_and c.from_residual.result c.from_residual.ensures.1).1 tt

pub returns-clause-err : goal.returns-clause-err
returns-clause-err c = tt

pub returns-clause-kept : goal.returns-clause-kept
returns-clause-kept c = tt
