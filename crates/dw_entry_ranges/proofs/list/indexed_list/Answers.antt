use Rattle.std.proofs.Common.{◌∙◌, sym, rules}
use Rattle.dw_entry_ranges.proofs.LookupLaws.{is_err, found_list, missing_list}
use Rattle.dw_entry_ranges.proofs.list.indexed_list.Goals as goal

pub returns-in_err-offset : goal.returns-in_err-offset
returns-in_err-offset g c = is_err _ _ c.from_residual.ensures ∙ sym (missing_list _ _ g.R.Reader.reading c.args.unit c.args.index _ c.in_err-offset.ensures.err)

pub returns : goal.returns
returns g c = sym (found_list _ _ g.R.Reader.reading c.args.unit c.args.index _ (search rules) c.in_ok-offset.ensures.ok)
