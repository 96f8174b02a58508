use Rattle.std.proofs.Common.{◌∙◌, ap}
use Rattle.dw_base.specs.declared.ids.UnitEntryId.{UnitEntryId}
use Rattle.dw_entry_ids.proofs.Cursor.{last_is}
use Rattle.dw_entry_ids.proofs.unit_rows.last_or_root.Goals as goal

pub returns : goal.returns
returns c = ap (λ (i : UnitEntryId). i.0) c.unwrap_or.ensures ∙ last_is c.copied.result c.args.parents.now c.new.result (c.copied.ensures ∙ c.last.ensures.value) c.new.ensures
