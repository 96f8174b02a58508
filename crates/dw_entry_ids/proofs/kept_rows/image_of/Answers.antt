use Rattle.std.proofs.Common.{◌∙◌, ap, map, get_or}
use Rattle.std.specs.Option.{unwrap_or}
use Rattle.dw_base.specs.declared.ids.UnitEntryId.{UnitEntryId}
use Rattle.dw_entry_ids.proofs.KeptSteps.{image_is}
use Rattle.dw_entry_ids.proofs.kept_rows.image_of.Goals as goal

pub returns : goal.returns
returns c =
    ap (λ (i : UnitEntryId). i.0) (c.unwrap_or.ensures ∙ ap (λ o. unwrap_or o c.new.result) c.copied.ensures)
    ∙ image_is c.args.images.now c.index.result c.get.result c.new.result c.get.ensures.lookup.0 c.get.ensures.lookup.1 c.new.ensures
    ∙ ap (λ n. get_or (map (λ (i : UnitEntryId). i.0) c.args.images.now) n 0) c.index.ensures
