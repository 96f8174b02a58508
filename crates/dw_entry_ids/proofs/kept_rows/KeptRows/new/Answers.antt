use Rattle.std.proofs.Common.{ap, refl}
use Rattle.dw_entry_ids.proofs.KeptSteps.{kept_begins}
use Rattle.dw_entry_ids.proofs.kept_rows.KeptRows.new.Goals as goal

pub returns : goal.returns
returns g c = λ all are behind. kept_begins g.R.Reader.reading c.args.unit.now c.args.kept.now _ all (c.new.ensures.between all are behind) behind refl (ap (λ o. o.0) c.offset.ensures) refl c.new-2.ensures.items
