use Rattle.std.proofs.Common.{rules}
use Rattle.std.specs.Prelude.{not}
use Rattle.std.proofs.lemmas.Fn.{filter_same}
use Rattle.dw_entries.specs.Attributes.{is_named}
use Rattle.dw_entries.proofs.attributes.delete_in.Goals as goal

pub returns-clause-items : goal.returns-clause-items
returns-clause-items c =
    filter_same _ (λ a. not (is_named c.args.name.0 a)) _ (λ x b q t. search rules) _ _ c.retain.ensures.filtered
