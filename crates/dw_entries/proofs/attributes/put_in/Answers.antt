use Rattle.std.proofs.Common.{◌∙◌, ap}
use Rattle.std.specs.Prelude.{position}
use Rattle.dw_entries.specs.Attributes.{is_named}
use Rattle.dw_entries.proofs.Named.{set_named-found, set_named-missing}
use Rattle.dw_entries.proofs.attributes.put_in.Goals as goal

pub returns-in-Some-clause-items : goal.returns-in-Some-clause-items
returns-in-Some-clause-items c =
    set_named-found c.args.name.0 c.in-Some.i c.args.value c.args.attributes.now.items (c.in-Some.ensures ∙ ap (position (is_named c.args.name.0)) c.deref.ensures.value)

pub returns-in-None-clause-items : goal.returns-in-None-clause-items
returns-in-None-clause-items c =
    c.push_reserved.ensures.items ∙ set_named-missing c.args.name.0 c.args.value c.args.attributes.now.items (c.in-None.ensures ∙ ap (position (is_named c.args.name.0)) c.deref.ensures.value)
