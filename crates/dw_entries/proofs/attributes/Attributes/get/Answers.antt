use Rattle.std.proofs.Common.{◌∙◌, ap}
use Rattle.std.specs.Prelude.{position}
use Rattle.dw_entries.specs.Attributes.{is_named, get_named}
use Rattle.dw_entries.proofs.Named.{get_named-found, none_named}
use Rattle.dw_entries.proofs.attributes.Attributes.get.Goals as goal

pub returns-in-Some : goal.returns-in-Some
returns-in-Some c =
    get_named-found c.args.name.0 c.in-Some.i c.index.result.now c.self.inside.items.items (c.in-Some.ensures ∙ ap (position (is_named c.args.name.0)) c.deref.ensures.value) c.index.ensures ∙ ap (get_named c.args.name.0) c.self.view_is

pub returns-in-None : goal.returns-in-None
returns-in-None c =
    none_named c.args.name.0 c.self.inside.items.items (c.in-None.ensures ∙ ap (position (is_named c.args.name.0)) c.deref.ensures.value) ∙ ap (get_named c.args.name.0) c.self.view_is
