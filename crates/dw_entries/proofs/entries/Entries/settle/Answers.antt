use Rattle.std.proofs.Common.{◌∙◌, ap, length}
use Rattle.dw_entries.proofs.SettledLaws.{arena_settled_either, length_settled_either}
use Rattle.dw_entries.proofs.entries.Entries.settle.Goals as goal

pub invariant_of-self : goal.invariant_of-self
invariant_of-self c =
    let u = c.self.inside in
    arena_settled_either c.settle.result c.args.parts u.entries.items c.settle.new.entries.items u.reserved c.settle.ensures.ok c.settle.ensures.kept c.self.invariant

pub returns-clause-count : goal.returns-clause-count
returns-clause-count c =
    length_settled_either c.settle.result c.args.parts c.self.inside.entries.items c.settle.new.entries.items c.settle.ensures.ok c.settle.ensures.kept ∙ ap (λ u. length u.entries) c.self.view_is
