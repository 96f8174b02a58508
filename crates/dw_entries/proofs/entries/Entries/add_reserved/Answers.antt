use Rattle.std.proofs.Common.{◌∙◌, ap, length}
use Rattle.std.proofs.lemmas.Result.{on_ok_weaker}
use Rattle.dw_entries.proofs.Arenas.{arena_added_reserved, length-with_new_child}
use Rattle.dw_entries.proofs.entries.Entries.add_reserved.Goals as goal

pub invariant_of-self : goal.invariant_of-self
invariant_of-self c =
    arena_added_reserved c.add_entry.result _ _ c.add_entry.new.entries.items c.args.child.0 c.args.parent.0 c.args.tag.0 c.self.view_is c.requires.reserved c.requires.parent_in c.requires.tagged c.requires.rooted c.add_entry.ensures.ok c.add_entry.ensures.kept c.self.invariant

pub returns-clause-count : goal.returns-clause-count
returns-clause-count c =
    let u = c.self.inside in
    on_ok_weaker c.add_entry.result (λ h. ap length h ∙ length-with_new_child c.args.child.0 c.args.parent.0 c.args.tag.0 u.reserved u.entries.items c.self.invariant.within ∙ ap (λ w. w.reserved) c.self.view_is) c.add_entry.ensures.ok
