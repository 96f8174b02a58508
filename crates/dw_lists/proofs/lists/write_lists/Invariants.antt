use Rattle.std.proofs.Common.{◌≡◌, ◌++◌, map, take, drop, All}
use Rattle.dw_base.specs.declared.error.Error.{Error}
use Rattle.dw_writer.specs.Drafts.{Drafts}
use Rattle.dw_expr.specs.Places.{known_by, place_by}
use Rattle.dw_lists.specs.Items.{is_five}
use Rattle.dw_lists.specs.Kinds.{kinds_of}
use Rattle.dw_lists.specs.Texts.{lists_draft, places_from, AreReadable}
use Rattle.dw_lists.specs.Causes.{lists_fail}
use Rattle.dw_lists.proofs.lists.write_lists.Given as goal

abbrev pub invariant-loop-list : goal.invariant-loop-list
invariant-loop-list g l =
    let lists = map g.L.ItemList.parts l.lists in
    let known = known_by g.P.EntryPlaces.places l.places in
    let place = place_by known in
    let kinds = kinds_of g.L.ItemList.is_location in
    let five = is_five l.encoding in
    let old = g.W.Writer.meaning l.initial.w in
    let new = g.W.Writer.meaning l.w in
    record {
      written : Drafts old new l.initial.fixups l.fixups (lists_draft five l.encoding place kinds (take l.list-index lists));
      places : l.all.items ++ places_from five l.encoding place kinds new.size (drop l.list-index lists) ≡ places_from five l.encoding place kinds old.size lists;
      readable : All (AreReadable five l.encoding place) (take l.list-index lists);
      none : (e : Error) → lists_fail l.encoding known old.is_plain five l.has_base lists e ≡ lists_fail l.encoding known old.is_plain five l.has_base (drop l.list-index lists) e;
    }
