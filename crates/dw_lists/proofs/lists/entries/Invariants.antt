use Rattle.std.proofs.Common.{◌≡◌, ◌+◌, ◌++◌, map, true, drop}
use Rattle.dw_expr.specs.Places.{known_by, place_by}
use Rattle.dw_lists.specs.Kinds.{kinds_of}
use Rattle.dw_lists.specs.Texts.{places_from, lists_draft}
use Rattle.dw_lists.proofs.lists.entries.Given as goal

abbrev pub invariant-loop-list : goal.invariant-loop-list
invariant-loop-list g l =
    let lists = map g.L.ItemList.parts l.lists in
    let place = place_by (known_by g.P.EntryPlaces.places l.places) in
    let kinds = kinds_of g.L.ItemList.is_location in
    record {
      places : l.all.items ++ places_from true l.encoding place kinds l.at (drop l.list-index lists) ≡ places_from true l.encoding place kinds l.start lists;
      end : l.at + (lists_draft true l.encoding place kinds (drop l.list-index lists)).size ≡ l.start + (lists_draft true l.encoding place kinds lists).size;
    }
