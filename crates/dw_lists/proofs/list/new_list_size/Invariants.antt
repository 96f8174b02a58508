use Rattle.std.proofs.Common.{◌≡◌, ◌+◌, true, length, drop}
use Rattle.dw_base.specs.declared.error.Error.{Error}
use Rattle.dw_expr.specs.Places.{known_by, place_by}
use Rattle.dw_lists.specs.Kinds.{kinds_of}
use Rattle.dw_lists.specs.Texts.{parts_draft}
use Rattle.dw_lists.specs.Causes.{parts_unsized}
use Rattle.dw_lists.proofs.list.new_list_size.Given as goal

abbrev pub invariant-loop-index : goal.invariant-loop-index
invariant-loop-index g l =
    let parts = g.L.ItemList.parts l.list in
    let known = known_by g.P.EntryPlaces.places l.places in
    let kinds = kinds_of g.L.ItemList.is_location in
    record {
      end : l.index-end ≡ length parts;
      sized : l.size + (parts_draft true l.encoding (place_by known) kinds (drop l.index parts)).size ≡ 1 + (parts_draft true l.encoding (place_by known) kinds parts).size;
      none : (e : Error) → parts_unsized l.encoding known parts e ≡ parts_unsized l.encoding known (drop l.index parts) e;
    }
