use Rattle.std.proofs.Common.{◌≡◌, length, take, drop, true}
use Rattle.dw_base.specs.declared.error.Error.{Error}
use Rattle.dw_writer.specs.Drafts.{Drafts}
use Rattle.dw_expr.specs.Places.{known_by, place_by}
use Rattle.dw_lists.specs.Kinds.{kinds_of}
use Rattle.dw_lists.specs.Texts.{parts_draft, AreReadable}
use Rattle.dw_lists.specs.Causes.{new_list_fails}
use Rattle.dw_lists.proofs.list.write_new_list.Given as goal

abbrev pub invariant-loop-index : goal.invariant-loop-index
invariant-loop-index g l =
    let parts = g.L.ItemList.parts l.list in
    let known = known_by g.P.EntryPlaces.places l.places in
    let kinds = kinds_of g.L.ItemList.is_location in
    let plain = (g.W.Writer.meaning l.initial.w).is_plain in
    record {
      end : l.index-end ≡ length parts;
      written : Drafts (g.W.Writer.meaning l.initial.w) (g.W.Writer.meaning l.w) l.initial.fixups l.fixups (parts_draft true l.encoding (place_by known) kinds (take l.index parts));
      readable : AreReadable true l.encoding (place_by known) (take l.index parts);
      none : (e : Error) → new_list_fails l.encoding known plain parts e ≡ new_list_fails l.encoding known plain (drop l.index parts) e;
    }
