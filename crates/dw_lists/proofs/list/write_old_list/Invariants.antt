use Rattle.std.proofs.Common.{◌≡◌, length, take, drop, false}
use Rattle.dw_base.specs.declared.error.Error.{Error}
use Rattle.dw_writer.specs.Drafts.{Drafts}
use Rattle.dw_expr.specs.Places.{known_by, place_by}
use Rattle.dw_lists.specs.Kinds.{kinds_of}
use Rattle.dw_lists.specs.Texts.{parts_draft, AreReadable}
use Rattle.dw_lists.specs.Causes.{old_list_fails}
use Rattle.dw_lists.proofs.list.write_old_list.Given as goal

abbrev pub invariant-loop-index : goal.invariant-loop-index
invariant-loop-index g l =
    let parts = g.L.ItemList.parts l.list in
    let known = known_by g.P.EntryPlaces.places l.places in
    let kinds = kinds_of g.L.ItemList.is_location in
    let plain = (g.W.Writer.meaning l.initial.w).is_plain in
    record {
      end : l.index-end ≡ length parts;
      written : Drafts (g.W.Writer.meaning l.initial.w) (g.W.Writer.meaning l.w) l.initial.fixups l.fixups (parts_draft false l.encoding (place_by known) kinds (take l.index parts));
      readable : AreReadable false l.encoding (place_by known) (take l.index parts);
      none : (e : Error) → old_list_fails l.encoding known plain l.has_base parts e ≡ old_list_fails l.encoding known plain l.base (drop l.index parts) e;
    }
