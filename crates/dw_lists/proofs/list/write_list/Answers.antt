use Rattle.std.proofs.Common.{true, false}
use Rattle.dw_expr.specs.Places.{known_by, place_by}
use Rattle.dw_lists.specs.Kinds.{kinds_of}
use Rattle.dw_lists.proofs.Chosen.{list_drafts, list_readable, list_sound, list_refused}
use Rattle.dw_lists.proofs.Versions.{five_is, not_five}
use Rattle.dw_lists.proofs.list.write_list.Goals as goal

pub returns-then-encoding-eq5-clause-ok : goal.returns-then-encoding-eq5-clause-ok
returns-then-encoding-eq5-clause-ok g c =
    let known = known_by g.P.EntryPlaces.places c.args.places in
    let is = five_is c.args.encoding c.if-encoding-eq5.true in
    list_drafts c.args.encoding true is c.write_new_list.result (g.W.Writer.meaning c.args.w.now) (g.W.Writer.meaning c.write_new_list.new.w) _ _ (place_by known) (kinds_of g.L.ItemList.is_location) (g.L.ItemList.parts c.args.list.now) c.write_new_list.ensures.ok

pub returns-then-encoding-eq5-clause-readable : goal.returns-then-encoding-eq5-clause-readable
returns-then-encoding-eq5-clause-readable g c =
    let known = known_by g.P.EntryPlaces.places c.args.places in
    let is = five_is c.args.encoding c.if-encoding-eq5.true in
    list_readable c.args.encoding true is c.write_new_list.result (place_by known) (g.L.ItemList.parts c.args.list.now) c.write_new_list.ensures.readable

pub returns-then-encoding-eq5-clause-sound : goal.returns-then-encoding-eq5-clause-sound
returns-then-encoding-eq5-clause-sound g c =
    let known = known_by g.P.EntryPlaces.places c.args.places in
    let is = five_is c.args.encoding c.if-encoding-eq5.true in
    list_sound c.args.encoding true is c.write_new_list.result known (g.W.Writer.meaning c.args.w.now).is_plain c.args.has_base (g.L.ItemList.parts c.args.list.now) c.write_new_list.ensures.sound

pub returns-then-encoding-eq5-clause-err : goal.returns-then-encoding-eq5-clause-err
returns-then-encoding-eq5-clause-err g c =
    let known = known_by g.P.EntryPlaces.places c.args.places in
    let is = five_is c.args.encoding c.if-encoding-eq5.true in
    list_refused c.args.encoding true is c.write_new_list.result (g.W.Writer.meaning c.args.w.now) (g.W.Writer.meaning c.write_new_list.new.w) known (g.W.Writer.meaning c.args.w.now).is_plain c.args.has_base (g.L.ItemList.parts c.args.list.now) c.write_new_list.ensures.err

pub returns-else-encoding-eq5-clause-ok : goal.returns-else-encoding-eq5-clause-ok
returns-else-encoding-eq5-clause-ok g c =
    let known = known_by g.P.EntryPlaces.places c.args.places in
    let is = not_five c.args.encoding c.if-encoding-eq5.false in
    list_drafts c.args.encoding false is c.write_old_list.result (g.W.Writer.meaning c.args.w.now) (g.W.Writer.meaning c.write_old_list.new.w) _ _ (place_by known) (kinds_of g.L.ItemList.is_location) (g.L.ItemList.parts c.args.list.now) c.write_old_list.ensures.ok

pub returns-else-encoding-eq5-clause-readable : goal.returns-else-encoding-eq5-clause-readable
returns-else-encoding-eq5-clause-readable g c =
    let known = known_by g.P.EntryPlaces.places c.args.places in
    let is = not_five c.args.encoding c.if-encoding-eq5.false in
    list_readable c.args.encoding false is c.write_old_list.result (place_by known) (g.L.ItemList.parts c.args.list.now) c.write_old_list.ensures.readable

pub returns-else-encoding-eq5-clause-sound : goal.returns-else-encoding-eq5-clause-sound
returns-else-encoding-eq5-clause-sound g c =
    let known = known_by g.P.EntryPlaces.places c.args.places in
    let is = not_five c.args.encoding c.if-encoding-eq5.false in
    list_sound c.args.encoding false is c.write_old_list.result known (g.W.Writer.meaning c.args.w.now).is_plain c.args.has_base (g.L.ItemList.parts c.args.list.now) c.write_old_list.ensures.sound

pub returns-else-encoding-eq5-clause-err : goal.returns-else-encoding-eq5-clause-err
returns-else-encoding-eq5-clause-err g c =
    let known = known_by g.P.EntryPlaces.places c.args.places in
    let is = not_five c.args.encoding c.if-encoding-eq5.false in
    list_refused c.args.encoding false is c.write_old_list.result (g.W.Writer.meaning c.args.w.now) (g.W.Writer.meaning c.write_old_list.new.w) known (g.W.Writer.meaning c.args.w.now).is_plain c.args.has_base (g.L.ItemList.parts c.args.list.now) c.write_old_list.ensures.err

pub returns-then-encoding-eq5-clause-same : goal.returns-then-encoding-eq5-clause-same
returns-then-encoding-eq5-clause-same g c = c.write_new_list.ensures.same

pub returns-else-encoding-eq5-clause-same : goal.returns-else-encoding-eq5-clause-same
returns-else-encoding-eq5-clause-same g c = c.write_old_list.ensures.same
