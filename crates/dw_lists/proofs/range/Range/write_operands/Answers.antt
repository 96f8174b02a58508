use Rattle.std.proofs.Common.{refl}
use Rattle.std.proofs.lemmas.Result.{err_from_is_err_and}
use Rattle.dw_writer.proofs.Outcomes.{OnOk-map, IfErr-map}
use Rattle.dw_writer.proofs.Steps.{Adds-appends, Appends-then}
use Rattle.dw_lists.specs.Causes.{Is, new_fails}
use Rattle.dw_lists.proofs.Refusals.{bytes_refused, close_refused, address_refused, address_none}
use Rattle.dw_lists.proofs.range.Range.write_operands.Goals as goal

pub returns-in-BaseAddress-clause-ok : goal.returns-in-BaseAddress-clause-ok
returns-in-BaseAddress-clause-ok g c = rw c.in-BaseAddress.is c.write_address.ensures.ok

pub returns-in-BaseAddress-clause-sound : goal.returns-in-BaseAddress-clause-sound
returns-in-BaseAddress-clause-sound g c =
    let m = g.W.Writer.meaning c.args.w.now in
    rw c.in-BaseAddress.is (OnOk-map c.write_address.result c.write_address.ensures.fits (address_none m.is_plain c.args.address_size c.in-BaseAddress.address))

pub returns-in-BaseAddress-clause-err : goal.returns-in-BaseAddress-clause-err
returns-in-BaseAddress-clause-err g c =
    let m = g.W.Writer.meaning c.args.w.now in
    rw c.in-BaseAddress.is (IfErr-map c.write_address.result c.write_address.ensures.err
    (address_refused m (g.W.Writer.meaning c.write_address.new.self) m.is_plain c.args.address_size c.in-BaseAddress.address))

pub returns-in_err-write_uleb128-in-OffsetPair-clause-err : goal.returns-in_err-write_uleb128-in-OffsetPair-clause-err
returns-in_err-write_uleb128-in-OffsetPair-clause-err g c =
    let m = g.W.Writer.meaning c.args.w.now in
    let p = err_from_is_err_and c.from_residual.result c.from_residual.ensures.1 in
    rw (p.1, p.2) (bytes_refused m (g.W.Writer.meaning c.write_uleb128.new.self) (Is (new_fails m.is_plain c.args.address_size c.args.self.now)) c.in_err-write_uleb128-in-OffsetPair.field-0.0 c.in_err-write_uleb128-in-OffsetPair.ensures.err)

pub returns-in_ok-write_uleb128-in-OffsetPair-clause-ok : goal.returns-in_ok-write_uleb128-in-OffsetPair-clause-ok
returns-in_ok-write_uleb128-in-OffsetPair-clause-ok g c =
    rw c.in-OffsetPair.is (OnOk-map c.write_uleb128-in-OffsetPair.result c.write_uleb128-in-OffsetPair.ensures.ok
    (λ q. Appends-then (Adds-appends c.in_ok-write_uleb128-in-OffsetPair.ensures.ok) (Adds-appends q)))

pub returns-in_ok-write_uleb128-in-OffsetPair-clause-sound : goal.returns-in_ok-write_uleb128-in-OffsetPair-clause-sound
returns-in_ok-write_uleb128-in-OffsetPair-clause-sound g c =
    rw c.in-OffsetPair.is (OnOk-map c.write_uleb128-in-OffsetPair.result c.write_uleb128-in-OffsetPair.ensures.ok (λ q e. refl))

pub returns-in_ok-write_uleb128-in-OffsetPair-clause-err : goal.returns-in_ok-write_uleb128-in-OffsetPair-clause-err
returns-in_ok-write_uleb128-in-OffsetPair-clause-err g c =
    let m = g.W.Writer.meaning c.args.w.now in
    IfErr-map c.write_uleb128-in-OffsetPair.result c.write_uleb128-in-OffsetPair.ensures.err
    (close_refused m (g.W.Writer.meaning c.write_uleb128.new.self) (g.W.Writer.meaning c.write_uleb128-in-OffsetPair.new.self) (Is (new_fails m.is_plain c.args.address_size c.args.self.now)) c.in_ok-write_uleb128-in-OffsetPair.ensures.same)

pub returns-in-StartEnd-clause-ok : goal.returns-in-StartEnd-clause-ok
returns-in-StartEnd-clause-ok g c = rw c.in-StartEnd.is c.write_ends.ensures.ok

pub returns-in-StartEnd-clause-sound : goal.returns-in-StartEnd-clause-sound
returns-in-StartEnd-clause-sound g c = rw c.in-StartEnd.is c.write_ends.ensures.sound

pub returns-in-StartEnd-clause-err : goal.returns-in-StartEnd-clause-err
returns-in-StartEnd-clause-err g c = rw c.in-StartEnd.is c.write_ends.ensures.err

pub returns-in_err-write_address-in-StartLength-clause-err : goal.returns-in_err-write_address-in-StartLength-clause-err
returns-in_err-write_address-in-StartLength-clause-err g c =
    let m = g.W.Writer.meaning c.args.w.now in
    let p = err_from_is_err_and c.from_residual-in_err-write_address-in-StartLength.result c.from_residual-in_err-write_address-in-StartLength.ensures.1 in
    rw (p.1, p.2, c.in-StartLength.is) (address_refused m (g.W.Writer.meaning c.write_address-in-StartLength.new.self) m.is_plain c.args.address_size c.in-StartLength.begin
    c.in_err-write_address-in-StartLength.field-0.0 c.in_err-write_address-in-StartLength.ensures.err)

pub returns-in_ok-write_address-in-StartLength-clause-ok : goal.returns-in_ok-write_address-in-StartLength-clause-ok
returns-in_ok-write_address-in-StartLength-clause-ok g c =
    rw c.in-StartLength.is (OnOk-map c.write_uleb128-in-StartLength.result c.write_uleb128-in-StartLength.ensures.ok
    (λ q. Appends-then c.in_ok-write_address-in-StartLength.ensures.ok (Adds-appends q)))

pub returns-in_ok-write_address-in-StartLength-clause-sound : goal.returns-in_ok-write_address-in-StartLength-clause-sound
returns-in_ok-write_address-in-StartLength-clause-sound g c =
    let m = g.W.Writer.meaning c.args.w.now in
    rw c.in-StartLength.is (OnOk-map c.write_uleb128-in-StartLength.result c.write_uleb128-in-StartLength.ensures.ok
    (λ q. address_none m.is_plain c.args.address_size c.in-StartLength.begin c.in_ok-write_address-in-StartLength.ensures.fits))

pub returns-in_ok-write_address-in-StartLength-clause-err : goal.returns-in_ok-write_address-in-StartLength-clause-err
returns-in_ok-write_address-in-StartLength-clause-err g c =
    let m = g.W.Writer.meaning c.args.w.now in
    IfErr-map c.write_uleb128-in-StartLength.result c.write_uleb128-in-StartLength.ensures.err
    (close_refused m (g.W.Writer.meaning c.write_address-in-StartLength.new.self) (g.W.Writer.meaning c.write_uleb128-in-StartLength.new.self) (Is (new_fails m.is_plain c.args.address_size c.args.self.now)) c.in_ok-write_address-in-StartLength.ensures.same)

pub returns-in_err-write_uleb128-in-OffsetPair-clause-ok : goal.returns-in_err-write_uleb128-in-OffsetPair-clause-ok
returns-in_err-write_uleb128-in-OffsetPair-clause-ok g c = rw (err_from_is_err_and c.from_residual.result c.from_residual.ensures.1).1 tt

pub returns-in_err-write_uleb128-in-OffsetPair-clause-ranged : goal.returns-in_err-write_uleb128-in-OffsetPair-clause-ranged
returns-in_err-write_uleb128-in-OffsetPair-clause-ranged g c = rw (err_from_is_err_and c.from_residual.result c.from_residual.ensures.1).1 tt

pub returns-in_err-write_uleb128-in-OffsetPair-clause-sound : goal.returns-in_err-write_uleb128-in-OffsetPair-clause-sound
returns-in_err-write_uleb128-in-OffsetPair-clause-sound g c = rw (err_from_is_err_and c.from_residual.result c.from_residual.ensures.1).1 tt

pub returns-in_err-write_address-in-StartLength-clause-ok : goal.returns-in_err-write_address-in-StartLength-clause-ok
returns-in_err-write_address-in-StartLength-clause-ok g c = rw (err_from_is_err_and c.from_residual-in_err-write_address-in-StartLength.result c.from_residual-in_err-write_address-in-StartLength.ensures.1).1 tt

pub returns-in_err-write_address-in-StartLength-clause-ranged : goal.returns-in_err-write_address-in-StartLength-clause-ranged
returns-in_err-write_address-in-StartLength-clause-ranged g c = rw (err_from_is_err_and c.from_residual-in_err-write_address-in-StartLength.result c.from_residual-in_err-write_address-in-StartLength.ensures.1).1 tt

pub returns-in_err-write_address-in-StartLength-clause-sound : goal.returns-in_err-write_address-in-StartLength-clause-sound
returns-in_err-write_address-in-StartLength-clause-sound g c = rw (err_from_is_err_and c.from_residual-in_err-write_address-in-StartLength.result c.from_residual-in_err-write_address-in-StartLength.ensures.1).1 tt
