use Rattle.std.specs.Prelude.{◌≡◌, ◌<◌, ℕ, Bool, true, false, not, IsTrue, IsFalse}
use Rattle.std.proofs.Common.{◌∙◌, sym, ap, subst, arith, refl}
use Rattle.std.proofs.lemmas.Bool.Decides.{nat_tests}
use Rattle.std.proofs.lemmas.Result.{err_from_is_err_and}
use Rattle.dw_base.specs.Numbers.{fits, word_of}
use Rattle.dw_base.specs.declared.common.Encoding.{Encoding}
use Rattle.dw_base.specs.declared.error.Error.{Error}
use Rattle.dw_base.specs.declared.error.Error.TheVariants as errors
use Rattle.dw_writer.specs.Causes.{BytesRefused, NumberRefused, offset_fits}
use Rattle.dw_writer.specs.Meaning.{Meaning, IsSameWriter}
use Rattle.dw_writer.proofs.Outcomes.{OnOk-map, IfErr-map}
use Rattle.dw_writer.proofs.Steps.{IsSameWriter-trans}
use Rattle.dw_tree.specs.Causes.{Refused, Is}
use Rattle.dw_tree.specs.UnitFaults.{fields_fail}
use Rattle.dw_tree.proofs.Drafted.{width-word}
use Rattle.dw_tree.proofs.Faults.{refused_after, bytes_because}
use Rattle.dw_tree.proofs.UnitSteps.{new_fields, old_fields}
use Rattle.dw_tree.proofs.header.write_fields.Goals as goal

-- only the place of the table can have no room
fields_sound : (e : Encoding) (table : ℕ) (plain : Bool) → IsTrue (offset_fits plain (word_of e.format) table) → (err : Error) → IsFalse (fields_fail e table plain err)
fields_sound e table plain h errors.ValueTooLarge = ap not h
fields_sound e table plain h err = refl

-- bytes that are refused behind others
behind : (a b c : Meaning) (p : Error → Type 0) → IsSameWriter a b → (err : Error) → BytesRefused b c err → Refused a c p err
behind a b c p same err h = refused_after a b c p p same (λ x k. k) err (bytes_because p b c (λ rise. rise) err h)

-- the place of the table is refused
place_refused : (b c : Meaning) (e : Encoding) (table : ℕ) (plain : Bool) (err : Error) → NumberRefused (word_of e.format) (offset_fits plain (word_of e.format) table) (BytesRefused b c) err → Refused b c (Is (fields_fail e table plain)) err
place_refused b c e table plain (errors.UnsupportedWordSize n) h = absurd (let x : true ≡ false = sym (width-word e.format) ∙ h.1 in cc)
place_refused b c e table plain errors.ValueTooLarge h = ap not h.1
place_refused b c e table plain errors.NoMemory h = tt
place_refused b c e table plain errors.WriteFault h = h.2
place_refused b c e table plain err h = absurd h.2

place_behind : (a b c : Meaning) (e : Encoding) (table : ℕ) → IsSameWriter a b → (err : Error) → NumberRefused (word_of e.format) (offset_fits b.is_plain (word_of e.format) table) (BytesRefused b c) err → Refused a c (Is (fields_fail e table a.is_plain)) err
place_behind a b c e table same err h =
    let fails : Bool → Error → Type 0 = λ plain. Is (fields_fail e table plain) in
    refused_after a b c (fails b.is_plain) (fails a.is_plain) same (λ x k. subst (λ plain. fails plain x) same.kind k) err (place_refused b c e table b.is_plain err h)

two : (n : ℕ) → n < 65536 → IsTrue (fits 2 n)
two n h = grind (arith, nat_tests)

one : (n : ℕ) → n < 256 → IsTrue (fits 1 n)
one n h = grind (arith, nat_tests)

pub returns-in_ok-write_u8-2-clause-ok : goal.returns-in_ok-write_u8-2-clause-ok
returns-in_ok-write_u8-2-clause-ok g c =
    let e = c.args.encoding in
    let place = rw c.word_size-word.ensures at c.write_offset.ensures.ok in
    OnOk-map c.write_offset.result place
    (λ last. new_fields e c.args.table c.if-encoding-eq5.true (two e.version (omega arith)) (one e.address_size (omega arith)) c.in_ok-write_u16.ensures.ok c.in_ok-write_u8.ensures.ok c.in_ok-write_u8-2.ensures.ok last)

pub returns-in_ok-write_offset-clause-ok : goal.returns-in_ok-write_offset-clause-ok
returns-in_ok-write_offset-clause-ok g c =
    let e = c.args.encoding in
    let place = rw c.word_size-word.ensures at c.in_ok-write_offset.ensures.ok in
    OnOk-map c.write_u8-else-encoding-eq5.result c.write_u8-else-encoding-eq5.ensures.ok
    (λ last. old_fields e c.args.table c.if-encoding-eq5.false (two e.version (omega arith)) (one e.address_size (omega arith)) c.in_ok-write_u16.ensures.ok place last)

pub returns-in_ok-write_u8-2-clause-sound : goal.returns-in_ok-write_u8-2-clause-sound
returns-in_ok-write_u8-2-clause-sound g c =
    let e = c.args.encoding in
    let same = IsSameWriter-trans c.in_ok-write_u16.ensures.same (IsSameWriter-trans c.in_ok-write_u8.ensures.same c.in_ok-write_u8-2.ensures.same) in
    let fits = rw (c.word_size-word.ensures, same.kind) at c.write_offset.ensures.fits in
    OnOk-map c.write_offset.result fits (λ h. fields_sound e c.args.table (g.W.Writer.meaning c.args.w.now).is_plain h.1)

pub returns-in_ok-write_u8-2-clause-err : goal.returns-in_ok-write_u8-2-clause-err
returns-in_ok-write_u8-2-clause-err g c =
    let m = g.W.Writer.meaning in
    let same = IsSameWriter-trans c.in_ok-write_u16.ensures.same (IsSameWriter-trans c.in_ok-write_u8.ensures.same c.in_ok-write_u8-2.ensures.same) in
    let refused = rw c.word_size-word.ensures at c.write_offset.ensures.err in
    IfErr-map c.write_offset.result refused (place_behind (m c.args.w.now) (m c.write_u8-then-encoding-eq5.new.self) (m c.write_offset.new.self) c.args.encoding c.args.table same)

pub returns-in_ok-write_offset-clause-sound : goal.returns-in_ok-write_offset-clause-sound
returns-in_ok-write_offset-clause-sound g c =
    let fits = rw (c.word_size-word.ensures, c.in_ok-write_u16.ensures.same.kind) at c.in_ok-write_offset.ensures.fits in
    OnOk-map c.write_u8-else-encoding-eq5.result c.write_u8-else-encoding-eq5.ensures.ok
    (λ last. fields_sound c.args.encoding c.args.table (g.W.Writer.meaning c.args.w.now).is_plain fits.1)

pub returns-in_ok-write_offset-clause-err : goal.returns-in_ok-write_offset-clause-err
returns-in_ok-write_offset-clause-err g c =
    let m = g.W.Writer.meaning in
    let same = IsSameWriter-trans c.in_ok-write_u16.ensures.same c.in_ok-write_offset.ensures.same in
    IfErr-map c.write_u8-else-encoding-eq5.result c.write_u8-else-encoding-eq5.ensures.err
    (behind (m c.args.w.now) (m c.write_offset-else-encoding-eq5.new.self) (m c.write_u8-else-encoding-eq5.new.self) (Is (fields_fail c.args.encoding c.args.table (m c.args.w.now).is_plain)) same)

pub returns-in_err-write_u8-clause-err : goal.returns-in_err-write_u8-clause-err
returns-in_err-write_u8-clause-err g c =
    let m = g.W.Writer.meaning in
    let failed = err_from_is_err_and c.from_residual-in_err-write_u8.result c.from_residual-in_err-write_u8.ensures.1 in
    rw (failed.1, failed.2)
    (behind (m c.args.w.now) (m c.write_u16.new.self) (m c.write_u8.new.self) (Is (fields_fail c.args.encoding c.args.table (m c.args.w.now).is_plain)) c.in_ok-write_u16.ensures.same c.in_err-write_u8.field-0.0 c.in_err-write_u8.ensures.err)

pub returns-in_err-write_u8-2-clause-err : goal.returns-in_err-write_u8-2-clause-err
returns-in_err-write_u8-2-clause-err g c =
    let m = g.W.Writer.meaning in
    let same = IsSameWriter-trans c.in_ok-write_u16.ensures.same c.in_ok-write_u8.ensures.same in
    let failed = err_from_is_err_and c.from_residual-in_err-write_u8-2.result c.from_residual-in_err-write_u8-2.ensures.1 in
    rw (failed.1, failed.2)
    (behind (m c.args.w.now) (m c.write_u8.new.self) (m c.write_u8-then-encoding-eq5.new.self) (Is (fields_fail c.args.encoding c.args.table (m c.args.w.now).is_plain)) same c.in_err-write_u8-2.field-0.0 c.in_err-write_u8-2.ensures.err)

pub returns-in_err-write_offset-clause-err : goal.returns-in_err-write_offset-clause-err
returns-in_err-write_offset-clause-err g c =
    let m = g.W.Writer.meaning in
    let refused = rw c.word_size-word.ensures at c.in_err-write_offset.ensures.err in
    let failed = err_from_is_err_and c.from_residual-in_err-write_offset.result c.from_residual-in_err-write_offset.ensures.1 in
    rw (failed.1, failed.2)
    (place_behind (m c.args.w.now) (m c.write_u16.new.self) (m c.write_offset-else-encoding-eq5.new.self) c.args.encoding c.args.table c.in_ok-write_u16.ensures.same c.in_err-write_offset.field-0.0 refused)

pub returns-in_ok-write_u8-2-clause-same : goal.returns-in_ok-write_u8-2-clause-same
returns-in_ok-write_u8-2-clause-same g c = IsSameWriter-trans c.in_ok-write_u16.ensures.same (IsSameWriter-trans c.in_ok-write_u8.ensures.same (IsSameWriter-trans c.in_ok-write_u8-2.ensures.same c.write_offset.ensures.same))

pub returns-in_ok-write_offset-clause-same : goal.returns-in_ok-write_offset-clause-same
returns-in_ok-write_offset-clause-same g c = IsSameWriter-trans c.in_ok-write_u16.ensures.same (IsSameWriter-trans c.in_ok-write_offset.ensures.same c.write_u8-else-encoding-eq5.ensures.same)

pub returns-in_err-write_u8-clause-same : goal.returns-in_err-write_u8-clause-same
returns-in_err-write_u8-clause-same g c = IsSameWriter-trans c.in_ok-write_u16.ensures.same c.in_err-write_u8.ensures.same

pub returns-in_err-write_u8-2-clause-same : goal.returns-in_err-write_u8-2-clause-same
returns-in_err-write_u8-2-clause-same g c = IsSameWriter-trans c.in_ok-write_u16.ensures.same (IsSameWriter-trans c.in_ok-write_u8.ensures.same c.in_err-write_u8-2.ensures.same)

pub returns-in_err-write_offset-clause-same : goal.returns-in_err-write_offset-clause-same
returns-in_err-write_offset-clause-same g c = IsSameWriter-trans c.in_ok-write_u16.ensures.same c.in_err-write_offset.ensures.same
