use Rattle.std.proofs.Common.{◌≡◌, ◌+◌, ◌-◌, ◌≤◌, subst, nat_le, IsTrue, IsFalse, Bool, arith}
use Rattle.std.proofs.lemmas.Bool.{or_left, or_right}
use Rattle.std.proofs.lemmas.Result.{err_from_is_err_and}
use Rattle.dw_base.specs.Numbers.{word_of}
use Rattle.dw_base.specs.declared.error.Error.{Error}
use Rattle.dw_writer.specs.Meaning.{IsSameWriter}
use Rattle.dw_writer.proofs.Outcomes.{OnOk-map, IfErr-map}
use Rattle.dw_writer.proofs.Places.{length-zeros}
use Rattle.dw_writer.proofs.Steps.{IsSameWriter-trans, Adds-appends, Appends-then}
use Rattle.dw_line.specs.Headers.{tables_fail, header_length, header_fails, length_fails}
use Rattle.dw_line.proofs.PartSteps.{neither, refused_after}
use Rattle.dw_line.proofs.HeaderSteps.{open_filled, version_added, length_refused, length_sound}
use Rattle.dw_line.proofs.header.write_header.Given.{Over}
use Rattle.dw_line.proofs.FrontSteps.{Front-then, Front-patched}
use Rattle.dw_line.proofs.header.write_header.Goals as goal

long : (g : Over) (c : goal.After-write_initial_length_at g) → c.len.result - c.len-start.result ≡ header_length c.args.encoding c.args.line c.args.directories.now c.args.files.now
long g c = omega (arith, c.len.ensures, c.len-start.ensures, c.in_ok-write_parameters.ensures.ok.size, c.in_ok-write_tables.ensures.ok.size)

written : (g : Over) (c : goal.After-write_initial_length_at g) → IsSameWriter (g.W.Writer.meaning c.args.w.now) (g.W.Writer.meaning c.write_tables.new.w)
written g c =
    IsSameWriter-trans c.in_ok-write_version.ensures.same
    (IsSameWriter-trans c.in_ok-place.ensures.same (IsSameWriter-trans c.in_ok-write_parameters.ensures.same c.in_ok-write_tables.ensures.same))

pub returns-in_err-write_tables-clause-err : goal.returns-in_err-write_tables-clause-err
returns-in_err-write_tables-clause-err g c =
    let e = c.args.encoding in
    let p = err_from_is_err_and c.from_residual-in_err-write_tables.result c.from_residual-in_err-write_tables.ensures.1 in
    let same = IsSameWriter-trans c.in_ok-write_version.ensures.same (IsSameWriter-trans c.in_ok-place.ensures.same c.in_ok-write_parameters.ensures.same) in
    let fails = λ (k : Bool) (error : Error). tables_fail (word_of e.format) c.args.strings.now c.args.line_strings.now k (nat_le e.version 4) c.args.directories.now c.args.files.now error in
    let plain = (g.W.Writer.meaning c.args.w.now).is_plain in
    rw (p.1, p.2)
    (refused_after (g.W.Writer.meaning c.write_tables.new.w) (fails (g.W.Writer.meaning c.write_parameters.new.w).is_plain) (header_fails c.args.strings.now c.args.line_strings.now plain e c.args.line c.args.directories.now c.args.files.now) same
    (λ error h. or_right (length_fails e.format (header_length e c.args.line c.args.directories.now c.args.files.now) error) (fails plain error) (subst (λ k. IsTrue (fails k error)) same.kind h))
    c.in_err-write_tables.field-0.0 c.in_err-write_tables.ensures.err)

pub returns-clause-ok : goal.returns-clause-ok
returns-clause-ok g c =
    let rest = Appends-then (Adds-appends c.in_ok-write_parameters.ensures.ok) c.in_ok-write_tables.ensures.ok in
    let patch = rw (long g c) at c.write_initial_length_at.ensures.ok in
    OnOk-map c.write_initial_length_at.result patch
    (λ last. open_filled (word_of c.args.encoding.format) (header_length c.args.encoding c.args.line c.args.directories.now c.args.files.now) c.in_ok-place.place
    (version_added c.args.encoding c.in_ok-write_version.ensures.ok) c.in_ok-place.ensures.ok rest last c.in_ok-place.ensures.place)

pub returns-clause-sound : goal.returns-clause-sound
returns-clause-sound g c =
    let e = c.args.encoding in
    let fits = rw (long g c) at c.write_initial_length_at.ensures.fits in
    let fails = λ (k : Bool) (error : Error). tables_fail (word_of e.format) c.args.strings.now c.args.line_strings.now k (nat_le e.version 4) c.args.directories.now c.args.files.now error in
    let same = IsSameWriter-trans c.in_ok-write_version.ensures.same (IsSameWriter-trans c.in_ok-place.ensures.same c.in_ok-write_parameters.ensures.same) in
    let length = header_length e c.args.line c.args.directories.now c.args.files.now in
    OnOk-map c.write_initial_length_at.result fits
    (λ fit. λ error. neither (length_fails e.format length error) (fails (g.W.Writer.meaning c.args.w.now).is_plain error) (length_sound e.format length fit error)
    (subst (λ k. IsFalse (fails k error)) same.kind (c.in_ok-write_tables.ensures.sound error)))

pub returns-clause-err : goal.returns-clause-err
returns-clause-err g c =
    let e = c.args.encoding in
    let plain = (g.W.Writer.meaning c.args.w.now).is_plain in
    let tables = λ (error : Error). tables_fail (word_of e.format) c.args.strings.now c.args.line_strings.now plain (nat_le e.version 4) c.args.directories.now c.args.files.now error in
    let n = header_length e c.args.line c.args.directories.now c.args.files.now in
    let within : c.in_ok-place.place + word_of e.format ≤ (g.W.Writer.meaning c.write_tables.new.w).size =
    omega (arith, c.in_ok-place.ensures.place, c.in_ok-place.ensures.ok.size, length-zeros (word_of e.format), c.in_ok-write_parameters.ensures.ok.size, c.in_ok-write_tables.ensures.ok.size) in
    IfErr-map c.write_initial_length_at.result c.write_initial_length_at.ensures.err
    (λ error h. length_refused (g.W.Writer.meaning c.write_initial_length_at.new.self) e.format (c.len.result - c.len-start.result) n c.in_ok-place.place
    (header_fails c.args.strings.now c.args.line_strings.now plain e c.args.line c.args.directories.now c.args.files.now) (written g c) (long g c) within
    (λ error h. or_left (length_fails e.format n error) (tables error) h) error h)

pub returns-in_err-write_version-clause-front : goal.returns-in_err-write_version-clause-front
returns-in_err-write_version-clause-front g c = λ tidy. c.in_err-write_version.ensures.front

pub returns-in_err-place-clause-front : goal.returns-in_err-place-clause-front
returns-in_err-place-clause-front g c = λ tidy. Front-then c.in_ok-write_version.ensures.front c.in_err-place.ensures.front

pub returns-in_err-write_parameters-clause-front : goal.returns-in_err-write_parameters-clause-front
returns-in_err-write_parameters-clause-front g c =
    λ tidy. Front-then c.in_ok-write_version.ensures.front (Front-then c.in_ok-place.ensures.front c.in_err-write_parameters.ensures.front)

pub returns-in_err-write_tables-clause-front : goal.returns-in_err-write_tables-clause-front
returns-in_err-write_tables-clause-front g c =
    λ tidy. Front-then c.in_ok-write_version.ensures.front
    (Front-then c.in_ok-place.ensures.front (Front-then c.in_ok-write_parameters.ensures.front c.in_err-write_tables.ensures.front))

pub returns-clause-front : goal.returns-clause-front
returns-clause-front g c =
    let added = Front-then c.in_ok-write_version.ensures.front
    (Front-then c.in_ok-place.ensures.front (Front-then c.in_ok-write_parameters.ensures.front c.in_ok-write_tables.ensures.front)) in
    let within : (g.W.Writer.meaning c.args.w.now).size ≤ c.in_ok-place.place = omega (arith, c.in_ok-place.ensures.place, c.in_ok-write_version.ensures.ok.size) in
    λ tidy. Front-patched tidy c.in_ok-place.place within added _ _ c.write_initial_length_at.result c.write_initial_length_at.ensures.ok c.write_initial_length_at.ensures.partly

pub returns-clause-same : goal.returns-clause-same
returns-clause-same g c = IsSameWriter-trans (written g c) c.write_initial_length_at.ensures.same

pub returns-in_err-write_version-clause-ok : goal.returns-in_err-write_version-clause-ok
returns-in_err-write_version-clause-ok g c = rw (err_from_is_err_and c.from_residual.result c.from_residual.ensures.1).1 tt

pub returns-in_err-write_version-clause-sound : goal.returns-in_err-write_version-clause-sound
returns-in_err-write_version-clause-sound g c = rw (err_from_is_err_and c.from_residual.result c.from_residual.ensures.1).1 tt

pub returns-in_err-place-clause-ok : goal.returns-in_err-place-clause-ok
returns-in_err-place-clause-ok g c = rw (err_from_is_err_and c.from_residual-in_err-place.result c.from_residual-in_err-place.ensures.1).1 tt

pub returns-in_err-place-clause-sound : goal.returns-in_err-place-clause-sound
returns-in_err-place-clause-sound g c = rw (err_from_is_err_and c.from_residual-in_err-place.result c.from_residual-in_err-place.ensures.1).1 tt

pub returns-in_err-write_parameters-clause-ok : goal.returns-in_err-write_parameters-clause-ok
returns-in_err-write_parameters-clause-ok g c = rw (err_from_is_err_and c.from_residual-in_err-write_parameters.result c.from_residual-in_err-write_parameters.ensures.1).1 tt

pub returns-in_err-write_parameters-clause-sound : goal.returns-in_err-write_parameters-clause-sound
returns-in_err-write_parameters-clause-sound g c = rw (err_from_is_err_and c.from_residual-in_err-write_parameters.result c.from_residual-in_err-write_parameters.ensures.1).1 tt

pub returns-in_err-write_tables-clause-ok : goal.returns-in_err-write_tables-clause-ok
returns-in_err-write_tables-clause-ok g c = rw (err_from_is_err_and c.from_residual-in_err-write_tables.result c.from_residual-in_err-write_tables.ensures.1).1 tt

pub returns-in_err-write_tables-clause-sound : goal.returns-in_err-write_tables-clause-sound
returns-in_err-write_tables-clause-sound g c = rw (err_from_is_err_and c.from_residual-in_err-write_tables.result c.from_residual-in_err-write_tables.ensures.1).1 tt
