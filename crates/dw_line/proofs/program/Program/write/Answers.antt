use Rattle.std.specs.List.{list_any}
use Rattle.std.proofs.Common.{◌≡◌, ◌≤◌, ◌&&◌, not, false, IsFalse, ap, subst, Bool, ◌+◌, ◌-◌, ◌||◌, nat_le, length, IsTrue, arith}
use Rattle.std.specs.Prelude.{◌++◌}
use Rattle.std.proofs.lemmas.Bool.{or_left, or_right}
use Rattle.std.proofs.lemmas.Result.{err_from_is_err_and}
use Rattle.dw_base.specs.Numbers.{num, word_of, escape_of, is_width, length_fits}
use Rattle.dw_base.specs.declared.error.Error.{Error}
use Rattle.dw_writer.specs.Texts.{zeros}
use Rattle.dw_writer.specs.Meaning.{Adds, Replaces}
use Rattle.dw_base.specs.declared.error.Error.TheVariants as errors
use Rattle.dw_writer.proofs.Outcomes.{OnOk-map}
use Rattle.dw_base.specs.LineReader.{is_line_version}
use Rattle.dw_line.specs.Accepted.{is_new_file, encoding_fails, forms_agree, forms_fail}
use Rattle.dw_line.specs.Headers.{header_length, length_fails}
use Rattle.dw_line.specs.ProgramTexts.{IsLineEncoding, HeaderIsWide, program_sequences, program_length, contents_fail, program_fails}
use Rattle.dw_line.specs.LineRows.{written_header}
use Rattle.dw_line.specs.SequenceTexts.{AreBuilt}
use Rattle.dw_line.proofs.PartSteps.{refused_after, or_false, not_false, OnOk-both}
use Rattle.dw_line.proofs.ReaderLaws.{CanBeRead, narrow_of, shows_sequences, shows_tables}
use Rattle.dw_line.proofs.TablesAgain.{HaveTables, new_files}
use Rattle.dw_line.proofs.HeaderSteps.{first_filled}
use Rattle.dw_writer.proofs.Steps.{Adds-appends, IsSameWriter-trans}
use Rattle.dw_line.proofs.FrontSteps.{Front-none, Front-then, Adds-front, AddsSome-front, Front-patched}
use Rattle.dw_line.proofs.RefusalSteps.{encoding_refused, forms_refused}
use Rattle.dw_line.proofs.program.Program.write.Goals as goal

pub returns-in_err-write_contents-clause-err : goal.returns-in_err-write_contents-clause-err
returns-in_err-write_contents-clause-err g c =
    let p = c.args.self.now in
    let ss = c.args.strings.now in
    let ls = c.args.line_strings.now in
    let plain = (g.W.Writer.meaning c.args.w.now).is_plain in
    let same = c.in_ok-place.ensures.same in
    let failed = err_from_is_err_and c.from_residual-in_err-write_contents.result c.from_residual-in_err-write_contents.ensures.1 in
    let fails = λ (k : Bool) (e : Error). contents_fail ss ls k p e in
    rw (failed.1, failed.2)
    (refused_after (g.W.Writer.meaning c.write_contents.new.w) (fails (g.W.Writer.meaning c.write_initial_length.new.self).is_plain) (program_fails ss ls plain c.args.unit p) same
    (λ e h. or_right (encoding_fails p.encoding c.args.unit e || forms_fail p.encoding.version p.directories p.files e) (fails plain e || length_fails p.encoding.format (program_length p) e)
    (or_left (fails plain e) (length_fails p.encoding.format (program_length p) e) (subst (λ k. IsTrue (fails k e)) same.kind h)))
    c.in_err-write_contents.field-0.0 c.in_err-write_contents.ensures.err)

pub returns-clause-ok : goal.returns-clause-ok
returns-clause-ok g c =
    let p = c.args.self.now in
    let format = ap (λ q. q.encoding.format) c.self.view_is in
    let long : c.len.result - c.len-start.result ≡ program_length p = omega (arith, c.len.ensures, c.len-start.ensures, c.in_ok-write_contents.ensures.ok.size) in
    let opened = subst (λ f. Adds (g.W.Writer.meaning c.args.w.now) (g.W.Writer.meaning c.write_initial_length.new.self) (escape_of f ++ zeros (word_of f))) format c.in_ok-place.ensures.ok in
    let place = subst (λ f. c.in_ok-place.place ≡ (g.W.Writer.meaning c.args.w.now).size + length (escape_of f)) format c.in_ok-place.ensures.place in
    let patch = rw long at c.write_initial_length_at.ensures.ok in
    OnOk-map c.write_initial_length_at.result patch
    (λ last. first_filled (escape_of p.encoding.format) (word_of p.encoding.format) (program_length p) c.in_ok-place.place opened c.in_ok-write_contents.ensures.ok
    (subst (λ f. Replaces (g.W.Writer.meaning c.write_contents.new.w) (g.W.Writer.meaning c.write_initial_length_at.new.self) c.in_ok-place.place (num (g.W.Writer.meaning c.write_contents.new.w).is_big (word_of f) (program_length p))) format last) place)

pub returns-clause-rows : goal.returns-clause-rows
returns-clause-rows g c =
    let p = c.args.self.now in
    let ss = c.args.strings.now in
    let ls = c.args.line_strings.now in
    let a = g.W.Writer.meaning c.args.w.now in
    let order = c.in_ok-place.ensures.same.order in
    let long : c.len.result - c.len-start.result ≡ program_length p = omega (arith, c.len.ensures, c.len-start.ensures, c.in_ok-write_contents.ensures.ok.size) in
    let parameters : IsLineEncoding p.line_encoding = subst (λ q. IsLineEncoding q.line_encoding) c.self.view_is c.self.invariant.encoding in
    let version : IsTrue (is_line_version p.encoding.version) = subst (λ q. IsTrue (is_line_version q.encoding.version)) c.self.view_is c.in_ok-check_encoding.ensures.version in
    let narrow = narrow_of p.encoding.address_size (subst (λ q. IsTrue (is_width q.encoding.address_size)) c.self.view_is c.in_ok-check_encoding.ensures.width) in
    let none = c.in_ok-write_contents.ensures.sound errors.InitialLengthOverflow in
    let header : IsTrue (length_fits p.encoding.format (header_length p.encoding p.line_encoding p.directories p.files)) = not_false _ (or_false _ _ (or_false _ _ none)) in
    let wide : HeaderIsWide ss ls a.is_big p = subst (λ k. HeaderIsWide ss ls k p) order c.in_ok-write_contents.ensures.wide in
    let fits = rw long at c.write_initial_length_at.ensures.fits in
    let can = λ (fit : IsTrue (length_fits p.encoding.format (program_length p))). (let is : CanBeRead ss ls a.is_big p = record { parameters = parameters; version = version; narrow = narrow; program_fits = fit; header_fits = header; wide = wide } in is) in
    let to = subst (λ q. IsTrue (length_fits q.encoding.format (program_length p))) c.self.view_is in
    let built : AreBuilt (written_header a.is_big p.line_encoding) (program_sequences p) = subst (λ k. AreBuilt (written_header k p.line_encoding) (program_sequences p)) order c.in_ok-write_contents.ensures.built in
    OnOk-both c.write_initial_length_at.result fits (returns-clause-ok g c) (λ fit added. shows_sequences ss ls p (can (to fit)) built added)

pub returns-clause-tables : goal.returns-clause-tables
returns-clause-tables g c =
    let p = c.args.self.now in
    let ss = c.args.strings.now in
    let ls = c.args.line_strings.now in
    let a = g.W.Writer.meaning c.args.w.now in
    let order = c.in_ok-place.ensures.same.order in
    let long : c.len.result - c.len-start.result ≡ program_length p = omega (arith, c.len.ensures, c.len-start.ensures, c.in_ok-write_contents.ensures.ok.size) in
    let parameters : IsLineEncoding p.line_encoding = subst (λ q. IsLineEncoding q.line_encoding) c.self.view_is c.self.invariant.encoding in
    let version : IsTrue (is_line_version p.encoding.version) = subst (λ q. IsTrue (is_line_version q.encoding.version)) c.self.view_is c.in_ok-check_encoding.ensures.version in
    let narrow = narrow_of p.encoding.address_size (subst (λ q. IsTrue (is_width q.encoding.address_size)) c.self.view_is c.in_ok-check_encoding.ensures.width) in
    let none = c.in_ok-write_contents.ensures.sound errors.InitialLengthOverflow in
    let header : IsTrue (length_fits p.encoding.format (header_length p.encoding p.line_encoding p.directories p.files)) = not_false _ (or_false _ _ (or_false _ _ none)) in
    let wide : HeaderIsWide ss ls a.is_big p = subst (λ k. HeaderIsWide ss ls k p) order c.in_ok-write_contents.ensures.wide in
    let fits = rw long at c.write_initial_length_at.ensures.fits in
    let can = λ (fit : IsTrue (length_fits p.encoding.format (program_length p))). (let is : CanBeRead ss ls a.is_big p = record { parameters = parameters; version = version; narrow = narrow; program_fits = fit; header_fits = header; wide = wide } in is) in
    let to = subst (λ q. IsTrue (length_fits q.encoding.format (program_length p))) c.self.view_is in
    let inside = c.self.inside in
    let fails = forms_fail inside.encoding.version inside.directories.keys inside.files.keys in
    let forms : (e : Error) → IsFalse (fails e) = rw (c.as_slice-directories.ensures.keys, c.as_slice-files.ensures.keys) at c.in_ok-check_forms.ensures.sound in
    let agree = forms_agree (nat_le inside.encoding.version 4) inside.directories.keys inside.files.keys in
    let mismatch : IsFalse (not agree) = forms errors.LineStringFormMismatch in
    let none_new : (nat_le inside.encoding.version 4 && list_any is_new_file inside.files.keys) ≡ false = forms (errors.NeedVersion 5) in
    let have : HaveTables inside.encoding.version inside.directories.keys inside.files.keys = record {
      names = c.self.invariant.names;
      listed = c.self.invariant.listed;
      told = c.self.invariant.told;
      agree = not_false agree mismatch;
      old = λ is. new_files inside.files.keys (nat_le inside.encoding.version 4) is none_new;
      few_directories = omega (arith, c.in_ok-check_forms.ensures.few_directories, ap length c.as_slice-directories.ensures.keys);
      few_files = omega (arith, c.in_ok-check_forms.ensures.few_files, ap length c.as_slice-files.ensures.keys);
    } in
    OnOk-both c.write_initial_length_at.result fits (returns-clause-ok g c)
    (λ fit added. shows_tables ss ls p (can (to fit)) (subst (λ q. HaveTables q.encoding.version q.directories q.files) c.self.view_is have) added)

pub returns-in_err-check_encoding-clause-front : goal.returns-in_err-check_encoding-clause-front
returns-in_err-check_encoding-clause-front g c = λ tidy. Front-none _

pub returns-in_err-check_forms-clause-front : goal.returns-in_err-check_forms-clause-front
returns-in_err-check_forms-clause-front g c = λ tidy. Front-none _

pub returns-in_err-place-clause-front : goal.returns-in_err-place-clause-front
returns-in_err-place-clause-front g c = λ tidy. AddsSome-front c.in_err-place.ensures.partly

pub returns-in_err-write_contents-clause-front : goal.returns-in_err-write_contents-clause-front
returns-in_err-write_contents-clause-front g c =
    λ tidy. Front-then (Adds-front c.in_ok-place.ensures.ok) (c.in_err-write_contents.ensures.front ((Adds-appends c.in_ok-place.ensures.ok).tidy tidy))

pub returns-clause-front : goal.returns-clause-front
returns-clause-front g c =
    let within : (g.W.Writer.meaning c.args.w.now).size ≤ c.in_ok-place.place = omega (arith, c.in_ok-place.ensures.place) in
    λ tidy. Front-patched tidy c.in_ok-place.place within
    (Front-then (Adds-front c.in_ok-place.ensures.ok) (c.in_ok-write_contents.ensures.front ((Adds-appends c.in_ok-place.ensures.ok).tidy tidy)))
    _ _ c.write_initial_length_at.result c.write_initial_length_at.ensures.ok c.write_initial_length_at.ensures.partly

pub returns-in_err-check_encoding-clause-err : goal.returns-in_err-check_encoding-clause-err
returns-in_err-check_encoding-clause-err g c =
    let failed = err_from_is_err_and c.from_residual.result c.from_residual.ensures.1 in
    let a = g.W.Writer.meaning c.args.w.now in
    let fails = subst (λ q. IsTrue (encoding_fails q.encoding c.args.unit c.in_err-check_encoding.field-0.0)) c.self.view_is c.in_err-check_encoding.ensures.err in
    rw (failed.1, failed.2) (encoding_refused c.args.strings.now c.args.line_strings.now c.args.self.now c.args.unit a a a.is_plain c.in_err-check_encoding.field-0.0 fails)

pub returns-in_err-check_forms-clause-err : goal.returns-in_err-check_forms-clause-err
returns-in_err-check_forms-clause-err g c =
    let failed = err_from_is_err_and c.from_residual-in_err-check_forms.result c.from_residual-in_err-check_forms.ensures.1 in
    let a = g.W.Writer.meaning c.args.w.now in
    let listed = rw (c.as_slice-directories.ensures.keys, c.as_slice-files.ensures.keys) at c.in_err-check_forms.ensures.err in
    let fails = subst (λ q. IsTrue (forms_fail q.encoding.version q.directories q.files c.in_err-check_forms.field-0.0)) c.self.view_is listed in
    rw (failed.1, failed.2) (forms_refused c.args.strings.now c.args.line_strings.now c.args.self.now c.args.unit a a a.is_plain c.in_err-check_forms.field-0.0 fails)

pub returns-in_err-place-clause-same : goal.returns-in_err-place-clause-same
returns-in_err-place-clause-same g c = c.in_err-place.ensures.same

pub returns-in_err-write_contents-clause-same : goal.returns-in_err-write_contents-clause-same
returns-in_err-write_contents-clause-same g c = IsSameWriter-trans c.in_ok-place.ensures.same c.in_err-write_contents.ensures.same

pub returns-clause-same : goal.returns-clause-same
returns-clause-same g c = IsSameWriter-trans c.in_ok-place.ensures.same (IsSameWriter-trans c.in_ok-write_contents.ensures.same c.write_initial_length_at.ensures.same)

pub returns-in_err-check_encoding-clause-ok : goal.returns-in_err-check_encoding-clause-ok
returns-in_err-check_encoding-clause-ok g c = rw (err_from_is_err_and c.from_residual.result c.from_residual.ensures.1).1 tt

pub returns-in_err-check_encoding-clause-sound : goal.returns-in_err-check_encoding-clause-sound
returns-in_err-check_encoding-clause-sound g c = rw (err_from_is_err_and c.from_residual.result c.from_residual.ensures.1).1 tt

pub returns-in_err-check_encoding-clause-rows : goal.returns-in_err-check_encoding-clause-rows
returns-in_err-check_encoding-clause-rows g c = rw (err_from_is_err_and c.from_residual.result c.from_residual.ensures.1).1 tt

pub returns-in_err-check_encoding-clause-tables : goal.returns-in_err-check_encoding-clause-tables
returns-in_err-check_encoding-clause-tables g c = rw (err_from_is_err_and c.from_residual.result c.from_residual.ensures.1).1 tt

pub returns-in_err-check_forms-clause-ok : goal.returns-in_err-check_forms-clause-ok
returns-in_err-check_forms-clause-ok g c = rw (err_from_is_err_and c.from_residual-in_err-check_forms.result c.from_residual-in_err-check_forms.ensures.1).1 tt

pub returns-in_err-check_forms-clause-sound : goal.returns-in_err-check_forms-clause-sound
returns-in_err-check_forms-clause-sound g c = rw (err_from_is_err_and c.from_residual-in_err-check_forms.result c.from_residual-in_err-check_forms.ensures.1).1 tt

pub returns-in_err-check_forms-clause-rows : goal.returns-in_err-check_forms-clause-rows
returns-in_err-check_forms-clause-rows g c = rw (err_from_is_err_and c.from_residual-in_err-check_forms.result c.from_residual-in_err-check_forms.ensures.1).1 tt

pub returns-in_err-check_forms-clause-tables : goal.returns-in_err-check_forms-clause-tables
returns-in_err-check_forms-clause-tables g c = rw (err_from_is_err_and c.from_residual-in_err-check_forms.result c.from_residual-in_err-check_forms.ensures.1).1 tt

pub returns-in_err-place-clause-ok : goal.returns-in_err-place-clause-ok
returns-in_err-place-clause-ok g c = rw (err_from_is_err_and c.from_residual-in_err-place.result c.from_residual-in_err-place.ensures.1).1 tt

pub returns-in_err-place-clause-sound : goal.returns-in_err-place-clause-sound
returns-in_err-place-clause-sound g c = rw (err_from_is_err_and c.from_residual-in_err-place.result c.from_residual-in_err-place.ensures.1).1 tt

pub returns-in_err-place-clause-rows : goal.returns-in_err-place-clause-rows
returns-in_err-place-clause-rows g c = rw (err_from_is_err_and c.from_residual-in_err-place.result c.from_residual-in_err-place.ensures.1).1 tt

pub returns-in_err-place-clause-tables : goal.returns-in_err-place-clause-tables
returns-in_err-place-clause-tables g c = rw (err_from_is_err_and c.from_residual-in_err-place.result c.from_residual-in_err-place.ensures.1).1 tt

pub returns-in_err-write_contents-clause-ok : goal.returns-in_err-write_contents-clause-ok
returns-in_err-write_contents-clause-ok g c = rw (err_from_is_err_and c.from_residual-in_err-write_contents.result c.from_residual-in_err-write_contents.ensures.1).1 tt

pub returns-in_err-write_contents-clause-sound : goal.returns-in_err-write_contents-clause-sound
returns-in_err-write_contents-clause-sound g c = rw (err_from_is_err_and c.from_residual-in_err-write_contents.result c.from_residual-in_err-write_contents.ensures.1).1 tt

pub returns-in_err-write_contents-clause-rows : goal.returns-in_err-write_contents-clause-rows
returns-in_err-write_contents-clause-rows g c = rw (err_from_is_err_and c.from_residual-in_err-write_contents.result c.from_residual-in_err-write_contents.ensures.1).1 tt

pub returns-in_err-write_contents-clause-tables : goal.returns-in_err-write_contents-clause-tables
returns-in_err-write_contents-clause-tables g c = rw (err_from_is_err_and c.from_residual-in_err-write_contents.result c.from_residual-in_err-write_contents.ensures.1).1 tt
