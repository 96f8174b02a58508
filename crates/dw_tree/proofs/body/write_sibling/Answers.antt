use Rattle.std.proofs.Common.{◌≡◌, ◌∙◌, sym, ap, ℕ, Bool, true, false}
use Rattle.std.specs.Prelude.{if◌then◌else◌}
use Rattle.dw_base.specs.Numbers.{word_of, fits}
use Rattle.dw_base.specs.declared.common.Encoding.{Encoding}
use Rattle.dw_writer.specs.Drafts.{no_draft, whole}
use Rattle.dw_writer.proofs.WriteLaws.{Drafts-is, Drafts-nothing}
use Rattle.dw_entries.specs.Entries.{EntryValue, has_sibling}
use Rattle.dw_tree.specs.UnitText.{fitting_text, sibling_draft}
use Rattle.dw_tree.proofs.Drafted.{Drafts-fitting, width-word}
use Rattle.std.proofs.lemmas.Result.{err_from_is_err_and}
use Rattle.dw_tree.proofs.ValueRefusals.{number_never}
use Rattle.dw_tree.proofs.body.write_sibling.Goals as goal

-- what stands first, by whether the entry names the place past it
sibling_by : (e : Encoding) (past : ℕ) (x : EntryValue) (b : Bool) → has_sibling x ≡ b → (if b then whole (word_of e.format) (fitting_text (word_of e.format) past) else no_draft) ≡ sibling_draft e past x
sibling_by e past x b h = ap (λ (t : Bool). if t then whole (word_of e.format) (fitting_text (word_of e.format) past) else no_draft) (sym h)

pub returns-in_ok-write_udata-clause-ok : goal.returns-in_ok-write_udata-clause-ok
returns-in_ok-write_udata-clause-ok g c =
    let e = c.args.encoding in
    let w = word_of e.format in
    let wrote = rw c.word_size.ensures at c.in_ok-write_udata.ensures.ok in
    λ kept. Drafts-is (Drafts-fitting kept w c.args.past (width-word e.format) c.requires wrote)
    (sibling_by e c.args.past c.args.entry.now true (sym c.has_sibling.ensures ∙ c.if-has_sibling.true))

pub returns-else-has_sibling-clause-ok : goal.returns-else-has_sibling-clause-ok
returns-else-has_sibling-clause-ok g c =
    λ kept. Drafts-is (Drafts-nothing (g.W.Writer.meaning c.args.w.now) kept)
    (sibling_by c.args.encoding c.args.past c.args.entry.now false (sym c.has_sibling.ensures ∙ c.if-has_sibling.false))

pub returns-in_err-write_udata-clause-err : goal.returns-in_err-write_udata-clause-err
returns-in_err-write_udata-clause-err g c =
    let w = word_of c.args.encoding.format in
    let p = err_from_is_err_and c.from_residual.result c.from_residual.ensures.1 in
    let refused = rw c.word_size.ensures at c.in_err-write_udata.ensures.err in
    rw (p.1, p.2) (number_never (g.W.Writer.meaning c.args.w.now) (g.W.Writer.meaning c.write_udata.new.self) w (fits w c.args.past) (width-word c.args.encoding.format) c.requires c.in_err-write_udata.field-0.0 refused)
