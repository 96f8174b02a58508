use Rattle.std.proofs.Common.{◌∙◌, sym, subst, refl, inl, inr, ℕ}
use Rattle.std.specs.Prelude.{nat_le}
use Rattle.dw_read.specs.Reading.{left}
use Rattle.dw_read.specs.declared.error.ReadError.{ReadError}
use Rattle.dw_read_lines.specs.FileEntryIters.{layout_of}
use Rattle.dw_read_lines.specs.LineEntries.{next_read}
use Rattle.dw_read_lines.specs.LineEntryViews.{entry_of}
use Rattle.dw_sources.specs.ConvertErrors.{from_read}
use Rattle.dw_convert_lines.specs.EntryImages.{directory_image}
use Rattle.dw_convert_lines.specs.Views.{texts_of, converting}
use Rattle.dw_convert_lines.specs.Walks.{Walked}
use Rattle.dw_convert_lines.proofs.Reasons.{is_err}
use Rattle.dw_convert_lines.proofs.Walking.{walked_none, walked_more}
use Rattle.dw_convert_lines.proofs.EntrySteps.{passes, closes, read_here, closed_here, refused_here, order_passed, order_closed, smaller}
use Rattle.dw_convert_lines.proofs.entries.convert_directories.Goals as goal

pub entries-init : goal.entries-init
entries-init g c = record {
  walked = λ parts has. walked_none _ _ _ _ _;
  layout = refl;
  order = refl;
  open_yet = c.requires.begun.open_yet;
  target = c.requires.target;
}

pub entries-preserved : goal.entries-preserved
entries-preserved g c =
    let reading = g.R.Reader.reading in
    let i = c.entries.invariant in
    let begun = c.requires.begun in
    let p = passes _ _ reading _ _ _ _ c.in_ok-entry.ensures c.in-Some.is in
    let first = c.args.entries.now in
    record {
      walked = λ parts has. subst (λ (k : ℕ). Walked (next_read (reading first.input).is_big (layout_of reading first.layout parts)) (directory_image (nat_le 5 c.args.version) (texts_of reading c.args.dwarf.now)) first.remaining (left (reading first.input)) (converting c.args.program.now c.args.ids.now.items c.args.strings.now c.args.line_strings.now) k (left (reading c.next.new.self.input)) (converting c.convert_directory.new.program c.convert_directory.new.ids.items c.convert_directory.new.strings c.convert_directory.new.line_strings))
          (sym p.remaining)
          (walked_more _ _ _ _ _ _ _ _ (entry_of reading c.in-Some.entry) _ _ (i.walked parts has) (read_here _ _ reading _ _ _ _ parts i.order i.layout has _ p) c.in_ok-convert_directory.ensures.ok);
      layout = p.layout ∙ i.layout;
      order = order_passed _ _ reading _ _ _ _ begun.parts i.order i.layout begun.described _ p ∙ i.order;
      open_yet = p.went_on.1;
      target = c.in_ok-convert_directory.ensures.target;
    }

pub entries-smaller : goal.entries-smaller
entries-smaller g c =
    let reading = g.R.Reader.reading in
    let i = c.entries.invariant in
    let begun = c.requires.begun in
    let p = passes _ _ reading _ _ _ _ c.in_ok-entry.ensures c.in-Some.is in
    smaller _ _ reading _ _ _ _ begun.parts i.order i.layout begun.described _ p

pub returns-in_err-entry-clause-err : goal.returns-in_err-entry-clause-err
returns-in_err-entry-clause-err g c =
    let reading = g.R.Reader.reading in
    let i = c.entries.invariant in
    let why : ReadError = c.in_err-entry.field-0.0 in
    let e = is_err _ (from_read why) c.from_residual.ensures in
    rw e (inr (λ parts has. record {
      count = c.entries.entries.remaining;
      rest = left (reading c.entries.entries.input);
      made = converting c.entries.program c.entries.ids.items c.entries.strings c.entries.line_strings;
      walked = i.walked parts has;
      cause = inl (record { error = why; reason = refused_here _ _ reading _ _ _ _ parts i.order i.layout has why c.in_err-entry.ensures; is = refl });
    }))

pub returns-in_err-convert_directory-clause-err : goal.returns-in_err-convert_directory-clause-err
returns-in_err-convert_directory-clause-err g c =
    let reading = g.R.Reader.reading in
    let i = c.entries.invariant in
    let p = passes _ _ reading _ _ _ _ c.in_ok-entry.ensures c.in-Some.is in
    let made = converting c.entries.program c.entries.ids.items c.entries.strings c.entries.line_strings in
    let e = is_err _ _ c.from_residual-in_err-convert_directory.ensures in
    rw e (elim c.in_err-convert_directory.ensures.err [
      | inl h ↦ inl h
      | inr h ↦ inr (λ parts has. record {
        count = c.entries.entries.remaining;
        rest = left (reading c.entries.entries.input);
        made = made;
        walked = i.walked parts has;
        cause = inr (record {
          entry = entry_of reading c.in-Some.entry;
          next = left (reading c.next.new.self.input);
          read = read_here _ _ reading _ _ _ _ parts i.order i.layout has _ p;
          refused = h;
        });
      })
    ])

pub returns-clause-ok : goal.returns-clause-ok
returns-clause-ok g c =
    let reading = g.R.Reader.reading in
    let i = c.entries.invariant in
    let q = closes _ _ reading _ _ _ c.in_ok-entry.ensures c.in_default.is in
    λ parts has. record {
      count = c.entries.entries.remaining;
      rest = left (reading c.entries.entries.input);
      walked = i.walked parts has;
      end = closed_here _ _ reading _ _ _ _ parts i.order i.layout has i.open_yet q;
    }

pub returns-clause-same : goal.returns-clause-same
returns-clause-same g c =
    let reading = g.R.Reader.reading in
    let i = c.entries.invariant in
    let begun = c.requires.begun in
    let q = closes _ _ reading _ _ _ c.in_ok-entry.ensures c.in_default.is in
    record {
      layout = q.layout ∙ i.layout;
      order = order_closed _ _ reading _ _ _ _ begun.parts i.order i.layout begun.described i.open_yet q ∙ i.order;
    }

pub returns-in_err-entry-clause-ok : goal.returns-in_err-entry-clause-ok
returns-in_err-entry-clause-ok g c = rw (is_err _ _ c.from_residual.ensures) tt

pub returns-in_err-entry-clause-same : goal.returns-in_err-entry-clause-same
returns-in_err-entry-clause-same g c = rw (is_err _ _ c.from_residual.ensures) tt

pub returns-in_err-entry-clause-target : goal.returns-in_err-entry-clause-target
returns-in_err-entry-clause-target g c = rw (is_err _ _ c.from_residual.ensures) tt

pub returns-in_err-convert_directory-clause-ok : goal.returns-in_err-convert_directory-clause-ok
returns-in_err-convert_directory-clause-ok g c = rw (is_err _ _ c.from_residual-in_err-convert_directory.ensures) tt

pub returns-in_err-convert_directory-clause-same : goal.returns-in_err-convert_directory-clause-same
returns-in_err-convert_directory-clause-same g c = rw (is_err _ _ c.from_residual-in_err-convert_directory.ensures) tt

pub returns-in_err-convert_directory-clause-target : goal.returns-in_err-convert_directory-clause-target
returns-in_err-convert_directory-clause-target g c = rw (is_err _ _ c.from_residual-in_err-convert_directory.ensures) tt

pub returns-clause-err : goal.returns-clause-err
returns-clause-err g c = tt
