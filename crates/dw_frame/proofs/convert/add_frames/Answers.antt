use Rattle.std.proofs.Common.{◌≡◌, ◌∙◌, sym, ap, ap₂, refl, inl, inr, ⊎_elim, List, [], ◌∷◌, ◌++◌, Err}
use Rattle.std.specs.List.{position_or_len}
use Rattle.dw_base.specs.declared.ids.CieId.{CieId}
use Rattle.dw_read.specs.Reading.{left}
use Rattle.dw_read_frames.specs.declared.entries.CieOrFde.TheVariants as held
use Rattle.dw_sources.proofs.Progress.{fewer_left}
use Rattle.dw_sources.specs.ConvertErrors.{from_read}
use Rattle.dw_frame.proofs.ConvertLaws.{is_err}
use Rattle.dw_frame.specs.contracts.cie.CommonInformationEntryPartialEq.TheImpl as cie
use Rattle.dw_frame.specs.declared.cie.CommonInformationEntry.{CommonInformationEntry}
use Rattle.dw_frame.specs.declared.fde.FrameDescriptionEntry.{FrameDescriptionEntry}
use Rattle.dw_frame.specs.ConvertSections.{source}
use Rattle.dw_frame.specs.ConvertTables.{with_cie}
use Rattle.dw_frame.proofs.ConvertTableSteps.{cies_more, fdes_more, stands_first, passes_one, is_entry, ends_all, stands_cie, stands_fde, stands_failing, stands_last, stands_missing}
use Rattle.dw_frame.proofs.convert.add_frames.Goals as goal

pub entries-init : goal.entries-init
entries-init g c = record {
  pairs = [];
  stands = stands_first _ _ _ _ g.R.Reader.reading _ _ refl c.entries-entries.ensures;
  cies = c.requires.cies;
  fdes = c.requires.fdes;
}

pub entries-preserved-in_default-entry : goal.entries-preserved-in_default-entry
entries-preserved-in_default-entry g c =
    let reading = g.R.Reader.reading in
    let answers = goal.F-post g c.args.convert_address.now in
    let section = source (reading (g.S.UnwindSection.reader c.args.frame.now)) g.S.UnwindSection.is_eh (g.S.UnwindSection.size c.args.frame.now) in
    let is = g.met.R.Reader.is_reading in
    let i = c.entries.invariant in
    let old = c.entries.entries in
    let new = c.next.new.self in
    let common = c.in_default-entry.field-0 in
    let p = is_entry answers section _ _ reading old new c.in-Some.entry (held.Cie common) (passes_one answers section _ _ reading old new _ c.in-Some.entry c.in_ok-entry.ensures c.in-Some.is) c.in_default-entry.is in
    record { pairs = i.pairs; stands = stands_cie answers section _ _ reading old new i.pairs i.stands (is old.input) common p; cies = i.cies; fdes = i.fdes }

pub entries-preserved : goal.entries-preserved
entries-preserved g c =
    let reading = g.R.Reader.reading in
    let answers = goal.F-post g c.args.convert_address.now in
    let section = source (reading (g.S.UnwindSection.reader c.args.frame.now)) g.S.UnwindSection.is_eh (g.S.UnwindSection.size c.args.frame.now) in
    let is = g.met.R.Reader.is_reading in
    let i = c.entries.invariant in
    let old = c.entries.entries in
    let new = c.next.new.self in
    let f = c.in-Fde.partial in
    let p = is_entry answers section _ _ reading old new c.in-Some.entry (held.Fde f) (passes_one answers section _ _ reading old new _ c.in-Some.entry c.in_ok-entry.ensures c.in-Some.is) c.in-Fde.is in
    let added = c.in_ok-add_frame.ensures.ok in
    let x = added.pair in
    record {
      pairs = i.pairs ++ x ∷ [];
      stands = stands_fde answers section _ _ reading old new i.pairs i.stands (is old.input) f p (is new.input) x added.is;
      cies = added.adds.cies ∙ ap (λ (cs : List CommonInformationEntry). with_cie cie.ghosts.eq x.0 cs) i.cies ∙ sym (cies_more cie.ghosts.eq [] i.pairs x);
      fdes = added.adds.fdes ∙ ap₂ (λ (fs : List (CieId × FrameDescriptionEntry)) (cs : List CommonInformationEntry). fs ++ (record { 0 = position_or_len (cie.ghosts.eq x.0) cs }, x.1) ∷ []) i.fdes i.cies ∙ sym (fdes_more cie.ghosts.eq [] i.pairs x);
    }

pub entries-smaller : goal.entries-smaller
entries-smaller g c =
    let reading = g.R.Reader.reading in
    let answers = goal.F-post g c.args.convert_address.now in
    let section = source (reading (g.S.UnwindSection.reader c.args.frame.now)) g.S.UnwindSection.is_eh (g.S.UnwindSection.size c.args.frame.now) in
    let is = g.met.R.Reader.is_reading in
    let i = c.entries.invariant in
    let old = c.entries.entries in
    let new = c.next.new.self in
    let p = passes_one answers section _ _ reading old new _ c.in-Some.entry c.in_ok-entry.ensures c.in-Some.is in
    fewer_left _ _ (reading old.input) (reading new.input) _ (is old.input) (is new.input) p.entry p.progress

pub entries-smaller-in_default-entry : goal.entries-smaller-in_default-entry
entries-smaller-in_default-entry g c =
    let reading = g.R.Reader.reading in
    let answers = goal.F-post g c.args.convert_address.now in
    let section = source (reading (g.S.UnwindSection.reader c.args.frame.now)) g.S.UnwindSection.is_eh (g.S.UnwindSection.size c.args.frame.now) in
    let is = g.met.R.Reader.is_reading in
    let i = c.entries.invariant in
    let old = c.entries.entries in
    let new = c.next.new.self in
    let p = passes_one answers section _ _ reading old new _ c.in-Some.entry c.in_ok-entry.ensures c.in-Some.is in
    fewer_left _ _ (reading old.input) (reading new.input) _ (is old.input) (is new.input) p.entry p.progress

pub returns-in_err-entry-clause-err : goal.returns-in_err-entry-clause-err
returns-in_err-entry-clause-err g c =
    let reading = g.R.Reader.reading in
    let answers = goal.F-post g c.args.convert_address.now in
    let section = source (reading (g.S.UnwindSection.reader c.args.frame.now)) g.S.UnwindSection.is_eh (g.S.UnwindSection.size c.args.frame.now) in
    let is = g.met.R.Reader.is_reading in
    let i = c.entries.invariant in
    let old = c.entries.entries in
    let new = c.next.new.self in
    let why = c.in_err-entry.field-0.0 in
    let e : c.from_residual.result ≡ Err (from_read why) = is_err _ _ c.from_residual.ensures in
    rw e (inr (record {
      rest = left (reading old.input);
      pairs = i.pairs;
      begun = i.stands.begun;
      cause = inl (stands_missing answers section _ _ reading old new i.pairs i.stands (is old.input) why c.in_err-entry.ensures);
    }))

pub returns-in_err-add_frame-clause-err : goal.returns-in_err-add_frame-clause-err
returns-in_err-add_frame-clause-err g c =
    let reading = g.R.Reader.reading in
    let answers = goal.F-post g c.args.convert_address.now in
    let section = source (reading (g.S.UnwindSection.reader c.args.frame.now)) g.S.UnwindSection.is_eh (g.S.UnwindSection.size c.args.frame.now) in
    let is = g.met.R.Reader.is_reading in
    let i = c.entries.invariant in
    let old = c.entries.entries in
    let new = c.next.new.self in
    let f = c.in-Fde.partial in
    let p = is_entry answers section _ _ reading old new c.in-Some.entry (held.Fde f) (passes_one answers section _ _ reading old new _ c.in-Some.entry c.in_ok-entry.ensures c.in-Some.is) c.in-Fde.is in
    let why = c.in_err-add_frame.field-0.0 in
    let e : c.from_residual-in_err-add_frame.result ≡ Err why = is_err _ _ c.from_residual-in_err-add_frame.ensures in
    rw e (⊎_elim (λ n. inl n) (λ h. inr (record {
      rest = left (reading old.input);
      pairs = i.pairs;
      begun = i.stands.begun;
      cause = inr (stands_failing answers section _ _ reading old new i.pairs i.stands (is old.input) f p (is new.input) why h);
    })) c.in_err-add_frame.ensures.err)

pub returns-clause-ok : goal.returns-clause-ok
returns-clause-ok g c =
    let reading = g.R.Reader.reading in
    let answers = goal.F-post g c.args.convert_address.now in
    let section = source (reading (g.S.UnwindSection.reader c.args.frame.now)) g.S.UnwindSection.is_eh (g.S.UnwindSection.size c.args.frame.now) in
    let is = g.met.R.Reader.is_reading in
    let i = c.entries.invariant in
    let old = c.entries.entries in
    let new = c.next.new.self in
    record {
      rest = left (reading old.input);
      pairs = i.pairs;
      begun = i.stands.begun;
      ends = stands_last answers section _ _ reading old new i.pairs i.stands (is old.input) (ends_all answers section _ _ reading old new _ c.in_ok-entry.ensures c.in_default.is);
      common = i.cies;
      own = i.fdes;
    }

pub returns-in_err-entry-clause-ok : goal.returns-in_err-entry-clause-ok
returns-in_err-entry-clause-ok g c = rw (is_err _ _ c.from_residual.ensures) tt

pub returns-in_err-add_frame-clause-ok : goal.returns-in_err-add_frame-clause-ok
returns-in_err-add_frame-clause-ok g c = rw (is_err _ _ c.from_residual-in_err-add_frame.ensures) tt

pub returns-clause-err : goal.returns-clause-err
returns-clause-err g c = tt
