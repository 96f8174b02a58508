use Rattle.std.proofs.Common.{◌≡◌, ◌∙◌, sym, ap, ap₂, subst, refl, inl, inr, ⊎_elim, ℕ, ◌<◌, ◌^◌, List, [], ◌∷◌, ◌++◌, ◌+◌, Err, rules, w64, to_z, of_z, arith}
use Rattle.dw_read.specs.Reading.{left}
use Rattle.dw_read_frames.specs.InstructionViews.{instruction_of}
use Rattle.dw_read_frames.specs.declared.cie.CommonInformationEntry.{CommonInformationEntry as ReadCie}
use Rattle.dw_sources.proofs.Progress.{fewer_left}
use Rattle.dw_sources.specs.ConvertErrors.{from_read}
use Rattle.dw_frame.proofs.ConvertLaws.{is_err}
use Rattle.dw_frame_instructions.specs.declared.program.Step.{Step}
use Rattle.dw_frame.specs.ConvertInstructions.{in_u32}
use Rattle.dw_frame.specs.ConvertPrograms.{Image, advance, behind, steps_at, kept_steps}
use Rattle.dw_frame.specs.ConvertViews.{fde_terms}
use Rattle.dw_frame.proofs.ConvertSteps.{steps_more, behind_more, the_number, below_32, read_here, by_terms, same_fde_head, passes_one, is_over, stands_first, stands_more, stands_last, stands_missing, stands_failing}
use Rattle.dw_frame.proofs.convert_fde.convert_fde.Goals as goal

pub instructions-init : goal.instructions-init
instructions-init g c =
    record {
      images = [];
      stands = stands_first _ _ g.R.Reader.reading _ (fde_terms g.R.Reader.reading c.args.read.now) _ c.args.read.now.instructions c.instructions-instructions.result refl refl refl c.instructions-instructions.ensures;
      offset = refl;
      fits = omega arith;
      kept = c.in_ok-fde.ensures.steps;
      head = c.in_ok-fde.ensures.ok;
    }

pub instructions-preserved : goal.instructions-preserved
instructions-preserved g c =
    let reading = g.R.Reader.reading in
    let i = c.instructions.invariant in
    let o = c.in-Some.instruction in
    let p = passes_one _ _ reading c.instructions.instructions c.next.new.self _ o c.in_ok-instruction.ensures c.in-Some.is in
    let x : Image = record { read = instruction_of reading o; kept = c.in_ok-kept.kept } in
    let same : to_z w64 (of_z w64 c.data_alignment_factor-factor.result) ≡ c.data_alignment_factor-factor.result = search rules in
    let offsets = same ∙ c.data_alignment_factor-factor.ensures ∙ ap (λ (k : ReadCie _ _). k.fields.data_alignment_factor) c.cie-3.ensures in
    let encoding = c.encoding-encoding.ensures ∙ ap (λ (k : ReadCie _ _). k.fields.encoding) c.cie.ensures in
    let factor = c.args.read.now.cie.fields.code_alignment_factor in
    let code : c.code_alignment_factor-code_factor.result ≡ factor = c.code_alignment_factor-code_factor.ensures ∙ ap (λ (k : ReadCie _ _). k.fields.code_alignment_factor) c.cie-2.ensures in
    let way = ap₂ (λ (n m : ℕ). n + m) i.offset (ap (λ (n : ℕ). advance n (instruction_of reading o)) code) in
    let at : c.in_ok-offset.offset ≡ behind factor 0 i.images + advance factor x.read = the_number _ _ c.in_ok-offset.ensures ∙ way in
    record {
      images = i.images ++ x ∷ [];
      stands = stands_more _ _ reading _ _ _ c.instructions.instructions c.next.new.self i.images i.stands o p c.in_ok-kept.kept (by_terms _ _ _ _ _ _ _ _ encoding offsets c.in_ok-kept.ensures.ok);
      offset = at ∙ sym (behind_more factor 0 i.images x);
      fits = below_32 _ _ c.in_ok-offset.ensures;
      kept = c.in_ok-keep.ensures.ok ∙ ap (λ (l : List Step). l ++ steps_at c.in_ok-offset.offset x.kept) i.kept ∙ ap (λ (n : ℕ). kept_steps factor 0 i.images ++ steps_at n x.kept) at ∙ sym (steps_more factor 0 i.images x);
      head = same_fde_head _ _ c.instructions.fde c.keep.new.fde c.in_ok-keep.ensures.others i.head;
    }

pub instructions-smaller : goal.instructions-smaller
instructions-smaller g c =
    let reading = g.R.Reader.reading in
    let is = g.met.R.Reader.is_reading in
    let p = passes_one _ _ reading c.instructions.instructions c.next.new.self _ c.in-Some.instruction c.in_ok-instruction.ensures c.in-Some.is in
    fewer_left _ _ (reading c.instructions.instructions.input) (reading c.next.new.self.input) _ (is c.instructions.instructions.input) (is c.next.new.self.input) p.instruction p.progress

pub returns-in_err-instruction-clause-err : goal.returns-in_err-instruction-clause-err
returns-in_err-instruction-clause-err g c =
    let reading = g.R.Reader.reading in
    let i = c.instructions.invariant in
    let why = c.in_err-instruction.field-0.0 in
    let e : c.from_residual-in_err-instruction.result ≡ Err (from_read why) = is_err _ _ c.from_residual-in_err-instruction.ensures in
    rw e (inr (inr (record {
      images = i.images;
      rest = left (reading c.instructions.instructions.input);
      begun = i.stands.begun;
      fits = subst (λ (n : ℕ). n < 2 ^ 32) i.offset i.fits;
      cause = inl (stands_missing _ _ reading _ _ _ c.instructions.instructions c.next.new.self i.images i.stands why c.in_err-instruction.ensures);
    })))

pub returns-in_err-offset-clause-err : goal.returns-in_err-offset-clause-err
returns-in_err-offset-clause-err g c =
    let reading = g.R.Reader.reading in
    let i = c.instructions.invariant in
    let o = c.in-Some.instruction in
    let p = passes_one _ _ reading c.instructions.instructions c.next.new.self _ o c.in_ok-instruction.ensures c.in-Some.is in
    let why = c.in_err-offset.field-0.0 in
    let factor = c.args.read.now.cie.fields.code_alignment_factor in
    let code : c.code_alignment_factor-code_factor.result ≡ factor = c.code_alignment_factor-code_factor.ensures ∙ ap (λ (k : ReadCie _ _). k.fields.code_alignment_factor) c.cie-2.ensures in
    let way = ap₂ (λ (n m : ℕ). n + m) i.offset (ap (λ (n : ℕ). advance n (instruction_of reading o)) code) in
    let e : c.from_residual-in_err-offset.result ≡ Err why = is_err _ _ c.from_residual-in_err-offset.ensures in
    rw e (inr (inr (record {
      images = i.images;
      rest = left (reading c.instructions.instructions.input);
      begun = i.stands.begun;
      fits = subst (λ (n : ℕ). n < 2 ^ 32) i.offset i.fits;
      cause = inr (inr (record {
        instruction = instruction_of reading o;
        next = left (reading c.next.new.self.input);
        read = read_here _ _ reading _ _ _ c.instructions.instructions c.next.new.self i.images i.stands o p;
        past = sym (c.in_err-offset.ensures ∙ ap in_u32 way);
      }));
    })))

pub returns-in_err-kept-clause-err : goal.returns-in_err-kept-clause-err
returns-in_err-kept-clause-err g c =
    let reading = g.R.Reader.reading in
    let i = c.instructions.invariant in
    let o = c.in-Some.instruction in
    let p = passes_one _ _ reading c.instructions.instructions c.next.new.self _ o c.in_ok-instruction.ensures c.in-Some.is in
    let why = c.in_err-kept.field-0.0 in
    let same : to_z w64 (of_z w64 c.data_alignment_factor-factor.result) ≡ c.data_alignment_factor-factor.result = search rules in
    let offsets = same ∙ c.data_alignment_factor-factor.ensures ∙ ap (λ (k : ReadCie _ _). k.fields.data_alignment_factor) c.cie-3.ensures in
    let encoding = c.encoding-encoding.ensures ∙ ap (λ (k : ReadCie _ _). k.fields.encoding) c.cie.ensures in
    let e : c.from_residual-in_err-kept.result ≡ Err why = is_err _ _ c.from_residual-in_err-kept.ensures in
    rw e (⊎_elim (λ n. inl n) (λ h. inr (inr (record {
      images = i.images;
      rest = left (reading c.instructions.instructions.input);
      begun = i.stands.begun;
      fits = subst (λ (n : ℕ). n < 2 ^ 32) i.offset i.fits;
      cause = inr (inl (stands_failing _ _ reading _ _ _ c.instructions.instructions c.next.new.self i.images i.stands o p why (by_terms _ _ _ _ _ _ _ _ encoding offsets h)));
    }))) c.in_err-kept.ensures.err)

pub returns-in_err-fde-clause-err : goal.returns-in_err-fde-clause-err
returns-in_err-fde-clause-err g c =
    let e : c.from_residual.result ≡ Err c.in_err-fde.field-0.0 = is_err _ _ c.from_residual.ensures in
    rw e (inr (inl c.in_err-fde.ensures.err))

pub returns-in_err-keep-clause-err : goal.returns-in_err-keep-clause-err
returns-in_err-keep-clause-err g c =
    let e : c.from_residual-in_err-keep.result ≡ Err c.in_err-keep.field-0.0 = is_err _ _ c.from_residual-in_err-keep.ensures in
    rw e (inl c.in_err-keep.ensures.err)

pub returns-clause-ok : goal.returns-clause-ok
returns-clause-ok g c =
    let reading = g.R.Reader.reading in
    let i = c.instructions.invariant in
    record {
      head = i.head;
      steps = record {
        images = i.images;
        begun = stands_last _ _ reading _ _ _ c.instructions.instructions c.next.new.self i.images i.stands (is_over _ _ reading c.instructions.instructions c.next.new.self _ c.in_ok-instruction.ensures c.in_default.is);
        fits = subst (λ (n : ℕ). n < 2 ^ 32) i.offset i.fits;
        is = i.kept;
      };
    }

pub returns-in_err-fde-clause-ok : goal.returns-in_err-fde-clause-ok
returns-in_err-fde-clause-ok g c = rw (is_err _ _ c.from_residual.ensures) tt

pub returns-in_err-instruction-clause-ok : goal.returns-in_err-instruction-clause-ok
returns-in_err-instruction-clause-ok g c = rw (is_err _ _ c.from_residual-in_err-instruction.ensures) tt

pub returns-in_err-kept-clause-ok : goal.returns-in_err-kept-clause-ok
returns-in_err-kept-clause-ok g c = rw (is_err _ _ c.from_residual-in_err-kept.ensures) tt

pub returns-in_err-keep-clause-ok : goal.returns-in_err-keep-clause-ok
returns-in_err-keep-clause-ok g c = rw (is_err _ _ c.from_residual-in_err-keep.ensures) tt

pub returns-clause-err : goal.returns-clause-err
returns-clause-err g c = tt

pub returns-in_err-offset-clause-ok : goal.returns-in_err-offset-clause-ok
returns-in_err-offset-clause-ok g c = rw (is_err _ _ c.from_residual-in_err-offset.ensures) tt
