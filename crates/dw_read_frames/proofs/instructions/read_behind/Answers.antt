use Rattle.std.proofs.lemmas.Result.{err_from_is_err_and}
use Rattle.dw_read_frames.specs.Instructions.{place_row, coded_row, frame_row, rule_row}
use Rattle.dw_read_frames.specs.InstructionViews.{HoldsParts}
use Rattle.dw_read_frames.proofs.Steps.{took_none, took_some, if_some}
use Rattle.dw_read_frames.proofs.InstructionLaws.{still_begun, still_none, still_some, still_err, holds_after}
use Rattle.dw_read_frames.proofs.instructions.read_behind.Goals as goal

pub returns-in_err-instruction-clause-err : goal.returns-in_err-instruction-clause-err
returns-in_err-instruction-clause-err g c =
    let s1 = still_begun c.args.size c.args.encoding c.args.code.0 (g.R.Reader.reading c.args.input.now) (g.met.R.Reader.is_reading c.args.input.now) in
    let p = err_from_is_err_and c.from_residual.result c.from_residual.ensures.1 in
    rw (p.1, p.2) (still_err (λ b. place_row b c.args.size c.args.encoding (g.R.Reader.reading c.args.input.now).place c.args.code.0) _ _ _ _ s1 _ c.in_err-instruction.ensures.err)

pub returns-in-Some-clause-ok : goal.returns-in-Some-clause-ok
returns-in-Some-clause-ok g c =
    let s1 = still_begun c.args.size c.args.encoding c.args.code.0 (g.R.Reader.reading c.args.input.now) (g.met.R.Reader.is_reading c.args.input.now) in
    still_some (λ b. place_row b c.args.size c.args.encoding (g.R.Reader.reading c.args.input.now).place c.args.code.0) _ _ _ _ s1 _ _ (took_some _ _ _ _ _ _ _ _ c.in_ok-instruction.ensures.ok c.in-Some.is)

pub returns-in-Some-clause-parts : goal.returns-in-Some-clause-parts
returns-in-Some-clause-parts g c =
    let s1 = still_begun c.args.size c.args.encoding c.args.code.0 (g.R.Reader.reading c.args.input.now) (g.met.R.Reader.is_reading c.args.input.now) in
    holds_after g.R.Reader.reading _ _ c.in-Some.instruction s1.went (if_some _ (HoldsParts g.R.Reader.reading _) _ _ c.in_ok-instruction.ensures.parts c.in-Some.is)

pub returns-in_err-instruction-2-clause-err : goal.returns-in_err-instruction-2-clause-err
returns-in_err-instruction-2-clause-err g c =
    let s1 = still_begun c.args.size c.args.encoding c.args.code.0 (g.R.Reader.reading c.args.input.now) (g.met.R.Reader.is_reading c.args.input.now) in
    let s2 = still_none (λ b. place_row b c.args.size c.args.encoding (g.R.Reader.reading c.args.input.now).place c.args.code.0) _ _ _ _ s1 _ (took_none _ _ _ _ _ _ _ c.in_ok-instruction.ensures.ok c.in_default.is) in
    let p = err_from_is_err_and c.from_residual-in_err-instruction-2.result c.from_residual-in_err-instruction-2.ensures.1 in
    rw (p.1, p.2) (still_err (λ b. coded_row c.args.code.0) _ _ _ _ s2 _ c.in_err-instruction-2.ensures.err)

pub returns-in-Some-2-clause-ok : goal.returns-in-Some-2-clause-ok
returns-in-Some-2-clause-ok g c =
    let s1 = still_begun c.args.size c.args.encoding c.args.code.0 (g.R.Reader.reading c.args.input.now) (g.met.R.Reader.is_reading c.args.input.now) in
    let s2 = still_none (λ b. place_row b c.args.size c.args.encoding (g.R.Reader.reading c.args.input.now).place c.args.code.0) _ _ _ _ s1 _ (took_none _ _ _ _ _ _ _ c.in_ok-instruction.ensures.ok c.in_default.is) in
    still_some (λ b. coded_row c.args.code.0) _ _ _ _ s2 _ _ (took_some _ _ _ _ _ _ _ _ c.in_ok-instruction-2.ensures.ok c.in-Some-2.is)

pub returns-in-Some-2-clause-parts : goal.returns-in-Some-2-clause-parts
returns-in-Some-2-clause-parts g c =
    let s1 = still_begun c.args.size c.args.encoding c.args.code.0 (g.R.Reader.reading c.args.input.now) (g.met.R.Reader.is_reading c.args.input.now) in
    let s2 = still_none (λ b. place_row b c.args.size c.args.encoding (g.R.Reader.reading c.args.input.now).place c.args.code.0) _ _ _ _ s1 _ (took_none _ _ _ _ _ _ _ c.in_ok-instruction.ensures.ok c.in_default.is) in
    holds_after g.R.Reader.reading _ _ c.in-Some-2.instruction s2.went (if_some _ (HoldsParts g.R.Reader.reading _) _ _ c.in_ok-instruction-2.ensures.parts c.in-Some-2.is)

pub returns-in_err-instruction-3-clause-err : goal.returns-in_err-instruction-3-clause-err
returns-in_err-instruction-3-clause-err g c =
    let s1 = still_begun c.args.size c.args.encoding c.args.code.0 (g.R.Reader.reading c.args.input.now) (g.met.R.Reader.is_reading c.args.input.now) in
    let s2 = still_none (λ b. place_row b c.args.size c.args.encoding (g.R.Reader.reading c.args.input.now).place c.args.code.0) _ _ _ _ s1 _ (took_none _ _ _ _ _ _ _ c.in_ok-instruction.ensures.ok c.in_default.is) in
    let s3 = still_none (λ b. coded_row c.args.code.0) _ _ _ _ s2 _ (took_none _ _ _ _ _ _ _ c.in_ok-instruction-2.ensures.ok c.in_default-2.is) in
    let p = err_from_is_err_and c.from_residual-in_err-instruction-3.result c.from_residual-in_err-instruction-3.ensures.1 in
    rw (p.1, p.2) (still_err (λ b. frame_row c.args.code.0) _ _ _ _ s3 _ c.in_err-instruction-3.ensures.err)

pub returns-in-Some-3-clause-ok : goal.returns-in-Some-3-clause-ok
returns-in-Some-3-clause-ok g c =
    let s1 = still_begun c.args.size c.args.encoding c.args.code.0 (g.R.Reader.reading c.args.input.now) (g.met.R.Reader.is_reading c.args.input.now) in
    let s2 = still_none (λ b. place_row b c.args.size c.args.encoding (g.R.Reader.reading c.args.input.now).place c.args.code.0) _ _ _ _ s1 _ (took_none _ _ _ _ _ _ _ c.in_ok-instruction.ensures.ok c.in_default.is) in
    let s3 = still_none (λ b. coded_row c.args.code.0) _ _ _ _ s2 _ (took_none _ _ _ _ _ _ _ c.in_ok-instruction-2.ensures.ok c.in_default-2.is) in
    still_some (λ b. frame_row c.args.code.0) _ _ _ _ s3 _ _ (took_some _ _ _ _ _ _ _ _ c.in_ok-instruction-3.ensures.ok c.in-Some-3.is)

pub returns-in-Some-3-clause-parts : goal.returns-in-Some-3-clause-parts
returns-in-Some-3-clause-parts g c =
    let s1 = still_begun c.args.size c.args.encoding c.args.code.0 (g.R.Reader.reading c.args.input.now) (g.met.R.Reader.is_reading c.args.input.now) in
    let s2 = still_none (λ b. place_row b c.args.size c.args.encoding (g.R.Reader.reading c.args.input.now).place c.args.code.0) _ _ _ _ s1 _ (took_none _ _ _ _ _ _ _ c.in_ok-instruction.ensures.ok c.in_default.is) in
    let s3 = still_none (λ b. coded_row c.args.code.0) _ _ _ _ s2 _ (took_none _ _ _ _ _ _ _ c.in_ok-instruction-2.ensures.ok c.in_default-2.is) in
    holds_after g.R.Reader.reading _ _ c.in-Some-3.instruction s3.went (if_some _ (HoldsParts g.R.Reader.reading _) _ _ c.in_ok-instruction-3.ensures.parts c.in-Some-3.is)

pub returns-in_err-instruction-4-clause-err : goal.returns-in_err-instruction-4-clause-err
returns-in_err-instruction-4-clause-err g c =
    let s1 = still_begun c.args.size c.args.encoding c.args.code.0 (g.R.Reader.reading c.args.input.now) (g.met.R.Reader.is_reading c.args.input.now) in
    let s2 = still_none (λ b. place_row b c.args.size c.args.encoding (g.R.Reader.reading c.args.input.now).place c.args.code.0) _ _ _ _ s1 _ (took_none _ _ _ _ _ _ _ c.in_ok-instruction.ensures.ok c.in_default.is) in
    let s3 = still_none (λ b. coded_row c.args.code.0) _ _ _ _ s2 _ (took_none _ _ _ _ _ _ _ c.in_ok-instruction-2.ensures.ok c.in_default-2.is) in
    let s4 = still_none (λ b. frame_row c.args.code.0) _ _ _ _ s3 _ (took_none _ _ _ _ _ _ _ c.in_ok-instruction-3.ensures.ok c.in_default-3.is) in
    let p = err_from_is_err_and c.from_residual-in_err-instruction-4.result c.from_residual-in_err-instruction-4.ensures.1 in
    rw (p.1, p.2) (still_err (λ b. rule_row c.args.code.0) _ _ _ _ s4 _ c.in_err-instruction-4.ensures.err)

pub returns-in-Some-4-clause-ok : goal.returns-in-Some-4-clause-ok
returns-in-Some-4-clause-ok g c =
    let s1 = still_begun c.args.size c.args.encoding c.args.code.0 (g.R.Reader.reading c.args.input.now) (g.met.R.Reader.is_reading c.args.input.now) in
    let s2 = still_none (λ b. place_row b c.args.size c.args.encoding (g.R.Reader.reading c.args.input.now).place c.args.code.0) _ _ _ _ s1 _ (took_none _ _ _ _ _ _ _ c.in_ok-instruction.ensures.ok c.in_default.is) in
    let s3 = still_none (λ b. coded_row c.args.code.0) _ _ _ _ s2 _ (took_none _ _ _ _ _ _ _ c.in_ok-instruction-2.ensures.ok c.in_default-2.is) in
    let s4 = still_none (λ b. frame_row c.args.code.0) _ _ _ _ s3 _ (took_none _ _ _ _ _ _ _ c.in_ok-instruction-3.ensures.ok c.in_default-3.is) in
    still_some (λ b. rule_row c.args.code.0) _ _ _ _ s4 _ _ (took_some _ _ _ _ _ _ _ _ c.in_ok-instruction-4.ensures.ok c.in-Some-4.is)

pub returns-in-Some-4-clause-parts : goal.returns-in-Some-4-clause-parts
returns-in-Some-4-clause-parts g c =
    let s1 = still_begun c.args.size c.args.encoding c.args.code.0 (g.R.Reader.reading c.args.input.now) (g.met.R.Reader.is_reading c.args.input.now) in
    let s2 = still_none (λ b. place_row b c.args.size c.args.encoding (g.R.Reader.reading c.args.input.now).place c.args.code.0) _ _ _ _ s1 _ (took_none _ _ _ _ _ _ _ c.in_ok-instruction.ensures.ok c.in_default.is) in
    let s3 = still_none (λ b. coded_row c.args.code.0) _ _ _ _ s2 _ (took_none _ _ _ _ _ _ _ c.in_ok-instruction-2.ensures.ok c.in_default-2.is) in
    let s4 = still_none (λ b. frame_row c.args.code.0) _ _ _ _ s3 _ (took_none _ _ _ _ _ _ _ c.in_ok-instruction-3.ensures.ok c.in_default-3.is) in
    holds_after g.R.Reader.reading _ _ c.in-Some-4.instruction s4.went (if_some _ (HoldsParts g.R.Reader.reading _) _ _ c.in_ok-instruction-4.ensures.parts c.in-Some-4.is)

pub returns-clause-err : goal.returns-clause-err
returns-clause-err g c =
    let s1 = still_begun c.args.size c.args.encoding c.args.code.0 (g.R.Reader.reading c.args.input.now) (g.met.R.Reader.is_reading c.args.input.now) in
    let s2 = still_none (λ b. place_row b c.args.size c.args.encoding (g.R.Reader.reading c.args.input.now).place c.args.code.0) _ _ _ _ s1 _ (took_none _ _ _ _ _ _ _ c.in_ok-instruction.ensures.ok c.in_default.is) in
    let s3 = still_none (λ b. coded_row c.args.code.0) _ _ _ _ s2 _ (took_none _ _ _ _ _ _ _ c.in_ok-instruction-2.ensures.ok c.in_default-2.is) in
    let s4 = still_none (λ b. frame_row c.args.code.0) _ _ _ _ s3 _ (took_none _ _ _ _ _ _ _ c.in_ok-instruction-3.ensures.ok c.in_default-3.is) in
    let s5 = still_none (λ b. rule_row c.args.code.0) _ _ _ _ s4 _ (took_none _ _ _ _ _ _ _ c.in_ok-instruction-4.ensures.ok c.in_default-4.is) in
    s5.same
