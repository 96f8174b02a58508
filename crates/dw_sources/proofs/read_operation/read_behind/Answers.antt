use Rattle.std.proofs.lemmas.Result.{err_from_is_err_and}
use Rattle.dw_sources.specs.OperationTable.{literals, stack_operations, entry_operations, typed_operations, locations}
use Rattle.dw_sources.specs.OperationViews.{HoldsParts}
use Rattle.dw_sources.proofs.ReadLaws.{still_begun, still_none, still_some, still_err, behind_plain, took_none, took_some, plain_none, plain_some, if_some, holds_after}
use Rattle.dw_sources.proofs.read_operation.read_behind.Goals as goal

pub returns-in-Some-clause-ok : goal.returns-in-Some-clause-ok
returns-in-Some-clause-ok g c = behind_plain c.args.encoding c.args.opcode.0 (g.R.Reader.reading c.args.input.now) _ (g.met.R.Reader.is_reading c.args.input.now) (plain_some _ _ _ _ _ _ c.plain_operation.ensures.is c.in-Some.is)

pub returns-in-Some-clause-parts : goal.returns-in-Some-clause-parts
returns-in-Some-clause-parts g c = if_some _ (HoldsParts g.R.Reader.reading (g.R.Reader.reading c.args.input.now)) _ _ (c.plain_operation.ensures.parts (g.R.Reader.reading c.args.input.now)) c.in-Some.is

pub returns-in_err-operation-clause-err : goal.returns-in_err-operation-clause-err
returns-in_err-operation-clause-err g c =
    let s1 = still_begun c.args.encoding c.args.opcode.0 (g.R.Reader.reading c.args.input.now) (g.met.R.Reader.is_reading c.args.input.now) (plain_none _ _ _ _ _ c.plain_operation.ensures.is c.in_default.is) in
    let p = err_from_is_err_and c.from_residual.result c.from_residual.ensures.1 in
    rw (p.1, p.2) (still_err (λ b. literals b c.args.encoding c.args.opcode.0) _ _ _ _ s1 _ c.in_err-operation.ensures.err)

pub returns-in-Some-2-clause-ok : goal.returns-in-Some-2-clause-ok
returns-in-Some-2-clause-ok g c =
    let s1 = still_begun c.args.encoding c.args.opcode.0 (g.R.Reader.reading c.args.input.now) (g.met.R.Reader.is_reading c.args.input.now) (plain_none _ _ _ _ _ c.plain_operation.ensures.is c.in_default.is) in
    still_some (λ b. literals b c.args.encoding c.args.opcode.0) _ _ _ _ s1 _ _ (took_some _ _ _ _ _ _ _ _ c.in_ok-operation.ensures.ok c.in-Some-2.is)

pub returns-in-Some-2-clause-parts : goal.returns-in-Some-2-clause-parts
returns-in-Some-2-clause-parts g c =
    let s1 = still_begun c.args.encoding c.args.opcode.0 (g.R.Reader.reading c.args.input.now) (g.met.R.Reader.is_reading c.args.input.now) (plain_none _ _ _ _ _ c.plain_operation.ensures.is c.in_default.is) in
    holds_after g.R.Reader.reading _ _ c.in-Some-2.operation s1.went (if_some _ (HoldsParts g.R.Reader.reading _) _ _ c.in_ok-operation.ensures.parts c.in-Some-2.is)

pub returns-in_err-operation-2-clause-err : goal.returns-in_err-operation-2-clause-err
returns-in_err-operation-2-clause-err g c =
    let s1 = still_begun c.args.encoding c.args.opcode.0 (g.R.Reader.reading c.args.input.now) (g.met.R.Reader.is_reading c.args.input.now) (plain_none _ _ _ _ _ c.plain_operation.ensures.is c.in_default.is) in
    let s2 = still_none (λ b. literals b c.args.encoding c.args.opcode.0) _ _ _ _ s1 _ (took_none _ _ _ _ _ _ _ c.in_ok-operation.ensures.ok c.in_default-2.is) in
    let p = err_from_is_err_and c.from_residual-in_err-operation-2.result c.from_residual-in_err-operation-2.ensures.1 in
    rw (p.1, p.2) (still_err (λ b. stack_operations b c.args.encoding c.args.opcode.0) _ _ _ _ s2 _ c.in_err-operation-2.ensures.err)

pub returns-in-Some-3-clause-ok : goal.returns-in-Some-3-clause-ok
returns-in-Some-3-clause-ok g c =
    let s1 = still_begun c.args.encoding c.args.opcode.0 (g.R.Reader.reading c.args.input.now) (g.met.R.Reader.is_reading c.args.input.now) (plain_none _ _ _ _ _ c.plain_operation.ensures.is c.in_default.is) in
    let s2 = still_none (λ b. literals b c.args.encoding c.args.opcode.0) _ _ _ _ s1 _ (took_none _ _ _ _ _ _ _ c.in_ok-operation.ensures.ok c.in_default-2.is) in
    still_some (λ b. stack_operations b c.args.encoding c.args.opcode.0) _ _ _ _ s2 _ _ (took_some _ _ _ _ _ _ _ _ c.in_ok-operation-2.ensures.ok c.in-Some-3.is)

pub returns-in-Some-3-clause-parts : goal.returns-in-Some-3-clause-parts
returns-in-Some-3-clause-parts g c =
    let s1 = still_begun c.args.encoding c.args.opcode.0 (g.R.Reader.reading c.args.input.now) (g.met.R.Reader.is_reading c.args.input.now) (plain_none _ _ _ _ _ c.plain_operation.ensures.is c.in_default.is) in
    let s2 = still_none (λ b. literals b c.args.encoding c.args.opcode.0) _ _ _ _ s1 _ (took_none _ _ _ _ _ _ _ c.in_ok-operation.ensures.ok c.in_default-2.is) in
    holds_after g.R.Reader.reading _ _ c.in-Some-3.operation s2.went (if_some _ (HoldsParts g.R.Reader.reading _) _ _ c.in_ok-operation-2.ensures.parts c.in-Some-3.is)

pub returns-in_err-operation-3-clause-err : goal.returns-in_err-operation-3-clause-err
returns-in_err-operation-3-clause-err g c =
    let s1 = still_begun c.args.encoding c.args.opcode.0 (g.R.Reader.reading c.args.input.now) (g.met.R.Reader.is_reading c.args.input.now) (plain_none _ _ _ _ _ c.plain_operation.ensures.is c.in_default.is) in
    let s2 = still_none (λ b. literals b c.args.encoding c.args.opcode.0) _ _ _ _ s1 _ (took_none _ _ _ _ _ _ _ c.in_ok-operation.ensures.ok c.in_default-2.is) in
    let s3 = still_none (λ b. stack_operations b c.args.encoding c.args.opcode.0) _ _ _ _ s2 _ (took_none _ _ _ _ _ _ _ c.in_ok-operation-2.ensures.ok c.in_default-3.is) in
    let p = err_from_is_err_and c.from_residual-in_err-operation-3.result c.from_residual-in_err-operation-3.ensures.1 in
    rw (p.1, p.2) (still_err (λ b. entry_operations b c.args.encoding c.args.opcode.0) _ _ _ _ s3 _ c.in_err-operation-3.ensures.err)

pub returns-in-Some-4-clause-ok : goal.returns-in-Some-4-clause-ok
returns-in-Some-4-clause-ok g c =
    let s1 = still_begun c.args.encoding c.args.opcode.0 (g.R.Reader.reading c.args.input.now) (g.met.R.Reader.is_reading c.args.input.now) (plain_none _ _ _ _ _ c.plain_operation.ensures.is c.in_default.is) in
    let s2 = still_none (λ b. literals b c.args.encoding c.args.opcode.0) _ _ _ _ s1 _ (took_none _ _ _ _ _ _ _ c.in_ok-operation.ensures.ok c.in_default-2.is) in
    let s3 = still_none (λ b. stack_operations b c.args.encoding c.args.opcode.0) _ _ _ _ s2 _ (took_none _ _ _ _ _ _ _ c.in_ok-operation-2.ensures.ok c.in_default-3.is) in
    still_some (λ b. entry_operations b c.args.encoding c.args.opcode.0) _ _ _ _ s3 _ _ (took_some _ _ _ _ _ _ _ _ c.in_ok-operation-3.ensures.ok c.in-Some-4.is)

pub returns-in-Some-4-clause-parts : goal.returns-in-Some-4-clause-parts
returns-in-Some-4-clause-parts g c =
    let s1 = still_begun c.args.encoding c.args.opcode.0 (g.R.Reader.reading c.args.input.now) (g.met.R.Reader.is_reading c.args.input.now) (plain_none _ _ _ _ _ c.plain_operation.ensures.is c.in_default.is) in
    let s2 = still_none (λ b. literals b c.args.encoding c.args.opcode.0) _ _ _ _ s1 _ (took_none _ _ _ _ _ _ _ c.in_ok-operation.ensures.ok c.in_default-2.is) in
    let s3 = still_none (λ b. stack_operations b c.args.encoding c.args.opcode.0) _ _ _ _ s2 _ (took_none _ _ _ _ _ _ _ c.in_ok-operation-2.ensures.ok c.in_default-3.is) in
    holds_after g.R.Reader.reading _ _ c.in-Some-4.operation s3.went (if_some _ (HoldsParts g.R.Reader.reading _) _ _ c.in_ok-operation-3.ensures.parts c.in-Some-4.is)

pub returns-in_err-operation-4-clause-err : goal.returns-in_err-operation-4-clause-err
returns-in_err-operation-4-clause-err g c =
    let s1 = still_begun c.args.encoding c.args.opcode.0 (g.R.Reader.reading c.args.input.now) (g.met.R.Reader.is_reading c.args.input.now) (plain_none _ _ _ _ _ c.plain_operation.ensures.is c.in_default.is) in
    let s2 = still_none (λ b. literals b c.args.encoding c.args.opcode.0) _ _ _ _ s1 _ (took_none _ _ _ _ _ _ _ c.in_ok-operation.ensures.ok c.in_default-2.is) in
    let s3 = still_none (λ b. stack_operations b c.args.encoding c.args.opcode.0) _ _ _ _ s2 _ (took_none _ _ _ _ _ _ _ c.in_ok-operation-2.ensures.ok c.in_default-3.is) in
    let s4 = still_none (λ b. entry_operations b c.args.encoding c.args.opcode.0) _ _ _ _ s3 _ (took_none _ _ _ _ _ _ _ c.in_ok-operation-3.ensures.ok c.in_default-4.is) in
    let p = err_from_is_err_and c.from_residual-in_err-operation-4.result c.from_residual-in_err-operation-4.ensures.1 in
    rw (p.1, p.2) (still_err (λ b. typed_operations b c.args.encoding c.args.opcode.0) _ _ _ _ s4 _ c.in_err-operation-4.ensures.err)

pub returns-in-Some-5-clause-ok : goal.returns-in-Some-5-clause-ok
returns-in-Some-5-clause-ok g c =
    let s1 = still_begun c.args.encoding c.args.opcode.0 (g.R.Reader.reading c.args.input.now) (g.met.R.Reader.is_reading c.args.input.now) (plain_none _ _ _ _ _ c.plain_operation.ensures.is c.in_default.is) in
    let s2 = still_none (λ b. literals b c.args.encoding c.args.opcode.0) _ _ _ _ s1 _ (took_none _ _ _ _ _ _ _ c.in_ok-operation.ensures.ok c.in_default-2.is) in
    let s3 = still_none (λ b. stack_operations b c.args.encoding c.args.opcode.0) _ _ _ _ s2 _ (took_none _ _ _ _ _ _ _ c.in_ok-operation-2.ensures.ok c.in_default-3.is) in
    let s4 = still_none (λ b. entry_operations b c.args.encoding c.args.opcode.0) _ _ _ _ s3 _ (took_none _ _ _ _ _ _ _ c.in_ok-operation-3.ensures.ok c.in_default-4.is) in
    still_some (λ b. typed_operations b c.args.encoding c.args.opcode.0) _ _ _ _ s4 _ _ (took_some _ _ _ _ _ _ _ _ c.in_ok-operation-4.ensures.ok c.in-Some-5.is)

pub returns-in-Some-5-clause-parts : goal.returns-in-Some-5-clause-parts
returns-in-Some-5-clause-parts g c =
    let s1 = still_begun c.args.encoding c.args.opcode.0 (g.R.Reader.reading c.args.input.now) (g.met.R.Reader.is_reading c.args.input.now) (plain_none _ _ _ _ _ c.plain_operation.ensures.is c.in_default.is) in
    let s2 = still_none (λ b. literals b c.args.encoding c.args.opcode.0) _ _ _ _ s1 _ (took_none _ _ _ _ _ _ _ c.in_ok-operation.ensures.ok c.in_default-2.is) in
    let s3 = still_none (λ b. stack_operations b c.args.encoding c.args.opcode.0) _ _ _ _ s2 _ (took_none _ _ _ _ _ _ _ c.in_ok-operation-2.ensures.ok c.in_default-3.is) in
    let s4 = still_none (λ b. entry_operations b c.args.encoding c.args.opcode.0) _ _ _ _ s3 _ (took_none _ _ _ _ _ _ _ c.in_ok-operation-3.ensures.ok c.in_default-4.is) in
    holds_after g.R.Reader.reading _ _ c.in-Some-5.operation s4.went (if_some _ (HoldsParts g.R.Reader.reading _) _ _ c.in_ok-operation-4.ensures.parts c.in-Some-5.is)

pub returns-in_err-operation-5-clause-err : goal.returns-in_err-operation-5-clause-err
returns-in_err-operation-5-clause-err g c =
    let s1 = still_begun c.args.encoding c.args.opcode.0 (g.R.Reader.reading c.args.input.now) (g.met.R.Reader.is_reading c.args.input.now) (plain_none _ _ _ _ _ c.plain_operation.ensures.is c.in_default.is) in
    let s2 = still_none (λ b. literals b c.args.encoding c.args.opcode.0) _ _ _ _ s1 _ (took_none _ _ _ _ _ _ _ c.in_ok-operation.ensures.ok c.in_default-2.is) in
    let s3 = still_none (λ b. stack_operations b c.args.encoding c.args.opcode.0) _ _ _ _ s2 _ (took_none _ _ _ _ _ _ _ c.in_ok-operation-2.ensures.ok c.in_default-3.is) in
    let s4 = still_none (λ b. entry_operations b c.args.encoding c.args.opcode.0) _ _ _ _ s3 _ (took_none _ _ _ _ _ _ _ c.in_ok-operation-3.ensures.ok c.in_default-4.is) in
    let s5 = still_none (λ b. typed_operations b c.args.encoding c.args.opcode.0) _ _ _ _ s4 _ (took_none _ _ _ _ _ _ _ c.in_ok-operation-4.ensures.ok c.in_default-5.is) in
    let p = err_from_is_err_and c.from_residual-in_err-operation-5.result c.from_residual-in_err-operation-5.ensures.1 in
    rw (p.1, p.2) (still_err (λ b. locations b c.args.encoding c.args.opcode.0) _ _ _ _ s5 _ c.in_err-operation-5.ensures.err)

pub returns-in-Some-6-clause-ok : goal.returns-in-Some-6-clause-ok
returns-in-Some-6-clause-ok g c =
    let s1 = still_begun c.args.encoding c.args.opcode.0 (g.R.Reader.reading c.args.input.now) (g.met.R.Reader.is_reading c.args.input.now) (plain_none _ _ _ _ _ c.plain_operation.ensures.is c.in_default.is) in
    let s2 = still_none (λ b. literals b c.args.encoding c.args.opcode.0) _ _ _ _ s1 _ (took_none _ _ _ _ _ _ _ c.in_ok-operation.ensures.ok c.in_default-2.is) in
    let s3 = still_none (λ b. stack_operations b c.args.encoding c.args.opcode.0) _ _ _ _ s2 _ (took_none _ _ _ _ _ _ _ c.in_ok-operation-2.ensures.ok c.in_default-3.is) in
    let s4 = still_none (λ b. entry_operations b c.args.encoding c.args.opcode.0) _ _ _ _ s3 _ (took_none _ _ _ _ _ _ _ c.in_ok-operation-3.ensures.ok c.in_default-4.is) in
    let s5 = still_none (λ b. typed_operations b c.args.encoding c.args.opcode.0) _ _ _ _ s4 _ (took_none _ _ _ _ _ _ _ c.in_ok-operation-4.ensures.ok c.in_default-5.is) in
    still_some (λ b. locations b c.args.encoding c.args.opcode.0) _ _ _ _ s5 _ _ (took_some _ _ _ _ _ _ _ _ c.in_ok-operation-5.ensures.ok c.in-Some-6.is)

pub returns-in-Some-6-clause-parts : goal.returns-in-Some-6-clause-parts
returns-in-Some-6-clause-parts g c =
    let s1 = still_begun c.args.encoding c.args.opcode.0 (g.R.Reader.reading c.args.input.now) (g.met.R.Reader.is_reading c.args.input.now) (plain_none _ _ _ _ _ c.plain_operation.ensures.is c.in_default.is) in
    let s2 = still_none (λ b. literals b c.args.encoding c.args.opcode.0) _ _ _ _ s1 _ (took_none _ _ _ _ _ _ _ c.in_ok-operation.ensures.ok c.in_default-2.is) in
    let s3 = still_none (λ b. stack_operations b c.args.encoding c.args.opcode.0) _ _ _ _ s2 _ (took_none _ _ _ _ _ _ _ c.in_ok-operation-2.ensures.ok c.in_default-3.is) in
    let s4 = still_none (λ b. entry_operations b c.args.encoding c.args.opcode.0) _ _ _ _ s3 _ (took_none _ _ _ _ _ _ _ c.in_ok-operation-3.ensures.ok c.in_default-4.is) in
    let s5 = still_none (λ b. typed_operations b c.args.encoding c.args.opcode.0) _ _ _ _ s4 _ (took_none _ _ _ _ _ _ _ c.in_ok-operation-4.ensures.ok c.in_default-5.is) in
    holds_after g.R.Reader.reading _ _ c.in-Some-6.operation s5.went (if_some _ (HoldsParts g.R.Reader.reading _) _ _ c.in_ok-operation-5.ensures.parts c.in-Some-6.is)

pub returns-clause-err : goal.returns-clause-err
returns-clause-err g c =
    let s1 = still_begun c.args.encoding c.args.opcode.0 (g.R.Reader.reading c.args.input.now) (g.met.R.Reader.is_reading c.args.input.now) (plain_none _ _ _ _ _ c.plain_operation.ensures.is c.in_default.is) in
    let s2 = still_none (λ b. literals b c.args.encoding c.args.opcode.0) _ _ _ _ s1 _ (took_none _ _ _ _ _ _ _ c.in_ok-operation.ensures.ok c.in_default-2.is) in
    let s3 = still_none (λ b. stack_operations b c.args.encoding c.args.opcode.0) _ _ _ _ s2 _ (took_none _ _ _ _ _ _ _ c.in_ok-operation-2.ensures.ok c.in_default-3.is) in
    let s4 = still_none (λ b. entry_operations b c.args.encoding c.args.opcode.0) _ _ _ _ s3 _ (took_none _ _ _ _ _ _ _ c.in_ok-operation-3.ensures.ok c.in_default-4.is) in
    let s5 = still_none (λ b. typed_operations b c.args.encoding c.args.opcode.0) _ _ _ _ s4 _ (took_none _ _ _ _ _ _ _ c.in_ok-operation-4.ensures.ok c.in_default-5.is) in
    let s6 = still_none (λ b. locations b c.args.encoding c.args.opcode.0) _ _ _ _ s5 _ (took_none _ _ _ _ _ _ _ c.in_ok-operation-5.ensures.ok c.in_default-6.is) in
    s6.same

pub returns-in-Some-clause-err : goal.returns-in-Some-clause-err
returns-in-Some-clause-err g c = tt

pub returns-in_err-operation-clause-ok : goal.returns-in_err-operation-clause-ok
returns-in_err-operation-clause-ok g c = rw (err_from_is_err_and c.from_residual.result c.from_residual.ensures.1).1 tt

pub returns-in_err-operation-clause-parts : goal.returns-in_err-operation-clause-parts
returns-in_err-operation-clause-parts g c = rw (err_from_is_err_and c.from_residual.result c.from_residual.ensures.1).1 tt

pub returns-in-Some-2-clause-err : goal.returns-in-Some-2-clause-err
returns-in-Some-2-clause-err g c = tt

pub returns-in_err-operation-2-clause-ok : goal.returns-in_err-operation-2-clause-ok
returns-in_err-operation-2-clause-ok g c = rw (err_from_is_err_and c.from_residual-in_err-operation-2.result c.from_residual-in_err-operation-2.ensures.1).1 tt

pub returns-in_err-operation-2-clause-parts : goal.returns-in_err-operation-2-clause-parts
returns-in_err-operation-2-clause-parts g c = rw (err_from_is_err_and c.from_residual-in_err-operation-2.result c.from_residual-in_err-operation-2.ensures.1).1 tt

pub returns-in-Some-3-clause-err : goal.returns-in-Some-3-clause-err
returns-in-Some-3-clause-err g c = tt

pub returns-in_err-operation-3-clause-ok : goal.returns-in_err-operation-3-clause-ok
returns-in_err-operation-3-clause-ok g c = rw (err_from_is_err_and c.from_residual-in_err-operation-3.result c.from_residual-in_err-operation-3.ensures.1).1 tt

pub returns-in_err-operation-3-clause-parts : goal.returns-in_err-operation-3-clause-parts
returns-in_err-operation-3-clause-parts g c = rw (err_from_is_err_and c.from_residual-in_err-operation-3.result c.from_residual-in_err-operation-3.ensures.1).1 tt

pub returns-in-Some-4-clause-err : goal.returns-in-Some-4-clause-err
returns-in-Some-4-clause-err g c = tt

pub returns-in_err-operation-4-clause-ok : goal.returns-in_err-operation-4-clause-ok
returns-in_err-operation-4-clause-ok g c = rw (err_from_is_err_and c.from_residual-in_err-operation-4.result c.from_residual-in_err-operation-4.ensures.1).1 tt

pub returns-in_err-operation-4-clause-parts : goal.returns-in_err-operation-4-clause-parts
returns-in_err-operation-4-clause-parts g c = rw (err_from_is_err_and c.from_residual-in_err-operation-4.result c.from_residual-in_err-operation-4.ensures.1).1 tt

pub returns-in-Some-5-clause-err : goal.returns-in-Some-5-clause-err
returns-in-Some-5-clause-err g c = tt

pub returns-in_err-operation-5-clause-ok : goal.returns-in_err-operation-5-clause-ok
returns-in_err-operation-5-clause-ok g c = rw (err_from_is_err_and c.from_residual-in_err-operation-5.result c.from_residual-in_err-operation-5.ensures.1).1 tt

pub returns-in_err-operation-5-clause-parts : goal.returns-in_err-operation-5-clause-parts
returns-in_err-operation-5-clause-parts g c = rw (err_from_is_err_and c.from_residual-in_err-operation-5.result c.from_residual-in_err-operation-5.ensures.1).1 tt

pub returns-in-Some-6-clause-err : goal.returns-in-Some-6-clause-err
returns-in-Some-6-clause-err g c = tt

pub returns-clause-parts : goal.returns-clause-parts
returns-clause-parts g c = tt
