use Rattle.std.proofs.Common.{ℕ, refl, arith}
use Rattle.std.proofs.lemmas.Result.{err_from_is_err_and}
use Rattle.dw_read.specs.Reasons.{number_read}
use Rattle.dw_sources.specs.Operations.{WasmLocal, WasmGlobal, WasmStack}
use Rattle.dw_sources.specs.Operands.{uleb32_read}
use Rattle.dw_sources.proofs.LocationLaws.{wasm_not, wasm_took, wasm_cut, wasm_unknown, number_after, number_not_after}
use Rattle.dw_sources.proofs.locations.read_wasm.Goals as goal

pub returns-in_err-kind-clause-err : goal.returns-in_err-kind-clause-err
returns-in_err-kind-clause-err g c =
    let p = err_from_is_err_and c.from_residual.result c.from_residual.ensures.1 in
    rw (p.1, p.2) (wasm_not _ _ _ c.in_err-kind.ensures.err.reason)

pub returns-in_default-clause-err : goal.returns-in_default-clause-err
returns-in_default-clause-err g c = wasm_unknown _ _ c.in_ok-kind.kind c.in_ok-kind.ensures.ok (omega arith) (omega arith) (omega arith) (omega arith)

pub returns-in_err-read_uleb32-in-0-clause-err : goal.returns-in_err-read_uleb32-in-0-clause-err
returns-in_err-read_uleb32-in-0-clause-err g c =
    let p = err_from_is_err_and c.from_residual-in_err-read_uleb32-in-0.result c.from_residual-in_err-read_uleb32-in-0.ensures.1 in
    rw (p.1, p.2) (wasm_cut _ _ c.in_ok-kind.kind c.in_ok-kind.ensures.ok 0 ℕ uleb32_read WasmLocal _ (omega arith) refl c.in_err-read_uleb32-in-0.ensures.err)

pub returns-in_ok-read_uleb32-in-0-clause-ok : goal.returns-in_ok-read_uleb32-in-0-clause-ok
returns-in_ok-read_uleb32-in-0-clause-ok g c = wasm_took _ _ c.in_ok-kind.kind c.in_ok-kind.ensures.ok 0 ℕ uleb32_read WasmLocal _ _ (omega arith) refl c.in_ok-read_uleb32-in-0.ensures.ok

pub returns-in_err-read_uleb32-in-1-clause-err : goal.returns-in_err-read_uleb32-in-1-clause-err
returns-in_err-read_uleb32-in-1-clause-err g c =
    let p = err_from_is_err_and c.from_residual-in_err-read_uleb32-in-1.result c.from_residual-in_err-read_uleb32-in-1.ensures.1 in
    rw (p.1, p.2) (wasm_cut _ _ c.in_ok-kind.kind c.in_ok-kind.ensures.ok 1 ℕ uleb32_read WasmGlobal _ (omega arith) refl c.in_err-read_uleb32-in-1.ensures.err)

pub returns-in_ok-read_uleb32-in-1-clause-ok : goal.returns-in_ok-read_uleb32-in-1-clause-ok
returns-in_ok-read_uleb32-in-1-clause-ok g c = wasm_took _ _ c.in_ok-kind.kind c.in_ok-kind.ensures.ok 1 ℕ uleb32_read WasmGlobal _ _ (omega arith) refl c.in_ok-read_uleb32-in-1.ensures.ok

pub returns-in_err-read_uleb32-in-2-clause-err : goal.returns-in_err-read_uleb32-in-2-clause-err
returns-in_err-read_uleb32-in-2-clause-err g c =
    let p = err_from_is_err_and c.from_residual-in_err-read_uleb32-in-2.result c.from_residual-in_err-read_uleb32-in-2.ensures.1 in
    rw (p.1, p.2) (wasm_cut _ _ c.in_ok-kind.kind c.in_ok-kind.ensures.ok 2 ℕ uleb32_read WasmStack _ (omega arith) refl c.in_err-read_uleb32-in-2.ensures.err)

pub returns-in_ok-read_uleb32-in-2-clause-ok : goal.returns-in_ok-read_uleb32-in-2-clause-ok
returns-in_ok-read_uleb32-in-2-clause-ok g c = wasm_took _ _ c.in_ok-kind.kind c.in_ok-kind.ensures.ok 2 ℕ uleb32_read WasmStack _ _ (omega arith) refl c.in_ok-read_uleb32-in-2.ensures.ok

pub returns-in_err-read_u32-in-3-clause-err : goal.returns-in_err-read_u32-in-3-clause-err
returns-in_err-read_u32-in-3-clause-err g c =
    let p = err_from_is_err_and c.from_residual-in_err-read_u32-in-3.result c.from_residual-in_err-read_u32-in-3.ensures.1 in
    let k = c.in_ok-kind.ensures.ok in
    rw (p.1, p.2) (wasm_cut _ _ c.in_ok-kind.kind k 3 ℕ (number_read (g.R.Reader.reading c.args.input.now).is_big 4) WasmGlobal _ (omega arith) refl (number_not_after _ _ c.in_ok-kind.kind k 4 _ c.in_err-read_u32-in-3.ensures.err.reason))

pub returns-in_ok-read_u32-in-3-clause-ok : goal.returns-in_ok-read_u32-in-3-clause-ok
returns-in_ok-read_u32-in-3-clause-ok g c =
    let k = c.in_ok-kind.ensures.ok in
    wasm_took _ _ c.in_ok-kind.kind k 3 ℕ (number_read (g.R.Reader.reading c.args.input.now).is_big 4) WasmGlobal _ _ (omega arith) refl (number_after _ _ c.in_ok-kind.kind k 4 _ _ c.in_ok-read_u32-in-3.ensures.ok)

pub returns-in_err-kind-clause-ok : goal.returns-in_err-kind-clause-ok
returns-in_err-kind-clause-ok g c = rw (err_from_is_err_and c.from_residual.result c.from_residual.ensures.1).1 tt

pub returns-in_err-kind-clause-parts : goal.returns-in_err-kind-clause-parts
returns-in_err-kind-clause-parts g c = rw (err_from_is_err_and c.from_residual.result c.from_residual.ensures.1).1 tt

pub returns-in_default-clause-ok : goal.returns-in_default-clause-ok
returns-in_default-clause-ok g c = tt

pub returns-in_default-clause-parts : goal.returns-in_default-clause-parts
returns-in_default-clause-parts g c = tt

pub returns-in_err-read_uleb32-in-0-clause-ok : goal.returns-in_err-read_uleb32-in-0-clause-ok
returns-in_err-read_uleb32-in-0-clause-ok g c = rw (err_from_is_err_and c.from_residual-in_err-read_uleb32-in-0.result c.from_residual-in_err-read_uleb32-in-0.ensures.1).1 tt

pub returns-in_err-read_uleb32-in-0-clause-parts : goal.returns-in_err-read_uleb32-in-0-clause-parts
returns-in_err-read_uleb32-in-0-clause-parts g c = rw (err_from_is_err_and c.from_residual-in_err-read_uleb32-in-0.result c.from_residual-in_err-read_uleb32-in-0.ensures.1).1 tt

pub returns-in_ok-read_uleb32-in-0-clause-err : goal.returns-in_ok-read_uleb32-in-0-clause-err
returns-in_ok-read_uleb32-in-0-clause-err g c = tt

pub returns-in_err-read_uleb32-in-1-clause-ok : goal.returns-in_err-read_uleb32-in-1-clause-ok
returns-in_err-read_uleb32-in-1-clause-ok g c = rw (err_from_is_err_and c.from_residual-in_err-read_uleb32-in-1.result c.from_residual-in_err-read_uleb32-in-1.ensures.1).1 tt

pub returns-in_err-read_uleb32-in-1-clause-parts : goal.returns-in_err-read_uleb32-in-1-clause-parts
returns-in_err-read_uleb32-in-1-clause-parts g c = rw (err_from_is_err_and c.from_residual-in_err-read_uleb32-in-1.result c.from_residual-in_err-read_uleb32-in-1.ensures.1).1 tt

pub returns-in_ok-read_uleb32-in-1-clause-err : goal.returns-in_ok-read_uleb32-in-1-clause-err
returns-in_ok-read_uleb32-in-1-clause-err g c = tt

pub returns-in_err-read_uleb32-in-2-clause-ok : goal.returns-in_err-read_uleb32-in-2-clause-ok
returns-in_err-read_uleb32-in-2-clause-ok g c = rw (err_from_is_err_and c.from_residual-in_err-read_uleb32-in-2.result c.from_residual-in_err-read_uleb32-in-2.ensures.1).1 tt

pub returns-in_err-read_uleb32-in-2-clause-parts : goal.returns-in_err-read_uleb32-in-2-clause-parts
returns-in_err-read_uleb32-in-2-clause-parts g c = rw (err_from_is_err_and c.from_residual-in_err-read_uleb32-in-2.result c.from_residual-in_err-read_uleb32-in-2.ensures.1).1 tt

pub returns-in_ok-read_uleb32-in-2-clause-err : goal.returns-in_ok-read_uleb32-in-2-clause-err
returns-in_ok-read_uleb32-in-2-clause-err g c = tt

pub returns-in_err-read_u32-in-3-clause-ok : goal.returns-in_err-read_u32-in-3-clause-ok
returns-in_err-read_u32-in-3-clause-ok g c = rw (err_from_is_err_and c.from_residual-in_err-read_u32-in-3.result c.from_residual-in_err-read_u32-in-3.ensures.1).1 tt

pub returns-in_err-read_u32-in-3-clause-parts : goal.returns-in_err-read_u32-in-3-clause-parts
returns-in_err-read_u32-in-3-clause-parts g c = rw (err_from_is_err_and c.from_residual-in_err-read_u32-in-3.result c.from_residual-in_err-read_u32-in-3.ensures.1).1 tt

pub returns-in_ok-read_u32-in-3-clause-err : goal.returns-in_ok-read_u32-in-3-clause-err
returns-in_ok-read_u32-in-3-clause-err g c = tt
