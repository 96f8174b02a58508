use Rattle.std.proofs.Common.{◌∙◌, ◌+◌, ◌||◌, ◌<◌, ◌∷◌, [], take, drop, ap, sym, length, get_or, Bool, refl, Err}
use Rattle.std.specs.Prelude.{ℕ}
use Rattle.std.proofs.lemmas.Bool.{or_from, or_left, or_right}
use Rattle.std.proofs.lemmas.List.{at_drop_all, take_all}
use Rattle.std.proofs.lemmas.Result.{err_from_is_err_and}
use Rattle.dw_base.specs.declared.error.Error.{Error}
use Rattle.dw_writer.proofs.DraftLaws.{then-nothing}
use Rattle.dw_writer.proofs.Outcomes.{OnOk-map}
use Rattle.dw_writer.proofs.Steps.{IsSameWriter-trans}
use Rattle.dw_writer.proofs.WriteLaws.{Drafts-is, Drafts-then, Drafts-nothing}
use Rattle.dw_expr.specs.Operands.{node_operands, entry_value_code}
use Rattle.dw_expr.specs.Places.{known_by, place_by}
use Rattle.dw_expr.specs.Spelling.{bytes, parts_draft, operands_draft, node_part, parts_of, parts_size, expression_draft, expression_size}
use Rattle.dw_expr.specs.Causes.{size_fails, operands_fail, node_fails, nodes_fail, expression_fails}
use Rattle.dw_expr.specs.Views.{node_of, nodes_in}
use Rattle.dw_expr.proofs.WriteSteps.{Drafts-bytes, IsSameWriter-refl, refused_after, err_at, IfErr-more}
use Rattle.dw_expr.proofs.PartLaws.{ends_at, size_next, more_written, all_written, size_refused, starts_refused, other_draft, nested_draft, other_fails, code_fails, nested_fails_as, fails_next, bytes_refused}
use Rattle.dw_expr.proofs.op.write.+write.Goals as goal

-- One operation

pub write_operation-returns-in_err-write_operands-clause-err : goal.write_operation-returns-in_err-write_operands-clause-err
write_operation-returns-in_err-write_operands-clause-err g t c =
    let e = c.args.encoding in
    let known = known_by g.P.EntryPlaces.places c.args.places in
    let keeps = c.args.keeps in
    let meaning = g.W.Writer.meaning in
    let start = meaning c.args.w.now in
    let plain = start.is_plain in
    let S = c.args.starts.now in
    let to = c.args.end in
    let o = c.args.operation.now in
    let all : Error → Bool = node_fails e known keeps plain S to (node_of o) in
    let os = c.operands-operands.ensures in
    let p = err_from_is_err_and c.from_residual.result c.from_residual.ensures.1 in
    let err = c.in_err-write_operands.field-0.0 in
    err_at c.from_residual.result _ err (p.1 ∙ ap Err p.2)
    (refused_after start start (meaning c.write_operands.new.w) _ all (IsSameWriter-refl start)
    (λ err h. code_fails e known keeps plain (node_of o) S to err (sym (ap (λ l. operands_fail e known keeps plain S to l err) os) ∙ h)) err c.in_err-write_operands.ensures.err)

pub write_operation-returns-in_default-clause-ok : goal.write_operation-returns-in_default-clause-ok
write_operation-returns-in_default-clause-ok g t c =
    let e = c.args.encoding in
    let known = known_by g.P.EntryPlaces.places c.args.places in
    let keeps = c.args.keeps in
    let meaning = g.W.Writer.meaning in
    let start = meaning c.args.w.now in
    let plain = start.is_plain in
    let S = c.args.starts.now in
    let to = c.args.end in
    let o = c.args.operation.now in
    let all : Error → Bool = node_fails e known keeps plain S to (node_of o) in
    let os = c.operands-operands.ensures in
    Drafts-is c.in_ok-write_operands.ensures.ok (ap (operands_draft e (place_by known) S to) os ∙ other_draft e known o S to c.in_default.not-EntryValue)

pub write_operation-returns-in_default-clause-sound : goal.write_operation-returns-in_default-clause-sound
write_operation-returns-in_default-clause-sound g t c =
    let e = c.args.encoding in
    let known = known_by g.P.EntryPlaces.places c.args.places in
    let keeps = c.args.keeps in
    let meaning = g.W.Writer.meaning in
    let start = meaning c.args.w.now in
    let plain = start.is_plain in
    let S = c.args.starts.now in
    let to = c.args.end in
    let o = c.args.operation.now in
    let all : Error → Bool = node_fails e known keeps plain S to (node_of o) in
    let os = c.operands-operands.ensures in
    λ err.
    sym (other_fails e known keeps plain o S to err c.in_default.not-EntryValue)
    ∙ sym (ap (λ l. operands_fail e known keeps plain S to l err) os)
    ∙ c.in_ok-write_operands.ensures.sound err

pub write_operation-returns-in_err-size-clause-err : goal.write_operation-returns-in_err-size-clause-err
write_operation-returns-in_err-size-clause-err g t c =
    let e = c.args.encoding in
    let known = known_by g.P.EntryPlaces.places c.args.places in
    let keeps = c.args.keeps in
    let meaning = g.W.Writer.meaning in
    let start = meaning c.args.w.now in
    let plain = start.is_plain in
    let S = c.args.starts.now in
    let to = c.args.end in
    let o = c.args.operation.now in
    let all : Error → Bool = node_fails e known keeps plain S to (node_of o) in
    let os = c.operands-operands.ensures in
    let x = c.in-EntryValue.expression in
    let inner = ap nodes_in c.as_slice-inner.ensures.value ∙ c.expression.view_is in
    let node = ap node_of c.in-EntryValue.is in
    let fails = λ (err : Error). ap (λ n. node_fails e known keeps plain S to n err) node ∙ nested_fails_as e known keeps plain x S to err in
    let code_same = c.write_operands.ensures.same in
    let p = err_from_is_err_and c.from_residual-in_err-size.result c.from_residual-in_err-size.ensures.1 in
    let err = c.in_err-size.field-0.0 in
    err_at c.from_residual-in_err-size.result _ err (p.1 ∙ ap Err p.2)
    (size_refused e known start (meaning c.write_operands.new.w) x all
    (λ err h. fails err ∙ or_left (size_fails e known x err) _ h) err
    (sym (ap (λ ns. size_fails e known ns err) inner) ∙ c.in_err-size.ensures))

pub write_operation-returns-in_err-write_uleb128-clause-err : goal.write_operation-returns-in_err-write_uleb128-clause-err
write_operation-returns-in_err-write_uleb128-clause-err g t c =
    let e = c.args.encoding in
    let known = known_by g.P.EntryPlaces.places c.args.places in
    let keeps = c.args.keeps in
    let meaning = g.W.Writer.meaning in
    let start = meaning c.args.w.now in
    let plain = start.is_plain in
    let S = c.args.starts.now in
    let to = c.args.end in
    let o = c.args.operation.now in
    let all : Error → Bool = node_fails e known keeps plain S to (node_of o) in
    let os = c.operands-operands.ensures in
    let x = c.in-EntryValue.expression in
    let inner = ap nodes_in c.as_slice-inner.ensures.value ∙ c.expression.view_is in
    let node = ap node_of c.in-EntryValue.is in
    let fails = λ (err : Error). ap (λ n. node_fails e known keeps plain S to n err) node ∙ nested_fails_as e known keeps plain x S to err in
    let code_same = c.write_operands.ensures.same in
    let p = err_from_is_err_and c.from_residual-in_err-write_uleb128.result c.from_residual-in_err-write_uleb128.ensures.1 in
    let err = c.in_err-write_uleb128.field-0.0 in
    err_at c.from_residual-in_err-write_uleb128.result _ err (p.1 ∙ ap Err p.2)
    (bytes_refused start (meaning c.write_operands.new.w) (meaning c.write_uleb128.new.self) all code_same err c.in_err-write_uleb128.ensures.err)

pub write_operation-returns-clause-ok : goal.write_operation-returns-clause-ok
write_operation-returns-clause-ok g t c =
    let e = c.args.encoding in
    let known = known_by g.P.EntryPlaces.places c.args.places in
    let keeps = c.args.keeps in
    let meaning = g.W.Writer.meaning in
    let start = meaning c.args.w.now in
    let plain = start.is_plain in
    let S = c.args.starts.now in
    let to = c.args.end in
    let o = c.args.operation.now in
    let all : Error → Bool = node_fails e known keeps plain S to (node_of o) in
    let os = c.operands-operands.ensures in
    let x = c.in-EntryValue.expression in
    let inner = ap nodes_in c.as_slice-inner.ensures.value ∙ c.expression.view_is in
    let node = ap node_of c.in-EntryValue.is in
    let fails = λ (err : Error). ap (λ n. node_fails e known keeps plain S to n err) node ∙ nested_fails_as e known keeps plain x S to err in
    let code_same = c.write_operands.ensures.same in
    let code : ℕ = entry_value_code e in
    let coded = Drafts-is c.in_ok-write_operands.ensures.ok (ap (operands_draft e (place_by known) S to) (os ∙ ap (node_operands e) node) ∙ then-nothing (bytes (code ∷ []))) in
    let size = c.in_ok-size.ensures.0 ∙ ap (expression_size e (place_by known)) inner in
    let long = rw size at c.in_ok-write_uleb128.ensures.ok in
    OnOk-map c.write_operations.result c.write_operations.ensures.ok
    (λ p. Drafts-is (Drafts-then coded (Drafts-then (Drafts-bytes c.write_operands.new.fixups long) (Drafts-is p (ap (expression_draft e (place_by known)) inner))))
    (nested_draft e known x S to ∙ ap (λ n. (node_part e (place_by known) n).draft S to) (sym node)))

pub write_operation-returns-clause-sound : goal.write_operation-returns-clause-sound
write_operation-returns-clause-sound g t c =
    let e = c.args.encoding in
    let known = known_by g.P.EntryPlaces.places c.args.places in
    let keeps = c.args.keeps in
    let meaning = g.W.Writer.meaning in
    let start = meaning c.args.w.now in
    let plain = start.is_plain in
    let S = c.args.starts.now in
    let to = c.args.end in
    let o = c.args.operation.now in
    let all : Error → Bool = node_fails e known keeps plain S to (node_of o) in
    let os = c.operands-operands.ensures in
    let x = c.in-EntryValue.expression in
    let inner = ap nodes_in c.as_slice-inner.ensures.value ∙ c.expression.view_is in
    let node = ap node_of c.in-EntryValue.is in
    let fails = λ (err : Error). ap (λ n. node_fails e known keeps plain S to n err) node ∙ nested_fails_as e known keeps plain x S to err in
    let code_same = c.write_operands.ensures.same in
    let kind = c.write_uleb128.ensures.same.kind ∙ code_same.kind in
    OnOk-map c.write_operations.result c.write_operations.ensures.sound
    (λ p err. fails err ∙ ap (λ k. expression_fails e known keeps k x err) (sym kind) ∙ ap (λ ns. expression_fails e known keeps (meaning c.write_uleb128.new.self).is_plain ns err) (sym inner) ∙ p err)

pub write_operation-returns-clause-err : goal.write_operation-returns-clause-err
write_operation-returns-clause-err g t c =
    let e = c.args.encoding in
    let known = known_by g.P.EntryPlaces.places c.args.places in
    let keeps = c.args.keeps in
    let meaning = g.W.Writer.meaning in
    let start = meaning c.args.w.now in
    let plain = start.is_plain in
    let S = c.args.starts.now in
    let to = c.args.end in
    let o = c.args.operation.now in
    let all : Error → Bool = node_fails e known keeps plain S to (node_of o) in
    let os = c.operands-operands.ensures in
    let x = c.in-EntryValue.expression in
    let inner = ap nodes_in c.as_slice-inner.ensures.value ∙ c.expression.view_is in
    let node = ap node_of c.in-EntryValue.is in
    let fails = λ (err : Error). ap (λ n. node_fails e known keeps plain S to n err) node ∙ nested_fails_as e known keeps plain x S to err in
    let code_same = c.write_operands.ensures.same in
    let same = IsSameWriter-trans code_same c.write_uleb128.ensures.same in
    IfErr-more c.write_operations.result _ _
    (refused_after start (meaning c.write_uleb128.new.self) (meaning c.write_operations.new.w) _ all same
    (λ err h. fails err ∙ ap (λ k. expression_fails e known keeps k x err) (sym same.kind) ∙ ap (λ ns. expression_fails e known keeps (meaning c.write_uleb128.new.self).is_plain ns err) (sym inner) ∙ h))
    c.write_operations.ensures.err

-- Several operations

pub write_operations-returns-in_err-found-clause-err : goal.write_operations-returns-in_err-found-clause-err
write_operations-returns-in_err-found-clause-err g t c =
    let e = c.args.encoding in
    let known = known_by g.P.EntryPlaces.places c.args.places in
    let keeps = c.args.keeps in
    let meaning = g.W.Writer.meaning in
    let start = meaning c.args.w.now in
    let plain = start.is_plain in
    let xs = c.args.operations.now in
    let p = err_from_is_err_and c.from_residual.result c.from_residual.ensures.1 in
    let err = c.in_err-found.field-0.0 in
    err_at c.from_residual.result _ err (p.1 ∙ ap Err p.2)
    (starts_refused e known start start (nodes_in xs) (expression_fails e known keeps plain (nodes_in xs)) (λ err h. or_left (size_fails e known (nodes_in xs) err) _ h) err c.in_err-found.ensures.err)

pub write_operations-loop-i-init : goal.write_operations-loop-i-init
write_operations-loop-i-init g t c =
    let e = c.args.encoding in
    let known = known_by g.P.EntryPlaces.places c.args.places in
    let keeps = c.args.keeps in
    let meaning = g.W.Writer.meaning in
    let start = meaning c.args.w.now in
    let plain = start.is_plain in
    record {
      drafts = Drafts-nothing start c.args.fixups.now;
      sound = λ err. refl;
      same = IsSameWriter-refl start;
      unkept = λ k. refl;
    }

pub write_operations-loop-i-preserved : goal.write_operations-loop-i-preserved
write_operations-loop-i-preserved g t c =
    let e = c.args.encoding in
    let known = known_by g.P.EntryPlaces.places c.args.places in
    let keeps = c.args.keeps in
    let meaning = g.W.Writer.meaning in
    let start = meaning c.args.w.now in
    let plain = start.is_plain in
    let xs = c.args.operations.now in
    let S = c.as_slice-begins.result.now in
    let found = c.as_slice-begins.ensures.value ∙ c.in_ok-found.ensures.ok in
    let i = c.loop-i.i in
    let inv = c.loop-i.invariant in
    let o = c.index-operations-i.result in
    let is = c.index-operations-i.is in
    let below : i < length xs = c.loop-i-test.true in
    let ends = ends_at e known S xs i o below is found in
    record {
      drafts = more_written e known S xs i _ o below is ends inv.drafts c.in_ok-write_operation.ensures.ok;
      sound = λ err.
          let at = parts_size (parts_of e (place_by known) (nodes_in (take i xs))) in
          let next = at + (node_part e (place_by known) (node_of o)).size in
          let none =
          ap (λ n. node_fails e known keeps plain S n (node_of o) err) (sym ends)
          ∙ ap (λ k. node_fails e known keeps k S (get_or S (i + 1) 0) (node_of o) err) (sym inv.same.kind)
          ∙ c.in_ok-write_operation.ensures.sound err in
          ap (λ n. nodes_fail e known keeps plain S n (nodes_in (drop (i + 1) xs)) err) (size_next e known xs i o below is)
          ∙ sym (fails_next e known keeps plain S at xs i o err below is ∙ ap (λ b. b || nodes_fail e known keeps plain S next (nodes_in (drop (i + 1) xs)) err) none)
          ∙ inv.sound err;
      same = IsSameWriter-trans inv.same c.write_operation.ensures.same;
      unkept = λ k. c.write_operation.ensures.unkept k ∙ inv.unkept k;
    }

pub write_operations-returns-in_err-write_operation-clause-err : goal.write_operations-returns-in_err-write_operation-clause-err
write_operations-returns-in_err-write_operation-clause-err g t c =
    let e = c.args.encoding in
    let known = known_by g.P.EntryPlaces.places c.args.places in
    let keeps = c.args.keeps in
    let meaning = g.W.Writer.meaning in
    let start = meaning c.args.w.now in
    let plain = start.is_plain in
    let xs = c.args.operations.now in
    let S = c.as_slice-begins.result.now in
    let found = c.as_slice-begins.ensures.value ∙ c.in_ok-found.ensures.ok in
    let i = c.loop-i.i in
    let inv = c.loop-i.invariant in
    let o = c.index-operations-i.result in
    let is = c.index-operations-i.is in
    let below : i < length xs = c.loop-i-test.true in
    let ends = ends_at e known S xs i o below is found in
    let p = err_from_is_err_and c.from_residual-in_err-write_operation.result c.from_residual-in_err-write_operation.ensures.1 in
    let err = c.in_err-write_operation.field-0.0 in
    err_at c.from_residual-in_err-write_operation.result _ err (p.1 ∙ ap Err p.2)
    (refused_after start (meaning c.loop-i.w) (meaning c.write_operation.new.w) _ (expression_fails e known keeps plain (nodes_in xs)) inv.same
    (λ err h.
    let at = parts_size (parts_of e (place_by known) (nodes_in (take i xs))) in
    let here =
    ap (λ n. node_fails e known keeps plain S n (node_of o) err) (sym ends)
    ∙ ap (λ k. node_fails e known keeps k S (get_or S (i + 1) 0) (node_of o) err) (sym inv.same.kind)
    ∙ h in
    or_right (size_fails e known (nodes_in xs) err) _
    (ap (λ l. nodes_fail e known keeps plain l 0 (nodes_in xs) err) (sym found)
    ∙ sym (inv.sound err)
    ∙ fails_next e known keeps plain S at xs i o err below is
    ∙ or_left (node_fails e known keeps plain S (at + (node_part e (place_by known) (node_of o)).size) (node_of o) err) _ here))
    err c.in_err-write_operation.ensures.err)

pub write_operations-returns-clause-ok : goal.write_operations-returns-clause-ok
write_operations-returns-clause-ok g t c =
    let e = c.args.encoding in
    let known = known_by g.P.EntryPlaces.places c.args.places in
    let keeps = c.args.keeps in
    let meaning = g.W.Writer.meaning in
    let start = meaning c.args.w.now in
    let plain = start.is_plain in
    let xs = c.args.operations.now in
    let S = c.as_slice-begins.result.now in
    let found = c.as_slice-begins.ensures.value ∙ c.in_ok-found.ensures.ok in
    let i = c.loop-i.i in
    let inv = c.loop-i.invariant in
    let past = c.loop-i-test.false in
    let whole = take_all i xs past in
    Drafts-is inv.drafts (ap (λ l. parts_draft S 0 (parts_of e (place_by known) (nodes_in l))) whole ∙ all_written e known S (nodes_in xs) found)

pub write_operations-returns-clause-sound : goal.write_operations-returns-clause-sound
write_operations-returns-clause-sound g t c =
    let e = c.args.encoding in
    let known = known_by g.P.EntryPlaces.places c.args.places in
    let keeps = c.args.keeps in
    let meaning = g.W.Writer.meaning in
    let start = meaning c.args.w.now in
    let plain = start.is_plain in
    let xs = c.args.operations.now in
    let S = c.as_slice-begins.result.now in
    let found = c.as_slice-begins.ensures.value ∙ c.in_ok-found.ensures.ok in
    let i = c.loop-i.i in
    let inv = c.loop-i.invariant in
    let past = c.loop-i-test.false in
    let whole = take_all i xs past in
    let at = parts_size (parts_of e (place_by known) (nodes_in (take i xs))) in
    λ err.
    or_from (size_fails e known (nodes_in xs) err) _ (c.in_ok-found.ensures.sound err)
    (ap (λ l. nodes_fail e known keeps plain l 0 (nodes_in xs) err) (sym found)
    ∙ sym (inv.sound err)
    ∙ at_drop_all (λ l. nodes_fail e known keeps plain S at (nodes_in l) err) xs i past)

pub write_operations-returns-clause-same : goal.write_operations-returns-clause-same
write_operations-returns-clause-same g t c = c.loop-i.invariant.same

pub write_operations-returns-clause-unkept : goal.write_operations-returns-clause-unkept
write_operations-returns-clause-unkept g t c = c.loop-i.invariant.unkept

pub write_operations-returns-in_err-write_operation-clause-same : goal.write_operations-returns-in_err-write_operation-clause-same
write_operations-returns-in_err-write_operation-clause-same g t c = IsSameWriter-trans c.loop-i.invariant.same c.write_operation.ensures.same

pub write_operations-returns-in_err-write_operation-clause-unkept : goal.write_operations-returns-in_err-write_operation-clause-unkept
write_operations-returns-in_err-write_operation-clause-unkept g t c k = c.write_operation.ensures.unkept k ∙ c.loop-i.invariant.unkept k

pub write_operation-returns-clause-same : goal.write_operation-returns-clause-same
write_operation-returns-clause-same g t c = IsSameWriter-trans c.write_operands.ensures.same (IsSameWriter-trans c.write_uleb128.ensures.same c.write_operations.ensures.same)

pub write_operation-returns-clause-unkept : goal.write_operation-returns-clause-unkept
write_operation-returns-clause-unkept g t c = λ k. c.write_operations.ensures.unkept k ∙ c.write_operands.ensures.unkept k

pub write_operation-returns-in_err-write_uleb128-clause-same : goal.write_operation-returns-in_err-write_uleb128-clause-same
write_operation-returns-in_err-write_uleb128-clause-same g t c = IsSameWriter-trans c.write_operands.ensures.same c.write_uleb128.ensures.same
