use Rattle.std.proofs.Common.{◌≡◌, ◌<◌, List, length, refl, subst, arith, take}
use Rattle.std.proofs.lemmas.List.{take_all}
use Rattle.std.specs.Prelude.{IsFalse, Bool}
use Rattle.std.proofs.lemmas.List.Elements.{All-nil}
use Rattle.std.proofs.lemmas.Result.{err_from_is_err_and}
use Rattle.dw_base.specs.declared.error.Error.{Error}
use Rattle.dw_writer.specs.Drafts.{Draft, Drafts}
use Rattle.dw_writer.proofs.Steps.{IsSameWriter-trans}
use Rattle.dw_writer.proofs.WriteLaws.{Drafts-nothing, Drafts-more}
use Rattle.dw_entries.specs.Values.{value_fails}
use Rattle.dw_entries.specs.Values.{IsRanged}
use Rattle.dw_entries.specs.declared.attribute.Attribute.{Attribute}
use Rattle.dw_tree.specs.Causes.{Is, Refused}
use Rattle.dw_tree.specs.Pending.{AreRanged}
use Rattle.dw_tree.specs.TargetsAt.{targets_at}
use Rattle.dw_tree.specs.UnitFaults.{attributes_fail}
use Rattle.dw_tree.specs.UnitText.{attribute_draft, attributes_draft}
use Rattle.dw_tree.proofs.Faults.{none_more, some_at, All-more, refused_after}
use Rattle.dw_tree.proofs.body.write_attributes.Goals as goal

pub loop-attribute-init : goal.loop-attribute-init
loop-attribute-init g c = record {
  added = Drafts-nothing (g.W.Writer.meaning c.args.w.now) c.args.fixups.now;
  sound = λ e. refl;
  ranged = All-nil (λ (a : Attribute). IsRanged c.args.encoding a.value);
}

pub loop-attribute-preserved : goal.loop-attribute-preserved
loop-attribute-preserved g c =
    let e = c.args.encoding in
    let u = targets_at c.args.targets.now in
    let xs = c.args.attributes.now in
    let i = c.loop-attribute.attribute-index in
    let x = c.attribute-item.result in
    let below : i < length xs = c.loop-attribute-test.true in
    let fails : Attribute → Error → Bool = λ a. value_fails e u (g.W.Writer.meaning c.args.w.now).is_plain a.value in
    let wrote = rw c.get.ensures at c.in_ok-write_value.ensures.ok in
    let passed = rw c.get.ensures at c.in_ok-write_value.ensures.sound in
    let ranged = rw c.get.ensures at c.in_ok-write_value.ensures.ranged in
    let here : (err : Error) → IsFalse (fails x err) = subst (λ plain. (err : Error) → IsFalse (value_fails e u plain x.value err)) c.loop-attribute.invariant.added.text.same.kind passed in
    record {
      added = Drafts-more (attribute_draft e u) xs i x below c.attribute-item.is c.loop-attribute.invariant.added wrote;
      sound = none_more fails xs i x below c.attribute-item.is c.loop-attribute.invariant.sound here;
      ranged = All-more (λ a. IsRanged c.args.encoding a.value) xs i x below c.attribute-item.is c.loop-attribute.invariant.ranged ranged;
    }

pub returns-in_err-write_value-clause-err : goal.returns-in_err-write_value-clause-err
returns-in_err-write_value-clause-err g c =
    let e = c.args.encoding in
    let place = targets_at c.args.targets.now in
    let xs = c.args.attributes.now in
    let i = c.loop-attribute.attribute-index in
    let x = c.attribute-item.result in
    let below : i < length xs = c.loop-attribute-test.true in
    let plain = (g.W.Writer.meaning c.args.w.now).is_plain in
    let fails : Attribute → Error → Bool = λ a. value_fails e place plain a.value in
    let refused = rw c.get.ensures at c.in_err-write_value.ensures.err in
    let here = subst (λ k. Refused (g.W.Writer.meaning c.loop-attribute.w) (g.W.Writer.meaning c.write_value.new.w) (Is (value_fails e place k x.value)) c.in_err-write_value.field-0.0) c.loop-attribute.invariant.added.text.same.kind refused in
    let p = err_from_is_err_and c.from_residual.result c.from_residual.ensures.1 in
    rw (p.1, p.2)
    (refused_after (g.W.Writer.meaning c.args.w.now) (g.W.Writer.meaning c.loop-attribute.w) (g.W.Writer.meaning c.write_value.new.w) (Is (fails x)) (Is (attributes_fail e place plain xs))
    c.loop-attribute.invariant.added.text.same (some_at fails xs i x below c.attribute-item.is) c.in_err-write_value.field-0.0 here)

pub returns-clause-sound : goal.returns-clause-sound
returns-clause-sound g c =
    let xs = c.args.attributes.now in
    let i = c.loop-attribute.attribute-index in
    let all : take i xs ≡ xs = take_all i xs (omega (arith, c.loop-attribute-test.false)) in
    let fails : List Attribute → Error → Bool = attributes_fail c.args.encoding (targets_at c.args.targets.now) (g.W.Writer.meaning c.args.w.now).is_plain in
    subst (λ ys. (e : Error) → IsFalse (fails ys e)) all c.loop-attribute.invariant.sound

pub returns-clause-ok : goal.returns-clause-ok
returns-clause-ok g c =
    let xs = c.args.attributes.now in
    let i = c.loop-attribute.attribute-index in
    let all : take i xs ≡ xs = take_all i xs (omega (arith, c.loop-attribute-test.false)) in
    let m = g.W.Writer.meaning in
    let d : List Attribute → Draft = attributes_draft c.args.encoding (targets_at c.args.targets.now) in
    subst (λ ys. Drafts (m c.args.w.now) (m c.loop-attribute.w) c.args.fixups.now c.loop-attribute.fixups (d ys)) all c.loop-attribute.invariant.added

pub returns-clause-ranged : goal.returns-clause-ranged
returns-clause-ranged g c =
    let xs = c.args.attributes.now in
    let i = c.loop-attribute.attribute-index in
    let all : take i xs ≡ xs = take_all i xs (omega (arith, c.loop-attribute-test.false)) in
    subst (AreRanged c.args.encoding) all c.loop-attribute.invariant.ranged

pub returns-clause-same : goal.returns-clause-same
returns-clause-same g c = c.loop-attribute.invariant.added.text.same

pub returns-in_err-write_value-clause-same : goal.returns-in_err-write_value-clause-same
returns-in_err-write_value-clause-same g c = IsSameWriter-trans c.loop-attribute.invariant.added.text.same c.write_value.ensures.same
