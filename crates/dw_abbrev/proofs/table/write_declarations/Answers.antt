use Rattle.std.proofs.Common.{◌<◌, ◌≤◌, length, subst, arith}
use Rattle.std.proofs.lemmas.List.{take_all}
use Rattle.std.proofs.lemmas.List.Elements.{All-more}
use Rattle.std.specs.List.{flat_map, All}
use Rattle.dw_base.specs.Spelling.{declaration_bytes}
use Rattle.dw_writer.specs.Meaning.{Adds}
use Rattle.dw_writer.proofs.Outcomes.{OnErr-always}
use Rattle.dw_writer.proofs.Parts.{Adds-none}
use Rattle.dw_writer.proofs.Steps.{Adds-then}
use Rattle.dw_abbrev.specs.Codes.{declarations, IsShape}
use Rattle.dw_abbrev.proofs.Steps.{Adds-element, AddsSome-more, AddsSome-then, AddsSome-element}
use Rattle.dw_abbrev.proofs.Again.{numbered_at, length-numbered, declarations_are}
use Rattle.dw_abbrev.proofs.table.write_declarations.Goals as goal

pub loop-index-init : goal.loop-index-init
loop-index-init g c = record { added = Adds-none (g.W.Writer.meaning c.args.w.now); sound = λ k d h. absurd (omega arith) }

pub returns-in_err-write_uleb128-clause-partly : goal.returns-in_err-write_uleb128-clause-partly
returns-in_err-write_uleb128-clause-partly g c =
    let shapes = c.args.abbreviations.now in
    let here : c.loop-index.index < length shapes = omega arith in
    let below : c.loop-index.index < length (declarations shapes) = omega (arith, length-numbered 1 shapes) in
    OnErr-always c.from_residual.result
    (AddsSome-element declaration_bytes (declarations shapes) c.loop-index.index _ below (numbered_at shapes c.loop-index.index c.index-abbreviations-index.result here c.index-abbreviations-index.is)
    c.loop-index.invariant.added (AddsSome-more _ _ c.in_err-write_uleb128.ensures.partly))

pub returns-in_err-write-clause-partly : goal.returns-in_err-write-clause-partly
returns-in_err-write-clause-partly g c =
    let shapes = c.args.abbreviations.now in
    let here : c.loop-index.index < length shapes = omega arith in
    let below : c.loop-index.index < length (declarations shapes) = omega (arith, length-numbered 1 shapes) in
    OnErr-always c.from_residual-in_err-write.result
    (AddsSome-element declaration_bytes (declarations shapes) c.loop-index.index _ below (numbered_at shapes c.loop-index.index c.index-abbreviations-index.result here c.index-abbreviations-index.is)
    c.loop-index.invariant.added (AddsSome-then c.in_ok-write_uleb128.ensures.ok c.in_err-write.ensures.partly))

pub loop-index-preserved : goal.loop-index-preserved
loop-index-preserved g c =
    let shapes = c.args.abbreviations.now in
    let here : c.loop-index.index < length shapes = omega arith in
    let below : c.loop-index.index < length (declarations shapes) = omega (arith, length-numbered 1 shapes) in
    record {
      added = Adds-element declaration_bytes (declarations shapes) c.loop-index.index _ below (numbered_at shapes c.loop-index.index c.index-abbreviations-index.result here c.index-abbreviations-index.is)
          c.loop-index.invariant.added (Adds-then c.in_ok-write_uleb128.ensures.ok c.in_ok-write.ensures.ok);
      sound = All-more IsShape shapes c.loop-index.index c.index-abbreviations-index.result here c.loop-index.invariant.sound
          (subst IsShape c.index-abbreviations-index.is c.in_ok-write.ensures.sound);
    }

pub returns-clause-ok : goal.returns-clause-ok
returns-clause-ok g c =
    let shapes = c.args.abbreviations.now in
    let past : length (declarations shapes) ≤ c.loop-index.index = omega (arith, length-numbered 1 shapes) in
    subst (λ ds. Adds (g.W.Writer.meaning c.args.w.now) (g.W.Writer.meaning c.loop-index.w) (flat_map declaration_bytes ds))
    (take_all c.loop-index.index (declarations shapes) past) c.loop-index.invariant.added

pub returns-clause-spelled : goal.returns-clause-spelled
returns-clause-spelled g c =
    let past : length c.args.abbreviations.now ≤ c.loop-index.index = omega arith in
    let all : All IsShape c.args.abbreviations.now = subst (λ ss. All IsShape ss) (take_all c.loop-index.index c.args.abbreviations.now past) c.loop-index.invariant.sound in
    declarations_are c.args.abbreviations.now all (omega arith)
