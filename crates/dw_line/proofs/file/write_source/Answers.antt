use Rattle.std.proofs.Common.{arith}
use Rattle.dw_base.specs.Numbers.{word_of}
use Rattle.dw_writer.proofs.Outcomes.{OnOk-map}
use Rattle.dw_line.specs.Files.{source_of}
use Rattle.dw_line.proofs.Steps.{Adds-byte}
use Rattle.dw_line.proofs.FileSteps.{no_source, empty_source}
use Rattle.dw_line.proofs.FrontSteps.{Front-either, Front-none}
use Rattle.dw_line.proofs.file.write_source.Goals as goal

pub returns-then-not-is_needed-clause-ok : goal.returns-then-not-is_needed-clause-ok
returns-then-not-is_needed-clause-ok g c =
    no_source (word_of c.args.format) c.args.strings.now c.args.line_strings.now c.args.is_needed (source_of c.args.file.now) c.if-not-is_needed.true

pub returns-in-None-clause-ok : goal.returns-in-None-clause-ok
returns-in-None-clause-ok g c =
    OnOk-map c.write_u8.result c.write_u8.ensures.ok
    (λ zero. empty_source (word_of c.args.format) c.args.strings.now c.args.line_strings.now c.args.is_needed c.args.file.now.info.source c.if-not-is_needed.false c.in-None.is (Adds-byte 0 (omega arith) zero))

pub returns-then-not-is_needed-clause-front : goal.returns-then-not-is_needed-clause-front
returns-then-not-is_needed-clause-front g c = Front-none _

pub returns-in-None-clause-front : goal.returns-in-None-clause-front
returns-in-None-clause-front g c = Front-either _ _ c.write_u8.result c.write_u8.ensures.ok c.write_u8.ensures.partly

pub returns-then-not-is_needed-clause-err : goal.returns-then-not-is_needed-clause-err
returns-then-not-is_needed-clause-err g c = tt

pub returns-in-Some-clause-same : goal.returns-in-Some-clause-same
returns-in-Some-clause-same g c = c.write_name.ensures.same

pub returns-in-None-clause-same : goal.returns-in-None-clause-same
returns-in-None-clause-same g c = c.write_u8.ensures.same
