use Rattle.std.specs.Prelude.{[], ◌∷◌}
use Rattle.std.proofs.Common.{sym, ◌∙◌}
use Rattle.dw_frame_instructions.specs.Pieces.{bytes, missing}
use Rattle.dw_frame.specs.Parts.{free, caused}
use Rattle.dw_frame.specs.Cies.{is_known, version_fails}
use Rattle.dw_frame.proofs.PartSteps.{Puts-if, Puts-bytes}
use Rattle.dw_frame.proofs.cie.write_version.Goals as goal

pub returns : goal.returns
returns g c =
    let v = c.args.version in
    Puts-if c.write.result (g.W.Writer.meaning c.args.w.now) (g.W.Writer.meaning c.write.new.self) (is_known c.args.kind v) (free (bytes (v ∷ []))) (caused missing (version_fails c.args.kind v)) (sym c.knows.ensures ∙ c.if-not-knows.false)
    (Puts-bytes c.write.result (g.W.Writer.meaning c.args.w.now) (g.W.Writer.meaning c.write.new.self) (v ∷ []) c.write.ensures.ok c.write.ensures.err)
