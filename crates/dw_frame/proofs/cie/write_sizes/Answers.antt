use Rattle.std.specs.Prelude.{refl, [], ◌∷◌}
use Rattle.dw_frame_instructions.specs.Pieces.{bytes}
use Rattle.dw_frame_instructions.specs.Causes.{never}
use Rattle.dw_frame.specs.Cies.{sizes}
use Rattle.dw_frame_instructions.proofs.Steps.{Writes-none, Writes-as, Writes-bytes}
use Rattle.dw_frame.proofs.CieSteps.{sizes_none, sizes_some}
use Rattle.dw_frame.proofs.cie.write_sizes.Goals as goal

pub returns-then-encoding-ne4 : goal.returns-then-encoding-ne4
returns-then-encoding-ne4 g c =
    Writes-none (g.W.Writer.meaning c.args.w.now) (sizes c.args.encoding.version c.args.encoding.address_size) (sizes_none c.args.encoding.version c.args.encoding.address_size c.if-encoding-ne4.true)

pub returns : goal.returns
returns g c =
    let v = c.args.encoding.version in
    let w = c.args.encoding.address_size in
    Writes-as c.write.result (g.W.Writer.meaning c.args.w.now) (g.W.Writer.meaning c.write.new.self) (bytes (w ∷ 0 ∷ [])) (sizes v w) never never
    (Writes-bytes c.write.result (g.W.Writer.meaning c.args.w.now) (g.W.Writer.meaning c.write.new.self) (w ∷ 0 ∷ []) c.write.ensures.ok c.write.ensures.err) (sizes_some v w c.if-encoding-ne4.false) refl
