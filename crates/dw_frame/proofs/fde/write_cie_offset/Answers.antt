use Rattle.std.specs.Prelude.{◌==◌}
use Rattle.std.proofs.Common.{sym, ◌∙◌}
use Rattle.std.proofs.lemmas.Bool.{ne_eqb}
use Rattle.dw_base.specs.Numbers.{word_of}
use Rattle.dw_frame.specs.declared.kind.FrameKind.TheVariants.{Debug}
use Rattle.dw_frame.specs.Cies.{cie_number}
use Rattle.dw_frame.specs.Fdes.{too_large}
use Rattle.dw_frame.specs.Parts.{caused}
use Rattle.dw_frame_instructions.specs.Pieces.{missing}
use Rattle.dw_frame.specs.PointerParts.{frame_offset}
use Rattle.dw_frame.proofs.PartSteps.{Puts-else}
use Rattle.dw_frame.proofs.NumberSteps.{Puts-offset}
use Rattle.dw_frame.proofs.fde.write_cie_offset.Goals as goal

pub returns : goal.returns
returns g c =
    let m = g.W.Writer.meaning c.args.w.now in
    let n = g.W.Writer.meaning c.write_offset.new.self in
    let x = rw c.word_size.ensures at c.write_offset.ensures in
    let other = ne_eqb c.args.cie_at (cie_number Debug c.args.format) (λ e. c.if-cie_at-cie_number.false (e ∙ sym c.cie_number.ensures)) in
    Puts-else c.write_offset.result m n (c.args.cie_at == cie_number Debug c.args.format) (caused missing too_large) (frame_offset (word_of c.args.format) c.args.cie_at) other
    (Puts-offset c.write_offset.result m n (word_of c.args.format) c.args.cie_at x.fits x.ok x.err)
