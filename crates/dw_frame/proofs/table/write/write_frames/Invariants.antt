use Rattle.std.specs.Prelude.{◌≡◌, length, drop, Result}
use Rattle.dw_base.specs.declared.error.Error.{Error}
use Rattle.dw_writer.specs.Meaning.{Meaning, IsSameWriter}
use Rattle.dw_frame.specs.Parts.{Puts}
use Rattle.dw_frame.specs.Reading.{AreTold}
use Rattle.dw_frame.specs.Places.{known, AreBefore}
use Rattle.dw_frame.specs.Tables.{frames_from, no_places}
use Rattle.dw_frame.proofs.table.write.write_frames.Given as goal

-- what becomes of the rest becomes of all
abbrev pub invariant-loop-fde : goal.invariant-loop-fde
invariant-loop-fde g l = record {
  same : IsSameWriter (g.W.Writer.meaning l.initial.w) (g.W.Writer.meaning l.w);
  counted : length l.places.places.items ≡ length l.cies;
  behind : AreBefore (known l.places.places.items) (g.W.Writer.meaning l.w).size;
  rest : (r : Result (Unit {0}) Error) (b : Meaning) →
      Puts r (g.W.Writer.meaning l.w) b (frames_from l.kind l.cies (known l.places.places.items) (drop l.fde-index l.fdes)) →
      Puts r (g.W.Writer.meaning l.initial.w) b (frames_from l.kind l.cies no_places l.fdes);
  told : AreTold l.kind l.cies (known l.places.places.items) (drop l.fde-index l.fdes) (g.W.Writer.meaning l.w).size →
      AreTold l.kind l.cies no_places l.fdes (g.W.Writer.meaning l.initial.w).size;
}
