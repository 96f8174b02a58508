use Rattle.std.specs.Prelude.{take, drop, Result, IsTrue}
use Rattle.std.specs.List.{list_all}
use Rattle.dw_base.specs.declared.error.Error.{Error}
use Rattle.dw_writer.specs.Meaning.{Meaning, IsSameWriter}
use Rattle.dw_arange_table.specs.Sets.{is_set}
use Rattle.dw_arange_table.specs.Causes.{sets_fail}
use Rattle.dw_arange_table.specs.Texts.{sets_text, sets_size, Writes}
use Rattle.dw_arange_table.proofs.write.write_sets.Given as goal

-- what becomes of the rest becomes of all
abbrev pub invariant-loop-set : goal.invariant-loop-set
invariant-loop-set g l =
    let plain = (g.W.Writer.meaning l.initial.w).is_plain in record {
      same : IsSameWriter (g.W.Writer.meaning l.initial.w) (g.W.Writer.meaning l.w);
      rest : (r : Result (Unit {0}) Error) (b : Meaning) →
          Writes r (g.W.Writer.meaning l.w) b (sets_size (drop l.set-index l.sets)) (sets_text (drop l.set-index l.sets)) (sets_fail plain (drop l.set-index l.sets)) →
          Writes r (g.W.Writer.meaning l.initial.w) b (sets_size l.sets) (sets_text l.sets) (sets_fail plain l.sets);
      are : IsTrue (list_all is_set (take l.set-index l.sets));
    }
