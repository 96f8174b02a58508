use Rattle.std.proofs.Common.{sym, subst, IsTrue, arith}
use Rattle.std.proofs.lemmas.Bool.{lt-ltb}
use Rattle.dw_base.specs.Numbers.{word_of, fits}
use Rattle.dw_base.specs.declared.common.Format.{Format}
use Rattle.dw_tree.proofs.places.Places.check_length.Goals as goal

pub returns-in_default-2-clause-ok : goal.returns-in_default-2-clause-ok
returns-in_default-2-clause-ok c n below =
    subst (λ (f : Format). IsTrue (fits (word_of f) n)) (sym c.in_default.is) (lt-ltb _ _ (omega arith))
