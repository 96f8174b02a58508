-- What `make` answers rests on.
use Rattle.std.proofs.Common.{◌≡◌, ◌∙◌, sym, ap, subst, ℕ, List, length}
use Rattle.std.specs.Prelude.{Option, Some, false, sum_by}
use Rattle.dw_writer.specs.Contents.{Meaning}
use Rattle.dw_writer.specs.declared.sections.Sections.{Sections}
use Rattle.dw_dwarf.specs.DwarfValue.{DwarfValue}
use Rattle.dw_dwarf.specs.Written.{AreTextsOf, HoldsDwarf, orders_of, one_order}
use Rattle.dw_program.specs.Answers.{SaysMade}
use Rattle.dw_build.specs.Generated.{generated}
use Rattle.dw_program.specs.Texts.{counts_text}

same_told : {a b : List ℕ} {o : Option (List ℕ)} → o ≡ Some a → o ≡ Some b → a ≡ b
same_told {a} {b} p q = let e : Some a ≡ Some b = sym p ∙ q in cc

-- The summary of sections that hold what was generated. Its bytes are those that the writers tell.
pub made_told : {W : Type 0} (meaning : W → Meaning) (n : ℕ) (d : DwarfValue) (s : Sections W) (text info abbrevs : List ℕ) → d ≡ generated n → HoldsDwarf meaning s d → orders_of meaning s ≡ one_order false →
    Some info ≡ (meaning s.debug_info.0).bytes → Some abbrevs ≡ (meaning s.debug_abbrev.0).bytes → text ≡ counts_text (length d.units) (sum_by (λ u. length u.entries) d.units) info abbrevs → SaysMade n text
made_told meaning n d s text info abbrevs same held orders told_info told_abbrevs says =
    let little = subst (λ o. AreTextsOf o d held.texts) orders held.are in
    record {
      texts = held.texts;
      are = subst (λ e. AreTextsOf (one_order false) e held.texts) same little;
      says =
          says
          ∙ ap (λ i. counts_text (length d.units) (sum_by (λ u. length u.entries) d.units) i abbrevs) (same_told (sym told_info) held.told.debug_info)
          ∙ ap (λ a. counts_text (length d.units) (sum_by (λ u. length u.entries) d.units) held.texts.debug_info a) (same_told (sym told_abbrevs) held.told.debug_abbrev)
          ∙ ap (λ (e : DwarfValue). counts_text (length e.units) (sum_by (λ u. length u.entries) e.units) held.texts.debug_info held.texts.debug_abbrev) same;
    }
