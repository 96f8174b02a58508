-- What writes of an FDE's fields come to.
use Rattle.std.specs.Prelude.{◌≡◌, ℕ, Bool, true, false, not, is_some, Result, Ok, OnOk, IfErr, Option, Some, None, refl, IsTrue}
use Rattle.std.proofs.Common.{sym, subst}
use Rattle.std.proofs.Math.Bool.{beq}
use Rattle.dw_base.specs.declared.address.Address.{Address}
use Rattle.dw_base.specs.declared.constants.DwEhPe.{DwEhPe}
use Rattle.dw_base.specs.declared.error.Error.{Error}
use Rattle.dw_base.specs.declared.error.Error.TheVariants as errors
use Rattle.dw_writer.specs.Meaning.{Meaning, Appends, pointer_fits}
use Rattle.dw_writer.specs.SectionTexts.{eh_pointer_text, eh_pointer_size}
use Rattle.dw_writer.specs.Causes.{BytesRefused, PointerRefused}
use Rattle.dw_frame.specs.Parts.{Placed, in_turn, refused_if, Puts}
use Rattle.dw_frame.specs.Fdes.{lsda_part, disagree, mismatch}
use Rattle.dw_frame_instructions.proofs.Steps.{written-nothing}
use Rattle.dw_frame.proofs.NumberSteps.{Puts-pointer}

pub lsda_none : (m : Meaning) (w : ℕ) (o : Option DwEhPe) (x : Option Address) → o ≡ None → Puts {T = Unit {0}} (Ok tt) m m (lsda_part w o x)
lsda_none m w None x e = (written-nothing m, λ e. refl)
lsda_none m w (Some y) x e = cc

pub lsda_nowhere : (m : Meaning) (w : ℕ) (o : Option DwEhPe) (x : Option Address) → x ≡ None → Puts {T = Unit {0}} (Ok tt) m m (lsda_part w o x)
lsda_nowhere m w None x e = (written-nothing m, λ e. refl)
lsda_nowhere m w (Some y) None e = (written-nothing m, λ e. refl)
lsda_nowhere m w (Some y) (Some a) e = cc

pub lsda_puts : {T : Type 0} (r : Result T Error) (a b : Meaning) (w : ℕ) (o : Option DwEhPe) (x : Option Address) (encoding : DwEhPe) (to : Address) → o ≡ Some encoding → x ≡ Some to →
    OnOk r (IsTrue (pointer_fits a.is_plain a.is_big w encoding.0 a.size to)) → OnOk r (Appends a b (eh_pointer_size w encoding.0 a.size to) (eh_pointer_text w encoding.0 a.size to)) →
    IfErr r (PointerRefused a.is_plain w encoding.0 a.size to (BytesRefused a b)) → Puts r a b (lsda_part w o x)
lsda_puts r a b w o x encoding to e f fit ok err =
    subst (λ y. Puts r a b (lsda_part w y x)) (sym e) (subst (λ y. Puts r a b (lsda_part w (Some encoding) y)) (sym f) (Puts-pointer r a b w encoding.0 to fit ok err))

-- data for a language without an encoding of its pointer, or the reverse

pub disagree_is : (o : Option DwEhPe) (x : Option Address) → disagree o x ≡ not (beq (is_some o) (is_some x))
disagree_is None None = refl
disagree_is (Some e) (Some a) = refl
disagree_is None (Some a) = refl
disagree_is (Some e) None = refl

pub mismatch_fails : (b : Bool) (q : Placed) (at : ℕ) (plain : Bool) → b ≡ true → IsTrue ((in_turn (refused_if b mismatch) q at).fails plain errors.LsdaMismatch)
unfolding in_turn
mismatch_fails true q at plain e = refl
mismatch_fails false q at plain e = cc

pub refused_none : (b : Bool) (m : Meaning) → b ≡ false → Puts {T = Unit {0}} (Ok tt) m m (refused_if b mismatch)
refused_none true m e = cc
refused_none false m e = (written-nothing m, λ e. refl)
