-- Why the calls that write values are refused, and what is sound once none is.
use Rattle.std.specs.Prelude.{◌≡◌, ℕ, Bool, true, false, not, IsTrue, IsFalse}
use Rattle.std.proofs.Common.{sym, ◌∙◌, ap, refl}
use Rattle.std.proofs.lemmas.Bool.{and_parts}
use Rattle.dw_base.specs.Numbers.{is_width, fits}
use Rattle.dw_base.specs.declared.address.Address.{Address}
use Rattle.dw_base.specs.declared.address.Address.TheVariants.{Constant, Symbol}
use Rattle.dw_base.specs.declared.error.Error.{Error}
use Rattle.dw_base.specs.declared.error.Error.TheVariants as errors
use Rattle.dw_writer.specs.Causes.{BytesRefused, NumberRefused, AddressRefused, NotAtAll, offset_fits, address_fits}
use Rattle.dw_writer.specs.Meaning.{Meaning, IsSameWriter}
use Rattle.dw_writer.proofs.FaultLaws.{HasRisen-from}
use Rattle.dw_entries.specs.Content.{number_fails, offset_fails, address_fails}
use Rattle.dw_tree.specs.Causes.{Refused, Is}

-- a number whose width is one
pub number_because : (a b : Meaning) (w : ℕ) (fit : Bool) (fails : Error → Bool) → IsTrue (is_width w) → (IsFalse fit → IsTrue (fails errors.ValueTooLarge)) → (e : Error) → NumberRefused w fit (BytesRefused a b) e → Refused a b (Is fails) e
number_because a b w fit fails wide f (errors.UnsupportedWordSize n) h = absurd (let x : true ≡ false = sym wide ∙ h.1 in cc)
number_because a b w fit fails wide f errors.ValueTooLarge h = f h.1
number_because a b w fit fails wide f errors.NoMemory h = tt
number_because a b w fit fails wide f errors.WriteFault h = h.2
number_because a b w fit fails wide f e h = absurd h.2

pub address_because : (a b : Meaning) (plain : Bool) (w : ℕ) (t : Address) → IsTrue (is_width w) → (e : Error) → AddressRefused plain w t (BytesRefused a b) e → Refused a b (Is (address_fails w plain t)) e
address_because a b plain w (Constant n) wide e h = number_because a b w (fits w n) (address_fails w plain (Constant n)) wide (λ k. ap not k) e h
address_because a b true w (Symbol s t) wide errors.InvalidAddress h = refl
address_because a b true w (Symbol s t) wide e h = absurd h
address_because a b false w (Symbol s t) wide e h = number_because a b w true (address_fails w false (Symbol s t)) wide (λ k. absurd (let x : true ≡ false = k in cc)) e h

pub number_sound : (w n : ℕ) → IsTrue (fits w n) → (e : Error) → IsFalse (number_fails w n e)
number_sound w n h errors.ValueTooLarge = ap not h
number_sound w n h e = refl

pub offset_sound : (w : ℕ) (plain : Bool) (n : ℕ) → IsTrue (offset_fits plain w n) → (e : Error) → IsFalse (offset_fails w plain n e)
offset_sound w plain n h errors.ValueTooLarge = ap not h
offset_sound w plain n h e = refl

pub address_sound : (plain : Bool) (w : ℕ) (t : Address) → IsTrue (address_fits plain w t) → (e : Error) → IsFalse (address_fails w plain t e)
address_sound plain w (Constant n) h e = number_sound w n (and_parts (is_width w) (fits w n) h).1 e
address_sound true w (Symbol s t) h e = absurd (let x : false ≡ true = h in cc)
address_sound false w (Symbol s t) h errors.InvalidAddress = refl
address_sound false w (Symbol s t) h e = refl

-- bytes behind others
pub BytesRefused-after : {a b : Meaning} (c : Meaning) → IsSameWriter a b → (e : Error) → BytesRefused b c e → BytesRefused a c e
BytesRefused-after c same errors.NoMemory h = h
BytesRefused-after {a} {b} c same errors.WriteFault h = HasRisen-from a b c same.faults h
BytesRefused-after c same _ h = absurd h

-- a number that fits its width is refused for no cause of its own
pub number_never : (a b : Meaning) (w : ℕ) (fit : Bool) → IsTrue (is_width w) → IsTrue fit → (e : Error) → NumberRefused w fit (BytesRefused a b) e → Refused a b NotAtAll e
number_never a b w fit wide room (errors.UnsupportedWordSize n) h = absurd (let x : true ≡ false = sym wide ∙ h.1 in cc)
number_never a b w fit wide room errors.ValueTooLarge h = absurd (let x : true ≡ false = sym room ∙ h.1 in cc)
number_never a b w fit wide room errors.NoMemory h = tt
number_never a b w fit wide room errors.WriteFault h = h.2
number_never a b w fit wide room e h = absurd h.2
