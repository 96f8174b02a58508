-- What calls that write an operand, or size it, answer for each kind of operand.
use Rattle.std.specs.Prelude.{◌≡◌, ℕ, Bool, true, false, not, ◌&&◌, ◌==◌, List, Option, Some, None, Result, Ok, Err, OnOk, IfErr, IsTrue, IsFalse, refl}
use Rattle.std.proofs.Common.{sym, ◌∙◌, ap, subst}
use Rattle.std.proofs.lemmas.Bool.{eq-eqb}
use Rattle.dw_base.specs.Numbers.{is_width, fits}
use Rattle.dw_base.specs.declared.address.Address.{Address as TargetAddress}
use Rattle.dw_base.specs.declared.address.Address.TheVariants as addresses
use Rattle.dw_base.specs.declared.common.Encoding.{Encoding}
use Rattle.dw_base.specs.declared.error.Error.{Error}
use Rattle.dw_base.specs.declared.error.Error.TheVariants as errors
use Rattle.dw_writer.specs.Meaning.{Meaning}
use Rattle.dw_writer.specs.Causes.{BytesRefused, NumberRefused, AddressRefused, address_fits}
use Rattle.dw_writer.proofs.Outcomes.{OnOk-map, IfErr-map}
use Rattle.dw_expr.specs.OperandViews.{operand_in}
use Rattle.dw_expr.specs.Places.{place_by, Refused}
use Rattle.dw_expr.specs.Spelling.{operand_size}
use Rattle.dw_expr.specs.Causes.{entry_fails, is_far, place_fails, width_fails, address_fails, count_fails, base_fails, operand_fails}
use Rattle.dw_expr.specs.declared.op.operands.Operand.{Operand as Given}

both_hold : (a b : Bool) → IsTrue a → IsFalse b → IsTrue (a && not b)
both_hold true false h k = refl
both_hold false b h k = absurd (let e : IsTrue false = h in cc)
both_hold true true h k = absurd (let e : IsFalse true = k in cc)

neither : (a b : Bool) → IsTrue b → IsFalse (a && not b)
neither true true h = refl
neither false b h = refl
neither true false h = absurd (let e : IsTrue false = h in cc)

-- Calls, by the operand that is written

module _ (e : Encoding) (known : Option (ℕ → Option ℕ)) (keeps plain : Bool) (starts : List ℕ) (to : ℕ) where
  pub sound_by : {T : Type 0} (r : Result T Error) (p o : Given) → p ≡ o → OnOk r ((err : Error) → IsFalse (operand_fails e known keeps plain starts to (operand_in o) err)) →
      OnOk r ((err : Error) → IsFalse (operand_fails e known keeps plain starts to (operand_in p) err))
  sound_by r p o is h = subst (λ q. OnOk r ((err : Error) → IsFalse (operand_fails e known keeps plain starts to (operand_in q) err))) (sym is) h

  -- an operand that nothing refuses
  pub unfailing : {T : Type 0} (r : Result T Error) (p o : Given) → p ≡ o → ((err : Error) → IsFalse (operand_fails e known keeps plain starts to (operand_in o) err)) →
      OnOk r ((err : Error) → IsFalse (operand_fails e known keeps plain starts to (operand_in p) err))
  unfailing (Ok x) p o is h = sound_by (Ok x) p o is h
  unfailing (Err x) p o is h = tt

  pub refused_by : {T : Type 0} (r : Result T Error) (a b : Meaning) (p o : Given) → p ≡ o → IfErr r (Refused a b (operand_fails e known keeps plain starts to (operand_in o))) →
      IfErr r (Refused a b (operand_fails e known keeps plain starts to (operand_in p)))
  refused_by r a b p o is h = subst (λ q. IfErr r (Refused a b (operand_fails e known keeps plain starts to (operand_in q)))) (sym is) h

-- the same of the size of an operand
module _ (e : Encoding) (known : Option (ℕ → Option ℕ)) where
  pub placed_by : (p o : Given) → p ≡ o → ((err : Error) → IsFalse (base_fails e known (operand_in o) err)) → (err : Error) → IsFalse (base_fails e known (operand_in p) err)
  placed_by p o is h = subst (λ q. (err : Error) → IsFalse (base_fails e known (operand_in q) err)) (sym is) h

  pub size_by : (n : ℕ) (p o : Given) → p ≡ o → n ≡ operand_size e (place_by known) (operand_in o) → n ≡ operand_size e (place_by known) (operand_in p)
  size_by n p o is h = h ∙ ap (λ q. operand_size e (place_by known) (operand_in q)) (sym is)

-- Causes, from what the writer answers

pub bytes_cause : {T : Type 0} (r : Result T Error) (a b : Meaning) (f : Error → Bool) → IfErr r (BytesRefused a b) → IfErr r (Refused a b f)
bytes_cause r a b f h = IfErr-map r h bytes
  where
    bytes : (err : Error) → BytesRefused a b err → Refused a b f err
    bytes errors.NoMemory h = tt
    bytes errors.WriteFault h = h
    bytes err h = absurd h

pub count_sound : {T : Type 0} (r : Result T Error) (n : ℕ) → OnOk r (IsTrue (is_width 1) × IsTrue (fits 1 n)) → OnOk r ((err : Error) → IsFalse (count_fails n err))
count_sound r n h = OnOk-map r h none
  where
    none : IsTrue (is_width 1) × IsTrue (fits 1 n) → (err : Error) → IsFalse (count_fails n err)
    none k errors.ValueTooLarge = ap not k.1
    none k err = refl

pub count_cause : {T : Type 0} (r : Result T Error) (a b : Meaning) (n : ℕ) → IfErr r (NumberRefused 1 (fits 1 n) (BytesRefused a b)) → IfErr r (Refused a b (count_fails n))
count_cause r a b n h = IfErr-map r h cause
  where
    cause : (err : Error) → NumberRefused 1 (fits 1 n) (BytesRefused a b) err → Refused a b (count_fails n) err
    cause errors.NoMemory h = tt
    cause errors.WriteFault h = h.2
    cause errors.ValueTooLarge h = ap not h.1
    cause (errors.UnsupportedWordSize w) h = absurd (let k : IsFalse true = h.1 in cc)
    cause err h = absurd h.2

width_none : (w : ℕ) → IsTrue (is_width w) → (err : Error) → IsFalse (width_fails w err)
width_none w h (errors.UnsupportedWordSize n) = neither (n == w) (is_width w) h
width_none w h err = refl

pub address_sound : {T : Type 0} (r : Result T Error) (w : ℕ) (plain : Bool) (a : TargetAddress) → OnOk r (IsTrue (address_fits plain w a)) → OnOk r ((err : Error) → IsFalse (address_fails w plain a err))
address_sound r w plain a h = OnOk-map r h (none plain a)
  where
    first : (b c : Bool) → IsTrue (b && c) → IsTrue b
    first true c h = refl
    first false c h = absurd (let k : IsTrue false = h in cc)

    second : (b c : Bool) → IsTrue (b && c) → IsTrue c
    second true c h = h
    second false c h = absurd (let k : IsTrue false = h in cc)

    none : (plain : Bool) (a : TargetAddress) → IsTrue (address_fits plain w a) → (err : Error) → IsFalse (address_fails w plain a err)
    none plain (addresses.Constant n) h errors.ValueTooLarge = neither (is_width w) (fits w n) (second (is_width w) (fits w n) h)
    none plain (addresses.Constant n) h (errors.UnsupportedWordSize k) = width_none w (first (is_width w) (fits w n) h) (errors.UnsupportedWordSize k)
    none plain (addresses.Constant n) h err = refl
    none true (addresses.Symbol s z) h err = absurd (let k : IsTrue false = h in cc)
    none false (addresses.Symbol s z) h errors.InvalidAddress = refl
    none false (addresses.Symbol s z) h (errors.UnsupportedWordSize k) = width_none w h (errors.UnsupportedWordSize k)
    none false (addresses.Symbol s z) h err = refl

pub address_cause : {T : Type 0} (r : Result T Error) (a b : Meaning) (w : ℕ) (plain : Bool) (x : TargetAddress) → IfErr r (AddressRefused plain w x (BytesRefused a b)) → IfErr r (Refused a b (address_fails w plain x))
address_cause r a b w plain x h = IfErr-map r h (cause plain x)
  where
    cause : (plain : Bool) (x : TargetAddress) (err : Error) → AddressRefused plain w x (BytesRefused a b) err → Refused a b (address_fails w plain x) err
    cause plain (addresses.Constant n) errors.NoMemory h = tt
    cause plain (addresses.Constant n) errors.WriteFault h = h.2
    cause plain (addresses.Constant n) errors.ValueTooLarge h = both_hold (is_width w) (fits w n) h.0 h.1
    cause plain (addresses.Constant n) (errors.UnsupportedWordSize k) h = both_hold (k == w) (is_width w) (eq-eqb k w h.0) h.1
    cause plain (addresses.Constant n) err h = absurd h.2
    cause true (addresses.Symbol s z) errors.InvalidAddress h = refl
    cause true (addresses.Symbol s z) err h = absurd h
    cause false (addresses.Symbol s z) errors.NoMemory h = tt
    cause false (addresses.Symbol s z) errors.WriteFault h = h.2
    cause false (addresses.Symbol s z) errors.ValueTooLarge h = absurd (let k : IsFalse true = h.1 in cc)
    cause false (addresses.Symbol s z) (errors.UnsupportedWordSize k) h = both_hold (k == w) (is_width w) (eq-eqb k w h.0) h.1
    cause false (addresses.Symbol s z) err h = absurd h.2

-- an entry without a place
pub entry_cause : (a b : Meaning) (known : Option (ℕ → Option ℕ)) (i : ℕ) (err : Error) → IsTrue (entry_fails known i err) → Refused a b (entry_fails known i) err
entry_cause a b known i errors.NoMemory h = tt
entry_cause a b None i errors.WriteFault h = absurd (let k : IsTrue false = h in cc)
entry_cause a b (Some place) i errors.WriteFault h = absurd (let k : IsTrue false = h in cc)
entry_cause a b known i err h = h

pub place_cause : (a b : Meaning) (known : Option (ℕ → Option ℕ)) (i : ℕ) (err : Error) → IsTrue (entry_fails known i err) → Refused a b (place_fails known i) err
place_cause a b known i errors.NoMemory h = tt
place_cause a b None i errors.WriteFault h = absurd (let k : IsTrue false = h in cc)
place_cause a b (Some place) i errors.WriteFault h = absurd (let k : IsTrue false = h in cc)
place_cause a b None i errors.ValueTooLarge h = absurd (let k : IsTrue false = h in cc)
place_cause a b (Some place) i errors.ValueTooLarge h = absurd (let k : IsTrue false = h in cc)
place_cause a b known i err h = h

-- a place that is there, in four bytes
pub place_sound : {T : Type 0} (r : Result T Error) (known : Option (ℕ → Option ℕ)) (i n : ℕ) → place_by known i ≡ Some n → ((err : Error) → IsFalse (entry_fails known i err)) →
    OnOk r (IsTrue (is_width 4) × IsTrue (fits 4 n)) → OnOk r ((err : Error) → IsFalse (place_fails known i err))
place_sound r known i n there known_so h = OnOk-map r h none
  where
    none : IsTrue (is_width 4) × IsTrue (fits 4 n) → (err : Error) → IsFalse (place_fails known i err)
    none k errors.ValueTooLarge = ap is_far there ∙ ap not k.1
    none k err = known_so err

pub place_number_cause : {T : Type 0} (r : Result T Error) (a b : Meaning) (known : Option (ℕ → Option ℕ)) (i n : ℕ) → place_by known i ≡ Some n →
    IfErr r (NumberRefused 4 (fits 4 n) (BytesRefused a b)) → IfErr r (Refused a b (place_fails known i))
place_number_cause r a b known i n there h = IfErr-map r h cause
  where
    cause : (err : Error) → NumberRefused 4 (fits 4 n) (BytesRefused a b) err → Refused a b (place_fails known i) err
    cause errors.NoMemory h = tt
    cause errors.WriteFault h = h.2
    cause errors.ValueTooLarge h = ap is_far there ∙ ap not h.1
    cause (errors.UnsupportedWordSize w) h = absurd (let k : IsFalse true = h.1 in cc)
    cause err h = absurd h.2
