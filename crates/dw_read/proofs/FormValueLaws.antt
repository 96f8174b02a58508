-- Values outside of entries, from the operands in them.
use Rattle.std.proofs.Common.{◌≡◌, ◌∙◌, sym, ap, refl, ℕ, List, None, Ok, Err, Bool, true, false, ◌&&◌, ◌||◌, nat_eq}
use Rattle.dw_base.specs.Forms.{Operand}
use Rattle.dw_base.specs.declared.common.Encoding.{Encoding}
use Rattle.dw_read.specs.Reading.{Reading, left}
use Rattle.dw_read.specs.Took.{Took}
use Rattle.dw_read.specs.FormReasons.{form_read}
use Rattle.dw_read.specs.FormValues.{value_read}
use Rattle.dw_read.specs.Values.{Value, raw_value_of, raw_by, formed_value, is_old_place, is_old_place_name, word_form}
use Rattle.dw_read.specs.declared.error.ReadError.{ReadError}
use Rattle.dw_read.proofs.Chain.{took, went}

pub value_err : (big : Bool) (e : Encoding) (form : ℕ) (bs : List ℕ) (x : ReadError) → form_read big e form bs ≡ Err x → value_read big e form bs ≡ Err x
unfolding value_read
value_err big e form bs x h = rw h refl

never : (a b : Bool) → (a && b && false) ≡ false
never true true = refl
never true false = refl
never false b = refl

-- no place in a section goes without a name
no_place : (e : Encoding) (form : ℕ) → is_old_place e 0 form ≡ false
unfolding is_old_place_name
no_place e form = never (nat_eq e.version 2 || nat_eq e.version 3) (nat_eq form (word_form e.format))

raw_is : (e : Encoding) (form : ℕ) (o : Operand) → raw_value_of e (record { name = 0; form = form; constant = None; operand = o }) ≡ formed_value form None o
unfolding raw_value_of
raw_is e form o = ap (λ (b : Bool). raw_by b form None o) (no_place e form)

pub value_took : (big : Bool) (e : Encoding) (form : ℕ) (x : ℕ × Operand) (v : Value) (old new : Reading) → v ≡ raw_value_of e (record { name = 0; form = x.0; constant = None; operand = x.1 }) → Took (ℕ × Operand) (form_read big e form) old new x → Took Value (value_read big e form) old new v
unfolding value_read
value_took big e form x v old new q t =
    took Value (value_read big e form) old new v (went (ℕ × Operand) (form_read big e form) old new x t)
    (rw t.value (ap (λ (y : Value). Ok (y, left new)) (sym (q ∙ raw_is e x.0 x.1))))
