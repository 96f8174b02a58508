-- Values, from their forms and names.
use Rattle.std.proofs.Common.{◌≡◌, ◌∙◌, sym, ap, ℕ, ◌^◌, ◌<◌, ◌≤◌, ◌%◌, Bool, true, false, List, Option, Some, None, ℤ, ap₂, refl}
use Rattle.std.proofs.lemmas.Bool.{lt-ltb, le-ltb}
use Rattle.dw_base.specs.Forms.{Operand, Absent, Signed, Bytes, Text}
use Rattle.dw_base.specs.Entries.{ReadAttribute}
use Rattle.dw_base.specs.declared.common.Encoding.{Encoding}
use Rattle.dw_read.specs.Values.{Value, row_among, index_rows, index_value, number_rows, number_value, place_rows, place_value, is_among, old_place_names, is_old_place_name, expression_names, is_expression_name, lookup, byte_rows, wide_rows, byte_value, typed_value, is_old_place, raw_by, raw_value_of, absent_value, block_value}
use Rattle.dw_read.specs.declared.value.AttributeValue.TheVariants.{Udata, SecOffset, Sdata, String}

pub index_is : (form k n : ℕ) (v : Value) → form ≡ k → row_among (λ m. Udata (m % 2 ^ 64)) k index_rows n ≡ v → v ≡ index_value form n
unfolding index_value
index_is form k n v h q = sym (ap (λ (f : ℕ). row_among (λ m. Udata (m % 2 ^ 64)) f index_rows n) h ∙ q)

pub number_is : (form k n : ℕ) (v : Value) → form ≡ k → row_among (index_value k) k number_rows n ≡ v → v ≡ number_value form n
unfolding number_value
number_is form k n v h q = sym (ap (λ (f : ℕ). row_among (index_value f) f number_rows n) h ∙ q)

pub place_is : (name k n : ℕ) (v : Value) → name ≡ k → row_among (λ m. SecOffset m) k place_rows n ≡ v → v ≡ place_value name n
unfolding place_value
place_is name k n v h q = sym (ap (λ (f : ℕ). row_among (λ m. SecOffset m) f place_rows n) h ∙ q)

pub old_place_is : (name k : ℕ) (b : Bool) → name ≡ k → is_among k old_place_names ≡ b → b ≡ is_old_place_name name
unfolding is_old_place_name
old_place_is name k b h q = sym (ap (λ (n : ℕ). is_among n old_place_names) h ∙ q)

pub expression_is : (name k : ℕ) (b : Bool) → name ≡ k → is_among k expression_names ≡ b → b ≡ is_expression_name name
unfolding is_expression_name
expression_is name k b h q = sym (ap (λ (n : ℕ). is_among n expression_names) h ∙ q)

pub byte_is : (name k n : ℕ) (f : ℕ → Value) → n < 2 ^ 8 → name ≡ k → lookup k byte_rows ≡ Some f → Some (f n) ≡ byte_value name n
unfolding byte_value
byte_is name k n f l h q = sym (rw (lt-ltb n (2 ^ 8) l, h, q) refl)

pub byte_large : (name n : ℕ) → 2 ^ 8 ≤ n → None ≡ byte_value name n
unfolding byte_value
byte_large name n l = sym (rw (le-ltb n (2 ^ 8) l) refl)

pub byte_none : (name n : ℕ) → lookup name byte_rows ≡ None → n < 2 ^ 8 → None ≡ byte_value name n
unfolding byte_value
byte_none name n q l = sym (rw (lt-ltb n (2 ^ 8) l, q) refl)

pub wide_is : (name k n b : ℕ) (f : ℕ → Value) → n < 2 ^ b → name ≡ k → lookup k wide_rows ≡ Some (b, f) → Some (f n) ≡ typed_value name n
unfolding typed_value
wide_is name k n b f l h q = sym (rw (h, q, lt-ltb n (2 ^ b) l) refl)

pub wide_large : (name k n b : ℕ) (f : ℕ → Value) → 2 ^ b ≤ n → name ≡ k → lookup k wide_rows ≡ Some (b, f) → None ≡ typed_value name n
unfolding typed_value
wide_large name k n b f l h q = sym (rw (h, q, le-ltb n (2 ^ b) l) refl)

pub wide_none : (name n : ℕ) → lookup name wide_rows ≡ None → byte_value name n ≡ typed_value name n
unfolding typed_value
wide_none name n q = sym (rw q refl)

-- a value by its form and, where it is an old place, by its name
pub raw_is : (e : Encoding) (x : ReadAttribute) (b : Bool) (o : Operand) (v : Value) → is_old_place e x.name x.form ≡ b → x.operand ≡ o → raw_by b x.form x.constant o ≡ v → v ≡ raw_value_of e x
unfolding raw_value_of
raw_is e x b o v p q h = sym (ap₂ (λ (c : Bool) (d : Operand). raw_by c x.form x.constant d) p q ∙ h)

module _ (form : ℕ) (constant : Option ℤ) where
  pub raw_absent : (b : Bool) → raw_by b form constant Absent ≡ absent_value constant
  raw_absent true = refl
  raw_absent false = refl

  pub raw_signed : (b : Bool) (z : ℤ) → raw_by b form constant (Signed z) ≡ Sdata z
  raw_signed true z = refl
  raw_signed false z = refl

  pub raw_bytes : (b : Bool) (xs : List ℕ) → raw_by b form constant (Bytes xs) ≡ block_value form xs
  raw_bytes true xs = refl
  raw_bytes false xs = refl

  pub raw_text : (b : Bool) (xs : List ℕ) → raw_by b form constant (Text xs) ≡ String xs
  raw_text true xs = refl
  raw_text false xs = refl
