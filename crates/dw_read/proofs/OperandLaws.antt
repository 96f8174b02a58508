-- Operands and their forms, from what was read of them.
use Rattle.std.proofs.Common.{◌≡◌, ◌∙◌, sym, ap, subst, ℕ, Bool, List, Option, Some, None, Ok, Err, Result, ℤ, refl}
use Rattle.std.proofs.lemmas.Bool.{ne_eqb, eq-eqb}
use Rattle.dw_base.specs.Forms.{Operand, Absent, Number, Signed, Bytes, Text, Kind, kind_of, implicit_const}
use Rattle.dw_base.specs.declared.common.Encoding.{Encoding}
use Rattle.dw_base.specs.declared.constants.TheConstants.{DW_FORM_indirect}
use Rattle.dw_read.specs.Reasons.{◌=>>◌, bytes_read, number_read, uleb_read, uleb16_read, sleb_read, text_read}
use Rattle.dw_read.specs.Took.{option_of}
use Rattle.dw_read.specs.Kinds.{kind_in_grammar}
use Rattle.dw_read.specs.FormReasons.{unknown_form, direct_read, indirect_read, form_read}
use Rattle.dw_read.specs.declared.kind.Kind.{Kind as HeldKind}
use Rattle.dw_read.specs.declared.kind.Kind.TheVariants.{Empty as HeldEmpty, Fixed as HeldFixed, Wide as HeldWide, Uleb as HeldUleb, Sleb as HeldSleb, Block as HeldBlock, UlebBlock as HeldUlebBlock, Zeroed as HeldZeroed, Indirect as HeldIndirect}
use Rattle.dw_read.specs.declared.error.ReadError.{ReadError}

module _ (big : Bool) (q : HeldKind) (bs : List ℕ) where
  pub direct_empty : q ≡ HeldEmpty → direct_read big (kind_in_grammar q) bs ≡ Ok (Absent, bs)
  unfolding direct_read
  direct_empty h = rw h refl

  pub direct_fixed : (w n : ℕ) (rest : List ℕ) → q ≡ HeldFixed w → number_read big w bs ≡ Ok (n, rest) → direct_read big (kind_in_grammar q) bs ≡ Ok (Number n, rest)
  unfolding direct_read
  direct_fixed w n rest h e = rw (h, e) refl

  pub direct_fixed_err : (w : ℕ) (e : ReadError) → q ≡ HeldFixed w → number_read big w bs ≡ Err e → direct_read big (kind_in_grammar q) bs ≡ Err e
  unfolding direct_read
  direct_fixed_err w e h r = rw (h, r) refl

  pub direct_wide : (n : ℕ) (rest : List ℕ) → q ≡ HeldWide → number_read big 16 bs ≡ Ok (n, rest) → direct_read big (kind_in_grammar q) bs ≡ Ok (Number n, rest)
  unfolding direct_read
  direct_wide n rest h e = rw (h, e) refl

  pub direct_wide_err : (e : ReadError) → q ≡ HeldWide → number_read big 16 bs ≡ Err e → direct_read big (kind_in_grammar q) bs ≡ Err e
  unfolding direct_read
  direct_wide_err e h r = rw (h, r) refl

  pub direct_uleb : (n : ℕ) (rest : List ℕ) → q ≡ HeldUleb → uleb_read bs ≡ Ok (n, rest) → direct_read big (kind_in_grammar q) bs ≡ Ok (Number n, rest)
  unfolding direct_read
  direct_uleb n rest h e = rw (h, e) refl

  pub direct_uleb_err : (e : ReadError) → q ≡ HeldUleb → uleb_read bs ≡ Err e → direct_read big (kind_in_grammar q) bs ≡ Err e
  unfolding direct_read
  direct_uleb_err e h r = rw (h, r) refl

  pub direct_sleb : (z : ℤ) (rest : List ℕ) → q ≡ HeldSleb → sleb_read bs ≡ Ok (z, rest) → direct_read big (kind_in_grammar q) bs ≡ Ok (Signed z, rest)
  unfolding direct_read
  direct_sleb z rest h e = rw (h, e) refl

  pub direct_sleb_err : (e : ReadError) → q ≡ HeldSleb → sleb_read bs ≡ Err e → direct_read big (kind_in_grammar q) bs ≡ Err e
  unfolding direct_read
  direct_sleb_err e h r = rw (h, r) refl

  pub direct_block : (w n : ℕ) (mid part rest : List ℕ) → q ≡ HeldBlock w → number_read big w bs ≡ Ok (n, mid) → bytes_read n mid ≡ Ok (part, rest) → direct_read big (kind_in_grammar q) bs ≡ Ok (Bytes part, rest)
  unfolding direct_read
  direct_block w n mid part rest h e k = rw (h, e, k) refl

  pub direct_block_no_length : (w : ℕ) (e : ReadError) → q ≡ HeldBlock w → number_read big w bs ≡ Err e → direct_read big (kind_in_grammar q) bs ≡ Err e
  unfolding direct_read
  direct_block_no_length w e h r = rw (h, r) refl

  pub direct_block_cut : (w n : ℕ) (mid : List ℕ) (e : ReadError) → q ≡ HeldBlock w → number_read big w bs ≡ Ok (n, mid) → bytes_read n mid ≡ Err e → direct_read big (kind_in_grammar q) bs ≡ Err e
  unfolding direct_read
  direct_block_cut w n mid e h k r = rw (h, k, r) refl

  pub direct_uleb_block : (n : ℕ) (mid part rest : List ℕ) → q ≡ HeldUlebBlock → uleb_read bs ≡ Ok (n, mid) → bytes_read n mid ≡ Ok (part, rest) → direct_read big (kind_in_grammar q) bs ≡ Ok (Bytes part, rest)
  unfolding direct_read
  direct_uleb_block n mid part rest h e k = rw (h, e, k) refl

  pub direct_uleb_block_no_length : (e : ReadError) → q ≡ HeldUlebBlock → uleb_read bs ≡ Err e → direct_read big (kind_in_grammar q) bs ≡ Err e
  unfolding direct_read
  direct_uleb_block_no_length e h r = rw (h, r) refl

  pub direct_uleb_block_cut : (n : ℕ) (mid : List ℕ) (e : ReadError) → q ≡ HeldUlebBlock → uleb_read bs ≡ Ok (n, mid) → bytes_read n mid ≡ Err e → direct_read big (kind_in_grammar q) bs ≡ Err e
  unfolding direct_read
  direct_uleb_block_cut n mid e h k r = rw (h, k, r) refl

  pub direct_zeroed : (text rest : List ℕ) → q ≡ HeldZeroed → text_read bs ≡ Ok (text, rest) → direct_read big (kind_in_grammar q) bs ≡ Ok (Text text, rest)
  unfolding direct_read
  direct_zeroed text rest h e = rw (h, e) refl

  pub direct_zeroed_err : (e : ReadError) → q ≡ HeldZeroed → text_read bs ≡ Err e → direct_read big (kind_in_grammar q) bs ≡ Err e
  unfolding direct_read
  direct_zeroed_err e h r = rw (h, r) refl

  pub direct_indirect : q ≡ HeldIndirect → direct_read big (kind_in_grammar q) bs ≡ Err (unknown_form DW_FORM_indirect.0)
  unfolding direct_read
  direct_indirect h = rw h refl

-- the kind of a form that was looked up
pub kind_some : (e : Encoding) (form : ℕ) (o : Option HeldKind) (k : HeldKind) → o ≡ Some k → option_of kind_in_grammar o ≡ kind_of e form → kind_of e form ≡ Some (kind_in_grammar k)
kind_some e form o k h q = sym q ∙ ap (option_of kind_in_grammar) h

pub kind_missing : (e : Encoding) (form : ℕ) (o : Option HeldKind) → o ≡ None → option_of kind_in_grammar o ≡ kind_of e form → kind_of e form ≡ None
kind_missing e form o h q = sym q ∙ ap (option_of kind_in_grammar) h

-- a form and its operand
pub form_unknown : (big : Bool) (e : Encoding) (form : ℕ) (bs : List ℕ) → kind_of e form ≡ None → form_read big e form bs ≡ Err (unknown_form form)
unfolding form_read
form_unknown big e form bs h = rw h refl

pub form_indirect : (big : Bool) (e : Encoding) (form : ℕ) (k : HeldKind) (bs : List ℕ) → kind_of e form ≡ Some (kind_in_grammar k) → k ≡ HeldIndirect → indirect_read big e bs ≡ form_read big e form bs
unfolding form_read
form_indirect big e form k bs h q = rw (h, q) refl

form_by : (big : Bool) (e : Encoding) (form : ℕ) (k : HeldKind) (bs : List ℕ) → kind_of e form ≡ Some (kind_in_grammar k) → (k ≡ HeldIndirect → ⊥) → form_read big e form bs ≡ (direct_read big (kind_in_grammar k) bs =>> λ x. Ok ((form, x.0), x.1))
unfolding form_read
form_by big e form HeldEmpty bs h n = rw h refl
form_by big e form (HeldFixed w) bs h n = rw h refl
form_by big e form HeldWide bs h n = rw h refl
form_by big e form HeldUleb bs h n = rw h refl
form_by big e form HeldSleb bs h n = rw h refl
form_by big e form (HeldBlock w) bs h n = rw h refl
form_by big e form HeldUlebBlock bs h n = rw h refl
form_by big e form HeldZeroed bs h n = rw h refl
form_by big e form HeldIndirect bs h n = absurd (n refl)

pub form_direct : (big : Bool) (e : Encoding) (form : ℕ) (k : HeldKind) (o : Operand) (bs rest : List ℕ) → kind_of e form ≡ Some (kind_in_grammar k) → (k ≡ HeldIndirect → ⊥) → direct_read big (kind_in_grammar k) bs ≡ Ok (o, rest) → form_read big e form bs ≡ Ok ((form, o), rest)
form_direct big e form k o bs rest h n d = form_by big e form k bs h n ∙ ap (λ r. r =>> λ x. Ok ((form, x.0), x.1)) d

pub form_direct_err : (big : Bool) (e : Encoding) (form : ℕ) (k : HeldKind) (y : ReadError) (bs : List ℕ) → kind_of e form ≡ Some (kind_in_grammar k) → (k ≡ HeldIndirect → ⊥) → direct_read big (kind_in_grammar k) bs ≡ Err y → form_read big e form bs ≡ Err y
form_direct_err big e form k y bs h n d = form_by big e form k bs h n ∙ ap (λ r. r =>> λ x. Ok ((form, x.0), x.1)) d

-- a form that indirect leads to
pub indirect_no_form : (big : Bool) (e : Encoding) (bs : List ℕ) (y : ReadError) → uleb16_read bs ≡ Err y → indirect_read big e bs ≡ Err y
unfolding indirect_read
indirect_no_form big e bs y h = rw h refl

pub indirect_constant : (big : Bool) (e : Encoding) (form : ℕ) (bs mid : List ℕ) → uleb16_read bs ≡ Ok (form, mid) → form ≡ implicit_const → indirect_read big e bs ≡ Err (unknown_form form)
unfolding indirect_read
indirect_constant big e form bs mid h q = rw (h, eq-eqb form implicit_const q) refl

pub indirect_unknown : (big : Bool) (e : Encoding) (form : ℕ) (bs mid : List ℕ) → uleb16_read bs ≡ Ok (form, mid) → (form ≡ implicit_const → ⊥) → kind_of e form ≡ None → indirect_read big e bs ≡ Err (unknown_form form)
unfolding indirect_read
indirect_unknown big e form bs mid h n k = rw (h, ne_eqb form implicit_const n, k) refl

pub indirect_err : (big : Bool) (e : Encoding) (form : ℕ) (k : Kind) (bs mid : List ℕ) (y : ReadError) → uleb16_read bs ≡ Ok (form, mid) → (form ≡ implicit_const → ⊥) → kind_of e form ≡ Some k → direct_read big k mid ≡ Err y → indirect_read big e bs ≡ Err y
unfolding indirect_read
indirect_err big e form k bs mid y h n q d = rw (h, ne_eqb form implicit_const n, q, d) refl

pub indirect_is : (big : Bool) (e : Encoding) (form : ℕ) (k : Kind) (o : Operand) (bs mid rest : List ℕ) → uleb16_read bs ≡ Ok (form, mid) → (form ≡ implicit_const → ⊥) → kind_of e form ≡ Some k → direct_read big k mid ≡ Ok (o, rest) → indirect_read big e bs ≡ Ok ((form, o), rest)
unfolding indirect_read
indirect_is big e form k o bs mid rest h n q d = rw (h, ne_eqb form implicit_const n, q, d) refl

-- an operand in the byte order of the reader that read before
pub in_order : (b big : Bool) (k : Kind) (bs : List ℕ) (r : Result (Operand × List ℕ) ReadError) → b ≡ big → direct_read b k bs ≡ r → direct_read big k bs ≡ r
in_order b big k bs r q h = subst (λ (x : Bool). direct_read x k bs ≡ r) q h
