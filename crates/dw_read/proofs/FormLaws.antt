-- A reading of operands, attributes and rows with reasons reads what the grammar reads.
use Rattle.std.proofs.Common.{◌≡◌, ◌∙◌, ℕ, Bool, true, false, List, [], ◌∷◌, Option, Some, None, Result, Ok, refl, not, nat_eq, if◌then◌else◌}
use Rattle.std.specs.Result.{result_ok}
use Rattle.dw_base.specs.Numbers.{◌>>=◌, bytes_at, number_at}
use Rattle.dw_base.specs.Leb128.{uleb_at, uleb16_at, sleb_at}
use Rattle.dw_base.specs.Forms.{Operand, Kind, Empty, Fixed, Uleb, Sleb, Block, UlebBlock, Zeroed, Indirect, kind_of, text_at, direct_at, indirect_at, kind_at, form_at, implicit_const}
use Rattle.dw_base.specs.Abbreviations.{Specification, Declaration, shape_of_code}
use Rattle.dw_base.specs.Entries.{ReadAttribute, ReadEntry, Mark, attributes_at, mark_at}
use Rattle.dw_base.specs.declared.common.Encoding.{Encoding}
use Rattle.dw_read.specs.Reasons.{◌=>>◌, or_refuse, bytes_read, number_read, uleb_read, uleb16_read, sleb_read, text_read}
use Rattle.dw_read.specs.FormReasons.{unknown_form, direct_read, indirect_read, kind_read, form_read, attribute_read, attributes_read, mark_read}
use Rattle.dw_read.specs.declared.error.ReadError.{ReadError}
use Rattle.dw_read.specs.declared.error.ReadError.TheVariants.{UnknownAbbreviation}
use Rattle.dw_read.proofs.Laws.{IsReadOf, then_ok, or_refuse_ok, if_so_ok, bytes_law, number_law, uleb_law, uleb16_law, sleb_law, text_law}

direct_law : (big : Bool) (k : Kind) → IsReadOf Operand (direct_at big k) (direct_read big k)
unfolding direct_at direct_read
direct_law big Empty bytes = refl
direct_law big (Fixed w) bytes = then_ok (number_read big w bytes) (number_at big w bytes) _ _ (number_law big w bytes) (λ x. refl)
direct_law big Uleb bytes = then_ok (uleb_read bytes) (uleb_at bytes) _ _ (uleb_law bytes) (λ x. refl)
direct_law big Sleb bytes = then_ok (sleb_read bytes) (sleb_at bytes) _ _ (sleb_law bytes) (λ x. refl)
direct_law big (Block w) bytes = then_ok (number_read big w bytes) (number_at big w bytes) _ _ (number_law big w bytes) (λ n. then_ok (bytes_read n.0 n.1) (bytes_at n.0 n.1) _ _ (bytes_law n.0 n.1) (λ x. refl))
direct_law big UlebBlock bytes = then_ok (uleb_read bytes) (uleb_at bytes) _ _ (uleb_law bytes) (λ n. then_ok (bytes_read n.0 n.1) (bytes_at n.0 n.1) _ _ (bytes_law n.0 n.1) (λ x. refl))
direct_law big Zeroed bytes = then_ok (text_read bytes) (text_at bytes) _ _ (text_law bytes) (λ x. refl)
direct_law big Indirect bytes = refl

indirect_law : (big : Bool) (e : Encoding) → IsReadOf (ℕ × Operand) (indirect_at big e) (indirect_read big e)
unfolding indirect_read
indirect_law big e bytes =
    then_ok (uleb16_read bytes) (uleb16_at bytes) _ _ (uleb16_law bytes)
    (λ form. if_so_ok (not (nat_eq form.0 implicit_const)) (unknown_form form.0) _ _
    (then_ok (or_refuse (unknown_form form.0) (kind_of e form.0)) (kind_of e form.0) _ _ (or_refuse_ok (unknown_form form.0) (kind_of e form.0)) (λ k. then_ok (direct_read big k form.1) (direct_at big k form.1) _ _ (direct_law big k form.1) (λ x. refl))))

in_form_law : (big : Bool) (form : ℕ) (k : Kind) (bytes : List ℕ) → result_ok {T = (ℕ × Operand) × List ℕ} (direct_read big k bytes =>> λ x. Ok ((form, x.0), x.1)) ≡ (direct_at big k bytes >>= λ x. Some ((form, x.0), x.1))
in_form_law big form k bytes = then_ok (direct_read big k bytes) (direct_at big k bytes) _ _ (direct_law big k bytes) (λ x. refl)

kind_law : (big : Bool) (e : Encoding) (form : ℕ) (k : Kind) (bytes : List ℕ) → result_ok (kind_read big e form k bytes) ≡ kind_at big e form k bytes
kind_law big e form Empty bytes = in_form_law big form Empty bytes
kind_law big e form (Fixed w) bytes = in_form_law big form (Fixed w) bytes
kind_law big e form Uleb bytes = in_form_law big form Uleb bytes
kind_law big e form Sleb bytes = in_form_law big form Sleb bytes
kind_law big e form (Block w) bytes = in_form_law big form (Block w) bytes
kind_law big e form UlebBlock bytes = in_form_law big form UlebBlock bytes
kind_law big e form Zeroed bytes = in_form_law big form Zeroed bytes
kind_law big e form Indirect bytes = indirect_law big e bytes

pub form_law : (big : Bool) (e : Encoding) (form : ℕ) → IsReadOf (ℕ × Operand) (form_at big e form) (form_read big e form)
unfolding form_at form_read
form_law big e form bytes = then_ok (or_refuse (unknown_form form) (kind_of e form)) (kind_of e form) _ _ (or_refuse_ok (unknown_form form) (kind_of e form)) (λ k. kind_law big e form k bytes)

-- an attribute, and then the others
named_then : {A B C : Type 0} (o : Option A) (f : A → B) (g : B → Option C) → ((o >>= λ x. Some (f x)) >>= g) ≡ (o >>= λ x. g (f x))
named_then None f g = refl
named_then (Some x) f g = refl

pub attributes_law : (big : Bool) (e : Encoding) (ss : List Specification) → IsReadOf (List ReadAttribute) (attributes_at big e ss) (attributes_read big e ss)
unfolding attributes_at attributes_read attribute_read
attributes_law big e [] bytes = refl
attributes_law big e (s ∷ ss) bytes =
    let named : (ℕ × Operand) × List ℕ → ReadAttribute × List ℕ = λ x. (record { name = s.name; form = x.0.0; constant = s.constant; operand = x.0.1 }, x.1) in
    then_ok (form_read big e s.form bytes =>> λ x. Ok (named x)) (form_at big e s.form bytes >>= λ x. Some (named x)) _ _
    (then_ok (form_read big e s.form bytes) (form_at big e s.form bytes) _ _ (form_law big e s.form bytes) (λ x. refl))
    (λ x. then_ok (attributes_read big e ss x.1) (attributes_at big e ss x.1) _ _ (attributes_law big e ss x.1) (λ more. refl))
    ∙ named_then (form_at big e s.form bytes) named (λ x. attributes_at big e ss x.1 >>= λ more. Some (x.0 ∷ more.0, more.1))

either_ok : {A : Type 0} (b : Bool) (x y : Result A ReadError) (p q : Option A) → result_ok x ≡ p → result_ok y ≡ q → result_ok (if b then x else y) ≡ (if b then p else q)
either_ok true x y p q h k = h
either_ok false x y p q h k = k

pub mark_law : (big : Bool) (e : Encoding) (table : List Declaration) → IsReadOf (Mark ReadEntry) (mark_at big e table) (mark_read big e table)
unfolding mark_at mark_read
mark_law big e table bytes =
    then_ok (uleb_read bytes) (uleb_at bytes) _ _ (uleb_law bytes)
    (λ code. either_ok (nat_eq code.0 0) _ _ _ _ refl
    (then_ok (or_refuse (UnknownAbbreviation code.0) (shape_of_code table code.0)) (shape_of_code table code.0) _ _ (or_refuse_ok (UnknownAbbreviation code.0) (shape_of_code table code.0))
    (λ shape. then_ok (attributes_read big e shape.attributes code.1) (attributes_at big e shape.attributes code.1) _ _ (attributes_law big e shape.attributes code.1) (λ x. refl))))
