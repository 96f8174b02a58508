-- A row takes a byte at least.
use Rattle.std.proofs.Common.{◌≡◌, ap, ℕ, zero, suc, ◌<◌, ◌≤◌, List, [], ◌∷◌, length, take, drop, Bool, true, false, not, Option, Some, None, Result, Ok, ℤ, arith, length-drop, nat_eq, nat_le, if◌then◌else◌}
use Rattle.dw_base.specs.Numbers.{when, bytes_at, number_at, value_of}
use Rattle.dw_base.specs.Forms.{Operand, Absent, Number, Signed, Text, Kind, Empty, Fixed, Uleb, Sleb, Block, UlebBlock, Zeroed, Indirect, text_at, kind_of, implicit_const}
use Rattle.dw_base.specs.Abbreviations.{Specification, Declaration, shape_of_code}
use Rattle.dw_base.specs.Entries.{ReadAttribute, ReadEntry, Mark, Open, Null}
use Rattle.dw_base.specs.declared.common.Encoding.{Encoding}
use Rattle.dw_base.proofs.NumberLaws.{bind_parts, when_same}
use Rattle.dw_read.specs.Reasons.{◌=>>◌, or_refuse, bytes_read, number_read, uleb_read, uleb16_read, sleb_read, text_read}
use Rattle.dw_read.specs.FormReasons.{unknown_form, direct_read, indirect_read, kind_read, form_read, attribute_read, attributes_read, mark_read}
use Rattle.dw_read.specs.declared.error.ReadError.{ReadError}
use Rattle.dw_read.specs.declared.error.ReadError.TheVariants.{UnexpectedEof, UnknownAbbreviation}
use Rattle.dw_read.proofs.Items.{then_parts, if_so_parts}
use Rattle.dw_read.proofs.Declared.{uleb_shorter, uleb16_shorter, sleb_shorter}

abbrev gives : {A : Type 0} → A × List ℕ → Result (A × List ℕ) ReadError
gives x = Ok x

-- the pair that is given has the rest
rest_is : {A : Type 0} (bytes rest : List ℕ) (v : A) (x : A × List ℕ) → length rest ≤ length bytes → gives (v, rest) ≡ gives x → length x.1 ≤ length bytes
rest_is {A = A} bytes rest v x h e = let r : (v, rest) ≡ x = cc in let q : rest ≡ x.1 = ap (λ (y : A × List ℕ). y.1) r in omega (arith, ap length q)

there : {A : Type 0} (y : ReadError) (o : Option A) (x : A) → or_refuse y o ≡ Ok x → o ≡ Some x
there y None x e = absurd (cc)
there y (Some z) x e = let q : z ≡ x = cc in ap (λ v. Some v) q

bytes_shorter : (n : ℕ) (bs : List ℕ) (x : List ℕ × List ℕ) → bytes_read n bs ≡ Ok x → length x.1 ≤ length bs
unfolding bytes_read bytes_at
bytes_shorter n bs x e =
    let s : Some (take n bs, drop n bs) ≡ Some x = when_same (nat_le n (length bs)) (Some (take n bs, drop n bs)) x (there UnexpectedEof _ x e) in
    let q : (take n bs, drop n bs) ≡ x = cc in
    let r : drop n bs ≡ x.1 = ap (λ (y : List ℕ × List ℕ). y.1) q in
    omega (arith, length-drop n bs, ap length r)

number_shorter : (big : Bool) (w : ℕ) (bs : List ℕ) (x : ℕ × List ℕ) → number_read big w bs ≡ Ok x → length x.1 ≤ length bs
unfolding number_read number_at bytes_at
number_shorter big w bs x e =
    let p = bind_parts (when (nat_le w (length bs)) (Some (take w bs, drop w bs))) (λ (y : List ℕ × List ℕ). Some (value_of big y.0, y.1)) x (there UnexpectedEof _ x e) in
    let s : Some (take w bs, drop w bs) ≡ Some p.0 = when_same (nat_le w (length bs)) (Some (take w bs, drop w bs)) p.0 p.1 in
    let q : (take w bs, drop w bs) ≡ p.0 = cc s in
    let f : Some (value_of big p.0.0, p.0.1) ≡ Some x = p.2 in
    let r : (value_of big p.0.0, p.0.1) ≡ x = cc f in
    let a : drop w bs ≡ p.0.1 = ap (λ (y : List ℕ × List ℕ). y.1) q in
    let b : p.0.1 ≡ x.1 = ap (λ (y : ℕ × List ℕ). y.1) r in
    omega (arith, length-drop w bs, ap length a, ap length b)

text_at_shorter : (bs : List ℕ) (x : List ℕ × List ℕ) → text_at bs ≡ Some x → length x.1 ≤ length bs
unfolding text_at
text_at_shorter [] x e = absurd (cc)
text_at_shorter (zero ∷ bs) x e = let q : ([], bs) ≡ x = cc in let r : bs ≡ x.1 = ap (λ (y : List ℕ × List ℕ). y.1) q in omega (arith, ap length r)
text_at_shorter (suc b ∷ bs) x e =
    let p = bind_parts (text_at bs) (λ (y : List ℕ × List ℕ). Some (suc b ∷ y.0, y.1)) x e in
    let f : Some (suc b ∷ p.0.0, p.0.1) ≡ Some x = p.2 in
    let q : (suc b ∷ p.0.0, p.0.1) ≡ x = cc f in
    let r : p.0.1 ≡ x.1 = ap (λ (y : List ℕ × List ℕ). y.1) q in
    omega (arith, ap length r, text_at_shorter bs p.0 p.1)

text_shorter : (bs : List ℕ) (x : List ℕ × List ℕ) → text_read bs ≡ Ok x → length x.1 ≤ length bs
unfolding text_read
text_shorter bs x e = text_at_shorter bs x (there UnexpectedEof (text_at bs) x e)

direct_shorter : (big : Bool) (k : Kind) (bs : List ℕ) (x : Operand × List ℕ) → direct_read big k bs ≡ Ok x → length x.1 ≤ length bs
unfolding direct_read
direct_shorter big Empty bs x e = rest_is bs bs Absent x (omega arith) e
direct_shorter big (Fixed w) bs x e = let p = then_parts (number_read big w bs) (λ (y : ℕ × List ℕ). Ok (Number y.0, y.1)) x e in rest_is bs p.0.1 _ x (number_shorter big w bs p.0 p.1) p.2
direct_shorter big Uleb bs x e = let p = then_parts (uleb_read bs) (λ (y : ℕ × List ℕ). Ok (Number y.0, y.1)) x e in let l = uleb_shorter bs p.0 p.1 in rest_is bs p.0.1 _ x (omega arith) p.2
direct_shorter big Sleb bs x e = let p = then_parts (sleb_read bs) (λ (y : ℤ × List ℕ). Ok (Signed y.0, y.1)) x e in let l = sleb_shorter bs p.0 p.1 in rest_is bs p.0.1 _ x (omega arith) p.2
direct_shorter big (Block w) bs x e =
    let p = then_parts (number_read big w bs) _ x e in
    let q = then_parts (bytes_read p.0.0 p.0.1) _ x p.2 in
    let a : length p.0.1 ≤ length bs = number_shorter big w bs p.0 p.1 in
    let b : length q.0.1 ≤ length p.0.1 = bytes_shorter p.0.0 p.0.1 q.0 q.1 in
    rest_is bs q.0.1 _ x (omega arith) q.2
direct_shorter big UlebBlock bs x e =
    let p = then_parts (uleb_read bs) _ x e in
    let q = then_parts (bytes_read p.0.0 p.0.1) _ x p.2 in
    let a : length p.0.1 < length bs = uleb_shorter bs p.0 p.1 in
    let b : length q.0.1 ≤ length p.0.1 = bytes_shorter p.0.0 p.0.1 q.0 q.1 in
    rest_is bs q.0.1 _ x (omega arith) q.2
direct_shorter big Zeroed bs x e = let p = then_parts (text_read bs) (λ (y : List ℕ × List ℕ). Ok (Text y.0, y.1)) x e in rest_is bs p.0.1 _ x (text_shorter bs p.0 p.1) p.2
direct_shorter big Indirect bs x e = absurd (cc)

indirect_shorter : (big : Bool) (e : Encoding) (bs : List ℕ) (x : (ℕ × Operand) × List ℕ) → indirect_read big e bs ≡ Ok x → length x.1 ≤ length bs
unfolding indirect_read
indirect_shorter big e bs x h =
    let f = then_parts (uleb16_read bs) _ x h in
    let k = then_parts (or_refuse (unknown_form f.0.0) (kind_of e f.0.0)) _ x (if_so_parts (not (nat_eq f.0.0 implicit_const)) (unknown_form f.0.0) _ x f.2) in
    let d = then_parts (direct_read big k.0 f.0.1) _ x k.2 in
    let a : length f.0.1 < length bs = uleb16_shorter bs f.0 f.1 in
    let b : length d.0.1 ≤ length f.0.1 = direct_shorter big k.0 f.0.1 d.0 d.1 in
    rest_is bs d.0.1 _ x (omega arith) d.2

formed_shorter : (big : Bool) (form : ℕ) (k : Kind) (bs : List ℕ) (x : (ℕ × Operand) × List ℕ) → (direct_read big k bs =>> λ (y : Operand × List ℕ). Ok ((form, y.0), y.1)) ≡ Ok x → length x.1 ≤ length bs
formed_shorter big form k bs x h = let d = then_parts (direct_read big k bs) (λ (y : Operand × List ℕ). Ok ((form, y.0), y.1)) x h in rest_is bs d.0.1 _ x (direct_shorter big k bs d.0 d.1) d.2

kind_shorter : (big : Bool) (e : Encoding) (form : ℕ) (k : Kind) (bs : List ℕ) (x : (ℕ × Operand) × List ℕ) → kind_read big e form k bs ≡ Ok x → length x.1 ≤ length bs
kind_shorter big e form Empty bs x h = formed_shorter big form Empty bs x h
kind_shorter big e form (Fixed w) bs x h = formed_shorter big form (Fixed w) bs x h
kind_shorter big e form Uleb bs x h = formed_shorter big form Uleb bs x h
kind_shorter big e form Sleb bs x h = formed_shorter big form Sleb bs x h
kind_shorter big e form (Block w) bs x h = formed_shorter big form (Block w) bs x h
kind_shorter big e form UlebBlock bs x h = formed_shorter big form UlebBlock bs x h
kind_shorter big e form Zeroed bs x h = formed_shorter big form Zeroed bs x h
kind_shorter big e form Indirect bs x h = indirect_shorter big e bs x h

form_shorter : (big : Bool) (e : Encoding) (form : ℕ) (bs : List ℕ) (x : (ℕ × Operand) × List ℕ) → form_read big e form bs ≡ Ok x → length x.1 ≤ length bs
unfolding form_read
form_shorter big e form bs x h = let k = then_parts (or_refuse (unknown_form form) (kind_of e form)) _ x h in kind_shorter big e form k.0 bs x k.2

pub attributes_shorter : (big : Bool) (e : Encoding) (ss : List Specification) (bs : List ℕ) (x : List ReadAttribute × List ℕ) → attributes_read big e ss bs ≡ Ok x → length x.1 ≤ length bs
unfolding attributes_read attribute_read
attributes_shorter big e [] bs x h = rest_is bs bs [] x (omega arith) h
attributes_shorter big e (s ∷ ss) bs x h =
    let a = then_parts (form_read big e s.form bs =>> λ y. Ok (record { name = s.name; form = y.0.0; constant = s.constant; operand = y.0.1 }, y.1)) _ x h in
    let f = then_parts (form_read big e s.form bs) _ a.0 a.1 in
    let m = then_parts (attributes_read big e ss a.0.1) _ x a.2 in
    let p : length a.0.1 ≤ length bs = rest_is bs f.0.1 _ a.0 (form_shorter big e s.form bs f.0 f.1) f.2 in
    let q : length m.0.1 ≤ length a.0.1 = attributes_shorter big e ss a.0.1 m.0 m.1 in
    rest_is bs m.0.1 _ x (omega arith) m.2

-- what follows a code
coded_shorter : (big : Bool) (e : Encoding) (table : List Declaration) (code : ℕ) (t : Bool) (bs : List ℕ) (x : Mark ReadEntry × List ℕ)
    → (if t then Ok (Null, bs) else (or_refuse (UnknownAbbreviation code) (shape_of_code table code) =>> λ shape. attributes_read big e shape.attributes bs =>> λ y.
    Ok (Open (record { code = code; tag = shape.tag; has_children = shape.has_children; attributes = y.0 }), y.1))) ≡ Ok x → length x.1 ≤ length bs
coded_shorter big e table code true bs x h = rest_is bs bs Null x (omega arith) h
coded_shorter big e table code false bs x h =
    let s = then_parts (or_refuse (UnknownAbbreviation code) (shape_of_code table code)) _ x h in
    let a = then_parts (attributes_read big e s.0.attributes bs) _ x s.2 in
    rest_is bs a.0.1 _ x (attributes_shorter big e s.0.attributes bs a.0 a.1) a.2

pub mark_shorter : (big : Bool) (e : Encoding) (table : List Declaration) (bs : List ℕ) (x : Mark ReadEntry × List ℕ) → mark_read big e table bs ≡ Ok x → length x.1 < length bs
unfolding mark_read
mark_shorter big e table bs x h =
    let c = then_parts (uleb_read bs) _ x h in
    let a : length c.0.1 < length bs = uleb_shorter bs c.0 c.1 in
    let b : length x.1 ≤ length c.0.1 = coded_shorter big e table c.0.0 (nat_eq c.0.0 0) c.0.1 x c.2 in
    omega arith
