-- Attributes, one after the other in the order of a declaration.
use Rattle.std.proofs.Common.{◌≡◌, ◌∙◌, sym, ap, subst, ℕ, suc, ◌+◌, ◌<◌, ◌≤◌, Bool, List, [], ◌∷◌, ◌++◌, length, drop, get_or, Ok, Err, Result, refl, append_assoc, append-nil, add-one}
use Rattle.std.proofs.Math.Seq.{drop-cons}
use Rattle.std.proofs.Math.ListN.{drop_of_length-le}
use Rattle.dw_base.specs.Forms.{Operand}
use Rattle.dw_base.specs.Abbreviations.{Specification}
use Rattle.dw_base.specs.Entries.{ReadAttribute}
use Rattle.dw_base.specs.declared.common.Encoding.{Encoding}
use Rattle.dw_read.specs.Reading.{Reading, IsReading, left}
use Rattle.dw_read.specs.Took.{Took}
use Rattle.dw_read.specs.Reasons.{◌=>>◌}
use Rattle.dw_read.specs.FormReasons.{form_read, attribute_read, attributes_read}
use Rattle.dw_read.specs.declared.error.ReadError.{ReadError}
use Rattle.dw_read.proofs.Chain.{Went, took, went, went_none, went_then}

pub attribute_is : (big : Bool) (e : Encoding) (s : Specification) (form : ℕ) (o : Operand) (bs rest : List ℕ) → form_read big e s.form bs ≡ Ok ((form, o), rest) → attribute_read big e s bs ≡ Ok (record { name = s.name; form = form; constant = s.constant; operand = o }, rest)
unfolding attribute_read
attribute_is big e s form o bs rest h = rw h refl

pub attribute_err : (big : Bool) (e : Encoding) (s : Specification) (bs : List ℕ) (y : ReadError) → form_read big e s.form bs ≡ Err y → attribute_read big e s bs ≡ Err y
unfolding attribute_read
attribute_err big e s bs y h = rw h refl

-- attributes with more before them
abbrev pub after : List ReadAttribute → List ReadAttribute × List ℕ → Result (List ReadAttribute × List ℕ) ReadError
after front more = Ok (front ++ more.0, more.1)

-- the first i attributes were read, and the others are read from here on
pub record ReadsSo (big : Bool) (e : Encoding) (ss : List Specification) (i : ℕ) (front : List ReadAttribute) (old new : Reading) : Type 0 where
  pub went : Went old new
  pub is : attributes_read big e ss (left old) ≡ (attributes_read big e (drop i ss) (left new) =>> after front)

after_none : (o : Result (List ReadAttribute × List ℕ) ReadError) → o ≡ (o =>> after [])
after_none (Ok x) = refl
after_none (Err y) = refl

after_one : (o : Result (List ReadAttribute × List ℕ) ReadError) (front : List ReadAttribute) (a : ReadAttribute) → ((o =>> λ more. Ok (a ∷ more.0, more.1)) =>> after front) ≡ (o =>> after (front ++ a ∷ []))
after_one (Ok x) front a = ap (λ (z : List ReadAttribute). Ok (z, x.1)) (sym (append_assoc front (a ∷ []) x.0))
after_one (Err y) front a = refl

pub so_none : (big : Bool) (e : Encoding) (ss : List Specification) (old : Reading) → IsReading old → ReadsSo big e ss 0 [] old old
so_none big e ss old h = record { went = went_none old h; is = after_none (attributes_read big e ss (left old)) }

one_attribute : (big : Bool) (e : Encoding) (s : Specification) (ss : List Specification) (bytes rest : List ℕ) (a : ReadAttribute) → attribute_read big e s bytes ≡ Ok (a, rest)
    → attributes_read big e (s ∷ ss) bytes ≡ (attributes_read big e ss rest =>> λ more. Ok (a ∷ more.0, more.1))
unfolding attributes_read
one_attribute big e s ss bytes rest a h = rw h refl

no_attribute : (big : Bool) (e : Encoding) (s : Specification) (ss : List Specification) (bytes : List ℕ) (y : ReadError) → attribute_read big e s bytes ≡ Err y → attributes_read big e (s ∷ ss) bytes ≡ Err y
unfolding attributes_read
no_attribute big e s ss bytes y h = rw h refl

next_one : (ss : List Specification) (i : ℕ) (s : Specification) → i < length ss → s ≡ get_or ss i s → drop i ss ≡ s ∷ drop (i + 1) ss
next_one ss i s l is = drop-cons ss i s l ∙ ap (λ (y : Specification). y ∷ drop (suc i) ss) (sym is) ∙ ap (λ (k : ℕ). s ∷ drop k ss) (sym (add-one i))

pub so_more : (big b : Bool) (e : Encoding) (ss : List Specification) (i : ℕ) (s : Specification) (front next : List ReadAttribute) (a : ReadAttribute) (old mid new : Reading)
    → ReadsSo big e ss i front old mid → i < length ss → s ≡ get_or ss i s → b ≡ big → Took ReadAttribute (attribute_read b e s) mid new a → next ≡ front ++ a ∷ [] → ReadsSo big e ss (i + 1) next old new
so_more big b e ss i s front next a old mid new h l is same r q =
    let v : attribute_read big e s (left mid) ≡ Ok (a, left new) = subst (λ (t : Bool). attribute_read t e s (left mid) ≡ Ok (a, left new)) same r.value in
    record {
      went = went_then old mid new h.went (went ReadAttribute (attribute_read b e s) mid new a r);
      is = h.is ∙ ap (λ (t : List Specification). attributes_read big e t (left mid) =>> after front) (next_one ss i s l is)
          ∙ ap (λ (w : Result (List ReadAttribute × List ℕ) ReadError). w =>> after front) (one_attribute big e s (drop (i + 1) ss) (left mid) (left new) a v)
          ∙ after_one (attributes_read big e (drop (i + 1) ss) (left new)) front a
          ∙ ap (λ (t : List ReadAttribute). attributes_read big e (drop (i + 1) ss) (left new) =>> after t) (sym q);
    }

pub so_err : (big b : Bool) (e : Encoding) (ss : List Specification) (i : ℕ) (s : Specification) (front : List ReadAttribute) (y : ReadError) (old mid : Reading)
    → ReadsSo big e ss i front old mid → i < length ss → s ≡ get_or ss i s → b ≡ big → attribute_read b e s (left mid) ≡ Err y → attributes_read big e ss (left old) ≡ Err y
so_err big b e ss i s front y old mid h l is same r =
    let v : attribute_read big e s (left mid) ≡ Err y = subst (λ (t : Bool). attribute_read t e s (left mid) ≡ Err y) same r in
    h.is ∙ ap (λ (t : List Specification). attributes_read big e t (left mid) =>> after front) (next_one ss i s l is)
    ∙ ap (λ (w : Result (List ReadAttribute × List ℕ) ReadError). w =>> after front) (no_attribute big e s (drop (i + 1) ss) (left mid) y v)

no_attributes : (big : Bool) (e : Encoding) (bytes : List ℕ) → attributes_read big e [] bytes ≡ Ok ([], bytes)
unfolding attributes_read
no_attributes big e bytes = refl

pub so_end : (big : Bool) (e : Encoding) (ss : List Specification) (i : ℕ) (front : List ReadAttribute) (old new : Reading) → ReadsSo big e ss i front old new → length ss ≤ i → Took (List ReadAttribute) (attributes_read big e ss) old new front
so_end big e ss i front old new h l = took (List ReadAttribute) (attributes_read big e ss) old new front h.went
    (h.is ∙ ap (λ (t : List Specification). attributes_read big e t (left new) =>> after front) (drop_of_length-le ss l)
    ∙ ap (λ (w : Result (List ReadAttribute × List ℕ) ReadError). w =>> after front) (no_attributes big e (left new))
    ∙ ap (λ (t : List ReadAttribute). Ok (t, left new)) (append-nil front))
