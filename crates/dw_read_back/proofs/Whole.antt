-- A loop over the items of a list.
use Rattle.std.proofs.Common.{◌≡◌, ◌∙◌, sym, ap, subst, ℕ, ◌≤◌, Bool, true, false, List, [], ◌∷◌, ◌++◌, map, append-nil, length, take, drop, nat_le, Option, Some, None, refl, arith}
use Rattle.std.proofs.lemmas.Bool.{leb-false}
use Rattle.std.proofs.lemmas.List.{map-append}
use Rattle.std.proofs.lemmas.Option.{none-some}
use Rattle.dw_base.specs.Numbers.{Parser, when, bytes_at}
use Rattle.dw_base.specs.declared.common.Encoding.{Encoding}
use Rattle.dw_read.specs.Reading.{Reading, Read, Reads, Refuses, left}
use Rattle.dw_read.specs.declared.error.ReadError.{ReadError}
use Rattle.dw_read_back.specs.Walks.{AreItems}
use Rattle.dw_read_back.specs.ReadLists.{AreRead}
use Rattle.dw_read_back.proofs.Steps.{Begins, begins, one_more}

-- what a step reads, by the order and the encoding of the list
module _ {A : Type 0} (grammar : Bool → Encoding → Parser A) (big : Bool) (e d : Encoding) (old : Reading) (b : old.is_big ≡ big) (n : d ≡ e) where
  pub here : (new : Reading) (x : A) → Reads A (grammar old.is_big d) old new x → grammar big e (left old) ≡ Some (x, left new)
  here new x h = subst (λ (y : Encoding). grammar big y (left old) ≡ Some (x, left new)) n (subst (λ (y : Bool). grammar y d (left old) ≡ Some (x, left new)) b h.value)

  pub none_here : (read : Read A) (r : ReadError) → Refuses A (grammar old.is_big d) read old r → grammar big e (left old) ≡ None
  none_here read r h = subst (λ (y : Encoding). grammar big y (left old) ≡ None) n (subst (λ (y : Bool). grammar y d (left old) ≡ None) b h.none)

-- an offset past the end
refused_by : (c : Bool) (x : List ℕ × List ℕ) → when c (Some x) ≡ None → c ≡ false
refused_by true x h = absurd (none-some x (sym h))
refused_by false x h = refl

pub past : (n : ℕ) (bytes : List ℕ) → bytes_at n bytes ≡ None → length bytes ≤ n
unfolding bytes_at
past n bytes h = let f : nat_le n (length bytes) ≡ false = refused_by (nat_le n (length bytes)) (take n bytes, drop n bytes) h in let l = leb-false n (length bytes) f in omega (arith, l)

module _ {A X : Type 0} (p : Parser (Option A)) (bytes : List ℕ) (f : X → A) where
  pub first : (xs : List X) (rest : List ℕ) → xs ≡ [] → rest ≡ bytes → Begins p bytes (map f xs) rest
  first xs rest e r = subst (λ zs. Begins p bytes (map f zs) rest) (sym e) (subst (λ bs. Begins p bytes [] bs) (sym r) (begins p bytes))

  pub grown : (xs ys : List X) (x : X) (rest next : List ℕ) → ys ≡ xs ++ x ∷ [] → Begins p bytes (map f xs) rest → p rest ≡ Some (Some (f x), next) → Begins p bytes (map f ys) next
  grown xs ys x rest next e b r = subst (λ zs. Begins p bytes zs next) (sym (ap (map f) e ∙ map-append f xs (x ∷ []))) (one_more p bytes (map f xs) rest next (f x) b r)

  pub closed : (xs : List X) (rest behind : List ℕ) → Begins p bytes (map f xs) rest → p rest ≡ Some (None, behind) → AreRead p bytes (map f xs)
  closed xs rest behind b h = record { behind = behind; items = subst (λ ws. AreItems p bytes ws behind) (append-nil (map f xs)) (b.whole [] behind h) }
