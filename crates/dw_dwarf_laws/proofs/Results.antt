-- Outcomes of which at most one result is right.
use Rattle.std.proofs.Common.{◌≡◌, ◌∙◌, sym, subst, Option, Some, None, Result, Ok, Err}
use Rattle.dw_sources.specs.declared.convert_error.ConvertError.{ConvertError}
use Rattle.dw_convert.specs.Outcomes.{After, Then}

-- of two equal results the values are equal
pub same_ok : {A X : Type 0} (r : Result A X) (a b : A) → r ≡ Ok a → r ≡ Ok b → a ≡ b
same_ok {A} {X} r a b h k = let e : ◌≡◌ {A = Result A X} (Ok a) (Ok b) = sym h ∙ k in cc

pub same_some : {A : Type 0} (r : Option A) (a b : A) → r ≡ Some a → r ≡ Some b → a ≡ b
same_some {A} r a b h k = let e : Some a ≡ Some b = sym h ∙ k in cc

pub not_both : {A : Type 0} (r : Option A) (a : A) → r ≡ None → r ≡ Some a → ⊥
not_both {A} r a h k = let e : ◌≡◌ {A = Option A} None (Some a) = sym h ∙ k in cc

-- no value is an error
pub no_error : {A X : Type 0} (a : A) (x : X) → ◌≡◌ {A = Result A X} (Ok a) (Err x) → ⊥
no_error a x h = cc

module _ {A B : Type 0} (rest more : A → Result B ConvertError → Type 0) (same : (a : A) (x y : B) → rest a (Ok x) → more a (Ok y) → x ≡ y) where
  -- what comes after equal results
  pub after_once : (r s : Result A ConvertError) → r ≡ s → (x y : B) → After r rest (Ok x) → After s more (Ok y) → x ≡ y
  after_once (Ok a) (Ok b) e x y h k = let q : b ≡ a = cc in same a x y h (subst (λ c. more c (Ok y)) q k)
  after_once (Err u) s e x y h k = absurd (no_error x u h)
  after_once (Ok a) (Err v) e x y h k = absurd (no_error y v k)

  -- one after another, where at most one value is right first
  module _ (first other : Result A ConvertError → Type 0) (once : (a b : A) → first (Ok a) → other (Ok b) → a ≡ b) where
    then_at : (r s : Result A ConvertError) → first r → other s → (x y : B) → After r rest (Ok x) → After s more (Ok y) → x ≡ y
    then_at (Ok a) (Ok b) f g x y h k = same a x y h (subst (λ c. more c (Ok y)) (sym (once a b f g)) k)
    then_at (Err u) s f g x y h k = absurd (no_error x u h)
    then_at (Ok a) (Err v) f g x y h k = absurd (no_error y v k)

    pub then_once : (x y : B) → Then first rest (Ok x) → Then other more (Ok y) → x ≡ y
    then_once x y h k = then_at h.0 k.0 h.1 k.1 x y h.2 k.2

-- the same where the first values are only alike
module _ {A B : Type 0} (Alike : A → A → Type 0) (rest more : A → Result B ConvertError → Type 0) (Same : B → B → Type 0) (same : (a b : A) → Alike a b → (x y : B) → rest a (Ok x) → more b (Ok y) → Same x y) (first other : Result A ConvertError → Type 0) (once : (a b : A) → first (Ok a) → other (Ok b) → Alike a b) where
  alike_at : (r s : Result A ConvertError) → first r → other s → (x y : B) → After r rest (Ok x) → After s more (Ok y) → Same x y
  alike_at (Ok a) (Ok b) f g x y h k = same a b (once a b f g) x y h k
  alike_at (Err u) s f g x y h k = absurd (no_error x u h)
  alike_at (Ok a) (Err v) f g x y h k = absurd (no_error y v k)

  pub then_alike : (x y : B) → Then first rest (Ok x) → Then other more (Ok y) → Same x y
  then_alike x y h k = alike_at h.0 k.0 h.1 k.1 x y h.2 k.2

-- what holds of a value that comes after another
module _ {A B : Type 0} (Holds : B → Type 0) (rest : A → Result B ConvertError → Type 0) (first : Result A ConvertError → Type 0) (holds : (a : A) (x : B) → first (Ok a) → rest a (Ok x) → Holds x) where
  holds_at : (r : Result A ConvertError) → first r → (x : B) → After r rest (Ok x) → Holds x
  holds_at (Ok a) f x h = holds a x f h
  holds_at (Err u) f x h = absurd (no_error x u h)

  pub then_holds : (x : B) → Then first rest (Ok x) → Holds x
  then_holds x h = holds_at h.0 h.1 x h.2

-- what is made of a value in one way
pub made_same : {A B : Type 0} (make : A → B) (a : A) (x y : B) → ◌≡◌ {A = Result B ConvertError} (Ok x) (Ok (make a)) → ◌≡◌ {A = Result B ConvertError} (Ok y) (Ok (make a)) → x ≡ y
made_same {A} {B} make a x y h k = same_ok {X = ConvertError} (Ok (make a)) x y (sym h) (sym k)

-- what is made of an outcome
pub made_once : {A B : Type 0} (make : A → B) (first other : Result A ConvertError → Type 0) → ((a b : A) → first (Ok a) → other (Ok b) → a ≡ b) → (x y : B)
    → Then first (λ (a : A) (s : Result B ConvertError). s ≡ Ok (make a)) (Ok x) → Then other (λ (a : A) (s : Result B ConvertError). s ≡ Ok (make a)) (Ok y) → x ≡ y
made_once {A} {B} make first other once x y h k = then_once (λ (a : A) (s : Result B ConvertError). s ≡ Ok (make a)) (λ (a : A) (s : Result B ConvertError). s ≡ Ok (make a)) (made_same make) first other once x y h k

-- and of a result
pub result_once : {A B : Type 0} (make : A → B) (r s : Result A ConvertError) → r ≡ s → (x y : B)
    → After r (λ (a : A) (t : Result B ConvertError). t ≡ Ok (make a)) (Ok x) → After s (λ (a : A) (t : Result B ConvertError). t ≡ Ok (make a)) (Ok y) → x ≡ y
result_once {A} {B} make r s e x y h k = after_once (λ (a : A) (t : Result B ConvertError). t ≡ Ok (make a)) (λ (a : A) (t : Result B ConvertError). t ≡ Ok (make a)) (made_same make) r s e x y h k
