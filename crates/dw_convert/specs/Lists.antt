-- Lists whose items are read one after the other up to their close, and converted one by one.
use Rattle.std.specs.Prelude.{◌≡◌, ◌⊎◌, ℕ, Bool, ◌||◌, List, [], ◌∷◌, Option, Some, None, Result, Ok, Err}
use Rattle.dw_base.specs.Numbers.{Parser}
use Rattle.dw_read.specs.Reading.{Read}
use Rattle.dw_read.specs.declared.error.ReadError.{ReadError}
use Rattle.dw_sources.specs.ConvertErrors.{from_read}
use Rattle.dw_sources.specs.declared.convert_error.ConvertError.{ConvertError}

-- the first things that are read from bytes, one after the other, and the bytes behind them
abbrev pub First : {A : Type 0} → Parser A → List ℕ → List A → List ℕ → Type 0
First grammar bytes [] rest = rest ≡ bytes
First grammar bytes (x ∷ xs) rest = (next : List ℕ) × (grammar bytes ≡ Some (x, next)) × First grammar next xs rest

-- the items of a list, which are no close
abbrev pub items_of : {A : Type 0} → List A → List (Option A)
items_of [] = []
items_of (x ∷ xs) = Some x ∷ items_of xs

-- whether a base is in force behind items, where one is before them or not
abbrev pub based : {A : Type 0} → (A → Bool) → Bool → List A → Bool
based is_base base [] = base
based is_base base (x ∷ xs) = based is_base (base || is_base x) xs

module _ {A B : Type 0} (Outcome : Bool → A → Result B ConvertError → Type 0) (is_base : A → Bool) where
  -- each item becomes the other of its place
  abbrev pub AreImages : Bool → List A → List B → Type 0
  AreImages base [] [] = Unit
  AreImages base (x ∷ xs) (y ∷ ys) = Outcome base x (Ok y) × AreImages (base || is_base x) xs ys
  AreImages base [] (y ∷ ys) = ⊥
  AreImages base (x ∷ xs) [] = ⊥

  -- the first items, and what they become
  pub record Begun (grammar : Parser (Option A)) (base : Bool) (bytes : List ℕ) (rest : List ℕ) (images : List B) : Type 0 where
    pub items : List A
    pub read : First grammar bytes (items_of items) rest
    pub are : AreImages base items images

  -- the items up to the close, and what they become
  pub record Converted (grammar : Parser (Option A)) (base : Bool) (bytes : List ℕ) (images : List B) : Type 0 where
    pub rest : List ℕ
    pub begun : Begun grammar base bytes rest images
    pub behind : List ℕ
    pub close : grammar rest ≡ Some (None, behind)

  -- an item behind the first ones that can't be read, for this reason
  pub record MissesItem (reads : Read (Option A)) (rest : List ℕ) (e : ConvertError) : Type 0 where
    pub error : ReadError
    pub reason : reads rest ≡ Err error
    pub is : e ≡ from_read error

  -- an item behind the first ones that becomes nothing, for this reason
  pub record RefusesItem (grammar : Parser (Option A)) (base : Bool) (rest : List ℕ) (e : ConvertError) : Type 0 where
    pub item : A
    pub next : List ℕ
    pub read : grammar rest ≡ Some (Some item, next)
    pub refused : Outcome base item (Err e)

  -- the first items were converted, and the next one can't be read or becomes nothing
  pub record Refused (grammar : Parser (Option A)) (reads : Read (Option A)) (base : Bool) (bytes : List ℕ) (e : ConvertError) : Type 0 where
    pub rest : List ℕ
    pub images : List B
    pub begun : Begun grammar base bytes rest images
    pub cause : MissesItem reads rest e ⊎ RefusesItem grammar (based is_base base begun.items) rest e
