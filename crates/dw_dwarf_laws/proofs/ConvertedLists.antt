-- What the lists of ranges and of locations become is one thing.
use Rattle.std.proofs.Common.{◌≡◌, ◌∙◌, sym, ap, ap₂, subst, ℕ, List, [], ◌∷◌, Bool, ◌||◌, Option, Some, None, Result, Ok, refl}
use Rattle.dw_base.specs.Numbers.{Parser}
use Rattle.dw_base.specs.declared.address.Address.{Address}
use Rattle.dw_expr.specs.Trees.{Node}
use Rattle.dw_lists.specs.declared.location.Location.{Location}
use Rattle.dw_lists.specs.declared.location.Location.TheVariants as located
use Rattle.dw_lists.specs.declared.range.Range.{Range}
use Rattle.dw_lists.specs.declared.range.Range.TheVariants as built
use Rattle.dw_sources.specs.RawLists.{Span, Item, BaseAddress, BaseAddressx, AddressOrOffsetPair, StartxEndx, StartxLength, OffsetPair, StartEnd, StartLength, DefaultLocation}
use Rattle.dw_sources.specs.declared.convert_error.ConvertError.{ConvertError}
use Rattle.dw_convert.specs.Lists.{First, items_of, AreImages, Converted}
use Rattle.dw_convert.specs.Locations.{SpotOutcome, LocationOutcome, location_at_range}
use Rattle.dw_convert.specs.Outcomes.{Then, AddressOutcome, IndexOutcome}
use Rattle.dw_convert.specs.Ranges.{RangeOutcome, pair}
use Rattle.dw_dwarf_laws.proofs.ConvertedExpressions.{AnswersOnce, address_once, index_once}
use Rattle.dw_dwarf_laws.proofs.Results.{same_ok, then_once, made_once}

-- Items that are read one after the other up to their close

abbrev given : {A : Type 0} → Option A → List ℕ → Option (Option A × List ℕ)
given x rest = Some (x, rest)

same_item : {A : Type 0} (x y : A) (m n : List ℕ) → given (Some x) m ≡ given (Some y) n → (x ≡ y) × (m ≡ n)
same_item {A} x y m n e = let q : ◌≡◌ {A = Option A × List ℕ} (Some x, m) (Some y, n) = cc in let o : ◌≡◌ {A = Option A} (Some x) (Some y) = ap (λ (z : Option A × List ℕ). z.0) q in let s : x ≡ y = cc in (s, ap (λ (z : Option A × List ℕ). z.1) q)

no_item : {A : Type 0} (x : A) (m n : List ℕ) → given (Some x) m ≡ given None n → ⊥
no_item {A} x m n e = let q : ◌≡◌ {A = Option A × List ℕ} (Some x, m) (None, n) = cc in let o : ◌≡◌ {A = Option A} None (Some x) = sym (ap (λ (z : Option A × List ℕ). z.0) q) in cc

module _ {A : Type 0} (grammar : Parser (Option A)) where
  items_once : (bytes : List ℕ) (xs ys : List A) (r s m n : List ℕ) → First grammar bytes (items_of xs) r → First grammar bytes (items_of ys) s → grammar r ≡ Some (None, m) → grammar s ≡ Some (None, n) → xs ≡ ys
  items_once bytes [] [] r s m n h k e f = refl
  items_once bytes [] (y ∷ ys) r s m n h k e f = absurd (no_item y k.0 m (sym k.1 ∙ ap grammar (sym h) ∙ e))
  items_once bytes (x ∷ xs) [] r s m n h k e f = absurd (no_item x h.0 n (sym h.1 ∙ ap grammar (sym k) ∙ f))
  items_once bytes (x ∷ xs) (y ∷ ys) r s m n h k e f =
      let q = same_item x y h.0 k.0 (sym h.1 ∙ k.1) in
      ap₂ (λ (a : A) (more : List A). a ∷ more) q.0 (items_once k.0 xs ys r s m n (subst (λ bs. First grammar bs (items_of xs) r) q.1 h.2) k.2 e f)

module _ {A B : Type 0} (Outcome : Bool → A → Result B ConvertError → Type 0) (once : (base : Bool) (a : A) (x y : B) → Outcome base a (Ok x) → Outcome base a (Ok y) → x ≡ y) (is_base : A → Bool) where
  images_once : (base : Bool) (items : List A) (xs ys : List B) → AreImages Outcome is_base base items xs → AreImages Outcome is_base base items ys → xs ≡ ys
  images_once base [] [] [] h k = refl
  images_once base [] [] (y ∷ ys) h k = absurd k
  images_once base [] (x ∷ xs) ys h k = absurd h
  images_once base (a ∷ items) [] ys h k = absurd h
  images_once base (a ∷ items) (x ∷ xs) [] h k = absurd k
  images_once base (a ∷ items) (x ∷ xs) (y ∷ ys) h k = ap₂ (λ (b : B) (more : List B). b ∷ more) (once base a x y h.0 k.0) (images_once (base || is_base a) items xs ys h.1 k.1)

  pub list_once : (grammar : Parser (Option A)) (base : Bool) (bytes : List ℕ) (xs ys : List B) → Converted Outcome is_base grammar base bytes xs → Converted Outcome is_base grammar base bytes ys → xs ≡ ys
  list_once grammar base bytes xs ys h k =
      let s : k.begun.items ≡ h.begun.items = items_once grammar bytes k.begun.items h.begun.items k.rest h.rest k.behind h.behind k.begun.read h.begun.read k.close h.close in
      images_once base h.begun.items xs ys h.begun.are (subst (λ items. AreImages Outcome is_base base items ys) s k.begun.are)

-- The items of range lists and of location lists

module _ (answers : ℕ → Option Address → Type 0) (functional : AnswersOnce answers) (addresses : ℕ → Result ℕ ConvertError) where
  from_address : {B : Type 0} (n : ℕ) (make : Address → B) (x y : B) → Then (AddressOutcome answers n) (λ (a : Address) (r : Result B ConvertError). r ≡ Ok (make a)) (Ok x) → Then (AddressOutcome answers n) (λ (a : Address) (r : Result B ConvertError). r ≡ Ok (make a)) (Ok y) → x ≡ y
  from_address n make x y h k = made_once make (AddressOutcome answers n) (AddressOutcome answers n) (address_once answers functional n) x y h k

  from_index : {B : Type 0} (i : ℕ) (make : Address → B) (x y : B) → Then (IndexOutcome answers addresses i) (λ (a : Address) (r : Result B ConvertError). r ≡ Ok (make a)) (Ok x) → Then (IndexOutcome answers addresses i) (λ (a : Address) (r : Result B ConvertError). r ≡ Ok (make a)) (Ok y) → x ≡ y
  from_index i make x y h k = made_once make (IndexOutcome answers addresses i) (IndexOutcome answers addresses i) (index_once answers functional addresses i) x y h k

  -- of two addresses
  of_both : (first second : Result Address ConvertError → Type 0) → ((a b : Address) → first (Ok a) → first (Ok b) → a ≡ b) → ((a b : Address) → second (Ok a) → second (Ok b) → a ≡ b) → (f : Address → Address → Result Range ConvertError) (x y : Range)
      → Then first (λ a. Then second (λ b r. r ≡ f a b)) (Ok x) → Then first (λ a. Then second (λ b r. r ≡ f a b)) (Ok y) → x ≡ y
  of_both first second one two f x y h k =
      let inner : (a : Address) (x y : Range) → Then second (λ b r. r ≡ f a b) (Ok x) → Then second (λ b r. r ≡ f a b) (Ok y) → x ≡ y = λ a. then_once (λ b r. r ≡ f a b) (λ b r. r ≡ f a b) (λ b x y p q. same_ok (f a b) x y (sym p) (sym q)) second second two in
      then_once (λ a. Then second (λ b r. r ≡ f a b)) (λ a. Then second (λ b r. r ≡ f a b)) inner first first one x y h k

  pub range_once : (base : Bool) (s : Span) (x y : Range) → RangeOutcome answers addresses base s (Ok x) → RangeOutcome answers addresses base s (Ok y) → x ≡ y
  range_once base (BaseAddress n) x y h k = from_address n (λ a. built.BaseAddress a) x y h k
  range_once base (BaseAddressx i) x y h k = from_index i (λ a. built.BaseAddress a) x y h k
  range_once base (AddressOrOffsetPair m n) x y h k = of_both (AddressOutcome answers m) (AddressOutcome answers n) (address_once answers functional m) (address_once answers functional n) (pair base) x y h k
  range_once base (StartxEndx i j) x y h k = of_both (IndexOutcome answers addresses i) (IndexOutcome answers addresses j) (index_once answers functional addresses i) (index_once answers functional addresses j) (λ a b. Ok (built.StartEnd a b)) x y h k
  range_once base (StartxLength i n) x y h k = from_index i (λ a. built.StartLength a n) x y h k
  range_once base (OffsetPair m n) x y h k = same_ok {X = ConvertError} (Ok (built.OffsetPair m n)) x y (sym h) (sym k)
  range_once base (StartEnd m n) x y h k = of_both (AddressOutcome answers m) (AddressOutcome answers n) (address_once answers functional m) (address_once answers functional n) (λ a b. Ok (built.StartEnd a b)) x y h k
  range_once base (StartLength m n) x y h k = from_address m (λ a. built.StartLength a n) x y h k
  range_once base DefaultLocation x y h k = absurd h

  module _ (Expression : List ℕ → Result (List Node) ConvertError → Type 0) (expression : (bytes : List ℕ) (xs ys : List Node) → Expression bytes (Ok xs) → Expression bytes (Ok ys) → xs ≡ ys) where
    -- a range with an expression
    ranged : (base : Bool) (s : Span) (bytes : List ℕ) (x y : Location) → Then (RangeOutcome answers addresses base s) (λ range. Then (Expression bytes) (λ nodes r. r ≡ Ok (location_at_range range nodes))) (Ok x)
        → Then (RangeOutcome answers addresses base s) (λ range. Then (Expression bytes) (λ nodes r. r ≡ Ok (location_at_range range nodes))) (Ok y) → x ≡ y
    ranged base s bytes x y h k =
        then_once (λ range. Then (Expression bytes) (λ nodes r. r ≡ Ok (location_at_range range nodes))) (λ range. Then (Expression bytes) (λ nodes r. r ≡ Ok (location_at_range range nodes)))
        (λ range. made_once (location_at_range range) (Expression bytes) (Expression bytes) (expression bytes)) (RangeOutcome answers addresses base s) (RangeOutcome answers addresses base s) (range_once base s) x y h k

    spot_once : (base : Bool) (s : Span) (o : Option (List ℕ)) (x y : Location) → SpotOutcome answers addresses Expression base s o (Ok x) → SpotOutcome answers addresses Expression base s o (Ok y) → x ≡ y
    spot_once base s None x y h k = made_once (λ range. location_at_range range []) (RangeOutcome answers addresses base s) (RangeOutcome answers addresses base s) (range_once base s) x y h k
    spot_once base DefaultLocation (Some bytes) x y h k = made_once (λ nodes. located.DefaultLocation nodes) (Expression bytes) (Expression bytes) (expression bytes) x y h k
    spot_once base (BaseAddress n) (Some bytes) x y h k = ranged base (BaseAddress n) bytes x y h k
    spot_once base (BaseAddressx i) (Some bytes) x y h k = ranged base (BaseAddressx i) bytes x y h k
    spot_once base (AddressOrOffsetPair m n) (Some bytes) x y h k = ranged base (AddressOrOffsetPair m n) bytes x y h k
    spot_once base (StartxEndx i j) (Some bytes) x y h k = ranged base (StartxEndx i j) bytes x y h k
    spot_once base (StartxLength i n) (Some bytes) x y h k = ranged base (StartxLength i n) bytes x y h k
    spot_once base (OffsetPair m n) (Some bytes) x y h k = ranged base (OffsetPair m n) bytes x y h k
    spot_once base (StartEnd m n) (Some bytes) x y h k = ranged base (StartEnd m n) bytes x y h k
    spot_once base (StartLength m n) (Some bytes) x y h k = ranged base (StartLength m n) bytes x y h k

    pub location_once : (base : Bool) (item : Item) (x y : Location) → LocationOutcome answers addresses Expression base item (Ok x) → LocationOutcome answers addresses Expression base item (Ok y) → x ≡ y
    location_once base item x y h k = spot_once base item.span item.expression x y h k
