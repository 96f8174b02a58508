-- Results in the tables of what values become.
use Rattle.std.proofs.Common.{◌≡◌, sym, ap, subst, ℕ, Option, Result, Ok, Err, refl}
use Rattle.std.specs.Result.{MatchResult, IsOkAnd}
use Rattle.dw_base.specs.declared.address.Address.{Address}
use Rattle.dw_base.specs.declared.address.DebugInfoRef.{DebugInfoRef}
use Rattle.dw_base.specs.declared.ids.UnitEntryId.{UnitEntryId}
use Rattle.dw_entries.specs.declared.value.AttributeValue.{AttributeValue}
use Rattle.dw_lists.specs.declared.range.Range.{Range}
use Rattle.dw_read.specs.Reading.{Reading}
use Rattle.dw_read_units.specs.declared.unit_ref.UnitRef.{UnitRef}
use Rattle.dw_sources.specs.declared.convert_error.ConvertError.{ConvertError}
use Rattle.dw_convert.specs.Images.{Image}
use Rattle.dw_convert.specs.Outcomes.{After, Then}
use Rattle.dw_convert.specs.Ranges.{with_address}
use Rattle.dw_convert.specs.SourceImages.{RangesFound, IndexedRangesFound, LocationsFound, IndexedLocationsFound}
use Rattle.dw_convert.specs.Sources.{ranges_of, locations_of}
use Rattle.dw_convert.specs.Values.{MadeOf, Made, RangesOutcome, LocationsOutcome}
use Rattle.dw_convert.specs.declared.image.Image.TheVariants as image

pub after_ok : {A B : Type 0} (x : Result A ConvertError) (rest : A → Result B ConvertError → Type 0) (y : A) (r : Result B ConvertError) → x ≡ Ok y → rest y r → After x rest r
after_ok x rest y r e h = subst (λ (q : Result _ ConvertError). After q rest r) (sym e) h

pub after_err : {A B : Type 0} (x : Result A ConvertError) (rest : A → Result B ConvertError → Type 0) (y : ConvertError) → x ≡ Err y → After x rest (Err y)
after_err x rest y e = subst (λ (q : Result _ ConvertError). After q rest (Err y)) (sym e) refl

after_weaker : {A B : Type 0} (x : Result A ConvertError) (P Q : A → Result B ConvertError → Type 0) (r : Result B ConvertError) → ((y : A) → P y r → Q y r) → After x P r → After x Q r
after_weaker (Ok y) P Q r f h = f y h
after_weaker (Err e) P Q r f h = h

pub made_ok : {A B : Type 0} (x : Result A ConvertError) (make : A → B) (y : A) → x ≡ Ok y → MadeOf x make (Ok (make y))
made_ok x make y e = after_ok x (λ y s. s ≡ Ok (make y)) y (Ok (make y)) e refl

pub made_err : {A B : Type 0} (x : Result A ConvertError) (make : A → B) (y : ConvertError) → x ≡ Err y → MadeOf x make (Err y)
made_err x make y e = after_err x (λ y s. s ≡ Ok (make y)) y e

pub made_from : {A B : Type 0} (x y : Result A ConvertError) (make : A → B) (r : Result B ConvertError) → x ≡ y → MadeOf y make r → MadeOf x make r
made_from x y make r e h = subst (λ (q : Result _ ConvertError). MadeOf q make r) (sym e) h

-- a value as an image
abbrev pub with_value : Result AttributeValue ConvertError → Result Image ConvertError
with_value (Ok v) = Ok (image.Value v)
with_value (Err e) = Err e

pub made_value : {A : Type 0} (x : Result A ConvertError) (make : A → AttributeValue) (r : Result AttributeValue ConvertError) → MadeOf x make r → MadeOf x (λ y. image.Value (make y)) (with_value r)
made_value (Ok y) make r h = ap with_value h
made_value (Err e) make r h = ap with_value h

pub same_made : (x r : Result AttributeValue ConvertError) → r ≡ x → MadeOf x image.Value (with_value r)
same_made (Ok v) r h = ap with_value h
same_made (Err e) r h = ap with_value h

pub outcome_made : {A : Type 0} (outcome : Result A ConvertError → Type 0) (make : A → AttributeValue) (r : Result AttributeValue ConvertError) → Made outcome make r → Made outcome (λ y. image.Value (make y)) (with_value r)
outcome_made outcome make r h = (h.0, h.1, made_value h.0 make r h.2)

-- a value that is made of what another leads to
pub mapped : {A : Type 0} (outcome : Result A ConvertError → Type 0) (make : A → AttributeValue) (P : A → AttributeValue → Type 0) → ((x : A) (v : AttributeValue) → P x v → v ≡ make x) → (r : Result A ConvertError) (m : Result AttributeValue ConvertError)
    → MatchResult r (λ x. IsOkAnd m (P x)) (λ e. m ≡ Err e) → outcome r → Made outcome make m
mapped outcome make P f (Ok x) (Ok v) h k = (Ok x, k, ap Ok (f x v h))
mapped outcome make P f (Ok x) (Err e) h k = absurd h
mapped outcome make P f (Err e) m h k = (Err e, k, h)

module _ (R E : Type 0) (reading : R → Reading) (answers : ℕ → Option Address → Type 0) (entries : ℕ → Option UnitEntryId) (infos : ℕ → Option DebugInfoRef) (u : UnitRef R E) where
  pub ranges_made : (p : ℕ) (r : Result Image ConvertError) → RangesFound reading answers u p r → Made (RangesOutcome reading answers entries infos u p) image.Ranges r
  ranges_made p (Ok (image.Ranges xs)) h = (Ok xs, h, refl)
  ranges_made p (Ok (image.Value v)) h = absurd h
  ranges_made p (Ok (image.String xs)) h = absurd h
  ranges_made p (Ok (image.LineString xs)) h = absurd h
  ranges_made p (Ok (image.Locations xs)) h = absurd h
  ranges_made p (Err e) h = (Err e, h, refl)

  pub locations_made : (p : ℕ) (r : Result Image ConvertError) → LocationsFound reading answers entries infos u p r → Made (LocationsOutcome reading answers entries infos u p) image.Locations r
  locations_made p (Ok (image.Locations xs)) h = (Ok xs, h, refl)
  locations_made p (Ok (image.Value v)) h = absurd h
  locations_made p (Ok (image.String xs)) h = absurd h
  locations_made p (Ok (image.LineString xs)) h = absurd h
  locations_made p (Ok (image.Ranges xs)) h = absurd h
  locations_made p (Err e) h = (Err e, h, refl)

  pub indexed_ranges_made : (i : ℕ) (r : Result Image ConvertError) → IndexedRangesFound reading answers u i r → After (ranges_of reading u i) (λ p. Made (RangesOutcome reading answers entries infos u p) image.Ranges) r
  indexed_ranges_made i r h = after_weaker (ranges_of reading u i) (RangesFound reading answers u) (λ p. Made (RangesOutcome reading answers entries infos u p) image.Ranges) r (λ p k. ranges_made p r k) h

  pub indexed_locations_made : (i : ℕ) (r : Result Image ConvertError) → IndexedLocationsFound reading answers entries infos u i r → After (locations_of reading u i) (λ p. Made (LocationsOutcome reading answers entries infos u p) image.Locations) r
  indexed_locations_made i r h = after_weaker (locations_of reading u i) (LocationsFound reading answers entries infos u) (λ p. Made (LocationsOutcome reading answers entries infos u p) image.Locations) r (λ p k. locations_made p r k) h

-- what comes of an outcome
pub made_of : (P : Result Address ConvertError → Type 0) (make : Address → Result Range ConvertError) (rest : Address → Result Range ConvertError → Type 0) → ((a : Address) → rest a (make a)) → (x : Result Address ConvertError) → P x → Then P rest (with_address make x)
made_of P make rest f (Ok a) h = (Ok a, h, f a)
made_of P make rest f (Err e) h = (Err e, h, refl)
