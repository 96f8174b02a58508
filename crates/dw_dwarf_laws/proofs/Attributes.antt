-- What the attributes of an entry become is one thing.
use Rattle.std.proofs.Common.{◌≡◌, ◌∙◌, sym, ap, subst, ℕ, List, [], ◌∷◌, Option}
use Rattle.dw_base.specs.declared.address.Address.{Address}
use Rattle.dw_base.specs.declared.address.DebugInfoRef.{DebugInfoRef}
use Rattle.dw_base.specs.declared.constants.DwAt.{DwAt}
use Rattle.dw_base.specs.declared.ids.FileId.{FileId}
use Rattle.dw_base.specs.declared.ids.UnitEntryId.{UnitEntryId}
use Rattle.dw_entries.specs.declared.value.AttributeValue.{AttributeValue}
use Rattle.dw_read.specs.Reading.{Reading}
use Rattle.dw_read_units.specs.declared.unit_ref.UnitRef.{UnitRef}
use Rattle.dw_convert.specs.Attributes.{Seen, IsImage}
use Rattle.dw_convert.specs.AttributeLists.{AreImages, AreConverted, kept, once}
use Rattle.dw_convert.specs.Tables.{Tables, stored}
use Rattle.dw_dwarf_laws.proofs.ConvertedExpressions.{AnswersOnce}
use Rattle.dw_dwarf_laws.proofs.ConvertedValues.{LeadAlike, attribute_once}

-- what becomes of something in tables, with the tables behind it
abbrev pub Both : Type 0 → Type 0
Both A = A × Tables

module _ {R E : Type 0} (reading : R → Reading) (answers : ℕ → Option Address → Type 0) (functional : AnswersOnce answers) (entries : ℕ → Option UnitEntryId) (infos : ℕ → Option DebugInfoRef) (u v : UnitRef R E) (alike : LeadAlike reading u v) (files : List FileId) where
  image_once : (a : Seen) (old : Tables) (x y : AttributeValue) (m n : Tables) → IsImage reading answers entries infos u files a old x m → IsImage reading answers entries infos v files a old y n → ◌≡◌ {A = Both AttributeValue} (x, m) (y, n)
  image_once a old x y m n h k = sym h.is_stored ∙ ap (stored old) (attribute_once reading answers functional entries infos u v alike files a h.meant k.meant h.becomes k.becomes) ∙ k.is_stored

  images_once : (all : List Seen) (old : Tables) (xs ys : List (DwAt × AttributeValue)) (m n : Tables) → AreImages reading answers entries infos u files all old xs m → AreImages reading answers entries infos v files all old ys n → ◌≡◌ {A = Both (List (DwAt × AttributeValue))} (xs, m) (ys, n)
  images_once [] old [] [] m n h k = λ i. ([], (h ∙ sym k) i)
  images_once [] old [] (y ∷ ys) m n h k = absurd k
  images_once [] old (x ∷ xs) ys m n h k = absurd h
  images_once (a ∷ all) old [] ys m n h k = absurd h
  images_once (a ∷ all) old (x ∷ xs) [] m n h k = absurd k
  images_once (a ∷ all) old (x ∷ xs) (y ∷ ys) m n h k =
      let name : x.0.0 ≡ y.0.0 = h.1 ∙ sym k.1 in
      let p = image_once a old x.1 y.1 h.0 k.0 h.2 k.2 in
      let q = images_once all k.0 xs ys m n (subst (λ t. AreImages reading answers entries infos u files all t xs m) (ap (λ (z : Both AttributeValue). z.1) p) h.3) k.3 in
      λ i. ((record { 0 = name i }, (p i).0) ∷ (q i).0, (q i).1)

  -- the values of an entry, with the tables behind them
  pub attributes_once : (all : List Seen) (old : Tables) (xs ys : List (DwAt × AttributeValue)) (m n : Tables) → AreConverted reading answers entries infos u files all old xs m → AreConverted reading answers entries infos v files all old ys n
      → ◌≡◌ {A = Both (List (DwAt × AttributeValue))} (xs, m) (ys, n)
  attributes_once all old xs ys m n h k =
      let q = images_once (kept all) old h.images k.images m n h.are k.are in
      let s : xs ≡ ys = h.is ∙ ap (λ (z : Both (List (DwAt × AttributeValue))). once z.0) q ∙ sym k.is in
      λ i. (s i, (q i).1)
