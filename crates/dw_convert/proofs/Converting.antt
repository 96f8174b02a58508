-- Attributes that are converted one after the other.
use Rattle.std.proofs.Common.{◌≡◌, ◌∙◌, sym, ap, subst, ℕ, zero, suc, ◌+◌, ◌<◌, ◌≤◌, Bool, true, false, List, [], ◌∷◌, ◌++◌, length, take, drop, map, get_or, Option, refl, not, cond, arith}
use Rattle.std.proofs.lemmas.List.{take_all, map_more, map-append, append-nil}
use Rattle.std.proofs.lemmas.List.Elements.{filter-append}
use Rattle.dw_base.specs.declared.address.Address.{Address}
use Rattle.dw_base.specs.declared.address.DebugInfoRef.{DebugInfoRef}
use Rattle.dw_base.specs.declared.constants.DwAt.{DwAt}
use Rattle.dw_base.specs.declared.ids.FileId.{FileId}
use Rattle.dw_base.specs.declared.ids.UnitEntryId.{UnitEntryId}
use Rattle.dw_entries.specs.declared.value.AttributeValue.{AttributeValue}
use Rattle.dw_read.specs.Reading.{Reading}
use Rattle.dw_read.specs.declared.attribute.Attribute.{Attribute}
use Rattle.dw_read_units.specs.declared.unit_ref.UnitRef.{UnitRef}
use Rattle.dw_sources.specs.Dropped.{is_dropped}
use Rattle.dw_sources.specs.declared.convert_error.ConvertError.{ConvertError}
use Rattle.dw_convert.specs.Attributes.{Seen, seen, IsImage, IsRefused}
use Rattle.dw_convert.specs.AttributeLists.{kept, once, AreImages, AreConverted, RefusesAttribute}
use Rattle.dw_convert.specs.Tables.{Tables}

-- a list around one of its elements
around : {A : Type 0} (xs : List A) (i : ℕ) (x d : A) → i < length xs → x ≡ get_or xs i d → xs ≡ take i xs ++ x ∷ drop (suc i) xs
around [] i x d l e = absurd (omega (arith, l))
around {A} (a ∷ xs) zero x d l e = ap (λ (z : A). z ∷ xs) (sym e)
around {A} (a ∷ xs) (suc i) x d l e = ap (λ (zs : List A). a ∷ zs) (around xs i x d (omega (arith, l)) e)

module _ (R E : Type 0) (reading : R → Reading) (answers : ℕ → Option Address → Type 0) (entries : ℕ → Option UnitEntryId) (infos : ℕ → Option DebugInfoRef) (u : UnitRef R E) (files : List FileId) where
  abbrev Image : Seen → Tables → AttributeValue → Tables → Type 0
  Image a t v end = IsImage reading answers entries infos u files a t v end

  abbrev Images : List Seen → Tables → List (DwAt × AttributeValue) → Tables → Type 0
  Images all t xs end = AreImages reading answers entries infos u files all t xs end

  abbrev Are : List Seen → Tables → List (DwAt × AttributeValue) → Tables → Type 0
  Are all t xs end = AreConverted reading answers entries infos u files all t xs end

  -- what the loop knows: the values of the attributes so far, each name as often as it stands
  abbrev pub AreSoFar : List (Attribute R E) → ℕ → Tables → List (DwAt × AttributeValue) → Tables → Type 0
  AreSoFar all i t xs end = Images (kept (map (seen reading) (take i all))) t xs end

  images_more : (all : List Seen) (t : Tables) (xs : List (DwAt × AttributeValue)) (m : Tables) (a : Seen) (n : DwAt) (v : AttributeValue) (end : Tables) → Images all t xs m → n.0 ≡ a.1.name → Image a m v end → Images (all ++ a ∷ []) t (xs ++ (n, v) ∷ []) end
  images_more [] t [] m a n v end h e i = (end, e, subst (λ (x : Tables). Image a x v end) h i, refl)
  images_more [] t (x ∷ xs) m a n v end h e i = absurd h
  images_more (b ∷ bs) t [] m a n v end h e i = absurd h
  images_more (b ∷ bs) t (x ∷ xs) m a n v end h e i = (h.0, h.1, h.2, images_more bs h.0 xs m a n v end h.3 e i)

  -- before the first one
  pub none_yet : (all : List (Attribute R E)) (t : Tables) (xs : List (DwAt × AttributeValue)) → xs ≡ [] → AreSoFar all 0 t xs t
  none_yet all t xs h = subst (λ (ys : List (DwAt × AttributeValue)). Images [] t ys t) (sym h) refl

  module _ (all : List (Attribute R E)) (i : ℕ) (a blank : Attribute R E) (within : i < length all) (there : a ≡ get_or all i blank) (t : Tables) (xs : List (DwAt × AttributeValue)) (m : Tables) (far : AreSoFar all i t xs m) where
    kept_more : (b : Bool) → is_dropped a.name.0 ≡ b → kept (map (seen reading) (take (i + 1) all)) ≡ kept (map (seen reading) (take i all)) ++ cond (not b) (seen reading a ∷ []) []
    kept_more b e =
        ap kept (map_more (seen reading) all i blank within ∙ ap (λ (x : Attribute R E). map (seen reading) (take i all) ++ seen reading x ∷ []) (sym there))
        ∙ filter-append (λ (x : Seen). not (is_dropped x.1.name)) (map (seen reading) (take i all)) (seen reading a ∷ [])
        ∙ ap (λ (c : Bool). kept (map (seen reading) (take i all)) ++ cond (not c) (seen reading a ∷ []) []) e

    -- one of a dropped name
    pub passed : is_dropped a.name.0 ≡ true → AreSoFar all (i + 1) t xs m
    passed d =
        let e : kept (map (seen reading) (take (i + 1) all)) ≡ kept (map (seen reading) (take i all)) = kept_more true d ∙ append-nil (kept (map (seen reading) (take i all))) in
        subst (λ (ys : List Seen). Images ys t xs m) (sym e) far

    -- one that becomes a value
    pub one_more : is_dropped a.name.0 ≡ false → (v : AttributeValue) (end : Tables) (ys : List (DwAt × AttributeValue)) → Image (seen reading a) m v end → ys ≡ xs ++ (a.name, v) ∷ [] → AreSoFar all (i + 1) t ys end
    one_more d v end ys h p =
        subst (λ (zs : List Seen). Images zs t ys end) (sym (kept_more false d))
        (subst (λ (zs : List (DwAt × AttributeValue)). Images (kept (map (seen reading) (take i all)) ++ seen reading a ∷ []) t zs end) (sym p) (images_more (kept (map (seen reading) (take i all))) t xs m (seen reading a) a.name v end far refl h))

    -- one that becomes nothing
    pub one_refused : is_dropped a.name.0 ≡ false → (e : ConvertError) → IsRefused reading answers entries infos u files (seen reading a) e → RefusesAttribute reading answers entries infos u files (map (seen reading) all) t e
    one_refused d e h = record {
      front = kept (map (seen reading) (take i all));
      attribute = seen reading a;
      back = kept (map (seen reading) (drop (suc i) all));
      is =
          ap (λ (ys : List (Attribute R E)). kept (map (seen reading) ys)) (around all i a blank within there)
          ∙ ap kept (map-append (seen reading) (take i all) (a ∷ drop (suc i) all))
          ∙ filter-append (λ (x : Seen). not (is_dropped x.1.name)) (map (seen reading) (take i all)) (map (seen reading) (a ∷ drop (suc i) all))
          ∙ ap (λ (b : Bool). kept (map (seen reading) (take i all)) ++ cond (not b) (seen reading a ∷ kept (map (seen reading) (drop (suc i) all))) (kept (map (seen reading) (drop (suc i) all)))) d;
      images = xs;
      tables = m;
      before = far;
      refused = h;
    }

  pub all_done : (all : List (Attribute R E)) (i : ℕ) (t : Tables) (xs ys : List (DwAt × AttributeValue)) (end : Tables) → length all ≤ i → AreSoFar all i t xs end → ys ≡ once xs → Are (map (seen reading) all) t ys end
  all_done all i t xs ys end past h e = record {
    images = xs;
    are = subst (λ (read : List (Attribute R E)). Images (kept (map (seen reading) read)) t xs end) (take_all i all past) h;
    is = e;
  }
