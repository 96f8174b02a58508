-- What reading units for their ranges comes to.
use Rattle.std.proofs.Common.{◌≡◌, ◌∙◌, sym, ap, subst, ℕ, List, [], ◌∷◌, ◌++◌, length, map, Bool, true, false, ◌&&◌, Option, Some, None, Result, Ok, Err, IsTrue, refl, append-nil, nat_eq, nat_le, inl, inr, if◌then◌else◌}
use Rattle.std.specs.Prelude.{◌⊎◌, IsFalse}
use Rattle.std.specs.List.{list_all}
use Rattle.std.proofs.lemmas.List.Concat.{flat_map-append}
use Rattle.dw_base.specs.Entries.{ReadEntry, Mark, Open, Null}
use Rattle.dw_base.specs.Headers.{Header, HeaderRead}
use Rattle.dw_base.specs.Numbers.{is_width, word_of}
use Rattle.dw_base.specs.declared.common.Format.{Format}
use Rattle.dw_base.specs.Headers.{is_unit_type, has_identity, has_type_offset}
use Rattle.dw_read.specs.Headers.{header_read, fields_read, old_fields_read, new_fields_read, optional_read}
use Rattle.dw_read.specs.Reading.{Reading, IsReading, left}
use Rattle.dw_read.specs.Reasons.{◌=>>◌, if_so, bytes_read, number_read, initial_length_read}
use Rattle.dw_read.specs.Rows.{entry_of, BeginsAt, PassesEntry}
use Rattle.dw_read.specs.UnitHeaders.{IsHeaderRead, IsOver, PassesUnit}
use Rattle.dw_read.specs.declared.unit_header.UnitHeadersIter.{UnitHeadersIter}
use Rattle.dw_read.specs.declared.entries.EntriesRaw.{EntriesRaw}
use Rattle.dw_read.specs.declared.entry.DebuggingInformationEntry.{DebuggingInformationEntry}
use Rattle.dw_read.specs.declared.unit_header.UnitHeader.{UnitHeader}
use Rattle.dw_read.specs.declared.error.ReadError.{ReadError}
use Rattle.dw_read.specs.declared.error.ReadError.TheVariants as reasons
use Rattle.dw_read.specs.declared.error.ReadError.TheVariants.{UnknownVersion, UnsupportedAddressSize, UnknownUnitType}
use Rattle.dw_read_units.proofs.UnitLaws.{root_row, root_encoded, named_are}
use Rattle.dw_read_units.specs.Roots.{named_of}
use Rattle.dw_read_units.specs.UnitReads.{IsUnit, root_at}
use Rattle.dw_read_units.specs.declared.dwarf.Dwarf.{Dwarf}
use Rattle.dw_read_units.specs.declared.dwarf.Unit.{Unit as UnitFields}
use Rattle.dw_read_units.specs.declared.unit_ref.UnitRef.{UnitRef}
use Rattle.dw_sources.specs.ConvertErrors.{from_read}
use Rattle.dw_sources.specs.declared.convert_error.ConvertError.{ConvertError}
use Rattle.dw_sources.specs.declared.convert_error.ConvertError.TheVariants as errors
use Rattle.dw_entry_ranges.specs.Attributes.{values_in}
use Rattle.dw_entry_ranges.specs.declared.range.AddressRange.{AddressRange}
use Rattle.dw_arange_table.specs.Sets.{RangeSet}
use Rattle.dw_arange_table.specs.Covers.{covered, is_addressed, unit_set, set_if_any, sets_of, Covered, CoversUnit, MissesRanges, CoversNext, CoversUnits, CoversAll, MissesHeader, MissesNext, FailsNext, FailsAfter}
use Rattle.dw_arange_table.specs.Find.{units_at}
use Rattle.dw_arange_table.specs.Found.{BeginsWith, covered_by}
use Rattle.dw_arange_table.proofs.FoundUnits.{found_units}

entry_or : ReadEntry → Option (Mark ReadEntry × List ℕ) → ReadEntry
entry_or d None = d
entry_or d (Some (Open a, rest)) = a
entry_or d (Some (Null, rest)) = d

same_entry : (a b : ReadEntry) (x y : List ℕ) → ◌≡◌ {A = Option (Mark ReadEntry × List ℕ)} (Some (Open a, x)) (Some (Open b, y)) → a ≡ b
unfolding entry_or
same_entry a b x y e = ap (entry_or a) e

module _ {R E : Type 0} (reading : R → Reading) where
  -- the attributes of the first row are those of the root
  pub values_are : (u : UnitRef R E) (rows after : EntriesRaw R E) (before entry : DebuggingInformationEntry R E) (root : ReadEntry) (rest : List ℕ) → BeginsAt reading u.unit.now.header u.unit.now.abbreviations rows → PassesEntry reading rows after before entry → BeginsWith reading u root rest →
      values_in reading entry.attrs.items ≡ map (named_of u.unit.now.header.fields.encoding) root.attributes
  values_are u rows after before entry root rest b e begins =
      let h = u.unit.now.header in
      let row = root_row (reading rows.input) (reading h.body) rows.fields.now h.fields rows.abbreviations.now u.unit.now.abbreviations (Open (entry_of reading e.code entry)) (left (reading after.input)) b.input b.fields b.declarations e.row.value in
      let same : entry_of reading e.code entry ≡ root = same_entry (entry_of reading e.code entry) root (left (reading after.input)) rest (sym row ∙ begins) in
      named_are reading h.fields.encoding entry.attrs.items (root_encoded rows.fields.now h.fields entry.attrs.items b.fields e.encoded) ∙ ap (λ (r : ReadEntry). map (named_of h.fields.encoding) r.attributes) same

  module _ (d : Dwarf R E) (h : UnitHeader R E) (u : UnitFields R E) (unit : IsUnit reading d h u) where
    -- the unit that was read begins with its root
    pub begins : root_at reading u.header u.abbreviations (left (reading u.header.body)) ≡ Some (Open unit.root, unit.rest)
    begins = subst (λ (g : UnitHeader R E). root_at reading g u.abbreviations (left (reading g.body)) ≡ Some (Open unit.root, unit.rest)) (sym unit.header) unit.row

    same_covered : (at : UnitRef R E) → at.unit.now ≡ u → covered reading at (map (named_of h.fields.encoding) unit.root.attributes) ≡ covered_by reading at unit.root
    same_covered at e = ap (λ (g : UnitHeader R E). covered reading at (map (named_of g.fields.encoding) unit.root.attributes)) (sym (ap (λ (v : UnitFields R E). v.header) e ∙ unit.header))

    pub covers_unit : (at : UnitRef R E) (ranges : List AddressRange) → covered_by reading at unit.root ≡ Ok ranges → at.dwarf.now ≡ d → at.unit.now ≡ u → CoversUnit reading d h ranges
    covers_unit at ranges m file e = record { at = at; file = file; fields = u; is = e; unit = unit; covers = same_covered at e ∙ m }

    pub misses_ranges : (at : UnitRef R E) (y : ReadError) → covered_by reading at unit.root ≡ Err y → at.dwarf.now ≡ d → at.unit.now ≡ u → MissesRanges reading d h y
    misses_ranges at y m file e = record { at = at; file = file; fields = u; is = e; unit = unit; misses = same_covered at e ∙ m }

  module _ (d : Dwarf R E) where
    pub covers_more : (old mid new : Reading) (us : List (Covered R E)) (c : Covered R E) → CoversUnits reading d old mid us → CoversNext reading d mid new c → CoversUnits reading d old new (us ++ c ∷ [])
    covers_more old mid new [] c h x = (new, subst (λ (r : Reading). CoversNext reading d r new c) h x, refl)
    covers_more old mid new (u ∷ us) c h x = (h.0, h.1, covers_more h.0 mid new us c h.2 x)

    -- a reader's reason, which may be want of memory
    pub fails_read : (at : Reading) (e : ReadError) → MissesHeader reading d at e ⊎ MissesNext reading d at e → FailsNext reading d at (from_read e)
    fails_read at reasons.NoMemory h = tt
    fails_read at e h = h

    pub fails_full : (at : Reading) (e : ReadError) → e ≡ reasons.NoMemory → FailsNext reading d at (from_read e)
    fails_full at e h = subst (λ (x : ReadError). FailsNext reading d at (from_read x)) (sym h) tt

    fails_memory : (at : Reading) (e : ConvertError) → e ≡ errors.NoMemory → FailsNext reading d at e
    fails_memory at e h = subst (FailsNext reading d at) (sym h) tt

    -- the units up to here
    pub record CoveredSoFar (now : UnitHeadersIter R E) (sets : List RangeSet) : Type 0 where
      pub units : List (Covered R E)
      pub read : CoversUnits reading d (reading d.debug_info) (reading now.input) units
      pub going : now.has_failed ≡ false
      pub are : sets ≡ sets_of units

    pub covered_none : (now : UnitHeadersIter R E) → reading now.input ≡ reading d.debug_info → now.has_failed ≡ false → CoveredSoFar now []
    covered_none now e f = record { units = []; read = e; going = f; are = refl }

    pub covered_more : (old new : UnitHeadersIter R E) (sets next : List RangeSet) (h : UnitHeader R E) (ranges : List AddressRange) → CoveredSoFar old sets → PassesUnit reading old new h → CoversUnit reading d h ranges → IsTrue (list_all (is_addressed h.fields.encoding.address_size) ranges) →
        next ≡ sets ++ set_if_any (unit_set h.fields.encoding h.offset.0 ranges) → CoveredSoFar new next
    covered_more old new sets next h ranges w p u a e =
        let c : Covered R E = record { header = h; ranges = ranges } in
        let own : List RangeSet = set_if_any (unit_set h.fields.encoding h.offset.0 ranges) in
        record {
          units = w.units ++ c ∷ [];
          read = covers_more (reading d.debug_info) (reading old.input) (reading new.input) w.units c w.read (record { header = p.unit; unit = u; addressed = a });
          going = p.went_on.1;
          are = e ∙ ap (λ l. l ++ own) w.are
              ∙ sym (flat_map-append (λ (x : Covered R E). set_if_any (unit_set x.header.fields.encoding x.header.offset.0 x.ranges)) w.units (c ∷ []) ∙ ap (λ l. sets_of w.units ++ l) (append-nil own));
        }

    pub covered_end : ((r : R) → IsReading (reading r)) → (now : UnitHeadersIter R E) (sets : List RangeSet) → CoveredSoFar now sets → length (left (reading now.input)) ≡ 0 → CoversAll reading d sets
    covered_end is now sets w z = record {
      units = w.units;
      end = reading now.input;
      read = w.read;
      whole = z;
      sets = w.are;
      found = λ a. ap (units_at a) w.are ∙ found_units reading d is (reading d.debug_info) (reading now.input) w.units (is d.debug_info) w.read a;
    }

    -- a walk that isn't stopped is over at the end alone
    pub over_end : (now : UnitHeadersIter R E) (sets : List RangeSet) → CoveredSoFar now sets → IsOver reading now → length (left (reading now.input)) ≡ 0
    over_end now sets w (inl failed) = let e : true ≡ false = sym failed ∙ w.going in cc
    over_end now sets w (inr z) = z

    pub fails_after : (now : UnitHeadersIter R E) (sets : List RangeSet) (e : ConvertError) → CoveredSoFar now sets → FailsNext reading d (reading now.input) e → FailsAfter reading d e
    fails_after now sets e w f = record { units = w.units; at = reading now.input; read = w.read; why = f }

    pub fails_set : (old new : UnitHeadersIter R E) (h : UnitHeader R E) (ranges : List AddressRange) (e : ConvertError) → PassesUnit reading old new h → CoversUnit reading d h ranges →
        (e ≡ errors.NoMemory) ⊎ ((e ≡ errors.IntegerOverflow) × IsFalse (list_all (is_addressed h.fields.encoding.address_size) ranges)) → FailsNext reading d (reading old.input) e
    fails_set old new h ranges e p u (inl f) = fails_memory (reading old.input) e f
    fails_set old new h ranges e p u (inr f) =
        subst (FailsNext reading d (reading old.input)) (sym f.0) (record { next = reading new.input; covers = record { header = h; ranges = ranges }; read = p.unit; unit = u; passes = f.1 })

-- Addresses have a size that addresses may have

abbrev Gives : {A : Type 0} → (A → Type 0) → Result A ReadError → Type 0
Gives {A} P r = (x : A) → r ≡ Ok x → P x

gives_err : {A : Type 0} (P : A → Type 0) (e : ReadError) → Gives P (Err e)
gives_err P e x h = absurd (cc)

gives_ok : {A : Type 0} (P : A → Type 0) (y : A) → P y → Gives P (Ok y)
gives_ok P y p x h = let e : y ≡ x = cc in subst P e p

gives_then : {A B : Type 0} (P : B → Type 0) (r : Result A ReadError) (f : A → Result B ReadError) → ((x : A) → Gives P (f x)) → Gives P (r =>> f)
gives_then P (Ok y) f h = h y
gives_then P (Err e) f h = gives_err P e

fields_then : {A B : Type 0} {Q : A → Type 0} (P : B → Type 0) (r : Result A ReadError) (f : A → Result B ReadError) → Gives Q r → ((x : A) → Q x → Gives P (f x)) → Gives P (r =>> f)
fields_then P (Ok y) f q h = h y (q y refl)
fields_then P (Err e) f q h = gives_err P e

gives_test : {A : Type 0} (P : A → Type 0) (b : Bool) (e : ReadError) (r : Result A ReadError) → (b ≡ true → Gives P r) → Gives P (if_so b e r)
gives_test P true e r h = h refl
gives_test P false e r h = gives_err P e

gives_if : {A : Type 0} (P : A → Type 0) (b : Bool) (x y : Result A ReadError) → Gives P x → Gives P y → Gives P (if b then x else y)
gives_if P true x y h k = h
gives_if P false x y h k = k

abbrev HasWidth : Header × List ℕ → Type 0
HasWidth x = IsTrue (is_width x.0.encoding.address_size)

old_width : (big : Bool) (f : Format) (v : ℕ) (bs : List ℕ) → Gives HasWidth (old_fields_read big f v bs)
unfolding old_fields_read
old_width big f v bs =
    gives_then HasWidth (number_read big (word_of f) bs) _ (λ table. gives_then HasWidth (number_read big 1 table.1) _ (λ size.
    gives_test HasWidth (is_width size.0) (UnsupportedAddressSize size.0) _ (λ w. gives_ok HasWidth _ w)))

new_width : (big : Bool) (f : Format) (bs : List ℕ) → Gives HasWidth (new_fields_read big f bs)
unfolding new_fields_read
new_width big f bs =
    gives_then HasWidth (number_read big 1 bs) _ (λ type. gives_then HasWidth (number_read big 1 type.1) _ (λ size. gives_then HasWidth (number_read big (word_of f) size.1) _ (λ table.
    gives_test HasWidth (is_unit_type type.0) (UnknownUnitType (record { 0 = type.0 })) _ (λ t. gives_test HasWidth (is_width size.0) (UnsupportedAddressSize size.0) _ (λ w.
    gives_then HasWidth (optional_read (has_identity type.0) big 8 table.1) _ (λ identity.
    gives_then HasWidth (optional_read (has_type_offset type.0) big (word_of f) identity.1) _ (λ place. gives_ok HasWidth _ w)))))))

fields_width : (big : Bool) (f : Format) (bs : List ℕ) → Gives HasWidth (fields_read big f bs)
unfolding fields_read
fields_width big f bs =
    gives_then HasWidth (number_read big 2 bs) _ (λ version. gives_if HasWidth (nat_eq version.0 5) _ _ (new_width big f version.1)
    (gives_test HasWidth (nat_le 2 version.0 && nat_le version.0 4) (UnknownVersion version.0) _ (λ t. old_width big f version.0 version.1)))

header_width : (big : Bool) (bs : List ℕ) → Gives (λ (r : HeaderRead). IsTrue (is_width r.header.encoding.address_size)) (header_read big bs)
unfolding header_read
header_width big bs =
    let P : HeaderRead → Type 0 = λ r. IsTrue (is_width r.header.encoding.address_size) in
    gives_then P (initial_length_read big bs) _ (λ start. gives_then P (bytes_read start.0.1 start.1) _ (λ unit. fields_then P (fields_read big start.0.0 unit.0) _ (fields_width big start.0.0 unit.0) (λ fields w. gives_ok P _ w)))

pub unit_width : {R E : Type 0} (reading : R → Reading) (old new : Reading) (h : UnitHeader R E) → IsHeaderRead reading old new h → IsTrue (is_width h.fields.encoding.address_size)
unit_width reading old new h i =
    subst (λ (x : Header). IsTrue (is_width x.encoding.address_size)) (sym i.header) (header_width old.is_big (left old) i.read i.is)
