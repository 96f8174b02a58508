-- One entry that is converted.
use Rattle.std.proofs.Common.{◌≡◌, ◌≢◌, ◌∙◌, sym, ap, subst, ℕ, zero, suc, ◌<◌, List, [], ◌∷◌, map, Bool, true, false, not, cond, Option, Some, None, refl, arith}
use Rattle.std.specs.Prelude.{◌==◌, ◌&&◌, nat_lt, if◌then◌else◌}
use Rattle.std.proofs.lemmas.Bool.{eq-eqb, ne_eqb, true≢false}
use Rattle.std.proofs.lemmas.Bool.Decides.{nat_tests}
use Rattle.dw_base.specs.declared.address.Address.{Address}
use Rattle.dw_base.specs.declared.address.DebugInfoRef.{DebugInfoRef}
use Rattle.dw_base.specs.declared.ids.FileId.{FileId}
use Rattle.dw_base.specs.declared.ids.UnitEntryId.{UnitEntryId}
use Rattle.dw_entries.proofs.Changed.{seen_kept}
use Rattle.dw_entries.proofs.Filled.{seen_filled}
use Rattle.dw_entries.specs.Attributes.{get_named, HaveDistinctNames}
use Rattle.dw_entries.specs.Entries.{EntryValue, entry_at, filled_up, placed_under, with_changed, with_child}
use Rattle.dw_read.specs.Reading.{Reading}
use Rattle.dw_read.specs.Values.{is_among}
use Rattle.dw_read_units.specs.declared.unit_ref.UnitRef.{UnitRef}
use Rattle.dw_tree.specs.UnitValue.{UnitValue, IsReserved, with_entry}
use Rattle.dw_convert.specs.Attributes.{Seen}
use Rattle.dw_sources.specs.Dropped.{is_dropped}
use Rattle.dw_convert.specs.AttributeLists.{kept, last_or, once_but, AreImages, AreConverted}
use Rattle.dw_convert.specs.Tables.{Tables}
use Rattle.dw_dwarf.specs.ConvertedEntries.{Values, attribute_of}
use Rattle.dw_dwarf.specs.Placed.{unconverted, with_placed, with_contents, with_converted}
use Rattle.dw_entry_ids.specs.Plans.{Plan, names_sibling}
use Rattle.dw_dwarf.specs.ConvertSteps.{tables_in, BecomesEntry}

-- an id whose entry isn't converted yet is reserved, but for the root's
pub reserved_yet : (u : UnitValue) (i : ℕ) → entry_at (filled_up u.reserved u.entries) i ≡ unconverted i → i < u.reserved → i ≢ 0 → IsReserved u i
reserved_yet u zero h l n = absurd (n refl)
reserved_yet u (suc n) h l k =
    let e : (entry_at u.entries (suc n)).tag ≡ 0 = sym (seen_filled (λ (e : EntryValue). e.tag) (λ i. refl) u.reserved u.entries (suc n)) ∙ ap (λ (e : EntryValue). e.tag) h in
    let a : nat_lt (suc n) u.reserved ≡ true = grind (arith, nat_tests) in
    let some : nat_lt 0 (suc n) ≡ true = grind (arith, nat_tests) in
    let b : ((entry_at u.entries (suc n)).tag == 0) ≡ true = eq-eqb (entry_at u.entries (suc n)).tag 0 e in
    ap (λ (x : Bool). x && ((entry_at u.entries (suc n)).tag == 0)) (ap (λ (x : Bool). nat_lt 0 (suc n) && x) a) ∙ ap (λ (x : Bool). nat_lt 0 (suc n) && true && x) b ∙ ap (λ (x : Bool). x && true && true) some

-- it has no attributes
pub placed_none : (reserved i parent tag : ℕ) (es : List EntryValue) → entry_at (filled_up reserved es) i ≡ unconverted i → (entry_at (with_placed reserved i parent tag es) i).attributes ≡ []
placed_none reserved zero parent tag es h = sym (seen_filled (λ (e : EntryValue). e.attributes) (λ i. refl) reserved es 0) ∙ ap (λ (e : EntryValue). e.attributes) h
placed_none reserved (suc n) parent tag es h =
    seen_kept (λ (e : EntryValue). e.attributes) (suc n) (placed_under parent tag) (with_changed parent (with_child (suc n)) (filled_up reserved es)) (λ e. refl) (suc n)
    ∙ seen_kept (λ (e : EntryValue). e.attributes) parent (with_child (suc n)) (filled_up reserved es) (λ e. refl) (suc n)
    ∙ ap (λ (e : EntryValue). e.attributes) h

-- a name that isn't dropped is one that attributes can have
own_name : (n : ℕ) → is_dropped n ≡ false → 1 < n
unfolding is_dropped
own_name zero h = absurd (true≢false h)
own_name (suc zero) h = absurd (true≢false h)
own_name (suc (suc n)) h = omega arith

abbrev AreKept : List Seen → Type 0
AreKept [] = Unit {0}
AreKept (a ∷ xs) = (is_dropped a.1.name ≡ false) × AreKept xs

kept_own : (xs : List Seen) → AreKept (kept xs)
kept_own [] = tt
kept_own (a ∷ xs) = go (is_dropped a.1.name) refl (kept_own xs)
  where
    go : (b : Bool) → is_dropped a.1.name ≡ b → AreKept (kept xs) → AreKept (cond (not b) (a ∷ kept xs) (kept xs))
    go true e r = r
    go false e r = (e, r)

abbrev AreOwn : Values → Type 0
AreOwn [] = Unit {0}
AreOwn (x ∷ xs) = (1 < x.0.0) × AreOwn xs

among_more : (n m : ℕ) (seen : List ℕ) → is_among n seen ≡ true → is_among n (m ∷ seen) ≡ true
among_more n m seen h = go (n == m)
  where
    go : (b : Bool) → (if b then true else is_among n seen) ≡ true
    go true = refl
    go false = h

among_own : (n : ℕ) (seen : List ℕ) → is_among n (n ∷ seen) ≡ true
among_own n seen = ap (λ (b : Bool). if b then true else is_among n seen) (eq-eqb n n refl)

-- names that stand aside are under none of the values
aside : (n : ℕ) (seen : List ℕ) (xs : Values) → is_among n seen ≡ true → get_named n (map attribute_of (once_but seen xs)) ≡ None
aside n seen [] h = refl
aside n seen (x ∷ xs) h = go (is_among x.0.0 seen) refl (λ s. aside n s xs)
  where
    go : (b : Bool) → is_among x.0.0 seen ≡ b → ((s : List ℕ) → is_among n s ≡ true → get_named n (map attribute_of (once_but s xs)) ≡ None) → get_named n (map attribute_of (if b then once_but seen xs else (x.0, last_or x.0.0 x.1 xs) ∷ once_but (x.0.0 ∷ seen) xs)) ≡ None
    go true e less = less seen h
    go false e less =
        let other : (x.0.0 == n) ≡ false = ne_eqb x.0.0 n (λ (same : x.0.0 ≡ n). true≢false (sym h ∙ ap (λ (k : ℕ). is_among k seen) (sym same) ∙ e)) in
        ap (λ (b : Bool). if b then Some (last_or x.0.0 x.1 xs) else get_named n (map attribute_of (once_but (x.0.0 ∷ seen) xs))) other ∙ less (x.0.0 ∷ seen) (among_more n x.0.0 seen h)

once_distinct : (seen : List ℕ) (xs : Values) → AreOwn xs → HaveDistinctNames (map attribute_of (once_but seen xs))
once_distinct seen [] o = tt
once_distinct seen (x ∷ xs) o = go (is_among x.0.0 seen) (λ s. once_distinct s xs o.1)
  where
    go : (b : Bool) → ((s : List ℕ) → HaveDistinctNames (map attribute_of (once_but s xs))) → HaveDistinctNames (map attribute_of (if b then once_but seen xs else (x.0, last_or x.0.0 x.1 xs) ∷ once_but (x.0.0 ∷ seen) xs))
    go true less = less seen
    go false less = (o.0, aside x.0.0 (x.0.0 ∷ seen) xs (among_own x.0.0 seen), less (x.0.0 ∷ seen))

module _ {R E : Type 0} (reading : R → Reading) (answers : ℕ → Option Address → Type 0) (entries : ℕ → Option UnitEntryId) (infos : ℕ → Option DebugInfoRef) (u : UnitRef R E) (files : List FileId) where
  images_own : (all : List Seen) (t : Tables) (xs : Values) (end : Tables) → AreKept all → AreImages reading answers entries infos u files all t xs end → AreOwn xs
  images_own [] t [] end o h = tt
  images_own [] t (x ∷ xs) end o h = absurd h
  images_own (a ∷ all) t [] end o h = absurd h
  images_own (a ∷ all) t (x ∷ xs) end o h = (own_name x.0.0 (ap is_dropped h.1 ∙ o.0), images_own all h.0 xs end o.1 h.3)

  -- the names of an entry's values are distinct, and none is dropped
  pub names_distinct : (all : List Seen) (old : Tables) (xs : Values) (new : Tables) → AreConverted reading answers entries infos u files all old xs new → HaveDistinctNames (map attribute_of xs)
  names_distinct all old xs new h =
      subst (λ (ys : Values). HaveDistinctNames (map attribute_of ys)) (sym h.is) (once_distinct [] h.images (images_own (kept all) old h.images new (kept_own all) h.are))

  -- an entry that is added with its values
  pub becomes : (attributes : List Seen) (p : Plan) (before placed v w : UnitValue) (all old : Tables) (strings line_strings : List (List ℕ)) (values : Values) (sibling : Bool)
      → placed ≡ record before { entries = with_placed before.reserved p.number p.parent p.entry.tag before.entries }
      → v ≡ record placed { ranges = v.ranges; locations = v.locations }
      → sibling ≡ (not (p.number == 0) && names_sibling p.entry)
      → all ≡ old
      → AreConverted reading answers entries infos u files attributes all values (tables_in strings line_strings v)
      → w ≡ with_entry v p.number (with_contents sibling (map attribute_of values))
      → BecomesEntry reading answers entries infos u files attributes p before old w (tables_in strings line_strings w)
  becomes attributes p before placed v w all old strings line_strings values sibling at others flag from images is =
      let same : tables_in strings line_strings v ≡ tables_in strings line_strings w = sym (ap (tables_in strings line_strings) is) in
      let xs = map attribute_of values in
      let listed : UnitValue → UnitValue = λ y. record y { ranges = v.ranges; locations = v.locations } in
      record {
        values = values;
        images =
            subst (λ (t : Tables). AreConverted reading answers entries infos u files attributes t values (tables_in strings line_strings w)) from
            (subst (λ (t : Tables). AreConverted reading answers entries infos u files attributes all values t) same images);
        is = is
            ∙ ap (λ (y : UnitValue). with_entry y p.number (with_contents sibling xs)) others
            ∙ ap (λ (y : UnitValue). with_entry (listed y) p.number (with_contents sibling xs)) at
            ∙ ap (λ (b : Bool). with_entry (listed (record before { entries = with_placed before.reserved p.number p.parent p.entry.tag before.entries })) p.number (with_contents b xs)) flag
            ∙ ap (λ (t : Tables). record before { entries = with_converted before.reserved p values before.entries; ranges = t.ranges; locations = t.locations }) same;
      }
