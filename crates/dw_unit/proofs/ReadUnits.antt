-- Units are read back, one after another, wherever their sections start.
use Rattle.std.specs.Prelude.{◌≡◌, ℕ, suc, zero, ◌+◌, ◌<◌, ◌≤◌, Bool, true, false, ◌&&◌, List, [], ◌∷◌, ◌++◌, length, Option, Some, None, refl, IsTrue, if◌then◌else◌, nat_le}
use Rattle.std.proofs.Common.{sym, ◌∙◌, ap, subst, arith, append_assoc, length-append, inl, inr}
use Rattle.std.proofs.lemmas.Bool.{cases_eq, eq-eqb, ne_eqb, and_parts, leb-true}
use Rattle.std.proofs.lemmas.Option.{none-some, same_Some}
use Rattle.dw_base.specs.Numbers.{◌>>=◌, when, num, is_width, fits, word_of, escape_of, length_fits}
use Rattle.dw_base.specs.Entries.{ReadEntry, Mark}
use Rattle.dw_base.specs.Info.{ReadUnit, units_at}
use Rattle.dw_base.specs.Spelling.{header_size, fields_bytes, unit_bytes, body_bytes, read_unit}
use Rattle.dw_base.specs.Spellable.{IsUnit}
use Rattle.dw_base.specs.declared.common.Encoding.{Encoding}
use Rattle.dw_base.specs.declared.common.Format.{Format}
use Rattle.dw_base.specs.declared.section_id.SectionId.TheVariants.{DebugAbbrev, DebugInfo}
use Rattle.dw_base.proofs.NumberLaws.{bind_parts, length-num}
use Rattle.dw_base.proofs.HeaderLaws.{length-fields_bytes}
use Rattle.dw_base.proofs.InfoLaws.{unit-again}
use Rattle.dw_writer.specs.Texts.{Text, followed, num_text}
use Rattle.dw_writer.specs.Meaning.{Layout, start_of}
use Rattle.dw_writer.specs.SectionTexts.{bytes_text, offset_text, after}
use Rattle.dw_writer.specs.Drafts.{Info, then_draft}
use Rattle.dw_writer.proofs.Plain.{num-byte}
use Rattle.dw_entries.specs.Entries.{EntryValue}
use Rattle.dw_entries.specs.Targets.{targets_in}
use Rattle.dw_entries.specs.Targets.{Tables}
use Rattle.dw_tree.specs.Built.{Numbered, Starts}
use Rattle.dw_tree.specs.Pending.{Kept, draft_of, draft_at, units_draft, tables_of, past_kept, Stands, AreInRow}
use Rattle.dw_tree.specs.Places.{targets_of}
use Rattle.dw_tree.specs.Read.{read_tree}
use Rattle.dw_tree.specs.UnitFaults.{is_version, is_encodable}
use Rattle.dw_tree.specs.UnitText.{fitting_text, length_text, fields_text, after_version_text, header_text, unit_length, tree_draft}
use Rattle.dw_tree.specs.Whole.{tree_declared, tree_table}
use Rattle.dw_unit.proofs.ReadTexts.{tree_text}
use Rattle.dw_tree.proofs.ReadMarks.{tree_fits}

-- two texts that are there, one after the other
pub record IsParted (t u : Text) (xs : List ℕ) : Type 0 where
  pub first : List ℕ
  pub rest : List ℕ
  pub first_is : t ≡ Some first
  pub rest_is : u ≡ Some rest
  pub all : first ++ rest ≡ xs

pub parted : (t u : Text) (xs : List ℕ) → followed t u ≡ Some xs → IsParted t u xs
unfolding followed
parted None u xs h = absurd (none-some xs h)
parted (Some a) None xs h = absurd (none-some xs h)
parted (Some a) (Some b) xs h = record { first = a; rest = b; first_is = refl; rest_is = refl; all = same_Some (a ++ b) xs h }

-- two parts, each by another name
joined_parts : {a b x y all : List ℕ} → a ≡ x → b ≡ y → x ++ y ≡ all → a ++ b ≡ all
joined_parts {a} {b} {x} {y} p q h = ap (λ r. r ++ b) p ∙ ap (λ r. x ++ r) q ∙ h

num_by : (a b : Bool) (ys xs : List ℕ) → ◌≡◌ {A = Text} (if a && b then Some ys else None) (Some xs) → (ys ≡ xs) × IsTrue b
num_by true true ys xs h = (same_Some ys xs h, refl)
num_by true false ys xs h = absurd (none-some xs h)
num_by false b ys xs h = absurd (none-some xs h)

num_some : (big : Bool) (w n : ℕ) (xs : List ℕ) → num_text big w n ≡ Some xs → (num big w n ≡ xs) × IsTrue (fits w n)
unfolding num_text
num_some big w n xs h = num_by (is_width w) (fits w n) (num big w n) xs h

when_some : {A : Type 0} (b : Bool) (o : Option A) (x : A) → when b o ≡ Some x → IsTrue b × (o ≡ Some x)
when_some true o x h = (refl, h)
when_some false o x h = absurd (none-some x h)

width-lt : (w : ℕ) → IsTrue (is_width w) → w < 256
width-lt w h = by_small w h
  where
    by_small : (w : ℕ) → IsTrue (is_width w) → w < 256
    by_small w h = grind arith

-- a length that is there has a spelling
length_some : (big : Bool) (l : Layout) (format : Format) (n : ℕ) (xs : List ℕ) → length_text format n big l ≡ Some xs → (num big (word_of format) n ≡ xs) × IsTrue (length_fits format n)
unfolding length_text
length_some big l format n xs h =
    let there = when_some (length_fits format n) (num_text big (word_of format) n) xs h in
    ((num_some big (word_of format) n xs there.1).0, there.0)

fields_shape : (big : Bool) (l : Layout) (e : Encoding) (table : ℕ) (fs : List ℕ) → fields_text e table big l ≡ Some fs → IsParted (num_text big 2 e.version) (after_version_text e table big l) fs
unfolding fields_text fitting_text after
fields_shape big l e table fs h = parted (num_text big 2 e.version) (after_version_text e table big l) fs h

-- the fields of a header, where they have a spelling
fields_some : (big : Bool) (l : Layout) (e : Encoding) (table : ℕ) (fs : List ℕ) → e.address_size < 256 → fields_text e table big l ≡ Some fs →
    (fields_bytes big e (table + start_of l DebugAbbrev) ≡ fs) × IsTrue (fits (word_of e.format) (table + start_of l DebugAbbrev))
unfolding fields_bytes fitting_text after offset_text
fields_some big l e table fs small h =
    let place = table + start_of l DebugAbbrev in
    let w = word_of e.format in
    let size = num-byte big e.address_size small in
    let one = num-byte big 1 (omega arith) in
    let a = fields_shape big l e table fs h in
    let version = num_some big 2 e.version a.first a.first_is in
    elim (cases_eq e.version 5) [
      | inl five ↦
          let test = eq-eqb e.version 5 five in
          let b = parted (num_text big 1 1) (followed (num_text big 1 e.address_size) (num_text big w place)) a.rest (rw test at a.rest_is) in
          let c = parted (num_text big 1 e.address_size) (num_text big w place) b.rest b.rest_is in
          let n = num_some big w place c.rest c.rest_is in
          let type : 1 ∷ [] ≡ b.first = sym one ∙ (num_some big 1 1 b.first b.first_is).0 in
          let address : e.address_size ∷ [] ≡ c.first = sym size ∙ (num_some big 1 e.address_size c.first c.first_is).0 in
          (rw test (joined_parts version.0 (joined_parts type (joined_parts address n.0 c.all) b.all) a.all), n.1)
      | inr other ↦
          let test = ne_eqb e.version 5 other in
          let b = parted (num_text big w place) (num_text big 1 e.address_size) a.rest (rw test at a.rest_is) in
          let n = num_some big w place b.first b.first_is in
          let address : e.address_size ∷ [] ≡ b.rest = sym size ∙ (num_some big 1 e.address_size b.rest b.rest_is).0 in
          (rw test (joined_parts version.0 (joined_parts n.0 address b.all) a.all), n.1)
    ]

-- A header that is there: what is before the length, the length and the fields.
record IsHeader (big : Bool) (l : Layout) (e : Encoding) (table size : ℕ) (xs : List ℕ) : Type 0 where
  bytes : escape_of e.format ++ (num big (word_of e.format) (unit_length e size) ++ fields_bytes big e (table + start_of l DebugAbbrev)) ≡ xs
  place_fits : IsTrue (fits (word_of e.format) (table + start_of l DebugAbbrev))
  length_ok : IsTrue (length_fits e.format (unit_length e size))

header_some : (big : Bool) (l : Layout) (e : Encoding) (table size : ℕ) (xs : List ℕ) → e.address_size < 256 → header_text e table size big l ≡ Some xs → IsHeader big l e table size xs
unfolding header_text after bytes_text
header_some big l e table size xs small h =
    let b = parted (Some (escape_of e.format)) (followed (length_text e.format (unit_length e size) big l) (fields_text e table big l)) xs h in
    let c = parted (length_text e.format (unit_length e size) big l) (fields_text e table big l) b.rest b.rest_is in
    let fields = fields_some big l e table c.rest small c.rest_is in
    let number = length_some big l e.format (unit_length e size) c.first c.first_is in
    let w = word_of e.format in
    record {
      bytes = joined_parts (same_Some (escape_of e.format) b.first b.first_is) (joined_parts number.0 fields.0 c.all) b.all;
      place_fits = fields.1;
      length_ok = number.1;
    }

-- a version and an address size that a header can have
encodable : (e : Encoding) → IsTrue (is_encodable e) → (2 ≤ e.version) × (e.version ≤ 5) × IsTrue (is_width e.address_size)
encodable e h =
    let parts = and_parts (is_version e.version) (is_width e.address_size) h in
    let versions = and_parts (nat_le 2 e.version) (nat_le e.version 5) parts.0 in
    (leb-true 2 e.version versions.0, leb-true e.version 5 versions.1, parts.1)

-- A unit of these entries is there, with its table where the section of tables starts and what is read of it.
pub record IsThere (big : Bool) (l : Layout) (info : Info) (e : Encoding) (es : List EntryValue) (t : Tables) (k : Kept) (xs : List ℕ) : Type 0 where
  pub marks : List (Mark ReadEntry)
  pub read : read_tree big e (targets_in (targets_of t k.places) l info) es ≡ Some marks
  pub bytes : unit_bytes big e (k.starts.abbrevs + start_of l DebugAbbrev) (body_bytes big e marks) ≡ xs
  pub size : length xs ≡ (draft_of e es t k).size
  pub is_unit : IsUnit big e (k.starts.abbrevs + start_of l DebugAbbrev) (tree_declared e es) marks

regrouped : (a b c d : List ℕ) → a ++ (b ++ (c ++ d)) ≡ (a ++ (b ++ c)) ++ d
regrouped a b c d = simp append_assoc

-- A unit that stands, and whose text is there, is read.
pub there : (big : Bool) (l : Layout) (info : Info) (at : Starts) (e : Encoding) (es : List EntryValue) (tables : Tables) (k : Kept) (xs : List ℕ) → Stands at e es tables k → (draft_of e es tables k).text info big l ≡ Some xs →
    IsThere big l info e es tables k xs
unfolding then_draft unit_bytes
there big l info at e es tables k xs s h =
    let w = word_of e.format in
    let u = targets_of tables k.places in
    let t = targets_in u l info in
    let body = tree_draft e es u in
    let table = k.starts.abbrevs in
    let place = table + start_of l DebugAbbrev in
    let can = encodable e s.encodable in
    let a = parted (header_text e table body.size big l) (body.text info big l) xs h in
    let head = header_some big l e table body.size a.first (width-lt e.address_size can.2) a.first_is in
    let tree = bind_parts (read_tree big e t es) (λ ms. Some (body_bytes big e ms)) a.rest (sym (tree_text big e u l info es) ∙ a.rest_is) in
    let fits_tree = tree_fits big e t es tree.0 s.ranged s.few s.tree tree.1 in
    let content : body_bytes big e tree.0 ≡ a.rest = same_Some _ _ tree.2 in
    let size : length xs ≡ header_size e + body.size = s.draft.wide info big l xs h in
    let fields = fields_bytes big e place in
    let number = num big w (unit_length e body.size) in
    let long : unit_length e body.size ≡ length (fields ++ body_bytes big e tree.0) =
    omega (arith, size, ap length a.all, length-append a.first a.rest, ap length head.bytes, length-append (escape_of e.format) (number ++ fields), length-append number fields, length-num big w (unit_length e body.size), length-fields_bytes big e place, ap length content, length-append fields (body_bytes big e tree.0)) in
    record {
      marks = tree.0;
      read = tree.1;
      bytes =
          ap (λ n. escape_of e.format ++ (num big w n ++ (fields ++ body_bytes big e tree.0))) (sym long)
          ∙ regrouped (escape_of e.format) number fields (body_bytes big e tree.0)
          ∙ joined_parts head.bytes content a.all;
      size = size;
      is_unit = record {
        version_from = can.0;
        version_to = can.1;
        address_size = can.2;
        place_fits = head.place_fits;
        length_ok = subst (λ n. IsTrue (length_fits e.format n)) long head.length_ok;
        declarations = s.declared;
        each = fits_tree.0;
        tree = fits_tree.1;
      };
    }

-- A unit is read where its sections start, with the places that were kept.
pub record IsReadAs (big : Bool) (l : Layout) (info : Info) (u : Numbered) (k : Kept) (r : ReadUnit) : Type 0 where
  pub marks : List (Mark ReadEntry)
  pub read : read_tree big u.unit.encoding (targets_in (targets_of u.tables k.places) l info) u.unit.entries ≡ Some marks
  pub is : r ≡ read_unit big u.unit.encoding (k.starts.info + start_of l DebugInfo) (k.starts.abbrevs + start_of l DebugAbbrev) (tree_declared u.unit.encoding u.unit.entries) marks

abbrev pub AreReadAs : Bool → Layout → Info → List Numbered → List Kept → List ReadUnit → Type 0
AreReadAs big l info [] [] [] = Unit {0}
AreReadAs big l info (u ∷ us) (k ∷ ks) (r ∷ rs) = IsReadAs big l info u k r × AreReadAs big l info us ks rs
AreReadAs big l info us ks rs = ⊥

-- Units in a row are read from the bytes of their text and of their tables, and then what stands behind these.
pub record AreRead (big : Bool) (l : Layout) (info : Info) (us : List Numbered) (ks : List Kept) (n fuel from table_from : ℕ) (xs rest others : List ℕ) : Type 0 where
  pub reads : List ReadUnit
  pub as_kept : AreReadAs big l info us ks reads
  pub again : units_at n big from table_from (xs ++ rest) (tables_of us ++ others) ≡ (units_at fuel big (from + length xs) (table_from + length (tables_of us)) rest others >>= λ more. Some (reads ++ more))

bind-assoc : {A B C : Type 0} (o : Option A) (f : A → Option B) (g : B → Option C) → ((o >>= f) >>= g) ≡ (o >>= λ x. f x >>= g)
bind-assoc None f g = refl
bind-assoc (Some x) f g = refl

bind-same : {A : Type 0} (o : Option A) → (o >>= λ x. Some x) ≡ o
bind-same None = refl
bind-same (Some x) = refl

-- one unit, and the units behind it
one_before : (big : Bool) (n fuel from table_from place : ℕ) (first tail xs bytes table tables rest others : List ℕ) (own : ReadUnit) (reads : List ReadUnit) → bytes ≡ first → first ++ tail ≡ xs → table_from ≡ place →
    units_at (suc n) big from place (bytes ++ (tail ++ rest)) (table ++ (tables ++ others)) ≡ (units_at n big (from + length bytes) (place + length table) (tail ++ rest) (tables ++ others) >>= λ more. Some (own ∷ more)) →
    units_at n big (from + length first) (table_from + length table) (tail ++ rest) (tables ++ others) ≡ (units_at fuel big (from + length first + length tail) (table_from + length table + length tables) rest others >>= λ more. Some (reads ++ more)) →
    units_at (suc n) big from table_from (xs ++ rest) ((table ++ tables) ++ others) ≡ (units_at fuel big (from + length xs) (table_from + length (table ++ tables)) rest others >>= λ more. Some (own ∷ (reads ++ more)))
one_before big n fuel from table_from place first tail xs bytes table tables rest others own reads spelled all tabled step behind =
    let to : from + length first + length tail ≡ from + length xs = omega (arith, ap length all, length-append first tail) in
    let tables_to : table_from + length table + length tables ≡ table_from + length (table ++ tables) = omega (arith, length-append table tables) in
    ap (λ ys. units_at (suc n) big from table_from (ys ++ rest) ((table ++ tables) ++ others)) (sym all)
    ∙ ap (λ ys. units_at (suc n) big from table_from ys ((table ++ tables) ++ others)) (append_assoc first tail rest)
    ∙ ap (units_at (suc n) big from table_from (first ++ (tail ++ rest))) (append_assoc table tables others)
    ∙ ap (λ ys. units_at (suc n) big from table_from (ys ++ (tail ++ rest)) (table ++ (tables ++ others))) (sym spelled)
    ∙ ap (λ m. units_at (suc n) big from m (bytes ++ (tail ++ rest)) (table ++ (tables ++ others))) tabled
    ∙ step
    ∙ ap (λ ys. units_at n big (from + length ys) (place + length table) (tail ++ rest) (tables ++ others) >>= λ more. Some (own ∷ more)) spelled
    ∙ ap (λ m. units_at n big (from + length first) (m + length table) (tail ++ rest) (tables ++ others) >>= λ more. Some (own ∷ more)) (sym tabled)
    ∙ ap (λ o. o >>= λ more. Some (own ∷ more)) behind
    ∙ bind-assoc (units_at fuel big (from + length first + length tail) (table_from + length table + length tables) rest others) (λ more. Some (reads ++ more)) (λ more. Some (own ∷ more))
    ∙ ap (λ m. units_at fuel big m (table_from + length table + length tables) rest others >>= λ more. Some (own ∷ (reads ++ more))) to
    ∙ ap (λ m. units_at fuel big (from + length xs) m rest others >>= λ more. Some (own ∷ (reads ++ more))) tables_to

module _ (big : Bool) (l : Layout) (info : Info) where
  pub units-again : (us : List Numbered) (ks : List Kept) (at : Starts) (n fuel from table_from : ℕ) (xs rest others : List ℕ) → AreInRow at us ks →
      n ≡ length us + fuel → from ≡ at.info + start_of l DebugInfo → table_from ≡ at.abbrevs + start_of l DebugAbbrev → (units_draft us ks).text info big l ≡ Some xs → AreRead big l info us ks n fuel from table_from xs rest others
  unfolding then_draft
  units-again [] [] at n fuel from table_from xs rest others row count here tables_here h =
      let nothing : [] ≡ xs = same_Some [] xs h in
      record {
        reads = [];
        as_kept = tt;
        again =
            ap (λ m. units_at m big from table_from (xs ++ rest) others) (let k : n ≡ fuel = omega arith in k)
            ∙ ap (λ ys. units_at fuel big from table_from (ys ++ rest) others) (sym nothing)
            ∙ ap (λ m. units_at fuel big m table_from rest others) (let k : from ≡ from + length xs = omega (arith, ap length nothing) in k)
            ∙ ap (λ m. units_at fuel big (from + length xs) m rest others) (let k : table_from ≡ table_from + 0 = omega arith in k)
            ∙ sym (bind-same (units_at fuel big (from + length xs) (table_from + 0) rest others));
      }
  units-again [] (k ∷ ks) at n fuel from table_from xs rest others row count here tables_here h = absurd row
  units-again (u ∷ us) [] at n fuel from table_from xs rest others row count here tables_here h = absurd row
  units-again (u ∷ us) (k ∷ ks) at zero fuel from table_from xs rest others row count here tables_here h = absurd (omega arith)
  units-again (u ∷ us) (k ∷ ks) at (suc n) fuel from table_from xs rest others row count here tables_here h =
      let e = u.unit.encoding in
      let s = row.0 in
      let a = parted ((draft_at u k).text info big l) ((units_draft us ks).text info big l) xs h in
      let t = there big l info at e u.unit.entries u.tables k a.first s a.first_is in
      let place = k.starts.abbrevs + start_of l DebugAbbrev in
      let table = tree_table e u.unit.entries in
      let tables = tables_of us in
      let tabled_at : table_from ≡ place = omega (arith, tables_here, ap (λ p. p.abbrevs) s.starts) in
      let size : length a.first ≡ (draft_at u k).size = t.size in
      let from_is : from ≡ k.starts.info + start_of l DebugInfo = omega (arith, here, ap (λ p. p.info) s.starts) in
      let next_from : from + length a.first ≡ (past_kept at u k).info + start_of l DebugInfo = omega (arith, here, size) in
      let next_table : table_from + length table ≡ (past_kept at u k).abbrevs + start_of l DebugAbbrev = omega (arith, tables_here) in
      let more = units-again us ks (past_kept at u k) n fuel (from + length a.first) (table_from + length table) a.rest rest others row.1 (omega arith) next_from next_table a.rest_is in
      let declared = tree_declared e u.unit.entries in
      let own : ReadUnit = read_unit big e from place declared t.marks in
      let step = unit-again n big e from place declared t.marks (a.rest ++ rest) (tables ++ others) t.is_unit in
      record {
        reads = own ∷ more.reads;
        as_kept = (record { marks = t.marks; read = t.read; is = ap (λ m. read_unit big e m place declared t.marks) from_is }, more.as_kept);
        again = one_before big n fuel from table_from place a.first a.rest xs (unit_bytes big e place (body_bytes big e t.marks)) table tables rest others own more.reads t.bytes a.all tabled_at step more.again;
      }
