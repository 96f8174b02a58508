-- Files, written and joined, are read as their units.
use Rattle.std.specs.Prelude.{◌≡◌, ℕ, suc, zero, ◌+◌, ◌-◌, ◌≤◌, Bool, true, false, not, ◌&&◌, List, [], ◌∷◌, ◌++◌, map, length, take, drop, Some, None, IfSome, refl, if◌then◌else◌}
use Rattle.std.proofs.Common.{sym, ◌∙◌, ap, subst, arith, append-nil, length-append, zero-add}
use Rattle.std.proofs.lemmas.Option.{none-some, same_Some}
use Rattle.dw_base.specs.Numbers.{◌>>=◌}
use Rattle.dw_base.specs.Info.{ReadUnit, units_at, read_info}
use Rattle.dw_base.specs.declared.section_id.SectionId.TheVariants.{DebugAbbrev, DebugInfo}
use Rattle.dw_base.proofs.HeaderLaws.{header_size_pos}
use Rattle.dw_writer.specs.Texts.{followed}
use Rattle.dw_writer.specs.Resolved.{put_records, resolved}
use Rattle.dw_writer.specs.Meaning.{Meaning, Layout, IsTidy, AllInside, is_at_zero, start_of}
use Rattle.dw_writer.specs.New.{IsEmptyWriter, IsEmptyPlainWriter}
use Rattle.dw_writer.specs.Drafts.{Info, then_draft, started, filled_text}
use Rattle.dw_writer.proofs.Laws.{followed-somes}
use Rattle.dw_writer.proofs.Steps.{followed_texts-wide}
use Rattle.dw_tree.specs.Built.{Numbered, File, Starts, AreBuilt, AreFilesBuilt, Built, past_units, at_begin, at_end, at_zero}
use Rattle.dw_tree.specs.Pending.{Kept, draft_at, units_draft, tables_of, past_kept, info_of, AreInRow, AddsUnits}
use Rattle.dw_unit.proofs.ReadUnits.{parted, AreReadAs, units-again}
use Rattle.dw_unit.specs.WrittenUnits.{AreKeptRead}
use Rattle.dw_unit.proofs.UnitsBuilt.{kept_read, past_is, units_built}

-- A file that was written, with the places that its units keep, and where it stands among the joined ones.
pub record WrittenFile : Type 0 where
  pub units : List Numbered
  pub kept : List Kept
  pub layout : Layout

-- its units stand in a row from its beginning, and their text is there
pub record IsWritten (big : Bool) (f : WrittenFile) (xs : List ℕ) : Type 0 where
  pub in_row : AreInRow at_begin f.units f.kept
  pub text : filled_text (info_of f.units f.kept) (units_draft f.units f.kept) big f.layout ≡ Some xs

-- behind a file and its tables
abbrev pub past_file : Starts → WrittenFile → List ℕ → Starts
past_file at f xs = record { info = at.info + length xs; abbrevs = at.abbrevs + length (tables_of f.units) }

-- Each file starts where the one before it ends, in .debug_info and in .debug_abbrev.
abbrev pub AreWritten : Bool → Starts → List WrittenFile → List (List ℕ) → Type 0
AreWritten big at [] [] = Unit {0}
AreWritten big at [] (xs ∷ xss) = ⊥
AreWritten big at (f ∷ fs) [] = ⊥
AreWritten big at (f ∷ fs) (xs ∷ xss) =
    IsWritten big f xs × (start_of f.layout DebugInfo ≡ at.info) × (start_of f.layout DebugAbbrev ≡ at.abbrevs) × AreWritten big (past_file at f xs) fs xss

-- texts, one behind another, and the tables of files
abbrev pub joined : List (List ℕ) → List ℕ
joined [] = []
joined (xs ∷ xss) = xs ++ joined xss

abbrev pub joined_tables : List WrittenFile → List ℕ
joined_tables [] = []
joined_tables (f ∷ fs) = tables_of f.units ++ joined_tables fs

abbrev pub file_of : WrittenFile → File
file_of f = record { units = f.units; layout = f.layout }

-- the units of each file are read where they are kept
abbrev pub AreFilesKept : List WrittenFile → List ReadUnit → Type 0
AreFilesKept [] rs = Unit {0}
AreFilesKept (f ∷ fs) rs = AreKeptRead (start_of f.layout DebugInfo) f.units f.kept (take (length f.units) rs) × AreFilesKept fs (drop (length f.units) rs)

abbrev count : List WrittenFile → ℕ
count [] = 0
count (f ∷ fs) = length f.units + count fs

starts_are : (a b : Starts) → a.info ≡ b.info → a.abbrevs ≡ b.abbrevs → a ≡ b
starts_are a b p q =
    ap (λ n. let s : Starts = record { info = n; abbrevs = a.abbrevs } in s) p ∙ ap (λ n. let s : Starts = record { info = b.info; abbrevs = n } in s) q

length-reads : (big : Bool) (l : Layout) (info : Info) (us : List Numbered) (ks : List Kept) (rs : List ReadUnit) → AreReadAs big l info us ks rs → length rs ≡ length us
length-reads big l info [] [] [] h = refl
length-reads big l info [] [] (r ∷ rs) h = absurd h
length-reads big l info [] (k ∷ ks) rs h = absurd h
length-reads big l info (u ∷ us) [] rs h = absurd h
length-reads big l info (u ∷ us) (k ∷ ks) [] h = absurd h
length-reads big l info (u ∷ us) (k ∷ ks) (r ∷ rs) h = ap suc (length-reads big l info us ks rs h.1)

take_first : (rs qs : List ReadUnit) (n : ℕ) → length rs ≡ n → take n (rs ++ qs) ≡ rs
take_first [] qs zero e = refl
take_first [] qs (suc n) e = absurd (omega arith)
take_first (r ∷ rs) qs zero e = absurd (omega arith)
take_first (r ∷ rs) qs (suc n) e = ap (λ x. r ∷ x) (take_first rs qs n (omega arith))

drop_first : (rs qs : List ReadUnit) (n : ℕ) → length rs ≡ n → drop n (rs ++ qs) ≡ qs
drop_first [] qs zero e = refl
drop_first [] qs (suc n) e = absurd (omega arith)
drop_first (r ∷ rs) qs zero e = absurd (omega arith)
drop_first (r ∷ rs) qs (suc n) e = drop_first rs qs n (omega arith)

-- no unit is empty
units_long : (at : Starts) (us : List Numbered) (ks : List Kept) → AreInRow at us ks → length us ≤ (units_draft us ks).size
unfolding then_draft
units_long at [] [] h = omega arith
units_long at [] (k ∷ ks) h = absurd h
units_long at (u ∷ us) [] h = absurd h
units_long at (u ∷ us) (k ∷ ks) h = omega (arith, units_long (past_kept at u k) us ks h.1, header_size_pos u.unit.encoding)

-- the text of units has as many bytes as their drafts say
units_wide : (big : Bool) (l : Layout) (info : Info) (at : Starts) (us : List Numbered) (ks : List Kept) (xs : List ℕ) → AreInRow at us ks → (units_draft us ks).text info big l ≡ Some xs → length xs ≡ (units_draft us ks).size
unfolding then_draft
units_wide big l info at [] [] xs h e = sym (ap length (same_Some [] xs e))
units_wide big l info at [] (k ∷ ks) xs h e = absurd h
units_wide big l info at (u ∷ us) [] xs h e = absurd h
units_wide big l info at (u ∷ us) (k ∷ ks) xs h e =
    let d = draft_at u k in
    let ds = units_draft us ks in
    followed_texts-wide d.size ds.size (d.text info big l) (ds.text info big l) (h.0.draft.wide info big l) (λ ys. units_wide big l info (past_kept at u k) us ks ys h.1) xs e

count_long : (big : Bool) (at : Starts) (fs : List WrittenFile) (xss : List (List ℕ)) → AreWritten big at fs xss → count fs ≤ length (joined xss)
count_long big at [] [] h = omega arith
count_long big at [] (xs ∷ xss) h = absurd h
count_long big at (f ∷ fs) [] h = absurd h
count_long big at (f ∷ fs) (xs ∷ xss) h =
    let w = h.0 in
    omega (arith, count_long big (past_file at f xs) fs xss h.3, units_long at_begin f.units f.kept w.in_row, units_wide big f.layout (started (start_of f.layout DebugInfo) (info_of f.units f.kept)) at_begin f.units f.kept xs w.in_row w.text, length-append xs (joined xss))

record AreFilesRead (big : Bool) (at end : Starts) (fs : List WrittenFile) (xss : List (List ℕ)) (n : ℕ) : Type 0 where
  reads : List ReadUnit
  reads_are : units_at n big at.info at.abbrevs (joined xss) (joined_tables fs) ≡ Some reads
  built : AreFilesBuilt big at end (map file_of fs) reads
  kept : AreFilesKept fs reads

files-again : (big : Bool) (at end : Starts) (fs : List WrittenFile) (xss : List (List ℕ)) (n fuel : ℕ) → n ≡ count fs + fuel → AreWritten big at fs xss →
    end.info ≡ at.info + length (joined xss) → end.abbrevs ≡ at.abbrevs + length (joined_tables fs) → AreFilesRead big at end fs xss n
unfolding units_at
files-again big at end [] [] n fuel e h here tables_here =
    record { reads = []; reads_are = refl; built = (refl, starts_are at end (omega (arith, here)) (omega (arith, tables_here))); kept = tt }
files-again big at end [] (xs ∷ xss) n fuel e h here tables_here = absurd h
files-again big at end (f ∷ fs) [] n fuel e h here tables_here = absurd h
files-again big at end (f ∷ fs) (xs ∷ xss) n fuel e h here tables_here =
    let w = h.0 in
    let us = f.units in
    let ks = f.kept in
    let info = started (start_of f.layout DebugInfo) (info_of us ks) in
    let own = units-again big f.layout info us ks at_begin n (count fs + fuel) at.info at.abbrevs xs (joined xss) (joined_tables fs) w.in_row (omega arith) (omega (arith, h.1)) (omega (arith, h.2)) w.text in
    let next = past_file at f xs in
    let next_end : end.info ≡ next.info + length (joined xss) = omega (arith, here, length-append xs (joined xss)) in
    let next_tables : end.abbrevs ≡ next.abbrevs + length (joined_tables fs) = omega (arith, tables_here, length-append (tables_of us) (joined_tables fs)) in
    let more = files-again big next end fs xss (count fs + fuel) fuel refl h.3 next_end next_tables in
    let long = length-reads big f.layout info us ks own.reads own.as_kept in
    let built : AreBuilt big f.layout us own.reads at us own.reads = units_built big f.layout at_begin at us ks own.reads w.in_row own.as_kept (omega (arith, h.1)) (omega (arith, h.2)) in
    let past = past_is big f.layout info at_begin at us ks own.reads w.in_row own.as_kept in
    let behind : next ≡ past_units at us own.reads = starts_are next (past_units at us own.reads) (omega (arith, past.0, units_wide big f.layout info at_begin us ks xs w.in_row w.text)) (sym past.1) in
    let rest : AreFilesBuilt big (past_units at us own.reads) end (map file_of fs) more.reads = subst (λ s. AreFilesBuilt big s end (map file_of fs) more.reads) behind more.built in
    let first = sym (take_first own.reads more.reads (length us) long) in
    record {
      reads = own.reads ++ more.reads;
      reads_are = own.again ∙ ap (λ o. o >>= λ ys. Some (own.reads ++ ys)) more.reads_are;
      built = (
        subst (λ rs. AreBuilt big f.layout us rs at us rs) first built,
        subst (λ rs. AreFilesBuilt big (past_units at us rs) end (map file_of fs) (drop (length us) (own.reads ++ more.reads))) first
            (subst (AreFilesBuilt big (past_units at us own.reads) end (map file_of fs)) (sym (drop_first own.reads more.reads (length us) long)) rest),
      );
      kept = (
        subst (AreKeptRead (start_of f.layout DebugInfo) us ks) first (kept_read big f.layout info at_begin us ks own.reads w.in_row own.as_kept),
        subst (AreFilesKept fs) (sym (drop_first own.reads more.reads (length us) long)) more.kept,
      );
    }

-- Files that stand one behind another are read as exactly their units, each reference leading to its entry in its own file, and
-- each unit where it is kept.
pub files_read : (big : Bool) (fs : List WrittenFile) (xss : List (List ℕ)) → AreWritten big at_begin fs xss → (b : Built (map file_of fs) big (joined xss) (joined_tables fs)) × AreFilesKept fs b.read
unfolding read_info
files_read big fs xss h =
    let n = length (joined xss) in
    let r = files-again big at_begin (at_end (joined xss) (joined_tables fs)) fs xss n (n - count fs) (omega (arith, count_long big at_begin fs xss h)) h (sym (zero-add n)) (sym (zero-add (length (joined_tables fs)))) in
    (record { read = r.reads; reads = r.reads_are; units_are = r.built }, r.kept)

pub files_built : (big : Bool) (fs : List WrittenFile) (xss : List (List ℕ)) → AreWritten big at_begin fs xss → Built (map file_of fs) big (joined xss) (joined_tables fs)
files_built big fs xss h = (files_read big fs xss h).0

-- What one writer holds

-- an empty writer tells no bytes, wherever it stands
pub resolved-empty : (big : Bool) (l : Layout) (m : Meaning) (ys : List ℕ) → IsEmptyWriter m big → resolved l m ≡ Some ys → ys ≡ []
unfolding resolved
resolved-empty big l m ys empty h =
    by_test (m.is_plain && not (is_at_zero l)) (ap (λ rs. if m.is_plain && not (is_at_zero l) then None else put_records m.is_big l rs m.bytes) (sym empty.records) ∙ h)
  where
    by_test : (b : Bool) → (if b then None else m.bytes) ≡ Some ys → ys ≡ []
    by_test true h = absurd (none-some ys h)
    by_test false h = subst (λ o. IfSome o (λ xs. xs ≡ [])) h empty.told

-- and it is tidy
pub empty_tidy : (big : Bool) (m : Meaning) → IsEmptyWriter m big → IsTidy m
unfolding AllInside
empty_tidy big m empty =
    let told : (b : List ℕ) → m.bytes ≡ Some b → b ≡ [] = λ b e. subst (λ o. IfSome o (λ xs. xs ≡ [])) e empty.told in
    record {
      sized = λ b e. ap length (told b e) ∙ sym empty.size;
      inside = subst (λ rs. AllInside m.size rs) (sym empty.records) tt;
    }

-- Units that were added to an empty writer are a file that was written, in each layout in which the writer tells its bytes.
pub file_written : (big : Bool) (old new : Meaning) (tables : ℕ) (us : List Numbered) (ks : List Kept) (l : Layout) (xs : List ℕ) → IsEmptyWriter old big → (p : AddsUnits old new tables (info_of us ks) us ks) → tables ≡ 0 → resolved l new ≡ Some xs →
    IsWritten old.is_big (record { units = us; kept = ks; layout = l }) xs
file_written big old new tables us ks l xs empty p first h =
    let text = filled_text (info_of us ks) (units_draft us ks) old.is_big l in
    let parts = parted (resolved l old) text xs (sym (p.resolves (empty_tidy big old empty) l) ∙ h) in
    let none = resolved-empty big l old parts.first empty parts.first_is in
    record {
      in_row = subst (λ n. AreInRow (record { info = n; abbrevs = 0 }) us ks) empty.size (subst (λ n. AreInRow (record { info = old.size; abbrevs = n }) us ks) first p.in_row);
      text = parts.rest_is ∙ ap Some (ap (λ ys. ys ++ parts.rest) (sym none) ∙ parts.all);
    }

-- units of one file are read where they are kept
abbrev pub IsFileRead : File → List Kept → Bool → List ℕ → List ℕ → Type 0
IsFileRead f ks big info abbrevs = (b : Built (f ∷ []) big info abbrevs) × AreKeptRead (start_of f.layout DebugInfo) f.units ks (take (length f.units) b.read)

-- Over any writer that was empty, units are read as one file from its resolved bytes, in a layout where the two sections
-- start at 0.
units_read : (big : Bool) (old new : Meaning) (tables : ℕ) (us : List Numbered) (ks : List Kept) (l : Layout) → IsEmptyWriter old big → tables ≡ 0 → AddsUnits old new tables (info_of us ks) us ks →
    start_of l DebugInfo ≡ 0 → start_of l DebugAbbrev ≡ 0 → (xs : List ℕ) → resolved l new ≡ Some xs →
    IsFileRead (record { units = us; layout = l }) ks old.is_big xs (tables_of us)
units_read big old new tables us ks l empty first p info abbrevs xs h =
    let f : WrittenFile = record { units = us; kept = ks; layout = l } in
    let all = files_read old.is_big (f ∷ []) (xs ∷ []) (file_written big old new tables us ks l xs empty p first h, info, abbrevs, tt) in
    subst (IsFileRead (file_of f) ks old.is_big xs) (append-nil (tables_of us))
    (subst (λ ys. IsFileRead (file_of f) ks old.is_big ys (tables_of us ++ [])) (append-nil xs) (all.0, all.1.0))

pub units_resolved : (big : Bool) (old new : Meaning) (tables : ℕ) (us : List Numbered) (ks : List Kept) (l : Layout) → IsEmptyWriter old big → tables ≡ 0 → AddsUnits old new tables (info_of us ks) us ks →
    start_of l DebugInfo ≡ 0 → start_of l DebugAbbrev ≡ 0 → (xs : List ℕ) → resolved l new ≡ Some xs →
    Built (record { units = us; layout = l } ∷ []) old.is_big xs (tables_of us)
units_resolved big old new tables us ks l empty first p info abbrevs xs h = (units_read big old new tables us ks l empty first p info abbrevs xs h).0

-- a plain writer's bytes are its resolved bytes
pub resolved-plain : (m : Meaning) → m.is_plain ≡ true → m.records ≡ [] → resolved at_zero m ≡ m.bytes
unfolding resolved
resolved-plain m plain none =
    ap (λ b. if b && not true then None else put_records m.is_big at_zero m.records m.bytes) plain
    ∙ ap (λ rs. put_records m.is_big at_zero rs m.bytes) none

-- an empty plain writer is an empty one
plain_empty : (big : Bool) (m : Meaning) → IsEmptyPlainWriter m big → IsEmptyWriter m big
plain_empty big m empty = record {
  told = subst (λ o. IfSome o (λ ys. ys ≡ [])) (sym empty.bytes) refl;
  size = empty.size;
  records = empty.records;
  order = empty.order;
}

-- An empty plain writer tells the text of units that were added to it.
told_there : (big : Bool) (old new : Meaning) (tables : ℕ) (us : List Numbered) (ks : List Kept) → IsEmptyPlainWriter old big → new.records ≡ [] → (p : AddsUnits old new tables (info_of us ks) us ks) →
    new.bytes ≡ followed (Some []) (filled_text (info_of us ks) (units_draft us ks) old.is_big at_zero)
told_there big old new tables us ks empty none p =
    sym (resolved-plain new (p.same.kind ∙ empty.plain) none)
    ∙ p.resolves (empty_tidy big old (plain_empty big old empty)) at_zero
    ∙ ap (λ t. followed t (filled_text (info_of us ks) (units_draft us ks) old.is_big at_zero)) (resolved-plain old empty.plain empty.records ∙ empty.bytes)

-- What units leave in an empty plain writer is told, and is read as exactly these units, where they are kept.
pub units_held : (big : Bool) (old new : Meaning) (tables : ℕ) (us : List Numbered) (ks : List Kept) → IsEmptyPlainWriter old big → new.records ≡ [] → tables ≡ 0 → AddsUnits old new tables (info_of us ks) us ks →
    (xs : List ℕ) × ((new.bytes ≡ Some xs) × IsFileRead (record { units = us; layout = at_zero }) ks big xs (tables_of us))
units_held big old new tables us ks empty none first p =
    let there = p.there empty.plain old.is_big in
    let told : new.bytes ≡ Some there.0 = told_there big old new tables us ks empty none p ∙ ap (followed (Some [])) there.1 ∙ followed-somes [] there.0 in
    let resolves = resolved-plain new (p.same.kind ∙ empty.plain) none ∙ told in
    let all = units_read big old new tables us ks at_zero (plain_empty big old empty) first p refl refl there.0 resolves in
    (there.0, (told, subst (λ b. IsFileRead (record { units = us; layout = at_zero }) ks b there.0 (tables_of us)) empty.order all))
