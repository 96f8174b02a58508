-- Where the lists of directories and files begin, and how their entries are laid out.
use Rattle.std.proofs.Common.{◌≡◌, ◌∙◌, sym, ap, subst, inl, inr, ℕ, Bool, true, false, List, [], Result, Ok, Err, refl}
use Rattle.dw_base.specs.declared.common.Encoding.{Encoding}
use Rattle.dw_read.specs.Reading.{Reading, left}
use Rattle.dw_read.specs.declared.error.ReadError.{ReadError}
use Rattle.dw_read_lines.specs.FileEntryIters.{layout_of, HasParts, BeginsEntries, BeginsBehind, MissesEntries, MissesBehind, BeginsOld, BeginsDescribed}
use Rattle.dw_read_lines.specs.FileEntryFormatIters.{parts_in, OfParts}
use Rattle.dw_read_lines.specs.LineEntries.{Entry, Layout, Directories, Files, Described, next_read}
use Rattle.dw_read_lines.specs.declared.file_entries.FileEntryIter.{FileEntryIter}
use Rattle.dw_read_lines.specs.declared.file_entries.Layout.{Layout as HeldLayout}
use Rattle.dw_read_lines.specs.declared.file_entries.Layout.TheVariants as held
use Rattle.dw_sources.specs.ConvertErrors.{from_read}
use Rattle.dw_sources.specs.declared.convert_error.ConvertError.{ConvertError}
use Rattle.dw_sources.specs.declared.convert_error.ConvertError.TheVariants.{UnsupportedLineProgram}
use Rattle.dw_convert_lines.specs.Entries.{IsOpen, IsConvertibleList, FaultyBehind, EntriesOutcome}
use Rattle.dw_convert_lines.specs.FormatLists.{IsConvertible}
use Rattle.dw_convert_lines.specs.HeaderImages.{FaultyDescription, BeginOutcome}
use Rattle.dw_convert_lines.specs.HeaderLists.{AreDirectories, list_of}
use Rattle.dw_convert_lines.specs.Walks.{WalkOutcome}
use Rattle.dw_convert_lines.proofs.FormatLaws.{none_described}

module _ (R E : Type 0) (reading : R → Reading) where
  -- the iterator begins a list
  pub record BeginsList (new : Bool) (old : Layout) (big : Bool) (e : Encoding) (bytes : List ℕ) (i : FileEntryIter R E) : Type 0 where
    pub open_yet : IsOpen reading i
    pub outcome : BeginOutcome new old big e bytes (Ok (list_of reading i open_yet.parts))

  -- what the parts of described entries are convertible by
  convertible_by : (i : FileEntryIter R E) (e : Encoding) (parts : List (ℕ × ℕ)) → IsConvertibleList reading i → HasParts reading i.layout parts → layout_of reading i.layout parts ≡ Described e parts → IsConvertible parts i.remaining
  convertible_by i e parts c has laid = subst (λ (ps : List (ℕ × ℕ)). IsConvertible ps i.remaining) (ap parts_in laid) (c parts has)

  pub begins_directories : (new big : Bool) (e : Encoding) (bytes : List ℕ) (i : FileEntryIter R E) → BeginsEntries reading new held.Directories big e bytes i → IsConvertibleList reading i → BeginsList new Directories big e bytes i
  begins_directories false big e bytes i b c = record {
    open_yet = record { parts = []; described = subst (λ (l : HeldLayout R E). HasParts reading l []) (sym b.layout) tt; open_yet = b.not_ended };
    outcome = (ap (λ (l : HeldLayout R E). layout_of reading l []) b.layout, b.input);
  }
  begins_directories true big e bytes i b c = record {
    open_yet = record { parts = b.parts; described = b.described; open_yet = b.not_ended };
    outcome = (b.parts, b.layout, b.input, convertible_by i e b.parts c b.described b.layout);
  }

  same_encoding : (a b : Encoding) (parts : List (ℕ × ℕ)) → Described a parts ≡ Described b parts → a ≡ b
  same_encoding a b parts h = cc

  described : (l : HeldLayout R E) (e : Encoding) (parts : List (ℕ × ℕ)) → layout_of reading l parts ≡ Described e parts → AreDirectories true e l
  described held.Directories e parts h = absurd (cc)
  described held.Files e parts h = absurd (cc)
  described (held.Described d) e parts h = same_encoding d.encoding.encoding e parts h

  pub laid : (new big : Bool) (e : Encoding) (bytes : List ℕ) (i : FileEntryIter R E) → BeginsEntries reading new held.Directories big e bytes i → AreDirectories new e i.layout
  laid false big e bytes i b = b.layout
  laid true big e bytes i b = described i.layout e b.parts b.layout

  pub misses_directories : (new big : Bool) (e : Encoding) (bytes : List ℕ) (why : ReadError) (x : ConvertError) → MissesEntries new big bytes why → x ≡ from_read why → BeginOutcome new Directories big e bytes (Err x)
  misses_directories false big e bytes why x h q = h
  misses_directories true big e bytes why x h q = inl (record { error = why; reason = h; is = q })

  -- entries up to version 4 have no description that could be at fault
  convertible_old : (l : HeldLayout R E) (old : Layout) (bytes : List ℕ) (i : FileEntryIter R E) → BeginsOld reading l bytes i → ((parts : List (ℕ × ℕ)) → layout_of reading l parts ≡ old) → parts_in old ≡ [] → HasParts reading l [] → (OfParts reading i (λ parts. IsConvertible parts i.remaining → ⊥)) → ⊥
  convertible_old l old bytes i b laid none has refused =
      let here : HasParts reading i.layout [] = subst (λ (k : HeldLayout R E). HasParts reading k []) (sym b.layout) has in
      let q : parts_in (layout_of reading i.layout []) ≡ [] = ap (λ (k : HeldLayout R E). parts_in (layout_of reading k [])) b.layout ∙ (ap parts_in (laid []) ∙ none) in
      refused [] here (subst (λ (ps : List (ℕ × ℕ)). IsConvertible ps i.remaining) (sym q) (subst (λ (n : ℕ). IsConvertible [] n) (sym b.uncounted) none_described))

  refuses_described : (big : Bool) (e : Encoding) (bytes : List ℕ) (i : FileEntryIter R E) (x : ConvertError) → BeginsDescribed reading big e bytes i → OfParts reading i (λ parts. IsConvertible parts i.remaining → ⊥) → x ≡ UnsupportedLineProgram → FaultyDescription big bytes x
  refuses_described big e bytes i x b refused q = inr (record {
    parts = b.parts;
    count = i.remaining;
    rest = left (reading i.input);
    described = b.input;
    inconvertible = λ c. refused b.parts b.described (subst (λ (ps : List (ℕ × ℕ)). IsConvertible ps i.remaining) (sym (ap parts_in b.layout)) c);
    is = q;
  })

  pub refuses_directories : (new big : Bool) (e : Encoding) (bytes : List ℕ) (i : FileEntryIter R E) (x : ConvertError) → BeginsEntries reading new held.Directories big e bytes i → OfParts reading i (λ parts. IsConvertible parts i.remaining → ⊥) → x ≡ UnsupportedLineProgram → BeginOutcome new Directories big e bytes (Err x)
  refuses_directories false big e bytes i x b refused q = convertible_old held.Directories Directories bytes i b (λ _. refl) refl tt refused
  refuses_directories true big e bytes i x b refused q = refuses_described big e bytes i x b refused q

  begins_described : (big : Bool) (e : Encoding) (bytes : List ℕ) (i : FileEntryIter R E) → BeginsDescribed reading big e bytes i → IsConvertibleList reading i → BeginsList true Files big e bytes i
  begins_described big e bytes i b c = record {
    open_yet = record { parts = b.parts; described = b.described; open_yet = b.not_ended };
    outcome = (b.parts, b.layout, b.input, convertible_by i e b.parts c b.described b.layout);
  }

  pub begins_files : (new : Bool) (l : HeldLayout R E) (r : Reading) (e : Encoding) (i : FileEntryIter R E) → AreDirectories new e l → BeginsBehind reading l r i → IsConvertibleList reading i → BeginsList new Files r.is_big e (left r) i
  begins_files false held.Directories r e i h b c = record {
    open_yet = record { parts = []; described = subst (λ (l : HeldLayout R E). HasParts reading l []) (sym b.layout) tt; open_yet = b.not_ended };
    outcome = (ap (λ (l : HeldLayout R E). layout_of reading l []) b.layout, b.input);
  }
  begins_files false held.Files r e i h b c = absurd (cc)
  begins_files false (held.Described d) r e i h b c = absurd (cc)
  begins_files true held.Directories r e i h b c = absurd h
  begins_files true held.Files r e i h b c = absurd h
  begins_files true (held.Described d) r e i h b c =
      begins_described r.is_big e (left r) i (subst (λ (x : Encoding). BeginsDescribed reading r.is_big x (left r) i) h b) c

  pub misses_behind : (l : HeldLayout R E) (r : Reading) (why : ReadError) (x : ConvertError) → MissesBehind l r why → x ≡ from_read why → FaultyBehind l r x
  misses_behind held.Directories r why x h q = h
  misses_behind held.Files r why x h q = h
  misses_behind (held.Described d) r why x h q = inl (record { error = why; reason = h; is = q })

  pub refuses_behind : (l : HeldLayout R E) (r : Reading) (i : FileEntryIter R E) (x : ConvertError) → BeginsBehind reading l r i → OfParts reading i (λ parts. IsConvertible parts i.remaining → ⊥) → x ≡ UnsupportedLineProgram → FaultyBehind l r x
  refuses_behind held.Directories r i x b refused q = convertible_old held.Files Files (left r) i b (λ _. refl) refl tt refused
  refuses_behind held.Files r i x b refused q = convertible_old held.Files Files (left r) i b (λ _. refl) refl tt refused
  refuses_behind (held.Described d) r i x b refused q = refuses_described r.is_big d.encoding.encoding (left r) i x b refused q

  pub faulty_files : (new : Bool) (l : HeldLayout R E) (r : Reading) (e : Encoding) (x : ConvertError) → AreDirectories new e l → FaultyBehind l r x → BeginOutcome new Files r.is_big e (left r) (Err x)
  faulty_files false held.Directories r e x h b = b
  faulty_files false held.Files r e x h b = b
  faulty_files false (held.Described d) r e x h b = absurd (cc)
  faulty_files true held.Directories r e x h b = absurd h
  faulty_files true held.Files r e x h b = absurd h
  faulty_files true (held.Described d) r e x h b = b

  -- what entries make, by a layout and an order that equal theirs, from a state that equals the one before
  pub walks_in : {S : Type 0} (image : Entry → S → Result S ConvertError) (i : FileEntryIter R E) (l : HeldLayout R E) (big : Bool) (parts : List (ℕ × ℕ)) (s t : S) (x : Result (S × List ℕ) ConvertError)
      → i.layout ≡ l → (reading i.input).is_big ≡ big → HasParts reading l parts → s ≡ t → EntriesOutcome reading image i s x
      → WalkOutcome (next_read big (layout_of reading l parts)) image i.remaining (left (reading i.input)) t x
  walks_in {S} image i l big parts s t x e b has q o =
      let here : HasParts reading i.layout parts = subst (λ (k : HeldLayout R E). HasParts reading k parts) (sym e) has in
      let w : WalkOutcome (next_read (reading i.input).is_big (layout_of reading i.layout parts)) image i.remaining (left (reading i.input)) s x = o parts here in
      let v : WalkOutcome (next_read (reading i.input).is_big (layout_of reading l parts)) image i.remaining (left (reading i.input)) s x =
      subst (λ (k : HeldLayout R E). WalkOutcome (next_read (reading i.input).is_big (layout_of reading k parts)) image i.remaining (left (reading i.input)) s x) e w in
      let u : WalkOutcome (next_read big (layout_of reading l parts)) image i.remaining (left (reading i.input)) s x =
      subst (λ (k : Bool). WalkOutcome (next_read k (layout_of reading l parts)) image i.remaining (left (reading i.input)) s x) b v in
      subst (λ (k : S). WalkOutcome (next_read big (layout_of reading l parts)) image i.remaining (left (reading i.input)) k x) q u
