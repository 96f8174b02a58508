-- What calls that write a table come to.
use Rattle.std.specs.Prelude.{◌≡◌, ℕ, ◌+◌, ◌*◌, ◌<◌, ◌≤◌, ◌^◌, Bool, true, false, List, [], ◌∷◌, ◌++◌, length, drop, take, map, get_or, Option, Some, None, refl, IsTrue}
use Rattle.std.proofs.Common.{sym, ◌∙◌, ap, subst, arith, append-nil, append_assoc, length-append, take_all}
use Rattle.std.proofs.lemmas.List.{at_drop_more, at_drop_all}
use Rattle.std.proofs.lemmas.Bool.{lt-ltb}
use Rattle.dw_base.specs.Numbers.{when, num, word_of, escape_of, length_fits, length_size}
use Rattle.dw_base.specs.declared.common.Encoding.{Encoding}
use Rattle.dw_base.specs.declared.common.Format.{Format}
use Rattle.dw_base.proofs.NumberLaws.{length-num}
use Rattle.dw_writer.specs.Texts.{Text, num_text, followed, zeros}
use Rattle.dw_writer.specs.Meaning.{Meaning, Model, Adds, Appends, Replaces, Patches}
use Rattle.dw_writer.specs.SectionTexts.{number_text}
use Rattle.dw_writer.specs.Drafts.{Draft, then_draft, all_drafts, shifted, IsDraft, AreClear, Drafts}
use Rattle.dw_writer.specs.declared.fixup.DebugInfoFixup.{DebugInfoFixup}
use Rattle.dw_writer.proofs.Places.{length-zeros}
use Rattle.dw_writer.proofs.Laws.{length-num_text}
use Rattle.dw_writer.proofs.Plain.{Adds-number, Replaces-number}
use Rattle.dw_writer.proofs.Steps.{Appends-as, Appends-then, Patches-by, Adds-filled}
use Rattle.dw_writer.proofs.WriteLaws.{Drafts-then, Drafts-whole, Drafts-nothing}
use Rattle.dw_writer.proofs.DraftLaws.{then-assoc, all-more, all-drafts, whole-draft}
use Rattle.dw_lists.specs.declared.kinds.Kinds.{Kinds}
use Rattle.dw_lists.specs.Kinds.{kinds_of}
use Rattle.dw_lists.specs.Parts.{Part}
use Rattle.dw_lists.specs.Pieces.{fields_size, word_draft, words_draft, fields_draft, length_draft, head_draft, IsWritten}
use Rattle.dw_lists.specs.Texts.{parts_draft, close_draft, list_draft, lists_draft, places_from}
use Rattle.dw_lists.specs.Tables.{entries_of, body_draft, new_table, table_head, base_from, Offsets, new_offsets}
use Rattle.dw_lists.proofs.Spans.{written-byte, written-number}

pub then_size : (d f : Draft) → (then_draft d f).size ≡ d.size + f.size
unfolding then_draft
then_size d f = refl

pub written-nothing : (m : Meaning) → Appends m m 0 (λ big l. Some [])
written-nothing m = (Drafts-nothing m []).text

-- an element's draft after those of the elements before it
pub written-more : {A : Type 0} (g : A → Draft) (xs : List A) (i : ℕ) (e : A) {a b c : Meaning} → i < length xs → e ≡ get_or xs i e →
    IsWritten a b (all_drafts (map g (take i xs))) → IsWritten b c (g e) → IsWritten a c (all_drafts (map g (take (i + 1) xs)))
unfolding then_draft
written-more g xs i e {a} {b} {c} below is p q = subst (λ d. IsWritten a c d) (sym (all-more g xs i e below is)) (Appends-then p q)

-- Places

module _ (five : Bool) (v : Encoding) (place : ℕ → Option ℕ) (k : Kinds) where
  pub list_is : (ps : List Part) (i : ℕ) → length ps ≤ i → then_draft (parts_draft five v place k (take i ps)) (close_draft five k v.address_size) ≡ list_draft five v place k ps
  list_is ps i h = ap (λ x. then_draft (parts_draft five v place k x) (close_draft five k v.address_size)) (take_all i ps h)

  module _ (xs : List (List Part)) (i : ℕ) (x : List Part) (below : i < length xs) (is : x ≡ get_or xs i x) where
    pub places_more : (at to : ℕ) → to ≡ at + (list_draft five v place k x).size → (all more whole : List ℕ) → more ≡ all ++ at ∷ [] → all ++ places_from five v place k at (drop i xs) ≡ whole → more ++ places_from five v place k to (drop (i + 1) xs) ≡ whole
    places_more at to further all more whole e h =
        ap (λ a. a ++ places_from five v place k to (drop (i + 1) xs)) e
        ∙ append_assoc all (at ∷ []) (places_from five v place k to (drop (i + 1) xs))
        ∙ ap (λ n. all ++ at ∷ places_from five v place k n (drop (i + 1) xs)) further
        ∙ ap (λ ys. all ++ ys) (sym (at_drop_more (places_from five v place k at) xs i x below ∙ ap (λ y. places_from five v place k at (y ∷ drop (i + 1) xs)) (sym is)))
        ∙ h

    more_size : (lists_draft five v place k (drop i xs)).size ≡ (list_draft five v place k x).size + (lists_draft five v place k (drop (i + 1) xs)).size
    more_size =
        at_drop_more (λ ys. (lists_draft five v place k ys).size) xs i x below ∙ ap (λ y. (lists_draft five v place k (y ∷ drop (i + 1) xs)).size) (sym is)
        ∙ then_size (list_draft five v place k x) (lists_draft five v place k (drop (i + 1) xs))

    pub end_more : (at to total : ℕ) → to ≡ at + (list_draft five v place k x).size → at + (lists_draft five v place k (drop i xs)).size ≡ total → to + (lists_draft five v place k (drop (i + 1) xs)).size ≡ total
    end_more at to total further h = omega (arith, more_size, h, further)

    pub end_within : (at total : ℕ) → at + (lists_draft five v place k (drop i xs)).size ≡ total → at + (list_draft five v place k x).size ≤ total
    end_within at total h = omega (arith, more_size, h)

  -- past the last list
  module _ (xs : List (List Part)) (i : ℕ) (past : length xs ≤ i) where
    pub places_ended : (at : ℕ) (all whole : List ℕ) → all ++ places_from five v place k at (drop i xs) ≡ whole → all ≡ whole
    places_ended at all whole h = sym (at_drop_all (λ ys. all ++ places_from five v place k at ys) xs i past ∙ append-nil all) ∙ h

    pub end_ended : (at total : ℕ) → at + (lists_draft five v place k (drop i xs)).size ≡ total → at ≡ total
    end_ended at total h = let none = at_drop_all (λ ys. (lists_draft five v place k ys).size) xs i past in omega (arith, none, h)

  pub length-places : (at : ℕ) (xs : List (List Part)) → length (places_from five v place k at xs) ≡ length xs
  length-places at [] = refl
  length-places at (x ∷ xs) = let e = length-places (at + (list_draft five v place k x).size) xs in omega (arith, e)

pub words_size : (format : Format) (ns : List ℕ) → (words_draft format ns).size ≡ length ns * word_of format
words_size format [] = omega arith
words_size format (n ∷ ns) = let e = words_size format ns in omega (arith, e, then_size (word_draft format n) (words_draft format ns))

-- words have no references
word-draft : (format : Format) (n : ℕ) → IsDraft (word_draft format n)
word-draft format n = whole-draft (word_of format) (λ big l. num_text big (word_of format) n) (λ big l xs e. length-num_text big (word_of format) n xs e)

no_holes : (format : Format) (ns : List ℕ) → (words_draft format ns).holes ≡ []
unfolding then_draft
no_holes format [] = refl
no_holes format (n ∷ ns) = ap (shifted (word_of format)) (no_holes format ns)

drafts_words : {a b : Meaning} (format : Format) (x : List DebugInfoFixup) (ns : List ℕ) → IsWritten a b (words_draft format ns) → Drafts a b x x (words_draft format ns)
drafts_words {a} {b} format x ns h =
    let none : shifted a.size (words_draft format ns).holes ≡ [] = ap (shifted a.size) (no_holes format ns) in
    record {
      is = all-drafts (word_draft format) ns (word-draft format);
      text = h;
      fixups = sym (ap (λ hs. x ++ hs) none ∙ append-nil x);
      clear = λ tidy. subst (AreClear b) (sym none) tt;
    }

-- The header

four_by : (xs : List ℕ) (w : ℕ) (t : Text) → followed (Some xs) (followed (Some (w ∷ [])) (followed (Some (0 ∷ [])) t)) ≡ followed (Some (xs ++ (w ∷ 0 ∷ []))) t
unfolding followed
four_by xs w None = refl
four_by xs w (Some ys) = ap Some (sym (append_assoc xs (w ∷ 0 ∷ []) ys))

written-fixed : {a b : Meaning} (w n : ℕ) → Adds a b (num a.is_big w n) → Appends a b w (λ big l. Some (num big w n))
unfolding number_text
written-fixed w n p = Adds-number w n p

pub written-fields : {a b c d e : Meaning} (w n : ℕ) → w < 256 → n < 2 ^ 32 → Adds a b (num a.is_big 2 5) → Adds b c (num b.is_big 1 w) → Adds c d (num c.is_big 1 0) → Adds d e (num d.is_big 4 n) → IsWritten a e (fields_draft w n)
written-fields w n small few p q r s =
    Appends-as (Appends-then (written-fixed 2 5 p) (Appends-then (written-byte w small q) (Appends-then (written-byte 0 (omega arith) r) (written-number 4 n (refl, lt-ltb _ _ few) s)))) refl
    (λ big l. four_by (num big 2 5) w (num_text big 4 n))

length_by : (f : Bool) (escape xs : List ℕ) → followed (Some escape) (followed (when f (Some xs)) (Some [])) ≡ when f (Some (escape ++ xs))
unfolding followed
length_by true escape xs = ap (λ ys. Some (escape ++ ys)) (append-nil xs)
length_by false escape xs = refl

when_there : (f : Bool) (xs : List ℕ) → IsTrue f → ◌≡◌ {A = Text} (Some xs) (when f (Some xs))
when_there true xs h = refl
when_there false xs h = absurd (let e : IsTrue false = h in cc)

pub when_wide : (f : Bool) (xs ys : List ℕ) → ◌≡◌ {A = Text} (when f (Some xs)) (Some ys) → length ys ≡ length xs
when_wide true xs ys e = let k : xs ≡ ys = cc in ap length (sym k)
when_wide false xs ys e = absurd (let k : ◌≡◌ {A = Text} None (Some ys) = e in cc)

pub written-length : {a b d : Meaning} (format : Format) (n at : ℕ) → Adds a b (escape_of format ++ zeros (word_of format)) → at ≡ a.size + length (escape_of format) → IsTrue (length_fits format n) →
    Replaces b d at (num b.is_big (word_of format) n) → IsWritten a d (length_draft format n)
unfolding number_text
written-length {a} {b} {d} format n at p place fit q =
    let w = word_of format in
    let h : Model = λ big l. when (length_fits format n) (Some (num big w n)) in
    let patch : Patches b d (a.size + length (escape_of format)) (length (zeros w)) h =
    Patches-by (Replaces-number w n q) place (sym (length-zeros w)) (λ l. when_there (length_fits format n) (num b.is_big w n) fit)
    (λ big l xs e. when_wide (length_fits format n) (num big w n) xs e ∙ length-num big w n ∙ sym (length-zeros w)) in
    let all = Adds-filled (escape_of format) (zeros w) p (written-nothing b) patch in
    Appends-as all (omega (arith, length-zeros w)) (λ big l. length_by (length_fits format n) (escape_of format) (num big w n))

-- an opened length ends where the section does
pub opened_size : {a b : Meaning} (format : Format) (at : ℕ) → Adds a b (escape_of format ++ zeros (word_of format)) → at ≡ a.size + length (escape_of format) → at + word_of format ≤ b.size
opened_size format at p place = omega (arith, place, p.size, length-append (escape_of format) (zeros (word_of format)), length-zeros (word_of format))

-- what stands before the lists keeps nothing to be fixed up
pub head_drafts : {a b c d : Meaning} (v : Encoding) (size : ℕ) (ns : List ℕ) → IsWritten a b (length_draft v.format size) → IsWritten b c (fields_draft v.address_size (length ns)) → IsWritten c d (words_draft v.format ns) →
    (kept : List DebugInfoFixup) → Drafts a d kept kept (head_draft v size ns)
head_drafts v size ns p q r kept = Drafts-then (Drafts-whole kept p) (Drafts-then (Drafts-whole kept q) (drafts_words v.format kept ns r))

pub head_sized : {a b : Meaning} (v : Encoding) (ns : List ℕ) (kept : List DebugInfoFixup) {m n : ℕ} → m ≡ n → Drafts a b kept kept (head_draft v m ns) → Drafts a b kept kept (head_draft v n ns)
head_sized {a} {b} v ns kept is h = subst (λ k. Drafts a b kept kept (head_draft v k ns)) is h

-- The table

module _ (loc : Bool) (v : Encoding) (place : ℕ → Option ℕ) (xs : List (List Part)) where
  -- the size of a table's body
  pub body_size : (body_draft loc v place xs).size ≡ fields_size + (length xs * word_of v.format + (lists_draft true v place (kinds_of loc) xs).size)
  body_size =
      let words = words_draft v.format (entries_of loc v place xs) in
      let lists = lists_draft true v place (kinds_of loc) xs in
      omega (
        arith,
        then_size (fields_draft v.address_size (length xs)) (then_draft words lists),
        then_size words lists,
        words_size v.format (entries_of loc v place xs) ∙ ap (λ n. n * word_of v.format) (length-places true v place (kinds_of loc) (length xs * word_of v.format) xs),
      )

  entries_count : length (entries_of loc v place xs) ≡ length xs
  entries_count = length-places true v place (kinds_of loc) (length xs * word_of v.format) xs

  pub head_is : (size : ℕ) (ns : List ℕ) → size ≡ (body_draft loc v place xs).size → ns ≡ entries_of loc v place xs → head_draft v size ns ≡ table_head loc v place xs
  head_is size ns sized placed = ap (λ n. head_draft v n ns) sized ∙ ap (head_draft v (body_draft loc v place xs).size) placed

  pub head_size : (table_head loc v place xs).size ≡ length_size v.format + (fields_size + length xs * word_of v.format)
  head_size =
      let size = (body_draft loc v place xs).size in
      let words = words_draft v.format (entries_of loc v place xs) in
      let fields = fields_draft v.address_size (length (entries_of loc v place xs)) in
      omega (
        arith,
        then_size (length_draft v.format size) (then_draft fields words),
        then_size fields words,
        words_size v.format (entries_of loc v place xs) ∙ ap (λ n. n * word_of v.format) entries_count,
      )

  -- the lists behind what stands before them
  pub head_table : then_draft (table_head loc v place xs) (lists_draft true v place (kinds_of loc) xs) ≡ new_table loc v place xs
  head_table =
      let before = length_draft v.format (body_draft loc v place xs).size in
      let fields = fields_draft v.address_size in
      let words = words_draft v.format (entries_of loc v place xs) in
      let lists = lists_draft true v place (kinds_of loc) xs in
      let count = length (entries_of loc v place xs) in
      then-assoc before (then_draft (fields count) words) lists
      ∙ ap (then_draft before) (then-assoc (fields count) words lists ∙ ap (λ n. then_draft (fields n) (then_draft words lists)) entries_count)

-- what a table of version 5 answers
pub new_offsets_are : (loc : Bool) (v : Encoding) (place : ℕ → Option ℕ) (at base k : ℕ) (xs : List (List Part)) (places : List ℕ) → base ≡ base_from v.format at → k ≡ base + length xs * word_of v.format → places ≡ places_from true v place (kinds_of loc) k xs →
    ◌≡◌ {A = Offsets} (record { base = Some base; places = places }) (new_offsets loc v place at xs)
new_offsets_are loc v place at base k xs places e h q =
    let all : places ≡ places_from true v place (kinds_of loc) (base_from v.format at + length xs * word_of v.format) xs = q ∙ ap (λ n. places_from true v place (kinds_of loc) n xs) (h ∙ ap (λ b. b + length xs * word_of v.format) e) in
    λ i. record { base = Some (e i); places = all i }
