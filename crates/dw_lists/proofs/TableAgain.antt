-- Each list of a table is found by its number and read again, whatever stands before and behind the table.
use Rattle.std.specs.Prelude.{slice_get, ◌≡◌, ◌⊎◌, ℕ, suc, zero, ◌+◌, ◌*◌, Bool, true, false, ◌||◌, List, [], ◌∷◌, ◌++◌, map, length, drop, Option, Some, None, refl, All}
use Rattle.std.proofs.Common.{sym, ◌∙◌, ap, subst, arith, append_assoc, add_assoc, length-append, true≢false, ⊎_elim}
use Rattle.std.proofs.lemmas.Option.{none-some}
use Rattle.std.proofs.lemmas.List.{drop_at}
use Rattle.std.proofs.lemmas.List.Elements.{All-nil, All-cons, All-head, All-tail}
use Rattle.dw_base.specs.Numbers.{◌>>=◌, number_at, num, word_of}
use Rattle.dw_base.specs.declared.common.Encoding.{Encoding}
use Rattle.dw_base.proofs.NumberLaws.{bind_is, bind_parts}
use Rattle.dw_writer.specs.Texts.{num_text, followed}
use Rattle.dw_writer.specs.Meaning.{Layout}
use Rattle.dw_writer.specs.Drafts.{Info, Draft, then_draft, all_drafts}
use Rattle.dw_writer.proofs.Laws.{followed-somes}
use Rattle.dw_lists.specs.declared.range.Range.{Range}
use Rattle.dw_lists.specs.declared.range.Range.TheVariants as built
use Rattle.dw_lists.specs.Kinds.{kinds_of}
use Rattle.dw_lists.specs.declared.location.Location.{Location}
use Rattle.dw_lists.specs.declared.location.Location.TheVariants as placed
use Rattle.dw_lists.specs.declared.kinds.Kinds.{Kinds}
use Rattle.dw_lists.specs.Parts.{Part, range_part, ranges_parts, location_part, locations_parts}
use Rattle.dw_lists.specs.Items.{Span, Base, Pair, StartEnd, StartLength, Default, is_five, items_at, entry_at}
use Rattle.dw_lists.specs.Pieces.{word_draft, words_draft, fields_draft, length_draft}
use Rattle.dw_lists.specs.Texts.{address_in, span_in, list_draft, places_from, lists_draft, IsRanged, AreReadable, IsReadable}
use Rattle.dw_lists.specs.Tables.{entries_of, body_draft, new_table, old_table, table_by, base_from, new_offsets, old_offsets, offsets_by, ranges_in, locations_in, AreNumbered, IsFound, IsReadAgain}
use Rattle.dw_lists.specs.Causes.{IsNone, old_span_fails, located_fails, old_fails, old_list_fails, lists_fail, version_fails, table_fails_by, table_fails, is_base}
use Rattle.dw_lists.proofs.Spoken.{two_there, number_read, IsTold}
use Rattle.dw_lists.proofs.Again.{IsPartOf, Reads, list_at_place}
use Rattle.dw_lists.proofs.Causes.{first_none, second_none}
use Rattle.dw_lists.proofs.Forms.{span_told}
use Rattle.dw_lists.proofs.Tables.{length-places, words_size}
use Rattle.dw_lists.proofs.Sized.{words-sized, lists-sized, length-sized, fields-sized}

-- one of several drafts in their text
record Among (info : Info) (big : Bool) (l : Layout) (first here last : Draft) (bytes : List ℕ) : Type 0 where
  before : List ℕ
  mine : List ℕ
  behind : List ℕ
  whole : bytes ≡ before ++ (mine ++ behind)
  first_is : first.text info big l ≡ Some before
  is : here.text info big l ≡ Some mine

among : {A : Type 0} (f : A → Draft) (info : Info) (big : Bool) (l : Layout) (xs : List A) (x : A) (ys : List A) (bytes : List ℕ) → (all_drafts (map f (xs ++ x ∷ ys))).text info big l ≡ Some bytes →
    Among info big l (all_drafts (map f xs)) (f x) (all_drafts (map f ys)) bytes
unfolding then_draft
among f info big l [] x ys bytes e =
    let t = two_there ((f x).text info big l) ((all_drafts (map f ys)).text info big l) bytes e in
    record { before = []; mine = t.xs; behind = t.ys; whole = t.is; first_is = refl; is = t.first }
among f info big l (z ∷ xs) x ys bytes e =
    let t = two_there ((f z).text info big l) ((all_drafts (map f (xs ++ x ∷ ys))).text info big l) bytes e in
    let r = among f info big l xs x ys t.ys t.second in
    record {
      before = t.xs ++ r.before;
      mine = r.mine;
      behind = r.behind;
      whole = t.is ∙ ap (λ a. t.xs ++ a) r.whole ∙ sym (append_assoc t.xs r.before (r.mine ++ r.behind));
      first_is = ap (λ a. followed a ((all_drafts (map f xs)).text info big l)) t.first ∙ ap (followed (Some t.xs)) r.first_is ∙ followed-somes t.xs r.before;
      is = r.is;
    }

places_among : (five : Bool) (v : Encoding) (place : ℕ → Option ℕ) (k : Kinds) (at : ℕ) (xs : List (List Part)) (x : List Part) (ys : List (List Part)) →
    places_from five v place k at (xs ++ x ∷ ys) ≡ places_from five v place k at xs ++ (at + (lists_draft five v place k xs).size) ∷ places_from five v place k ((at + (lists_draft five v place k xs).size) + (list_draft five v place k x).size) ys
unfolding then_draft
places_among five v place k at [] x ys = ap (λ n. n ∷ places_from five v place k (n + (list_draft five v place k x).size) ys) (omega arith)
places_among five v place k at (z ∷ xs) x ys =
    ap (λ r. at ∷ r) (places_among five v place k (at + (list_draft five v place k z).size) xs x ys)
    ∙ ap (λ n. (at ∷ places_from five v place k (at + (list_draft five v place k z).size) xs) ++ n ∷ places_from five v place k (n + (list_draft five v place k x).size) ys) (add_assoc at (list_draft five v place k z).size (lists_draft five v place k xs).size)

middle : (xs : List ℕ) (n : ℕ) (ys : List ℕ) → slice_get (xs ++ n ∷ ys) (length xs) ≡ Some n
middle [] n ys = refl
middle (x ∷ xs) n ys = middle xs n ys

-- the place of a list among others
place_among : (five : Bool) (v : Encoding) (place : ℕ → Option ℕ) (k : Kinds) (at : ℕ) (xs : List (List Part)) (x : List Part) (ys : List (List Part)) →
    slice_get (places_from five v place k at (xs ++ x ∷ ys)) (length xs) ≡ Some (at + (lists_draft five v place k xs).size)
place_among five v place k at xs x ys =
    let here = at + (lists_draft five v place k xs).size in
    let more = places_from five v place k (here + (list_draft five v place k x).size) ys in
    ap (λ ns. slice_get ns (length xs)) (places_among five v place k at xs x ys)
    ∙ ap (slice_get (places_from five v place k at xs ++ here ∷ more)) (sym (length-places five v place k at xs))
    ∙ middle (places_from five v place k at xs) here more

entry_is : (big : Bool) (e : Encoding) (section front word tail : List ℕ) (base number n : ℕ) → section ≡ front ++ (word ++ tail) → length front ≡ base + number * word_of e.format → num_text big (word_of e.format) n ≡ Some word →
    entry_at big e section base number ≡ Some (base + n)
unfolding entry_at
entry_is big e section front word tail base number n is long text =
    ap (λ xs. number_at big (word_of e.format) (drop (base + number * word_of e.format) xs) >>= λ x. Some (base + x.0)) is
    ∙ ap (λ xs. number_at big (word_of e.format) xs >>= λ x. Some (base + x.0)) (drop_at front (word ++ tail) (base + number * word_of e.format) long)
    ∙ bind_is _ (n, tail) (λ x. Some (base + x.0)) (number_read big (word_of e.format) n word tail text)

-- A table of either version

module _ (loc : Bool) (v : Encoding) (place : ℕ → Option ℕ) (info : Info) (big : Bool) (l : Layout) (xs : List (List Part)) (x : List Part) (ys : List (List Part)) (before bytes rest : List ℕ)
    (reads : All (Reads (is_five v) loc v place info big l) x) where
  new-again : is_five v ≡ true → All (AreReadable true v place) xs → (new_table loc v place (xs ++ x ∷ ys)).text info big l ≡ Some bytes →
      IsFound loc v place info big l (before ++ (bytes ++ rest)) (new_offsets loc v place (length before) (xs ++ x ∷ ys)) (length xs) x
  unfolding then_draft
  new-again five readable text =
      let k = kinds_of loc in
      let f = v.format in
      let all = xs ++ x ∷ ys in
      let size = (body_draft loc v place all).size in
      let start = length all * word_of f in
      let at = start + (lists_draft true v place k xs).size in
      let more = places_from true v place k (at + (list_draft true v place k x).size) ys in
      let words = words_draft f (entries_of loc v place all) in
      let lists = lists_draft true v place k all in
      let t0 = two_there ((length_draft f size).text info big l) ((body_draft loc v place all).text info big l) bytes text in
      let t1 = two_there ((fields_draft v.address_size (length all)).text info big l) ((then_draft words lists).text info big l) t0.ys t0.second in
      let t2 = two_there (words.text info big l) (lists.text info big l) t1.ys t1.second in
      let placed : (words_draft f (places_from true v place k start xs ++ at ∷ more)).text info big l ≡ Some t2.xs =
      subst (λ ns. (words_draft f ns).text info big l ≡ Some t2.xs) (places_among true v place k start xs x ys) t2.first in
      let word = among (word_draft f) info big l (places_from true v place k start xs) at more t2.xs placed in
      let list = among (list_draft true v place k) info big l xs x ys t2.ys t2.second in
      let base = base_from f (length before) in
      let section = before ++ (bytes ++ rest) in
      let front = before ++ (t0.xs ++ (t1.xs ++ word.before)) in
      let front2 = before ++ (t0.xs ++ (t1.xs ++ (t2.xs ++ list.before))) in
      let whole : bytes ≡ t0.xs ++ (t1.xs ++ (t2.xs ++ t2.ys)) = t0.is ∙ ap (λ a. t0.xs ++ a) (t1.is ∙ ap (λ a. t1.xs ++ a) t2.is) in
      let to_word : section ≡ front ++ (word.mine ++ (word.behind ++ (t2.ys ++ rest))) =
      ap (λ a. before ++ (a ++ rest)) (whole ∙ ap (λ a. t0.xs ++ (t1.xs ++ (a ++ t2.ys))) word.whole) ∙ simp append_assoc in
      let to_list : section ≡ front2 ++ (list.mine ++ (list.behind ++ rest)) =
      ap (λ a. before ++ (a ++ rest)) (whole ∙ ap (λ a. t0.xs ++ (t1.xs ++ (t2.xs ++ a))) list.whole) ∙ simp append_assoc in
      let long0 = length-sized f size info big l t0.xs t0.first in
      let long1 = fields-sized v.address_size (length all) info big l t1.xs t1.first in
      let longw : length word.before ≡ length xs * word_of f =
      words-sized f (places_from true v place k start xs) info big l word.before word.first_is ∙ words_size f (places_from true v place k start xs) ∙ ap (λ n. n * word_of f) (length-places true v place k start xs) in
      let long2 : length t2.xs ≡ start =
      words-sized f (entries_of loc v place all) info big l t2.xs t2.first ∙ words_size f (entries_of loc v place all) ∙ ap (λ n. n * word_of f) (length-places true v place k start all) in
      let longl = lists-sized true v place k xs readable info big l list.before list.first_is in
      let at_word : length front ≡ base + length xs * word_of f =
      omega (arith, long0, long1, longw, length-append before (t0.xs ++ (t1.xs ++ word.before)), length-append t0.xs (t1.xs ++ word.before), length-append t1.xs word.before) in
      let at_list : length front2 ≡ base + at =
      omega (arith, long0, long1, long2, longl, length-append before (t0.xs ++ (t1.xs ++ (t2.xs ++ list.before))), length-append t0.xs (t1.xs ++ (t2.xs ++ list.before)), length-append t1.xs (t2.xs ++ list.before), length-append t2.xs list.before) in
      let spelled : (list_draft (is_five v) v place k x).text info big l ≡ Some list.mine = subst (λ b. (list_draft b v place k x).text info big l ≡ Some list.mine) (sym five) list.is in
      record {
        place_of = base + at;
        answered = place_among true v place k (base + start) xs x ys ∙ ap Some (add_assoc base start (lists_draft true v place k xs).size);
        entry = λ b same. let q : base ≡ b = cc in subst (λ n. entry_at big v section n (length xs) ≡ Some (base + at)) q (entry_is big v section front word.mine (word.behind ++ (t2.ys ++ rest)) base (length xs) at to_word at_word word.is);
        items = ap (λ n. items_at loc big v section n) (sym at_list) ∙ ap (λ s. items_at loc big v s (length front2)) to_list ∙ list_at_place loc v place info big l x front2 list.mine (list.behind ++ rest) spelled reads;
      }

  old-again : is_five v ≡ false → All (AreReadable false v place) xs → (old_table loc v place (xs ++ x ∷ ys)).text info big l ≡ Some bytes →
      IsFound loc v place info big l (before ++ (bytes ++ rest)) (old_offsets loc v place (length before) (xs ++ x ∷ ys)) (length xs) x
  old-again four readable text =
      let k = kinds_of loc in
      let list = among (list_draft false v place k) info big l xs x ys bytes text in
      let section = before ++ (bytes ++ rest) in
      let front = before ++ list.before in
      let to_list : section ≡ front ++ (list.mine ++ (list.behind ++ rest)) = ap (λ a. before ++ (a ++ rest)) list.whole ∙ simp append_assoc in
      let long = lists-sized false v place k xs readable info big l list.before list.first_is in
      let at_list : length front ≡ length before + (lists_draft false v place k xs).size = length-append before list.before ∙ ap (λ n. length before + n) long in
      let spelled : (list_draft (is_five v) v place k x).text info big l ≡ Some list.mine = subst (λ b. (list_draft b v place k x).text info big l ≡ Some list.mine) (sym four) list.is in
      record {
        place_of = length before + (lists_draft false v place k xs).size;
        answered = place_among false v place k (length before) xs x ys;
        entry = λ b none. absurd (none-some b none);
        items = ap (λ n. items_at loc big v section n) (sym at_list) ∙ ap (λ s. items_at loc big v s (length front)) to_list ∙ list_at_place loc v place info big l x front list.mine (list.behind ++ rest) spelled reads;
      }

-- What is told of readable items

item_told : (w : ℕ) (l : Layout) (r : Option Range) (x : Span) → IsRanged r → span_in true l r ≡ Some x → IsTold true w x
item_told w l None x h e = let k : Default ≡ x = cc in subst (IsTold true w) k tt
item_told w l (Some (built.BaseAddress a)) x h e =
    let p = bind_parts (address_in l a) (λ n. Some (Base n)) x e in let k : Base p.0 ≡ x = (let q = p.2 in cc) in subst (IsTold true w) k tt
item_told w l (Some (built.OffsetPair m n)) x h e = let k : Pair m n ≡ x = cc in subst (IsTold true w) k h
item_told w l (Some (built.StartEnd a b)) x h e =
    let p = bind_parts (address_in l a) (λ m. address_in l b >>= λ n. Some (StartEnd m n)) x e in
    let q = bind_parts (address_in l b) (λ n. Some (StartEnd p.0 n)) x p.2 in
    let k : StartEnd p.0 q.0 ≡ x = (let f = q.2 in cc) in subst (IsTold true w) k tt
item_told w l (Some (built.StartLength a n)) x h e =
    let p = bind_parts (address_in l a) (λ m. Some (StartLength m n)) x e in let k : StartLength p.0 n ≡ x = (let q = p.2 in cc) in subst (IsTold true w) k h

-- items of the right shape
abbrev pub ArePartsOf : Bool → List Part → Type 0
ArePartsOf loc ps = All (λ p. IsPartOf loc p.range p.expression) ps

module _ (loc : Bool) (v : Encoding) (place : ℕ → Option ℕ) (info : Info) (big : Bool) (l : Layout) where
  new_reads : (ps : List Part) → AreReadable true v place ps → ArePartsOf loc ps → All (Reads true loc v place info big l) ps
  new_reads [] h q = All-nil (Reads true loc v place info big l)
  new_reads (p ∷ ps) h q =
      let here = All-head (IsReadable true v place) p ps h in
      All-cons (Reads true loc v place info big l) p ps
      (record { spelled = here.1; told = λ s e. item_told v.address_size l p.range s here.0 e; part = All-head (λ p. IsPartOf loc p.range p.expression) p ps q })
      (new_reads ps (All-tail (IsReadable true v place) p ps h) (All-tail (λ p. IsPartOf loc p.range p.expression) p ps q))

  old_reads : (known : Option (ℕ → Option ℕ)) (base plain : Bool) (ps : List Part) → AreReadable false v place ps → ArePartsOf loc ps → AreNumbered ps → IsNone (old_list_fails v known plain base ps) → All (Reads false loc v place info big l) ps
  old_reads known base plain [] h q num none = All-nil (Reads false loc v place info big l)
  old_reads known base plain (p ∷ ps) h q num none =
      let here = All-head (IsReadable false v place) p ps h in
      let more = old_list_fails v known plain (base || is_base p.range) ps in
      let first = first_none (old_fails v known plain base p) more none in
      let span = first_none (old_span_fails base plain v.address_size p.range) (located_fails v known plain false p.expression) first in
      All-cons (Reads false loc v place info big l) p ps
      (record { spelled = here.1; told = λ s e. span_told base plain v.address_size l p.range s num.0 span e; part = All-head (λ p. IsPartOf loc p.range p.expression) p ps q })
      (old_reads known (base || is_base p.range) plain ps (All-tail (IsReadable false v place) p ps h) (All-tail (λ p. IsPartOf loc p.range p.expression) p ps q) num.1
      (second_none (old_fails v known plain base p) more none))

-- a list before an element, and behind it
record Parted (xs : List (List Part)) (i : ℕ) (x : List Part) : Type 0 where
  first : List (List Part)
  last : List (List Part)
  is : xs ≡ first ++ x ∷ last
  long : length first ≡ i

parted : (xs : List (List Part)) (i : ℕ) (x : List Part) → slice_get xs i ≡ Some x → Parted xs i x
parted [] i x e = absurd (none-some x e)
parted (y ∷ xs) zero x e = let k : y ≡ x = cc in record { first = []; last = xs; is = ap (λ z. z ∷ xs) k; long = refl }
parted (y ∷ xs) (suc i) x e =
    let p = parted xs i x e in
    record { first = y ∷ p.first; last = p.last; is = ap (λ z. y ∷ z) p.is; long = omega (arith, p.long) }

module _ {A : Type 0} (P : A → Type 0) where
  in_middle : (xs : List A) (x : A) (ys : List A) → All P (xs ++ x ∷ ys) → P x
  in_middle [] x ys h = All-head P x ys h
  in_middle (z ∷ xs) x ys h = in_middle xs x ys (All-tail P z (xs ++ x ∷ ys) h)

  in_front : (xs ys : List A) → All P (xs ++ ys) → All P xs
  in_front [] ys h = All-nil P
  in_front (z ∷ xs) ys h = All-cons P z xs (All-head P z (xs ++ ys) h) (in_front xs ys (All-tail P z (xs ++ ys) h))

none_in : (v : Encoding) (known : Option (ℕ → Option ℕ)) (base plain : Bool) (xs : List (List Part)) (x : List Part) (ys : List (List Part)) → IsNone (lists_fail v known plain false base (xs ++ x ∷ ys)) → IsNone (old_list_fails v known plain base x)
none_in v known base plain [] x ys h = first_none (old_list_fails v known plain base x) (lists_fail v known plain false base ys) h
none_in v known base plain (z ∷ xs) x ys h = none_in v known base plain xs x ys (second_none (old_list_fails v known plain base z) (lists_fail v known plain false base (xs ++ x ∷ ys)) h)

module _ (loc : Bool) (v : Encoding) (place : ℕ → Option ℕ) (known : Option (ℕ → Option ℕ)) (base plain : Bool) where
  new_found : (xs : List (List Part)) → is_five v ≡ true → All (AreReadable true v place) xs → All (ArePartsOf loc) xs →
      (info : Info) (big : Bool) (l : Layout) (before bytes rest : List ℕ) → (new_table loc v place xs).text info big l ≡ Some bytes →
      (i : ℕ) (x : List Part) → slice_get xs i ≡ Some x → IsFound loc v place info big l (before ++ (bytes ++ rest)) (new_offsets loc v place (length before) xs) i x
  new_found xs five readable shaped info big l before bytes rest text i x there =
      let p = parted xs i x there in
      let section = before ++ (bytes ++ rest) in
      let all = subst (All (AreReadable true v place)) p.is readable in
      let reads = new_reads loc v place info big l x (in_middle (AreReadable true v place) p.first x p.last all) (in_middle (ArePartsOf loc) p.first x p.last (subst (All (ArePartsOf loc)) p.is shaped)) in
      subst (λ n. IsFound loc v place info big l section (new_offsets loc v place (length before) xs) n x) p.long
      (subst (λ zs. IsFound loc v place info big l section (new_offsets loc v place (length before) zs) (length p.first) x) (sym p.is)
      (new-again loc v place info big l p.first x p.last before bytes rest (subst (λ b. All (Reads b loc v place info big l) x) (sym five) reads) five
      (in_front (AreReadable true v place) p.first (x ∷ p.last) all) (subst (λ zs. (new_table loc v place zs).text info big l ≡ Some bytes) p.is text)))

  old_found : (xs : List (List Part)) → is_five v ≡ false → All (AreReadable false v place) xs → All (ArePartsOf loc) xs → IsNone (lists_fail v known plain false base xs) →
      (info : Info) (big : Bool) (l : Layout) (before bytes rest : List ℕ) → (old_table loc v place xs).text info big l ≡ Some bytes →
      (i : ℕ) (x : List Part) → slice_get xs i ≡ Some x → AreNumbered x → IsFound loc v place info big l (before ++ (bytes ++ rest)) (old_offsets loc v place (length before) xs) i x
  old_found xs four readable shaped none info big l before bytes rest text i x there numbered =
      let p = parted xs i x there in
      let section = before ++ (bytes ++ rest) in
      let all = subst (All (AreReadable false v place)) p.is readable in
      let here = none_in v known base plain p.first x p.last (subst (λ zs. IsNone (lists_fail v known plain false base zs)) p.is none) in
      let reads = old_reads loc v place info big l known base plain x (in_middle (AreReadable false v place) p.first x p.last all) (in_middle (ArePartsOf loc) p.first x p.last (subst (All (ArePartsOf loc)) p.is shaped)) numbered here in
      subst (λ n. IsFound loc v place info big l section (old_offsets loc v place (length before) xs) n x) p.long
      (subst (λ zs. IsFound loc v place info big l section (old_offsets loc v place (length before) zs) (length p.first) x) (sym p.is)
      (old-again loc v place info big l p.first x p.last before bytes rest (subst (λ b. All (Reads b loc v place info big l) x) (sym four) reads) four
      (in_front (AreReadable false v place) p.first (x ∷ p.last) all) (subst (λ zs. (old_table loc v place zs).text info big l ≡ Some bytes) p.is text)))

  -- a table of either version
  found_by : (five : Bool) (y : List Part) (ys : List (List Part)) → is_five v ≡ five → All (AreReadable five v place) (y ∷ ys) → All (ArePartsOf loc) (y ∷ ys) →
      IsNone (table_fails_by loc v known five base plain (y ∷ ys)) →
      (info : Info) (big : Bool) (l : Layout) (before bytes rest : List ℕ) → (table_by loc v place five (y ∷ ys)).text info big l ≡ Some bytes →
      (i : ℕ) (x : List Part) → slice_get (y ∷ ys) i ≡ Some x → (is_five v ≡ true) ⊎ AreNumbered x →
      IsFound loc v place info big l (before ++ (bytes ++ rest)) (offsets_by loc v place five (length before) (y ∷ ys)) i x
  found_by true y ys is readable shaped none info big l before bytes rest text i x there told = new_found (y ∷ ys) is readable shaped info big l before bytes rest text i x there
  found_by false y ys is readable shaped none info big l before bytes rest text i x there told =
      old_found (y ∷ ys) is readable shaped none info big l before bytes rest text i x there (⊎_elim (λ five. absurd (true≢false (sym five ∙ is))) (λ h. h) told)

  -- a table without faults is read again
  pub read-again : (xs : List (List Part)) → All (AreReadable (is_five v) v place) xs → All (ArePartsOf loc) xs → IsNone (table_fails loc v known base plain xs) → IsReadAgain loc v place xs
  read-again [] readable shaped none info big l before bytes rest text i x there told = absurd (none-some x there)
  read-again (y ∷ ys) readable shaped none info big l before bytes rest text i x there told =
      found_by (is_five v) y ys refl readable shaped
      (second_none (version_fails v.version) (table_fails_by loc v known (is_five v) base plain (y ∷ ys)) none)
      info big l before bytes rest text i x there told

-- Parts of ranges and of locations

range_shaped : (rs : List Range) → ArePartsOf false (ranges_parts rs)
range_shaped [] = All-nil (λ p. IsPartOf false p.range p.expression)
range_shaped (r ∷ rs) = All-cons (λ p. IsPartOf false p.range p.expression) (range_part r) (ranges_parts rs) tt (range_shaped rs)

pub ranges_shaped : (xs : List (List Range)) → All (ArePartsOf false) (ranges_in xs)
ranges_shaped [] = All-nil (ArePartsOf false)
ranges_shaped (x ∷ xs) = All-cons (ArePartsOf false) (ranges_parts x) (ranges_in xs) (range_shaped x) (ranges_shaped xs)

location_is : (a : Location) → IsPartOf true (location_part a).range (location_part a).expression
location_is (placed.BaseAddress a) = tt
location_is (placed.OffsetPair m n x) = tt
location_is (placed.StartEnd a b x) = tt
location_is (placed.StartLength a k x) = tt
location_is (placed.DefaultLocation x) = tt

location_shaped : (ls : List Location) → ArePartsOf true (locations_parts ls)
location_shaped [] = All-nil (λ p. IsPartOf true p.range p.expression)
location_shaped (a ∷ ls) = All-cons (λ p. IsPartOf true p.range p.expression) (location_part a) (locations_parts ls) (location_is a) (location_shaped ls)

pub locations_shaped : (xs : List (List Location)) → All (ArePartsOf true) (locations_in xs)
locations_shaped [] = All-nil (ArePartsOf true)
locations_shaped (x ∷ xs) = All-cons (ArePartsOf true) (locations_parts x) (locations_in xs) (location_shaped x) (locations_shaped xs)
