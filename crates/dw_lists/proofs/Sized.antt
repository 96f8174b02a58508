-- The sizes of drafts are those of their texts.
use Rattle.std.specs.Prelude.{◌≡◌, ℕ, ◌+◌, Bool, true, false, List, [], ◌∷◌, ◌++◌, map, length, Option, Some, None, All}
use Rattle.std.proofs.Common.{sym, ◌∙◌, ap, arith, length-append}
use Rattle.std.proofs.lemmas.Option.{none-some}
use Rattle.std.proofs.lemmas.List.Elements.{All-head, All-tail}
use Rattle.dw_base.specs.Numbers.{◌>>=◌, num, word_of, escape_of, length_fits}
use Rattle.dw_base.specs.Leb128.{uleb}
use Rattle.dw_base.specs.declared.common.Encoding.{Encoding}
use Rattle.dw_base.specs.declared.common.Format.{Format}
use Rattle.dw_base.proofs.NumberLaws.{bind_parts, length-num}
use Rattle.dw_writer.specs.Texts.{Text, num_text, followed}
use Rattle.dw_writer.specs.Meaning.{Layout}
use Rattle.dw_writer.specs.SectionTexts.{bytes_text}
use Rattle.dw_writer.specs.Drafts.{Info, Draft, then_draft, all_drafts}
use Rattle.dw_writer.proofs.Laws.{length-num_text}
use Rattle.dw_expr.specs.Trees.{Node}
use Rattle.dw_expr.specs.Spelling.{expression_draft, expression_size}
use Rattle.dw_lists.specs.declared.kinds.Kinds.{Kinds}
use Rattle.dw_lists.specs.declared.range.Range.{Range}
use Rattle.dw_lists.specs.declared.range.Range.TheVariants as built
use Rattle.dw_lists.specs.Parts.{Part}
use Rattle.dw_lists.specs.Items.{Span, Base, Pair, StartEnd, StartLength, Default, BaseIndex, IndexEnd, IndexLength, marker}
use Rattle.dw_lists.specs.Pieces.{word_draft, words_draft, fields_draft, length_draft}
use Rattle.dw_lists.specs.Texts.{address_in, span_in, span_text, span_size, span_draft, close_draft, count_draft, located, part_draft, parts_draft, list_draft, lists_draft, IsSpelled, IsReadable, AreReadable}
use Rattle.dw_lists.proofs.Spoken.{two_there}
use Rattle.dw_lists.proofs.Tables.{when_wide}

abbrev pub IsSized : Draft → Type 0
IsSized d = (info : Info) (big : Bool) (l : Layout) (xs : List ℕ) → d.text info big l ≡ Some xs → length xs ≡ d.size

then-sized : (d f : Draft) → IsSized d → IsSized f → IsSized (then_draft d f)
unfolding then_draft
then-sized d f h k info big l xs e =
    let t = two_there (d.text info big l) (f.text info big l) xs e in
    ap length t.is ∙ length-append t.xs t.ys ∙ omega (arith, h info big l t.xs t.first, k info big l t.ys t.second)

-- where the elements have a property
all-sized : {A : Type 0} (f : A → Draft) (P : A → Type 0) (xs : List A) → ((x : A) → P x → IsSized (f x)) → All P xs → IsSized (all_drafts (map f xs))
all-sized f P [] h all info big l ys e = let k : ◌≡◌ {A = List ℕ} [] ys = cc in ap length (sym k)
all-sized f P (x ∷ xs) h all info big l ys e = then-sized (f x) (all_drafts (map f xs)) (h x (All-head P x xs all)) (all-sized f P xs h (All-tail P x xs all)) info big l ys e

two_long : (a b : Text) (m n : ℕ) (xs : List ℕ) → ((ys : List ℕ) → a ≡ Some ys → length ys ≡ m) → ((ys : List ℕ) → b ≡ Some ys → length ys ≡ n) → followed a b ≡ Some xs → length xs ≡ m + n
two_long a b m n xs h k e =
    let t = two_there a b xs e in ap length t.is ∙ length-append t.xs t.ys ∙ omega (arith, h t.xs t.first, k t.ys t.second)

some_long : (zs ys : List ℕ) → ◌≡◌ {A = Text} (Some zs) (Some ys) → length ys ≡ length zs
some_long zs ys e = let k : zs ≡ ys = cc in ap length (sym k)

-- Addresses

-- the bytes of addresses in numbers
span_length : Bool → ℕ → Span → ℕ
span_length false w s = w + w
span_length true w (Base n) = 1 + w
span_length true w (Pair m n) = 1 + (length (uleb m) + length (uleb n))
span_length true w (StartEnd m n) = 1 + (w + w)
span_length true w (StartLength m n) = 1 + (w + length (uleb n))
span_length true w s = 1

text-sized : (five : Bool) (k : Kinds) (big : Bool) (w : ℕ) (s : Span) (xs : List ℕ) → span_text five k big w s ≡ Some xs → length xs ≡ span_length five w s
unfolding span_length
text-sized true k big w (Base n) xs e = two_long (Some (k.base_address ∷ [])) (num_text big w n) 1 w xs (some_long (k.base_address ∷ [])) (length-num_text big w n) e
text-sized true k big w (Pair m n) xs e = some_long (k.offset_pair ∷ uleb m ++ uleb n) xs e ∙ omega (arith, length-append (uleb m) (uleb n))
text-sized true k big w (StartEnd m n) xs e =
    two_long (Some (k.start_end ∷ [])) (followed (num_text big w m) (num_text big w n)) 1 (w + w) xs (some_long (k.start_end ∷ []))
    (λ ys. two_long (num_text big w m) (num_text big w n) w w ys (length-num_text big w m) (length-num_text big w n)) e
text-sized true k big w (StartLength m n) xs e =
    two_long (Some (k.start_length ∷ [])) (followed (num_text big w m) (Some (uleb n))) 1 (w + length (uleb n)) xs (some_long (k.start_length ∷ []))
    (λ ys. two_long (num_text big w m) (Some (uleb n)) w (length (uleb n)) ys (length-num_text big w m) (some_long (uleb n))) e
text-sized true k big w Default xs e = some_long (5 ∷ []) xs e
text-sized true k big w (BaseIndex m) xs e = absurd (none-some _ e)
text-sized true k big w (IndexEnd m n) xs e = absurd (none-some _ e)
text-sized true k big w (IndexLength m n) xs e = absurd (none-some _ e)
text-sized false k big w (Base n) xs e = two_long (num_text big w (marker w)) (num_text big w n) w w xs (length-num_text big w (marker w)) (length-num_text big w n) e
text-sized false k big w (Pair m n) xs e = two_long (num_text big w m) (num_text big w n) w w xs (length-num_text big w m) (length-num_text big w n) e
text-sized false k big w (StartEnd m n) xs e = absurd (none-some _ e)
text-sized false k big w (StartLength m n) xs e = absurd (none-some _ e)
text-sized false k big w Default xs e = absurd (none-some _ e)
text-sized false k big w (BaseIndex m) xs e = absurd (none-some _ e)
text-sized false k big w (IndexEnd m n) xs e = absurd (none-some _ e)
text-sized false k big w (IndexLength m n) xs e = absurd (none-some _ e)

new_length : (w : ℕ) (l : Layout) (r : Option Range) (s : Span) → span_in true l r ≡ Some s → span_length true w s ≡ span_size true w r
unfolding span_length
new_length w l None s e = let k : Default ≡ s = cc in ap (span_length true w) (sym k)
new_length w l (Some (built.BaseAddress a)) s e =
    let p = bind_parts (address_in l a) (λ n. Some (Base n)) s e in let k : Base p.0 ≡ s = (let q = p.2 in cc) in ap (span_length true w) (sym k)
new_length w l (Some (built.OffsetPair m n)) s e = let k : Pair m n ≡ s = cc in ap (span_length true w) (sym k)
new_length w l (Some (built.StartEnd a b)) s e =
    let p = bind_parts (address_in l a) (λ m. address_in l b >>= λ n. Some (StartEnd m n)) s e in
    let q = bind_parts (address_in l b) (λ n. Some (StartEnd p.0 n)) s p.2 in
    let k : StartEnd p.0 q.0 ≡ s = (let f = q.2 in cc) in ap (span_length true w) (sym k)
new_length w l (Some (built.StartLength a n)) s e =
    let p = bind_parts (address_in l a) (λ m. Some (StartLength m n)) s e in let k : StartLength p.0 n ≡ s = (let q = p.2 in cc) in ap (span_length true w) (sym k)

pub span-sized : (five : Bool) (k : Kinds) (w : ℕ) (r : Option Range) → IsSized (span_draft five k w r)
unfolding span_length
span-sized true k w r info big l xs e =
    let s = bind_parts (span_in true l r) (span_text true k big w) xs e in
    text-sized true k big w s.0 xs s.2 ∙ new_length w l r s.0 s.1
span-sized false k w (Some r) info big l xs e =
    let s = bind_parts (span_in false l (Some r)) (span_text false k big w) xs e in text-sized false k big w s.0 xs s.2
span-sized false k w None info big l xs e = absurd (none-some _ e)

close-sized : (five : Bool) (k : Kinds) (w : ℕ) → IsSized (close_draft five k w)
close-sized true k w info big l xs e = some_long (k.end_of_list ∷ []) xs e
close-sized false k w info big l xs e = two_long (num_text big w 0) (num_text big w 0) w w xs (length-num_text big w 0) (length-num_text big w 0) e

-- Lists

count-sized : (five : Bool) (n : ℕ) → IsSized (count_draft five n)
unfolding bytes_text
count-sized true n info big l xs e = some_long (uleb n) xs e
count-sized false n info big l xs e = length-num_text big 2 n xs e

module _ (five : Bool) (v : Encoding) (place : ℕ → Option ℕ) (k : Kinds) where
  located-sized : (x : Option (List Node)) → IsSpelled five v place x → IsSized (located five v place x)
  located-sized None h info big l xs e = let is : ◌≡◌ {A = List ℕ} [] xs = cc in ap length (sym is)
  located-sized (Some x) h info big l xs e = then-sized (count_draft five (expression_size v place x)) (expression_draft v place x) (count-sized five (expression_size v place x)) h.1.wide info big l xs e

  part-sized : (p : Part) → IsReadable five v place p → IsSized (part_draft five v place k p)
  part-sized p h = then-sized (span_draft five k v.address_size p.range) (located five v place p.expression) (span-sized five k v.address_size p.range) (located-sized p.expression h.1)

  list-sized : (ps : List Part) → AreReadable five v place ps → IsSized (list_draft five v place k ps)
  list-sized ps h =
      then-sized (parts_draft five v place k ps) (close_draft five k v.address_size)
      (all-sized (part_draft five v place k) (IsReadable five v place) ps part-sized h) (close-sized five k v.address_size)

  pub lists-sized : (xs : List (List Part)) → All (AreReadable five v place) xs → IsSized (lists_draft five v place k xs)
  lists-sized xs h = all-sized (list_draft five v place k) (AreReadable five v place) xs list-sized h

-- Headers

pub fields-sized : (w n : ℕ) → IsSized (fields_draft w n)
fields-sized w n info big l xs e =
    two_long (Some (num big 2 5 ++ (w ∷ 0 ∷ []))) (num_text big 4 n) 4 4 xs
    (λ ys f. some_long (num big 2 5 ++ (w ∷ 0 ∷ [])) ys f ∙ length-append (num big 2 5) (w ∷ 0 ∷ []) ∙ omega (arith, length-num big 2 5)) (length-num_text big 4 n) e

pub length-sized : (format : Format) (n : ℕ) → IsSized (length_draft format n)
length-sized format n info big l xs e =
    when_wide (length_fits format n) (escape_of format ++ num big (word_of format) n) xs e
    ∙ length-append (escape_of format) (num big (word_of format) n) ∙ ap (λ k. length (escape_of format) + k) (length-num big (word_of format) n)

pub words-sized : (format : Format) (ns : List ℕ) → IsSized (words_draft format ns)
words-sized format [] info big l ys e = let k : ◌≡◌ {A = List ℕ} [] ys = cc in ap length (sym k)
words-sized format (n ∷ ns) info big l ys e =
    then-sized (word_draft format n) (words_draft format ns) (λ info big l xs e. length-num_text big (word_of format) n xs e) (words-sized format ns) info big l ys e
