-- A list that is spelled is read again, whatever follows it.
use Rattle.std.proofs.Common.{◌≡◌, ◌∙◌, sym, ap, subst, ℕ, zero, suc, ◌+◌, ◌^◌, ◌<◌, ◌≤◌, Bool, true, false, List, [], ◌∷◌, ◌++◌, length, drop, Option, Some, None, refl, arith, All, append_assoc, length-append}
use Rattle.std.specs.Prelude.{is_some}
use Rattle.std.proofs.lemmas.List.{drop_at}
use Rattle.std.proofs.lemmas.List.Elements.{All-head, All-tail}
use Rattle.dw_base.specs.Numbers.{◌>>=◌, bytes_at}
use Rattle.dw_base.specs.Leb128.{uleb_at, uleb}
use Rattle.dw_base.specs.declared.common.Encoding.{Encoding}
use Rattle.dw_base.proofs.NumberLaws.{bind_is, bind_parts, bytes_at_is}
use Rattle.dw_base.proofs.Leb128Laws.{uleb-again}
use Rattle.dw_writer.specs.Meaning.{Layout}
use Rattle.dw_writer.specs.SectionTexts.{bytes_text}
use Rattle.dw_writer.specs.Drafts.{Info, then_draft}
use Rattle.dw_expr.specs.Trees.{Node}
use Rattle.dw_expr.specs.Spelling.{expression_draft, expression_size}
use Rattle.dw_lists.specs.declared.range.Range.{Range}
use Rattle.dw_lists.specs.declared.range.Range.TheVariants as built
use Rattle.dw_lists.specs.Kinds.{kinds_of}
use Rattle.dw_lists.specs.Items.{Span, Base, Pair, StartEnd, StartLength, Default, Item, more_at, items_up_to, is_located, count_at, expression_at, rest_at, item_at, is_five, items_at}
use Rattle.dw_lists.specs.Parts.{Part}
use Rattle.dw_lists.specs.Texts.{address_in, span_in, span_text, span_draft, close_text, count_draft, located, part_draft, parts_draft, list_draft, bytes_in, part_in, parts_in, IsSpelled}
use Rattle.dw_lists.proofs.Spoken.{number_read, two_there, IsTold, IsKnown, span_read, span_long, close_read, close_long}

-- what items of location lists and of range lists are
abbrev pub IsPartOf : Bool → Option Range → Option (List Node) → Type 0
IsPartOf false (Some r) None = Unit {0}
IsPartOf true (Some (built.BaseAddress a)) None = Unit {0}
IsPartOf true (Some (built.OffsetPair m n)) (Some x) = Unit {0}
IsPartOf true (Some (built.StartEnd a b)) (Some x) = Unit {0}
IsPartOf true (Some (built.StartLength a k)) (Some x) = Unit {0}
IsPartOf true None (Some x) = Unit {0}
IsPartOf loc r x = ⊥

-- such an item has the addresses and the expression that are read
record Fits (loc : Bool) (x : Option (List Node)) (s : Span) : Type 0 where
  known : IsKnown loc s
  has : is_located loc s ≡ is_some x

fits_base : (loc : Bool) (n : ℕ) → Fits loc None (Base n)
fits_base true n = record { known = tt; has = refl }
fits_base false n = record { known = tt; has = refl }

fits : (five loc : Bool) (l : Layout) (r : Option Range) (x : Option (List Node)) (s : Span) → IsPartOf loc r x → span_in five l r ≡ Some s → Fits loc x s
fits five true l None None s h e = absurd h
fits five true l None (Some x) s h e = let k : Default ≡ s = cc in subst (Fits true (Some x)) k (record { known = tt; has = refl })
fits five false l None x s h e = absurd (none_part x h)
  where
    none_part : (x : Option (List Node)) → IsPartOf false None x → ⊥
    none_part None h = h
    none_part (Some x) h = h
fits five true l (Some (built.BaseAddress a)) None s h e =
    let p = bind_parts (address_in l a) (λ n. Some (Base n)) s e in let k : Base p.0 ≡ s = cc in subst (Fits true None) k (fits_base true p.0)
fits five true l (Some (built.BaseAddress a)) (Some x) s h e = absurd h
fits five true l (Some (built.OffsetPair m n)) None s h e = absurd h
fits five true l (Some (built.OffsetPair m n)) (Some x) s h e = let k : Pair m n ≡ s = cc in subst (Fits true (Some x)) k (record { known = tt; has = refl })
fits five true l (Some (built.StartEnd a b)) None s h e = absurd h
fits true true l (Some (built.StartEnd a b)) (Some x) s h e =
    let p = bind_parts (address_in l a) (λ m. address_in l b >>= λ n. Some (StartEnd m n)) s e in
    let q = bind_parts (address_in l b) (λ n. Some (StartEnd p.0 n)) s p.2 in
    let k : StartEnd p.0 q.0 ≡ s = cc in subst (Fits true (Some x)) k (record { known = tt; has = refl })
fits false true l (Some (built.StartEnd a b)) (Some x) s h e =
    let p = bind_parts (address_in l a) (λ m. address_in l b >>= λ n. Some (Pair m n)) s e in
    let q = bind_parts (address_in l b) (λ n. Some (Pair p.0 n)) s p.2 in
    let k : Pair p.0 q.0 ≡ s = cc in subst (Fits true (Some x)) k (record { known = tt; has = refl })
fits five true l (Some (built.StartLength a n)) None s h e = absurd h
fits true true l (Some (built.StartLength a n)) (Some x) s h e =
    let p = bind_parts (address_in l a) (λ m. Some (StartLength m n)) s e in let k : StartLength p.0 n ≡ s = cc in subst (Fits true (Some x)) k (record { known = tt; has = refl })
fits false true l (Some (built.StartLength a n)) (Some x) s h e =
    let p = bind_parts (address_in l a) (λ m. Some (Pair m (m + n))) s e in let k : Pair p.0 (p.0 + n) ≡ s = cc in subst (Fits true (Some x)) k (record { known = tt; has = refl })
fits five false l (Some (built.BaseAddress a)) None s h e =
    let p = bind_parts (address_in l a) (λ n. Some (Base n)) s e in let k : Base p.0 ≡ s = cc in subst (Fits false None) k (fits_base false p.0)
fits five false l (Some (built.OffsetPair m n)) None s h e = let k : Pair m n ≡ s = cc in subst (Fits false None) k (record { known = tt; has = refl })
fits true false l (Some (built.StartEnd a b)) None s h e =
    let p = bind_parts (address_in l a) (λ m. address_in l b >>= λ n. Some (StartEnd m n)) s e in
    let q = bind_parts (address_in l b) (λ n. Some (StartEnd p.0 n)) s p.2 in
    let k : StartEnd p.0 q.0 ≡ s = cc in subst (Fits false None) k (record { known = tt; has = refl })
fits false false l (Some (built.StartEnd a b)) None s h e =
    let p = bind_parts (address_in l a) (λ m. address_in l b >>= λ n. Some (Pair m n)) s e in
    let q = bind_parts (address_in l b) (λ n. Some (Pair p.0 n)) s p.2 in
    let k : Pair p.0 q.0 ≡ s = cc in subst (Fits false None) k (record { known = tt; has = refl })
fits true false l (Some (built.StartLength a n)) None s h e =
    let p = bind_parts (address_in l a) (λ m. Some (StartLength m n)) s e in let k : StartLength p.0 n ≡ s = cc in subst (Fits false None) k (record { known = tt; has = refl })
fits false false l (Some (built.StartLength a n)) None s h e =
    let p = bind_parts (address_in l a) (λ m. Some (Pair m (m + n))) s e in let k : Pair p.0 (p.0 + n) ≡ s = cc in subst (Fits false None) k (record { known = tt; has = refl })
fits five false l (Some (built.BaseAddress a)) (Some x) s h e = absurd h
fits five false l (Some (built.OffsetPair m n)) (Some x) s h e = absurd h
fits five false l (Some (built.StartEnd a b)) (Some x) s h e = absurd h
fits five false l (Some (built.StartLength a n)) (Some x) s h e = absurd h

-- Expressions

module _ (five loc : Bool) (v : Encoding) (place : ℕ → Option ℕ) (info : Info) (big : Bool) (l : Layout) where
  count_read : (n : ℕ) (xs rest : List ℕ) → (count_draft five n).text info big l ≡ Some xs → n < 2 ^ 64 → count_at five big (xs ++ rest) ≡ Some (n, rest)
  unfolding bytes_text
  count_read n xs rest e h = by five e
    where
      by : (b : Bool) → (count_draft b n).text info big l ≡ Some xs → count_at b big (xs ++ rest) ≡ Some (n, rest)
      by true e = let k : uleb n ≡ xs = cc in subst (λ ys. uleb_at (ys ++ rest) ≡ Some (n, rest)) k (uleb-again n rest h)
      by false e = number_read big 2 n xs rest e

  record Located (x : Option (List Node)) (has : Bool) (xs : List ℕ) : Type 0 where
    found : Option (List ℕ)
    built : bytes_in five v place info big l x ≡ Some found
    read : (rest : List ℕ) → expression_at has five big (xs ++ rest) ≡ Some (found, rest)

  located_read : (x : Option (List Node)) (xs : List ℕ) → (located five v place x).text info big l ≡ Some xs → IsSpelled five v place x → Located x (is_some x) xs
  unfolding then_draft
  located_read None xs e h =
      let k : ◌≡◌ {A = List ℕ} [] xs = cc in
      record { found = None; built = refl; read = λ rest. ap (λ ys. Some (None, ys ++ rest)) (sym k) }
  located_read (Some x) xs e h =
      let n = expression_size v place x in
      let t = two_there ((count_draft five n).text info big l) ((expression_draft v place x).text info big l) xs e in
      let long : length t.ys ≡ n = h.1.wide info big l t.ys t.second in
      record {
        found = Some t.ys;
        built = bind_is _ t.ys (λ ys. Some (Some ys)) t.second;
        read = λ rest.
            ap (expression_at true five big) (ap (λ ys. ys ++ rest) t.is ∙ append_assoc t.xs t.ys rest)
            ∙ bind_is _ (n, t.ys ++ rest) (λ m. bytes_at m.0 m.1 >>= λ y. Some (Some y.0, y.1)) (count_read n t.xs (t.ys ++ rest) t.first h.0)
            ∙ bind_is _ (t.ys, rest) (λ y. Some (Some y.0, y.1)) (bytes_at_is n t.ys rest long);
      }

  -- Items

  -- what an item has to be, so that it is read again
  pub record Reads (p : Part) : Type 0 where
    pub spelled : IsSpelled five v place p.expression
    pub told : (s : Span) → span_in five l p.range ≡ Some s → IsTold five v.address_size s
    pub part : IsPartOf loc p.range p.expression

  record Again (p : Part) (xs : List ℕ) : Type 0 where
    item : Item
    built : part_in five v place info big l p ≡ Some item
    read : (rest : List ℕ) → item_at five loc big v.address_size (xs ++ rest) ≡ Some (Some item, rest)
    long : 0 < length xs

  part_read : (p : Part) (xs : List ℕ) → (part_draft five v place (kinds_of loc) p).text info big l ≡ Some xs → Reads p → Again p xs
  unfolding then_draft item_at
  part_read p xs e h =
      let t = two_there ((span_draft five (kinds_of loc) v.address_size p.range).text info big l) ((located five v place p.expression).text info big l) xs e in
      let s = bind_parts (span_in five l p.range) (span_text five (kinds_of loc) big v.address_size) t.xs t.first in
      let f = fits five loc l p.range p.expression s.0 h.part s.1 in
      let x = located_read p.expression t.ys t.second h.spelled in
      let item : Item = record { span = s.0; expression = x.found } in
      record {
        item = item;
        built = bind_is _ s.0 (λ a. bytes_in five v place info big l p.expression >>= λ y. Some (record { span = a; expression = y })) s.1
            ∙ bind_is _ x.found (λ y. Some (record { span = s.0; expression = y })) x.built;
        read = λ rest.
            ap (item_at five loc big v.address_size) (ap (λ ys. ys ++ rest) t.is ∙ append_assoc t.xs t.ys rest)
            ∙ bind_is _ (Some s.0, t.ys ++ rest) (λ a. rest_at five loc big a.0 a.1) (span_read five loc big v.address_size s.0 t.xs (t.ys ++ rest) s.2 (h.told s.0 s.1) f.known)
            ∙ bind_is _ (x.found, rest) (λ y. Some (Some (record { span = s.0; expression = y.0 }), y.1)) (ap (λ b. expression_at b five big (t.ys ++ rest)) f.has ∙ x.read rest);
        long = omega (arith, span_long five loc big v.address_size s.0 t.xs s.2, ap length t.is, length-append t.xs t.ys);
      }

  -- Lists

  record Items (ps : List Part) (bytes : List ℕ) : Type 0 where
    items : List Item
    built : parts_in five v place info big l ps ≡ Some items
    long : length ps ≤ length bytes
    again : (fuel : ℕ) (end rest : List ℕ) → item_at five loc big v.address_size (end ++ rest) ≡ Some (None, rest) → length ps < fuel →
        items_up_to (item_at five loc big v.address_size) fuel (bytes ++ (end ++ rest)) ≡ Some (items, rest)

  none_more : (fuel : ℕ) (end rest : List ℕ) → item_at five loc big v.address_size (end ++ rest) ≡ Some (None, rest) → 0 < fuel →
      items_up_to (item_at five loc big v.address_size) fuel (end ++ rest) ≡ Some ([], rest)
  unfolding items_up_to
  none_more zero end rest closed below = absurd (omega arith)
  none_more (suc fuel) end rest closed below = bind_is _ (None, rest) (λ x. more_at (items_up_to (item_at five loc big v.address_size) fuel) x.0 x.1) closed

  one_more : (xs ys : List ℕ) (x : Item) (items : List Item) (n : ℕ) → ((rest : List ℕ) → item_at five loc big v.address_size (xs ++ rest) ≡ Some (Some x, rest)) →
      ((fuel : ℕ) (end rest : List ℕ) → item_at five loc big v.address_size (end ++ rest) ≡ Some (None, rest) → n < fuel → items_up_to (item_at five loc big v.address_size) fuel (ys ++ (end ++ rest)) ≡ Some (items, rest)) →
      (fuel : ℕ) (end rest : List ℕ) → item_at five loc big v.address_size (end ++ rest) ≡ Some (None, rest) → suc n < fuel →
      items_up_to (item_at five loc big v.address_size) fuel ((xs ++ ys) ++ (end ++ rest)) ≡ Some (x ∷ items, rest)
  unfolding items_up_to
  one_more xs ys x items n here more zero end rest closed below = absurd (omega arith)
  one_more xs ys x items n here more (suc fuel) end rest closed below =
      let tail = ys ++ (end ++ rest) in
      ap (items_up_to (item_at five loc big v.address_size) (suc fuel)) (append_assoc xs ys (end ++ rest))
      ∙ bind_is _ (Some x, tail) (λ a. more_at (items_up_to (item_at five loc big v.address_size) fuel) a.0 a.1) (here tail)
      ∙ bind_is _ (items, rest) (λ a. Some (x ∷ a.0, a.1)) (more fuel end rest closed (omega arith))

  parts_read : (ps : List Part) (bytes : List ℕ) → (parts_draft five v place (kinds_of loc) ps).text info big l ≡ Some bytes → All Reads ps → Items ps bytes
  unfolding then_draft
  parts_read [] bytes e h =
      let k : ◌≡◌ {A = List ℕ} [] bytes = cc in
      record {
        items = [];
        built = refl;
        long = omega arith;
        again = λ fuel end rest closed below. ap (λ zs. items_up_to (item_at five loc big v.address_size) fuel (zs ++ (end ++ rest))) (sym k) ∙ none_more fuel end rest closed below;
      }
  parts_read (p ∷ ps) bytes e h =
      let t = two_there ((part_draft five v place (kinds_of loc) p).text info big l) ((parts_draft five v place (kinds_of loc) ps).text info big l) bytes e in
      let here = part_read p t.xs t.first (All-head Reads p ps h) in
      let more = parts_read ps t.ys t.second (All-tail Reads p ps h) in
      record {
        items = here.item ∷ more.items;
        built = bind_is _ here.item (λ x. parts_in five v place info big l ps >>= λ xs. Some (x ∷ xs)) here.built
            ∙ bind_is _ more.items (λ xs. Some (here.item ∷ xs)) more.built;
        long = omega (arith, here.long, more.long, ap length t.is, length-append t.xs t.ys);
        again = λ fuel end rest closed below.
            ap (λ zs. items_up_to (item_at five loc big v.address_size) fuel (zs ++ (end ++ rest))) t.is
            ∙ one_more t.xs t.ys here.item more.items (length ps) here.read more.again fuel end rest closed below;
      }

  record ListAgain (ps : List Part) (bytes : List ℕ) : Type 0 where
    items : List Item
    built : parts_in five v place info big l ps ≡ Some items
    again : (fuel : ℕ) (rest : List ℕ) → length bytes ≤ fuel → items_up_to (item_at five loc big v.address_size) fuel (bytes ++ rest) ≡ Some (items, rest)

  closed_at : (xs rest : List ℕ) → close_text five (kinds_of loc) big v.address_size ≡ Some xs → item_at five loc big v.address_size (xs ++ rest) ≡ Some (None, rest)
  unfolding item_at
  closed_at xs rest e = bind_is _ (None, rest) (λ a. rest_at five loc big a.0 a.1) (close_read five loc big v.address_size xs rest e)

  list_read : (ps : List Part) (bytes : List ℕ) → (list_draft five v place (kinds_of loc) ps).text info big l ≡ Some bytes → All Reads ps → ListAgain ps bytes
  unfolding then_draft
  list_read ps bytes e h =
      let t = two_there ((parts_draft five v place (kinds_of loc) ps).text info big l) (close_text five (kinds_of loc) big v.address_size) bytes e in
      let r = parts_read ps t.xs t.first h in
      record {
        items = r.items;
        built = r.built;
        again = λ fuel rest le.
            ap (items_up_to (item_at five loc big v.address_size) fuel) (ap (λ zs. zs ++ rest) t.is ∙ append_assoc t.xs t.ys rest)
            ∙ r.again fuel t.ys rest (closed_at t.ys rest t.second)
            (omega (arith, r.long, le, close_long five loc big v.address_size t.ys t.second, ap length t.is, length-append t.xs t.ys));
      }

-- at its place in a section
pub list_at_place : (loc : Bool) (v : Encoding) (place : ℕ → Option ℕ) (info : Info) (big : Bool) (l : Layout) (ps : List Part) (before bytes rest : List ℕ) →
    (list_draft (is_five v) v place (kinds_of loc) ps).text info big l ≡ Some bytes → All (Reads (is_five v) loc v place info big l) ps →
    items_at loc big v (before ++ (bytes ++ rest)) (length before) ≡ parts_in (is_five v) v place info big l ps
unfolding items_at
list_at_place loc v place info big l ps before bytes rest is h =
    let r = list_read (is_five v) loc v place info big l ps bytes is h in
    let there : drop (length before) (before ++ (bytes ++ rest)) ≡ bytes ++ rest = drop_at before (bytes ++ rest) (length before) refl in
    ap (λ xs. items_up_to (item_at (is_five v) loc big v.address_size) (length xs) xs >>= λ x. Some x.0) there
    ∙ bind_is _ (r.items, rest) (λ x. Some x.0) (r.again (length (bytes ++ rest)) rest (omega (arith, length-append bytes rest)))
    ∙ sym r.built
