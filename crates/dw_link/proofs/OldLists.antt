-- Up to version 4 each list whose numbers are told apart is found at its place and read as it was built, whatever symbols it has.
use Rattle.std.specs.Prelude.{◌≡◌, ℕ, zero, suc, ◌+◌, ◌<◌, ◌^◌, Bool, false, List, [], ◌∷◌, ◌++◌, length, All, Option, Some, None, IsTrue, slice_get, refl}
use Rattle.std.proofs.Common.{sym, ◌∙◌, ap, subst, arith, append_assoc, length-append}
use Rattle.std.proofs.lemmas.Bool.Decides.{nat_tests}
use Rattle.std.proofs.lemmas.List.Elements.{All-nil, All-cons, All-head, All-tail}
use Rattle.std.proofs.lemmas.Option.{none-some}
use Rattle.dw_base.specs.Numbers.{is_width, fits}
use Rattle.dw_base.specs.declared.common.Encoding.{Encoding}
use Rattle.dw_writer.specs.Drafts.{Info, then_draft}
use Rattle.dw_writer.specs.Layout.{Layout}
use Rattle.dw_writer.specs.Texts.{followed, num_text}
use Rattle.dw_writer.proofs.Laws.{followed-somes}
use Rattle.dw_expr.specs.Spelling.{expression_draft, expression_size}
use Rattle.dw_expr.specs.Trees.{Node}
use Rattle.dw_expr.proofs.ExpressionDrafts.{expression-draft}
use Rattle.dw_lists.specs.Items.{Span, Base, Pair, StartEnd, StartLength, Default, BaseIndex, IndexEnd, IndexLength, is_five, items_at}
use Rattle.dw_lists.specs.Kinds.{kinds_of}
use Rattle.dw_lists.specs.Parts.{Part}
use Rattle.dw_lists.specs.Tables.{IsFound, table_by, table_draft, offsets_by, offsets_from}
use Rattle.dw_lists.specs.Texts.{span_draft, count_draft, located, close_draft, part_draft, parts_draft, list_draft, lists_draft, places_from, IsSpelled, IsReadable, AreReadable}
use Rattle.dw_lists.proofs.Again.{IsPartOf, Reads, list_at_place}
use Rattle.dw_lists.proofs.Sized.{lists-sized}
use Rattle.dw_lists.proofs.Spoken.{IsTold, two_there, number_there}
use Rattle.dw_lists.proofs.TableAgain.{ArePartsOf}
use Rattle.dw_dwarf.proofs.ListsFound.{all_at}
use Rattle.dw_link.specs.Lists.{is_apart, IsApart, AreApart}

short : (n : ℕ) → IsTrue (fits 2 n) → n < 2 ^ 64
short n h = grind (arith, nat_tests)

told_apart : (w : ℕ) (s : Span) → IsTrue (is_apart w s) → IsTold false w s
told_apart w (Base n) h = h
told_apart w (Pair m n) h = h
told_apart w (StartEnd m n) h = h
told_apart w (StartLength m n) h = h
told_apart w Default h = h
told_apart w (BaseIndex m) h = h
told_apart w (IndexEnd m n) h = h
told_apart w (IndexLength m n) h = h

module _ (loc : Bool) (v : Encoding) (place : ℕ → Option ℕ) (info : Info) (big : Bool) (l : Layout) where
  -- What is there can be read

  expression_there : IsTrue (is_width v.address_size) → (x : Option (List Node)) (xs : List ℕ) → (located false v place x).text info big l ≡ Some xs → IsSpelled false v place x
  unfolding then_draft
  expression_there width None xs e = tt
  expression_there width (Some x) xs e =
      let n = expression_size v place x in
      let t = two_there ((count_draft false n).text info big l) ((expression_draft v place x).text info big l) xs e in
      (short n (number_there big 2 n t.xs t.first).1, expression-draft v place width x)

  part_there : IsTrue (is_width v.address_size) → (p : Part) (xs : List ℕ) → (part_draft false v place (kinds_of loc) p).text info big l ≡ Some xs → IsSpelled false v place p.expression
  unfolding then_draft
  part_there width p xs e =
      let t = two_there ((span_draft false (kinds_of loc) v.address_size p.range).text info big l) ((located false v place p.expression).text info big l) xs e in
      expression_there width p.expression t.ys t.second

  parts_there : IsTrue (is_width v.address_size) → (ps : List Part) (xs : List ℕ) → (parts_draft false v place (kinds_of loc) ps).text info big l ≡ Some xs → AreReadable false v place ps
  unfolding then_draft
  parts_there width [] xs e = All-nil (IsReadable false v place)
  parts_there width (p ∷ ps) xs e =
      let t = two_there ((part_draft false v place (kinds_of loc) p).text info big l) ((parts_draft false v place (kinds_of loc) ps).text info big l) xs e in
      All-cons (IsReadable false v place) p ps (tt, part_there width p t.xs t.first) (parts_there width ps t.ys t.second)

  list_there : (ps : List Part) (xs : List ℕ) → (list_draft false v place (kinds_of loc) ps).text info big l ≡ Some xs → AreReadable false v place ps
  unfolding then_draft
  list_there ps xs e =
      let w = v.address_size in
      let t = two_there ((parts_draft false v place (kinds_of loc) ps).text info big l) ((close_draft false (kinds_of loc) w).text info big l) xs e in
      let c = two_there (num_text big w 0) (num_text big w 0) t.ys t.second in
      parts_there (number_there big w 0 c.xs c.first).0 ps t.xs t.first

  list_long : (ps : List Part) (xs : List ℕ) → (list_draft false v place (kinds_of loc) ps).text info big l ≡ Some xs → length xs ≡ (list_draft false v place (kinds_of loc) ps).size
  unfolding then_draft
  list_long ps xs e =
      let readable = All-cons (AreReadable false v place) ps [] (list_there ps xs e) (All-nil (AreReadable false v place)) in
      let alone = ap (λ t. followed t (Some [])) e ∙ followed-somes xs [] in
      let long = lists-sized false v place (kinds_of loc) (ps ∷ []) readable info big l (xs ++ []) alone in
      omega (arith, long, length-append xs [])

  list_reads : (ps : List Part) → AreReadable false v place ps → ArePartsOf loc ps → AreApart l v.address_size ps → All (Reads false loc v place info big l) ps
  list_reads [] h q apart = All-nil (Reads false loc v place info big l)
  list_reads (p ∷ ps) h q apart =
      All-cons (Reads false loc v place info big l) p ps
      (record {
        spelled = (All-head (IsReadable false v place) p ps h).1;
        told = λ s e. told_apart v.address_size s (All-head (IsApart l v.address_size) p ps apart s e);
        part = All-head (λ p. IsPartOf loc p.range p.expression) p ps q;
      })
      (list_reads ps (All-tail (IsReadable false v place) p ps h) (All-tail (λ p. IsPartOf loc p.range p.expression) p ps q) (All-tail (IsApart l v.address_size) p ps apart))

  -- One of several lists

  record At (at : ℕ) (xs : List (List Part)) (i : ℕ) (x : List Part) (section : List ℕ) : Type 0 where
    place_of : ℕ
    answered : slice_get (places_from false v place (kinds_of loc) at xs) i ≡ Some place_of
    front : List ℕ
    mine : List ℕ
    tail : List ℕ
    is : section ≡ front ++ (mine ++ tail)
    long : length front ≡ place_of
    text : (list_draft false v place (kinds_of loc) x).text info big l ≡ Some mine

  list_at : (xs : List (List Part)) (i : ℕ) (x : List Part) (before bytes rest : List ℕ) → slice_get xs i ≡ Some x → (lists_draft false v place (kinds_of loc) xs).text info big l ≡ Some bytes →
      At (length before) xs i x (before ++ (bytes ++ rest))
  unfolding then_draft
  list_at [] i x before bytes rest get e = absurd (none-some x get)
  list_at (y ∷ xs) zero x before bytes rest get e =
      let t = two_there ((list_draft false v place (kinds_of loc) y).text info big l) ((lists_draft false v place (kinds_of loc) xs).text info big l) bytes e in
      let same : y ≡ x = cc in
      record {
        place_of = length before;
        answered = refl;
        front = before;
        mine = t.xs;
        tail = t.ys ++ rest;
        is = ap (λ a. before ++ (a ++ rest)) t.is ∙ ap (λ a. before ++ a) (append_assoc t.xs t.ys rest);
        long = refl;
        text = subst (λ z. (list_draft false v place (kinds_of loc) z).text info big l ≡ Some t.xs) same t.first;
      }
  list_at (y ∷ xs) (suc i) x before bytes rest get e =
      let t = two_there ((list_draft false v place (kinds_of loc) y).text info big l) ((lists_draft false v place (kinds_of loc) xs).text info big l) bytes e in
      let more = list_at xs i x (before ++ t.xs) t.ys rest get t.second in
      let past : length (before ++ t.xs) ≡ length before + (list_draft false v place (kinds_of loc) y).size = length-append before t.xs ∙ ap (λ n. length before + n) (list_long y t.xs t.first) in
      record {
        place_of = more.place_of;
        answered = ap (λ n. slice_get (places_from false v place (kinds_of loc) n xs) i) (sym past) ∙ more.answered;
        front = more.front;
        mine = more.mine;
        tail = more.tail;
        is = ap (λ a. before ++ (a ++ rest)) t.is ∙ ap (λ a. before ++ a) (append_assoc t.xs t.ys rest) ∙ sym (append_assoc before t.xs (t.ys ++ rest)) ∙ more.is;
        long = more.long;
        text = more.text;
      }

  pub old_found : is_five v ≡ false → (xs : List (List Part)) → All (ArePartsOf loc) xs → (before bytes rest : List ℕ) → (table_draft loc v place xs).text info big l ≡ Some bytes →
      (i : ℕ) (x : List Part) → slice_get xs i ≡ Some x → AreApart l v.address_size x → IsFound loc v place info big l (before ++ (bytes ++ rest)) (offsets_from loc v place (length before) xs) i x
  old_found four [] shaped before bytes rest text i x get apart = absurd (none-some x get)
  old_found four (y ∷ ys) shaped before bytes rest text i x get apart =
      let section = before ++ (bytes ++ rest) in
      let spelled : (lists_draft false v place (kinds_of loc) (y ∷ ys)).text info big l ≡ Some bytes = subst (λ b. (table_by loc v place b (y ∷ ys)).text info big l ≡ Some bytes) four text in
      let a = list_at (y ∷ ys) i x before bytes rest get spelled in
      let here : (list_draft (is_five v) v place (kinds_of loc) x).text info big l ≡ Some a.mine = subst (λ b. (list_draft b v place (kinds_of loc) x).text info big l ≡ Some a.mine) (sym four) a.text in
      let reads : All (Reads (is_five v) loc v place info big l) x =
      subst (λ b. All (Reads b loc v place info big l) x) (sym four) (list_reads x (list_there x a.mine a.text) (all_at (ArePartsOf loc) (y ∷ ys) i x get shaped) apart)
      in
      subst (λ b. IsFound loc v place info big l section (offsets_by loc v place b (length before) (y ∷ ys)) i x) (sym four)
      (record {
        place_of = a.place_of;
        answered = a.answered;
        entry = λ base none. absurd (none-some base none);
        items = ap (λ n. items_at loc big v section n) (sym a.long) ∙ ap (λ s. items_at loc big v s (length a.front)) a.is ∙ list_at_place loc v place info big l x a.front a.mine a.tail here reads;
      })
