-- Where the text of a table is there, so are the items of its lists in numbers and bytes.
use Rattle.std.proofs.Common.{◌≡◌, ◌∙◌, subst, ℕ, zero, suc, Bool, true, false, List, [], ◌∷◌, length, Option, Some, None, refl, slice_get}
use Rattle.std.proofs.lemmas.Option.{none-some}
use Rattle.dw_base.specs.Numbers.{◌>>=◌}
use Rattle.dw_base.specs.declared.common.Encoding.{Encoding}
use Rattle.dw_base.proofs.NumberLaws.{bind_is, bind_parts}
use Rattle.dw_writer.specs.Meaning.{Layout}
use Rattle.dw_writer.specs.Texts.{followed}
use Rattle.dw_writer.specs.Drafts.{Info, then_draft}
use Rattle.dw_expr.specs.Trees.{Node}
use Rattle.dw_expr.specs.Spelling.{expression_draft, expression_size}
use Rattle.dw_lists.specs.Kinds.{kinds_of}
use Rattle.dw_lists.specs.Items.{Item, is_five}
use Rattle.dw_lists.specs.Parts.{Part}
use Rattle.dw_lists.specs.Pieces.{length_draft, fields_draft, words_draft}
use Rattle.dw_lists.specs.Texts.{span_in, span_text, span_draft, close_text, count_draft, located, part_draft, parts_draft, list_draft, lists_draft, bytes_in, part_in, parts_in}
use Rattle.dw_lists.specs.Tables.{entries_of, body_draft, table_by, table_draft}
use Rattle.dw_lists.proofs.Spoken.{two_there}

module _ (loc five : Bool) (e : Encoding) (place : ℕ → Option ℕ) (info : Info) (big : Bool) (l : Layout) where
  bytes_there : (x : Option (List Node)) (ys : List ℕ) → (located five e place x).text info big l ≡ Some ys → (found : Option (List ℕ)) × (bytes_in five e place info big l x ≡ Some found)
  unfolding then_draft
  bytes_there None ys h = (None, refl)
  bytes_there (Some x) ys h =
      let t = two_there ((count_draft five (expression_size e place x)).text info big l) ((expression_draft e place x).text info big l) ys h in
      (Some t.ys, bind_is _ t.ys (λ zs. Some (Some zs)) t.second)

  part_there : (p : Part) (xs : List ℕ) → (part_draft five e place (kinds_of loc) p).text info big l ≡ Some xs → (x : Item) × (part_in five e place info big l p ≡ Some x)
  unfolding then_draft
  part_there p xs h =
      let t = two_there ((span_draft five (kinds_of loc) e.address_size p.range).text info big l) ((located five e place p.expression).text info big l) xs h in
      let s = bind_parts (span_in five l p.range) (span_text five (kinds_of loc) big e.address_size) t.xs t.first in
      let x = bytes_there p.expression t.ys t.second in (
        record { span = s.0; expression = x.0 },
        bind_is _ s.0 (λ a. bytes_in five e place info big l p.expression >>= λ y. Some (record { span = a; expression = y })) s.1
            ∙ bind_is _ x.0 (λ y. Some (record { span = s.0; expression = y })) x.1,
      )

  parts_there : (ps : List Part) (xs : List ℕ) → (parts_draft five e place (kinds_of loc) ps).text info big l ≡ Some xs → (items : List Item) × (parts_in five e place info big l ps ≡ Some items)
  unfolding then_draft
  parts_there [] xs h = ([], refl)
  parts_there (p ∷ ps) xs h =
      let t = two_there ((part_draft five e place (kinds_of loc) p).text info big l) ((parts_draft five e place (kinds_of loc) ps).text info big l) xs h in
      let x = part_there p t.xs t.first in
      let more = parts_there ps t.ys t.second in (
        x.0 ∷ more.0,
        bind_is _ x.0 (λ y. parts_in five e place info big l ps >>= λ ys. Some (y ∷ ys)) x.1
            ∙ bind_is _ more.0 (λ ys. Some (x.0 ∷ ys)) more.1,
      )

  list_there : (ps : List Part) (xs : List ℕ) → (list_draft five e place (kinds_of loc) ps).text info big l ≡ Some xs → (items : List Item) × (parts_in five e place info big l ps ≡ Some items)
  unfolding then_draft
  list_there ps xs h =
      let t = two_there ((parts_draft five e place (kinds_of loc) ps).text info big l) (close_text five (kinds_of loc) big e.address_size) xs h in
      parts_there ps t.xs t.first

  lists_there : (xs : List (List Part)) (i : ℕ) (x : List Part) (bytes : List ℕ) → slice_get xs i ≡ Some x → (lists_draft five e place (kinds_of loc) xs).text info big l ≡ Some bytes →
      (items : List Item) × (parts_in five e place info big l x ≡ Some items)
  unfolding then_draft
  lists_there [] i x bytes s h = absurd (none-some x s)
  lists_there (y ∷ xs) zero x bytes s h =
      let t = two_there ((list_draft five e place (kinds_of loc) y).text info big l) ((lists_draft five e place (kinds_of loc) xs).text info big l) bytes h in
      let q : y ≡ x = cc in
      list_there x t.xs (subst (λ z. (list_draft five e place (kinds_of loc) z).text info big l ≡ Some t.xs) q t.first)
  lists_there (y ∷ xs) (suc i) x bytes s h =
      let t = two_there ((list_draft five e place (kinds_of loc) y).text info big l) ((lists_draft five e place (kinds_of loc) xs).text info big l) bytes h in
      lists_there xs i x t.ys s t.second

module _ (loc : Bool) (e : Encoding) (place : ℕ → Option ℕ) (info : Info) (big : Bool) (l : Layout) where
  table_by_there : (five : Bool) (xs : List (List Part)) (i : ℕ) (x : List Part) (bytes : List ℕ) → slice_get xs i ≡ Some x → (table_by loc e place five xs).text info big l ≡ Some bytes →
      (items : List Item) × (parts_in five e place info big l x ≡ Some items)
  unfolding then_draft
  table_by_there five [] i x bytes s h = absurd (none-some x s)
  table_by_there false (y ∷ ys) i x bytes s h = lists_there loc false e place info big l (y ∷ ys) i x bytes s h
  table_by_there true (y ∷ ys) i x bytes s h =
      let all = y ∷ ys in
      let words = (words_draft e.format (entries_of loc e place all)).text info big l in
      let lists = (lists_draft true e place (kinds_of loc) all).text info big l in
      let t = two_there ((length_draft e.format (body_draft loc e place all).size).text info big l) ((body_draft loc e place all).text info big l) bytes h in
      let t1 = two_there ((fields_draft e.address_size (length all)).text info big l) (followed words lists) t.ys t.second in
      let t2 = two_there words lists t1.ys t1.second in
      lists_there loc true e place info big l all i x t2.ys s t2.second

  pub table_there : (xs : List (List Part)) (i : ℕ) (x : List Part) (bytes : List ℕ) → slice_get xs i ≡ Some x → (table_draft loc e place xs).text info big l ≡ Some bytes →
      (items : List Item) × (parts_in (is_five e) e place info big l x ≡ Some items)
  table_there xs i x bytes s h = table_by_there (is_five e) xs i x bytes s h
