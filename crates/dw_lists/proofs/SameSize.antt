-- The draft of a table of range lists has the size of its text, and no references: no entry is named in it.
use Rattle.std.specs.Prelude.{◌≡◌, ℕ, ◌+◌, Bool, true, false, List, [], ◌∷◌, ◌++◌, length, Some, refl}
use Rattle.std.proofs.Common.{sym, ◌∙◌, ap}
use Rattle.dw_base.specs.Numbers.{word_of, length_size}
use Rattle.dw_base.specs.declared.common.Encoding.{Encoding}
use Rattle.dw_base.specs.declared.common.Format.{Format}
use Rattle.dw_writer.specs.Texts.{num_text}
use Rattle.dw_writer.specs.Meaning.{Layout, Model}
use Rattle.dw_writer.specs.Drafts.{Info, Draft, left_open, no_draft, whole, then_draft, shifted, IsDraft}
use Rattle.dw_writer.proofs.Laws.{length-num_text}
use Rattle.dw_writer.proofs.Steps.{followed_texts-wide}
use Rattle.dw_writer.proofs.DraftLaws.{whole-draft, no-draft, then-draft}
use Rattle.dw_lists.specs.declared.kinds.Kinds.{Kinds}
use Rattle.dw_lists.specs.declared.range.Range.{Range}
use Rattle.dw_lists.specs.Kinds.{range_kinds}
use Rattle.dw_lists.specs.Parts.{range_part, ranges_parts}
use Rattle.dw_lists.specs.Items.{is_five}
use Rattle.dw_lists.specs.Pieces.{length_draft, fields_size, fields_draft, word_draft, words_draft}
use Rattle.dw_lists.specs.Texts.{span_size, span_draft, close_draft, part_draft, parts_draft, list_draft, lists_draft}
use Rattle.dw_lists.specs.Tables.{entries_of, body_draft, table_by, table_draft, ranges_in, no_place}
use Rattle.dw_lists.proofs.Sized.{span-sized, fields-sized, length-sized}

-- a draft without references
abbrev IsClosed : Draft → Type 0
IsClosed d = IsDraft d × (d.holes ≡ [])

whole-closed : (n : ℕ) (t : Model) → ((big : Bool) (l : Layout) (xs : List ℕ) → t big l ≡ Some xs → length xs ≡ n) → IsClosed (whole n t)
whole-closed n t h = (whole-draft n t h, refl)

nothing-closed : IsClosed no_draft
nothing-closed = (no-draft, refl)

then-closed : (d f : Draft) → IsClosed d → IsClosed f → IsClosed (then_draft d f)
unfolding then_draft
then-closed d f p q = (then-draft p.0 q.0, ap (λ hs. hs ++ shifted d.size f.holes) p.1 ∙ ap (shifted d.size) q.1)

-- Lists

close-closed : (five : Bool) (k : Kinds) (w : ℕ) → IsClosed (close_draft five k w)
close-closed true k w = whole-closed 1 _ (λ big l xs e. let is : ◌≡◌ {A = List ℕ} (k.end_of_list ∷ []) xs = cc in ap length (sym is))
close-closed false k w =
    whole-closed (w + w) _ (λ big l. followed_texts-wide w w (num_text big w 0) (num_text big w 0) (length-num_text big w 0) (length-num_text big w 0))

module _ (five : Bool) (e : Encoding) (k : Kinds) where
  item-closed : (r : Range) → IsClosed (part_draft five e no_place k (range_part r))
  item-closed r =
      then-closed (span_draft five k e.address_size (Some r)) no_draft
      (whole-closed (span_size five e.address_size (Some r)) _ (span-sized five k e.address_size (Some r) left_open)) nothing-closed

  items-closed : (rs : List Range) → IsClosed (parts_draft five e no_place k (ranges_parts rs))
  items-closed [] = nothing-closed
  items-closed (r ∷ rs) = then-closed (part_draft five e no_place k (range_part r)) (parts_draft five e no_place k (ranges_parts rs)) (item-closed r) (items-closed rs)

  list-closed : (rs : List Range) → IsClosed (list_draft five e no_place k (ranges_parts rs))
  list-closed rs = then-closed (parts_draft five e no_place k (ranges_parts rs)) (close_draft five k e.address_size) (items-closed rs) (close-closed five k e.address_size)

  lists-closed : (xs : List (List Range)) → IsClosed (lists_draft five e no_place k (ranges_in xs))
  lists-closed [] = nothing-closed
  lists-closed (x ∷ xs) = then-closed (list_draft five e no_place k (ranges_parts x)) (lists_draft five e no_place k (ranges_in xs)) (list-closed x) (lists-closed xs)

-- Tables

words-closed : (format : Format) (ns : List ℕ) → IsClosed (words_draft format ns)
words-closed format [] = nothing-closed
words-closed format (n ∷ ns) =
    then-closed (word_draft format n) (words_draft format ns)
    (whole-closed (word_of format) _ (λ big l. length-num_text big (word_of format) n)) (words-closed format ns)

table-closed : (e : Encoding) (five : Bool) (xs : List (List Range)) → IsClosed (table_by false e no_place five (ranges_in xs))
table-closed e five [] = nothing-closed
table-closed e false (x ∷ xs) = lists-closed false e range_kinds (x ∷ xs)
table-closed e true (x ∷ xs) =
    let ps = ranges_in (x ∷ xs) in
    let size = (body_draft false e no_place ps).size in
    let fields = fields_draft e.address_size (length ps) in
    let words = words_draft e.format (entries_of false e no_place ps) in
    let lists = lists_draft true e no_place range_kinds ps in
    then-closed (length_draft e.format size) (body_draft false e no_place ps)
    (whole-closed (length_size e.format) _ (length-sized e.format size left_open))
    (then-closed fields (then_draft words lists)
    (whole-closed fields_size _ (fields-sized e.address_size (length ps) left_open))
    (then-closed words lists (words-closed e.format (entries_of false e no_place ps)) (lists-closed true e range_kinds (x ∷ xs))))

module _ (e : Encoding) (xs : List (List Range)) where
  pub ranges-draft : IsDraft (table_draft false e no_place (ranges_in xs))
  ranges-draft = (table-closed e (is_five e) xs).0

  pub ranges-closed : (table_draft false e no_place (ranges_in xs)).holes ≡ []
  ranges-closed = (table-closed e (is_five e) xs).1

  pub ranges-wide : (info : Info) (big : Bool) (l : Layout) (bytes : List ℕ) → (table_draft false e no_place (ranges_in xs)).text info big l ≡ Some bytes →
      length bytes ≡ (table_draft false e no_place (ranges_in xs)).size
  ranges-wide info big l bytes h = ranges-draft.wide info big l bytes h
