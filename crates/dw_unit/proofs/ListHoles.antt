-- Which tables of location lists leave no place open.
use Rattle.std.specs.Prelude.{◌≡◌, ℕ, Bool, true, false, not, ◌&&◌, List, [], ◌∷◌, length, Option, Some, None, refl, if◌then◌else◌}
use Rattle.std.proofs.Common.{◌∙◌, ap}
use Rattle.dw_base.specs.declared.common.Encoding.{Encoding}
use Rattle.dw_base.specs.declared.common.Format.{Format}
use Rattle.dw_writer.specs.Drafts.{no_draft, then_draft}
use Rattle.dw_expr.specs.Spelling.{expression_size, expression_draft}
use Rattle.dw_expr.specs.Trees.{Node}
use Rattle.dw_expr.proofs.OpenPlaces.{no_hole, no_hole-then, not_or, expression_holes}
use Rattle.dw_lists.specs.Items.{is_five}
use Rattle.dw_lists.specs.Kinds.{kinds_of}
use Rattle.dw_lists.specs.Parts.{Part}
use Rattle.dw_lists.specs.Pieces.{length_draft, fields_draft, word_draft, words_draft}
use Rattle.dw_lists.specs.Tables.{entries_of, body_draft, table_by, table_draft, locations_in}
use Rattle.dw_lists.specs.Texts.{span_draft, close_draft, count_draft, located, part_draft, parts_draft, list_draft, lists_draft as drafts_of_lists}
use Rattle.dw_lists.specs.declared.location.Location.{Location}
use Rattle.dw_unit.specs.Alone.{part_refers, list_refers, lists_refer}
use Rattle.dw_tree.specs.Locations.{is_own_section, lists_part}

and_true : (b : Bool) → (b && true) ≡ b
and_true true = refl
and_true false = refl

words_holes : (format : Format) (ns : List ℕ) → no_hole (words_draft format ns).holes ≡ true
words_holes format [] = refl
words_holes format (n ∷ ns) = no_hole-then (word_draft format n) (words_draft format ns) ∙ words_holes format ns

module _ (five : Bool) (e : Encoding) (place : ℕ → Option ℕ) where
  count_holes : (b : Bool) (n : ℕ) → no_hole (count_draft b n).holes ≡ true
  count_holes true n = refl
  count_holes false n = refl

  part_holes : (p : Part) → no_hole (part_draft five e place (kinds_of true) p).holes ≡ not (part_refers p)
  part_holes p = no_hole-then (span_draft five (kinds_of true) e.address_size p.range) (located five e place p.expression) ∙ by_expression p.expression
    where
      by_expression : (x : Option (List Node)) → no_hole (located five e place x).holes ≡ not (let q : Part = record { range = p.range; expression = x } in part_refers q)
      by_expression None = refl
      by_expression (Some x) =
          no_hole-then (count_draft five (expression_size e place x)) (expression_draft e place x)
          ∙ ap (λ b. b && no_hole (expression_draft e place x).holes) (count_holes five (expression_size e place x))
          ∙ expression_holes e place x

  parts_holes : (ps : List Part) → no_hole (parts_draft five e place (kinds_of true) ps).holes ≡ not (list_refers ps)
  parts_holes [] = refl
  parts_holes (p ∷ ps) =
      no_hole-then (part_draft five e place (kinds_of true) p) (parts_draft five e place (kinds_of true) ps)
      ∙ ap (λ b. b && no_hole (parts_draft five e place (kinds_of true) ps).holes) (part_holes p)
      ∙ ap (λ b. not (part_refers p) && b) (parts_holes ps)
      ∙ not_or (part_refers p) (list_refers ps)

  list_holes : (ps : List Part) → no_hole (list_draft five e place (kinds_of true) ps).holes ≡ not (list_refers ps)
  list_holes ps =
      no_hole-then (parts_draft five e place (kinds_of true) ps) (close_draft five (kinds_of true) e.address_size)
      ∙ and_true (no_hole (parts_draft five e place (kinds_of true) ps).holes)
      ∙ parts_holes ps

  lists_holes : (xs : List (List Part)) → no_hole (drafts_of_lists five e place (kinds_of true) xs).holes ≡ not (lists_refer xs)
  lists_holes [] = refl
  lists_holes (x ∷ xs) =
      no_hole-then (list_draft five e place (kinds_of true) x) (drafts_of_lists five e place (kinds_of true) xs)
      ∙ ap (λ b. b && no_hole (drafts_of_lists five e place (kinds_of true) xs).holes) (list_holes x)
      ∙ ap (λ b. not (list_refers x) && b) (lists_holes xs)
      ∙ not_or (list_refers x) (lists_refer xs)

module _ (e : Encoding) (place : ℕ → Option ℕ) where
  table_holes : (five : Bool) (xs : List (List Part)) → no_hole (table_by true e place five xs).holes ≡ not (lists_refer xs)
  table_holes five [] = refl
  table_holes true (x ∷ xs) =
      let ys = x ∷ xs in
      let body = body_draft true e place ys in
      let words = words_draft e.format (entries_of true e place ys) in
      let lists = drafts_of_lists true e place (kinds_of true) ys in
      no_hole-then (length_draft e.format body.size) body
      ∙ no_hole-then (fields_draft e.address_size (length ys)) (then_draft words lists)
      ∙ no_hole-then words lists
      ∙ ap (λ b. b && no_hole lists.holes) (words_holes e.format (entries_of true e place ys))
      ∙ lists_holes true e place ys
  table_holes false (x ∷ xs) = lists_holes false e place (x ∷ xs)

  -- the part of a table in a section
  pub part_holes_in : (xs : List (List Location)) (five : Bool) → no_hole (lists_part e place xs five).holes ≡ (if is_own_section five e then not (lists_refer (locations_in xs)) else true)
  part_holes_in xs five = by_section (is_own_section five e)
    where
      by_section : (b : Bool) → no_hole (if b then table_draft true e place (locations_in xs) else no_draft).holes ≡ (if b then not (lists_refer (locations_in xs)) else true)
      by_section true = table_holes (is_five e) (locations_in xs)
      by_section false = refl
