-- Units of one tree are as long, and leave the same references open, whatever their operands lead to elsewhere.
use Rattle.std.specs.Prelude.{◌≡◌, ◌+◌, ◌++◌, List, [], ◌∷◌, ℕ, refl}
use Rattle.std.proofs.Common.{ap₂, subst}
use Rattle.dw_base.specs.Abbreviations.{Shape}
use Rattle.dw_base.specs.Entries.{Mark, Open, Null}
use Rattle.dw_base.specs.Spelling.{header_size}
use Rattle.dw_base.specs.declared.common.Encoding.{Encoding}
use Rattle.dw_writer.specs.Drafts.{Draft, shifted, no_draft, whole, then_draft}
use Rattle.dw_writer.specs.declared.fixup.DebugInfoFixup.{DebugInfoFixup}
use Rattle.dw_entries.specs.Entries.{EntryValue, entry_at}
use Rattle.dw_entries.specs.Targets.{Tables, UnitTargets}
use Rattle.dw_entries.specs.Tree.{preorder}
use Rattle.dw_entries.specs.Values.{value_draft}
use Rattle.dw_entries.specs.declared.attribute.Attribute.{Attribute}
use Rattle.dw_tree.specs.Coded.{code_at}
use Rattle.dw_tree.specs.Pending.{Kept, draft_of}
use Rattle.dw_tree.specs.Places.{Placement, targets_of}
use Rattle.dw_tree.specs.UnitText.{attributes_draft, sibling_draft, code_draft, coded_draft, marks_draft, tree_draft, header_text}
use Rattle.dw_tree.specs.Whole.{tree_shapes}

-- two drafts are as long, and leave the same references open
pub record IsAlike (d f : Draft) : Type 0 where
  pub size : d.size ≡ f.size
  pub holes : d.holes ≡ f.holes

pub alike_itself : (d : Draft) → IsAlike d d
alike_itself d = record { size = refl; holes = refl }

pub then_alike : (c d e f : Draft) → IsAlike c d → IsAlike e f → IsAlike (then_draft c e) (then_draft d f)
unfolding then_draft
then_alike c d e f p q = record {
  size = ap₂ (λ m n. m + n) p.size q.size;
  holes = ap₂ (λ (hs ks : List DebugInfoFixup). hs ++ ks) p.holes (ap₂ shifted p.size q.holes);
}

module _ (e : Encoding) (p : Placement) (s t : Tables) where
  abbrev one : UnitTargets
  one = targets_of s p

  abbrev other : UnitTargets
  other = targets_of t p

  attributes_alike : (xs : List Attribute) → IsAlike (attributes_draft e one xs) (attributes_draft e other xs)
  attributes_alike [] = alike_itself no_draft
  attributes_alike (a ∷ xs) = then_alike (value_draft e one a.value) (value_draft e other a.value) (attributes_draft e one xs) (attributes_draft e other xs) (record { size = refl; holes = refl }) (attributes_alike xs)

  module _ (es : List EntryValue) where
    mark_alike : (shapes : List Shape) (m : Mark ℕ) → IsAlike (coded_draft e es one shapes m) (coded_draft e es other shapes m)
    mark_alike shapes (Open i) =
        let x = entry_at es i in
        let code = code_draft (code_at e es shapes (Open i)) in
        let sibling = sibling_draft e (p.past i) x in
        then_alike code code (then_draft sibling (attributes_draft e one x.attributes)) (then_draft sibling (attributes_draft e other x.attributes)) (alike_itself code)
        (then_alike sibling sibling (attributes_draft e one x.attributes) (attributes_draft e other x.attributes) (alike_itself sibling) (attributes_alike x.attributes))
    mark_alike shapes Null = alike_itself _

    marks_alike : (shapes : List Shape) (ms : List (Mark ℕ)) → IsAlike (marks_draft e es one shapes ms) (marks_draft e es other shapes ms)
    marks_alike shapes [] = alike_itself no_draft
    marks_alike shapes (m ∷ ms) =
        then_alike (coded_draft e es one shapes m) (coded_draft e es other shapes m) (marks_draft e es one shapes ms) (marks_draft e es other shapes ms) (mark_alike shapes m) (marks_alike shapes ms)

    pub tree_alike : IsAlike (tree_draft e es one) (tree_draft e es other)
    tree_alike = marks_alike (tree_shapes e es) (preorder es)

-- units whose entries stand at one placement
pub unit_alike : (e : Encoding) (es : List EntryValue) (s t : Tables) (j k : Kept) → j.places ≡ k.places → IsAlike (draft_of e es s j) (draft_of e es t k)
unit_alike e es s t j k same =
    let body = tree_draft e es (targets_of s j.places) in
    let other = tree_draft e es (targets_of t k.places) in
    let own : IsAlike body other = subst (λ p. IsAlike body (tree_draft e es (targets_of t p))) same (tree_alike e j.places s t es) in
    then_alike (whole (header_size e) (header_text e j.starts.abbrevs body.size)) (whole (header_size e) (header_text e k.starts.abbrevs other.size)) body other (record { size = refl; holes = refl }) own
