-- What is written of marks, in the words of the tree.
use Rattle.std.specs.Prelude.{◌≡◌, ℕ, Bool, List, [], IsTrue, IsFalse}
use Rattle.std.proofs.Common.{◌∙◌, ap, subst}
use Rattle.std.proofs.lemmas.Bool.{or_left, or_right}
use Rattle.dw_base.specs.Entries.{Mark}
use Rattle.dw_base.specs.Numbers.{length_fits}
use Rattle.dw_base.specs.declared.common.Encoding.{Encoding}
use Rattle.dw_base.specs.declared.error.Error.{Error}
use Rattle.dw_writer.specs.Meaning.{Meaning}
use Rattle.dw_writer.specs.Drafts.{Drafts}
use Rattle.dw_writer.specs.declared.fixup.DebugInfoFixup.{DebugInfoFixup}
use Rattle.dw_writer.proofs.WriteLaws.{Drafts-is}
use Rattle.dw_entries.specs.Entries.{EntryValue}
use Rattle.dw_entries.specs.Targets.{UnitTargets}
use Rattle.dw_entries.specs.Tree.{preorder}
use Rattle.dw_tree.specs.Coded.{shapes_of}
use Rattle.dw_tree.specs.UnitFaults.{fields_fail, header_fails, marks_fail, unit_fails}
use Rattle.dw_tree.specs.UnitText.{marks_draft, tree_draft, unit_length}
use Rattle.dw_tree.specs.Whole.{tree_shapes}
use Rattle.dw_tree.proofs.DistinctShapes.{tree_shapes-found}
use Rattle.dw_tree.proofs.Faults.{neither}
use Rattle.dw_tree.proofs.UnitSteps.{header_sound}

-- the marks of a tree, with the shapes that were found
pub tree_drafted : {a b : Meaning} {x y : List DebugInfoFixup} (e : Encoding) (es : List EntryValue) (u : UnitTargets) (ms : List (Mark ℕ)) → ms ≡ preorder es →
    Drafts a b x y (marks_draft e es u (shapes_of e es [] ms) ms) → Drafts a b x y (tree_draft e es u)
tree_drafted e es u ms tree h =
    Drafts-is h (ap (λ ss. marks_draft e es u ss ms) (tree_shapes-found e es ms tree) ∙ ap (marks_draft e es u (tree_shapes e es)) tree)

module _ (e : Encoding) (es : List EntryValue) (table : ℕ) (u : UnitTargets) (plain : Bool) where
  abbrev long : ℕ
  long = unit_length e (tree_draft e es u).size

  abbrev pub header_fault : Error → Bool
  header_fault err = header_fails e table plain long err

  abbrev pub marks_fault : List (Mark ℕ) → Error → Bool
  marks_fault ms err = marks_fail e es u plain ms err

  -- a fault of the header or of a value is one of the unit
  pub in_header : (err : Error) → IsTrue (header_fault err) → IsTrue (unit_fails e es table u plain err)
  in_header err h = or_left (header_fault err) (marks_fault (preorder es) err) h

  pub in_marks : (ms : List (Mark ℕ)) → ms ≡ preorder es → (err : Error) → IsTrue (marks_fault ms err) → IsTrue (unit_fails e es table u plain err)
  in_marks ms tree err h =
      or_right (header_fault err) (marks_fault (preorder es) err) (subst (λ l. IsTrue (marks_fault l err)) tree h)

  -- a unit without a fault
  pub unit_sound : (ms : List (Mark ℕ)) → ms ≡ preorder es → ((err : Error) → IsFalse (fields_fail e table plain err)) → IsTrue (length_fits e.format long) → ((err : Error) → IsFalse (marks_fault ms err)) → (err : Error) → IsFalse (unit_fails e es table u plain err)
  unit_sound ms tree fields fits sound err =
      neither (header_fault err) (marks_fault (preorder es) err) (header_sound e table plain long fields fits err) (subst (λ l. IsFalse (marks_fault l err)) tree (sound err))
