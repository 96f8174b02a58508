-- What writes of operands come to.
use Rattle.std.specs.Prelude.{◌≡◌, ℕ, Bool, true, false, ◌||◌, List, [], ◌∷◌, ◌++◌, Result, Ok, Err, OnOk, IfErr, None, refl, IsTrue}
use Rattle.std.proofs.Common.{sym, ◌∙◌, ap}
use Rattle.dw_base.specs.declared.common.Encoding.{Encoding}
use Rattle.dw_base.specs.declared.error.Error.{Error}
use Rattle.dw_writer.specs.Meaning.{Meaning, Layout}
use Rattle.dw_writer.specs.Drafts.{Draft, Drafts, IsDraft, shifted, open_text, filled}
use Rattle.dw_writer.specs.declared.fixup.DebugInfoFixup.{DebugInfoFixup}
use Rattle.dw_writer.proofs.Steps.{Appends-as}
use Rattle.dw_base.specs.declared.error.Error.TheVariants as errors
use Rattle.dw_expr.specs.Causes.{base_fails, node_unplaced, tree_unplaced, size_fails, nodes_fail, expression_fails}
use Rattle.dw_expr.specs.Operands.{Operand, Base, Place, operands}
use Rattle.std.specs.List.{list_any}
use Rattle.dw_frame_instructions.proofs.Steps.{or_here}
use Rattle.dw_expr.specs.Places.{Refused, place_by}
use Rattle.dw_expr.specs.Spelling.{expression_draft, starts_from, parts_of}
use Rattle.dw_expr.specs.Trees.{Node, Tree, plain, entry_value, nothing, before}
use Rattle.dw_frame_instructions.specs.Operands.{nowhere, expression_piece}
use Rattle.dw_frame_instructions.specs.Causes.{IsNone, Writes}

no_holes : (n : ℕ) (hs : List DebugInfoFixup) → [] ≡ [] ++ shifted n hs → hs ≡ []
no_holes n [] e = refl
no_holes n (h ∷ hs) e = cc

-- without references the open text is the text
whole_text : (d : Draft) → IsDraft d → d.holes ≡ [] → (big : Bool) (l : Layout) → open_text d big l ≡ d.text nowhere big l
whole_text d is e big l = sym (ap (λ hs. filled big nowhere hs (open_text d big l)) e) ∙ is.fills nowhere big l

pub Writes-expression : {T : Type 0} (r : Result T Error) (a b : Meaning) (e : Encoding) (is_plain : Bool) (ns : List Node) →
    OnOk r (Drafts a b [] [] (expression_draft e (place_by None) ns)) → OnOk r (IsNone (expression_fails e None false is_plain ns)) → IfErr r (Refused a b (expression_fails e None false is_plain ns)) →
    Writes r a b (expression_piece e ns) (expression_fails e None false is_plain ns)
Writes-expression (Ok x) a b e is_plain ns d s f =
    (Appends-as d.text refl (whole_text (expression_draft e (place_by None) ns) d.is (no_holes a.size (expression_draft e (place_by None) ns).holes d.fixups)), s)
Writes-expression (Err x) a b e is_plain ns d s f = f

-- sizes have no cause by which a writer fails

both_false : (a b : Bool) → a ≡ false → b ≡ false → (a || b) ≡ false
both_false true b e f = cc
both_false false b e f = f

none_any : {A : Type 0} (f : A → Bool) → ((x : A) → f x ≡ false) → (xs : List A) → list_any f xs ≡ false
none_any f h [] = refl
none_any f h (x ∷ xs) = both_false (f x) (list_any f xs) (h x) (none_any f h xs)

no_base_fault : (e : Encoding) (o : Operand) → base_fails e None o errors.WriteFault ≡ false
no_base_fault e (Base i) = refl
no_base_fault e (Place i) = refl
no_base_fault e o = refl

mutual
  node_quiet : (e : Encoding) (n : Node) → node_unplaced e None n errors.WriteFault ≡ false
  node_quiet e (plain p) = none_any (λ o. base_fails e None o errors.WriteFault) (no_base_fault e) (operands e p)
  node_quiet e (entry_value x) = tree_quiet e x

  tree_quiet : (e : Encoding) (x : Tree) → tree_unplaced e None x errors.WriteFault ≡ false
  tree_quiet e nothing = refl
  tree_quiet e (before n x) = both_false (node_unplaced e None n errors.WriteFault) (tree_unplaced e None x errors.WriteFault) (node_quiet e n) (tree_quiet e x)

size_quiet : (e : Encoding) (ns : List Node) → size_fails e None ns errors.WriteFault ≡ false
size_quiet e ns = none_any (λ n. node_unplaced e None n errors.WriteFault) (node_quiet e) ns

-- an expression without a size
pub size_refused : (a b : Meaning) (e : Encoding) (is_plain : Bool) (ns : List Node) (err : Error) → IsTrue (size_fails e None ns err) → Refused a b (expression_fails e None false is_plain ns) err
size_refused a b e is_plain ns err h =
    refused_by err (or_here (size_fails e None ns err) (nodes_fail e None false is_plain (starts_from 0 (parts_of e (place_by None) ns)) 0 ns err) h) h
  where
    refused_by : (err : Error) → IsTrue (expression_fails e None false is_plain ns err) → IsTrue (size_fails e None ns err) → Refused a b (expression_fails e None false is_plain ns) err
    refused_by errors.NoMemory k h = tt
    refused_by errors.WriteFault k h = absurd (let k : true ≡ false = sym h ∙ size_quiet e ns in cc)
    refused_by err k h = k
