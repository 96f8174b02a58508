-- What the steps that write a tree come to.
use Rattle.std.specs.Prelude.{◌≡◌, ◌≢◌, ℕ, ◌+◌, ◌<◌, ◌^◌, Bool, true, false, not, ◌||◌, List, [], length, refl, map, IsTrue, IsFalse}
use Rattle.std.proofs.Common.{sym, ◌∙◌, ap, subst, arith, inl, inr}
use Rattle.dw_base.specs.Abbreviations.{Shape}
use Rattle.dw_base.specs.Entries.{Mark, is_one_tree}
use Rattle.dw_base.specs.Numbers.{length_fits, word_of}
use Rattle.dw_base.specs.Spellable.{AreDeclarations}
use Rattle.dw_base.specs.Spelling.{header_size, table_bytes}
use Rattle.dw_base.specs.declared.common.Encoding.{Encoding}
use Rattle.dw_base.specs.declared.error.Error.{Error}
use Rattle.dw_base.specs.declared.error.Error.TheVariants as errors
use Rattle.dw_writer.specs.Causes.{offset_fits}
use Rattle.dw_writer.specs.Drafts.{then_draft}
use Rattle.dw_writer.specs.Meaning.{Meaning, Adds}
use Rattle.dw_abbrev.specs.Codes.{declarations}
use Rattle.dw_entries.specs.Entries.{EntryValue, entry_at}
use Rattle.dw_entries.specs.Targets.{UnitTargets}
use Rattle.dw_entries.specs.Tree.{preorder, children_in}
use Rattle.dw_entries.proofs.Tagged.{root_within}
use Rattle.dw_entries.proofs.TreeLaws.{preorder_one_tree}
use Rattle.dw_entries.specs.Targets.{Tables}
use Rattle.dw_tree.specs.Causes.{Because, TreeFails, LayoutRefused}
use Rattle.dw_tree.specs.Early.{is_forward, tree_is_forward}
use Rattle.dw_tree.specs.Places.{Placement, targets_of}
use Rattle.dw_tree.specs.UnitFaults.{is_encodable, header_fails, marks_fail, unit_fails}
use Rattle.dw_tree.specs.UnitText.{tree_draft, unit_draft, unit_length}
use Rattle.dw_tree.specs.Valid.{IsWritableTree}
use Rattle.dw_tree.specs.Whole.{tree_shapes, tree_declared, tree_size, tree_table, IsTreePlacement, TreeHasNoRoom}
use Rattle.dw_tree.proofs.EarlyLaws.{forward_quiet}
use Rattle.dw_tree.proofs.ReadMarks.{tree_draft-size}
use Rattle.dw_tree.proofs.TreeSteps.{header_fault, marks_fault, in_header}

-- the shapes that were found are the tree's
pub table_added : {m0 m1 : Meaning} (e : Encoding) (es : List EntryValue) (shapes : List Shape) → shapes ≡ tree_shapes e es →
    Adds m0 m1 (table_bytes (declarations shapes)) → Adds m0 m1 (tree_table e es)
table_added {m0} {m1} e es shapes is h = subst (λ t. Adds m0 m1 (table_bytes (declarations t))) is h

pub table_declared : (e : Encoding) (es : List EntryValue) (shapes : List Shape) → shapes ≡ tree_shapes e es → AreDeclarations (declarations shapes) → AreDeclarations (tree_declared e es)
table_declared e es shapes is h = subst (λ t. AreDeclarations (declarations t)) is h

-- the entries are one tree, of no more marks than there are items
pub tree_is_one : (es : List EntryValue) → (entry_at es 0).tag ≢ 0 → IsTrue (is_one_tree (map (children_in es) (preorder es)))
tree_is_one es tag = preorder_one_tree es (root_within es tag)

pub tree_few : (es : List EntryValue) (ms : List (Mark ℕ)) (n : ℕ) → ms ≡ preorder es → n ≡ length ms → n < 2 ^ 64 → length (preorder es) < 2 ^ 64
tree_few es ms n tree count few = omega (arith, count, ap length tree)

first : (a b : Bool) → IsFalse (a || b) → IsFalse a
first true b h = absurd (let x : true ≡ false = h in cc)
first false b h = refl

not_false : (b : Bool) → IsFalse (not b) → IsTrue b
not_false true h = refl
not_false false h = absurd (let x : true ≡ false = h in cc)

second : (a b : Bool) → IsFalse (a || b) → IsFalse b
second true b h = absurd (let x : true ≡ false = h in cc)
second false b h = h

module _ (e : Encoding) (es : List EntryValue) (t : Tables) (p : Placement) (placed : IsTreePlacement e es p) (table : ℕ) (plain : Bool) where
  -- the length that is told is that of the sizes
  length_is : unit_length e (tree_draft e es (targets_of t p)).size ≡ unit_length e (tree_size e es p.place)
  length_is = ap (unit_length e) (tree_draft-size e es t p)

  -- a tree without a fault where its entries stand can be written
  pub tree_writable : IsTrue (is_encodable e) → ((err : Error) → IsFalse (tree_is_forward e es err)) → (end : ℕ) → end ≡ header_size e + tree_size e es p.place → end < 2 ^ 64 →
      IsTrue (length_fits e.format (unit_length e (tree_draft e es (targets_of t p)).size)) → ((err : Error) → IsFalse (unit_fails e es table (targets_of t p) plain err)) → IsWritableTree plain e es t
  tree_writable encodable early end is small fits sound = record {
    encodable = encodable;
    places = p;
    placed = placed;
    room = omega (arith, is);
    fits = ap (length_fits e.format) (sym length_is) ∙ fits;
    early = early;
    sound = λ err. second (header_fault e es table (targets_of t p) plain err) (marks_fault e es table (targets_of t p) plain (preorder es) err) (sound err);
  }

  -- a fault of the unit where its entries stand
  pub faulty : (err : Error) → IsTrue (unit_fails e es table (targets_of t p) plain err) → TreeFails e es t table plain err
  faulty err h = inr (inr (record { places = p; placed = placed; fails = h }))

  -- a length that is too long
  pub too_long_faulty : IsTrue (not (length_fits e.format (unit_length e (tree_size e es p.place)))) → TreeFails e es t table plain errors.InitialLengthOverflow
  too_long_faulty h =
      faulty errors.InitialLengthOverflow (in_header e es table (targets_of t p) plain errors.InitialLengthOverflow (ap (λ n. not (length_fits e.format n)) length_is ∙ h))

-- no size of the tree hangs on a later entry
pub tree_early : (e : Encoding) (es : List EntryValue) (ms : List (Mark ℕ)) → ms ≡ preorder es → ((err : Error) → IsFalse (is_forward e es [] ms err)) → (err : Error) → IsFalse (tree_is_forward e es err)
tree_early e es ms tree h err = subst (λ l. IsFalse (is_forward e es [] l err)) tree (h err)

-- no room for the entries, or a size that hangs on a later one
pub room_refused : (rise : Type 0) (e : Encoding) (es : List EntryValue) (t : Tables) (table : ℕ) (plain : Bool) (full : Type 0) → (full → TreeHasNoRoom e es) → (ms : List (Mark ℕ)) → ms ≡ preorder es →
    (err : Error) → LayoutRefused full (is_forward e es [] ms) err → Because rise (TreeFails e es t table plain) err
room_refused rise e es t table plain full f ms tree errors.NoMemory h = tt
room_refused rise e es t table plain full f ms tree errors.ValueTooLarge h = inl (refl, f h)
room_refused rise e es t table plain full f ms tree errors.WriteFault h = absurd (let k : true ≡ false = sym h ∙ forward_quiet e es [] ms in cc)
room_refused rise e es t table plain full f ms tree err h = inr (inl (subst (λ l. IsTrue (is_forward e es [] l err)) tree h))

-- the place of the table of a unit without a fault has room
pub place_fits : (e : Encoding) (es : List EntryValue) (table : ℕ) (u : UnitTargets) (plain : Bool) → ((err : Error) → IsFalse (unit_fails e es table u plain err)) → IsTrue (offset_fits plain (word_of e.format) table)
place_fits e es table u plain sound =
    let h = first (header_fails e table plain (unit_length e (tree_draft e es u).size) errors.ValueTooLarge) (marks_fail e es u plain (preorder es) errors.ValueTooLarge) (sound errors.ValueTooLarge) in
    not_false (offset_fits plain (word_of e.format) table) h

-- a unit's draft has the bytes of its header and of its tree
pub unit_long : (e : Encoding) (es : List EntryValue) (t : Tables) (p : Placement) (table : ℕ) → (unit_draft e table (tree_draft e es (targets_of t p))).size ≡ header_size e + tree_size e es p.place
unfolding then_draft
unit_long e es t p table = ap (λ n. header_size e + n) (tree_draft-size e es t p)
