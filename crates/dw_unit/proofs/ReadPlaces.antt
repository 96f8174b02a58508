-- The entries of a tree are read where they were laid out, whatever is read of their operands.
use Rattle.std.specs.Prelude.{◌==◌, if◌then◌else◌}
use Rattle.std.proofs.Common.{◌≡◌, ◌∙◌, sym, ap, subst, ℕ, zero, suc, ◌+◌, ◌-◌, Bool, true, false, List, [], ◌∷◌, length, map, Some, refl, arith}
use Rattle.std.proofs.lemmas.Bool.{eq-eqb, ne_eqb}
use Rattle.std.proofs.lemmas.Option.{same_Some}
use Rattle.std.proofs.Math.Path.{fun_ext}
use Rattle.dw_base.specs.Abbreviations.{Shape}
use Rattle.dw_base.specs.Entries.{ReadEntry, Mark, Open, Null, Row, next_depth, children_of, behind_read}
use Rattle.dw_base.specs.Spelling.{header_size, mark_bytes, rows_of}
use Rattle.dw_base.specs.declared.common.Encoding.{Encoding}
use Rattle.dw_base.proofs.NumberLaws.{bind_parts}
use Rattle.dw_writer.specs.Drafts.{Info}
use Rattle.dw_writer.specs.Layout.{Layout}
use Rattle.dw_entries.specs.Entries.{EntryValue, is_parent, entry_at}
use Rattle.dw_entries.specs.Targets.{Targets, targets_in}
use Rattle.dw_entries.specs.Tree.{preorder, children_in}
use Rattle.dw_entries.specs.Targets.{Tables}
use Rattle.dw_tree.specs.Built.{place_read, past_read, placement_read}
use Rattle.dw_tree.specs.Coded.{code_of_entry}
use Rattle.dw_tree.specs.Laid.{entry_size, size_of, place_from, behind_from, past_from}
use Rattle.dw_tree.specs.Places.{Placement, targets_of, IsSamePlacement}
use Rattle.dw_tree.specs.Read.{read_coded, read_marks, read_tree}
use Rattle.dw_tree.specs.Whole.{tree_shapes, IsTreePlacement}
use Rattle.dw_tree.proofs.ReadMarks.{mark_children, mark_size}

-- places that are the same under each index are equal
pub placement-same : (p q : Placement) → IsSamePlacement p q → p ≡ q
placement-same p q same =
    ap (λ f. let x : Placement = record { place = f; past = p.past } in x) (fun_ext same.place)
    ∙ ap (λ f. let x : Placement = record { place = q.place; past = f } in x) (fun_ext same.past)

-- the marks of rows are those that were spelled
pub marks-rows_of : (big : Bool) (e : Encoding) (from depth : ℕ) (ms : List (Mark ReadEntry)) → map (λ row. row.mark) (rows_of big e from depth ms) ≡ ms
unfolding rows_of
marks-rows_of big e from depth [] = refl
marks-rows_of big e from depth (m ∷ ms) =
    ap (λ rest. m ∷ rest) (marks-rows_of big e (from + length (mark_bytes big e m)) (next_depth m depth) ms)

-- Of a mark nothing matters but its size, and whether it has children.
module _ (big : Bool) (e : Encoding) (size : ℕ → ℕ) (es : List EntryValue) where
  -- what is read of a mark has its size, and tells whether it has children
  abbrev pub IsReadMark : Mark ℕ → Mark ReadEntry → Type 0
  IsReadMark (Open j) (Open x) = (x.has_children ≡ is_parent es j) × (length (mark_bytes big e (Open x)) ≡ size j)
  IsReadMark Null Null = Unit {0}
  IsReadMark (Open j) Null = ⊥
  IsReadMark Null (Open x) = ⊥

  abbrev pub AreReadMarks : List (Mark ℕ) → List (Mark ReadEntry) → Type 0
  AreReadMarks [] [] = Unit {0}
  AreReadMarks [] (r ∷ rs) = ⊥
  AreReadMarks (m ∷ ms) [] = ⊥
  AreReadMarks (m ∷ ms) (r ∷ rs) = IsReadMark m r × AreReadMarks ms rs

  -- the rows from a place on, at a depth
  abbrev rows : ℕ → ℕ → List (Mark ReadEntry) → List Row
  rows at depth rs = rows_of big e at depth rs

  -- an entry is read at its place
  pub place_read-rows_of : (ms : List (Mark ℕ)) (rs : List (Mark ReadEntry)) (at depth i : ℕ) → AreReadMarks ms rs → place_read ms (rows_of big e at depth rs) i ≡ place_from size es at ms i
  unfolding rows_of
  place_read-rows_of [] [] at depth i h = refl
  place_read-rows_of [] (r ∷ rs) at depth i h = absurd h
  place_read-rows_of (m ∷ ms) [] at depth i h = absurd h
  place_read-rows_of (Open j ∷ ms) (Null ∷ rs) at depth i h = absurd h.0
  place_read-rows_of (Null ∷ ms) (Open x ∷ rs) at depth i h = absurd h.0
  place_read-rows_of (Open j ∷ ms) (Open x ∷ rs) at depth i h =
      let next = next_depth (Open x) depth in
      ap (λ n. if j == i then at else n) (ap (λ n. place_read ms (rows (at + n) next rs) i) h.0.1 ∙ place_read-rows_of ms rs (at + size j) next i h.1)
  place_read-rows_of (Null ∷ ms) (Null ∷ rs) at depth i h = place_read-rows_of ms rs (at + 1) (depth - 1) i h.1

  -- the depth behind an entry, by the lists of children that are open
  deeper : (b : Bool) (level depth d : ℕ) → level ≡ suc (depth + d) → (if b then suc level else level) ≡ suc (depth + (if b then suc d else d))
  deeper true level depth d h = omega arith
  deeper false level depth d h = h

  -- With d lists of children open inside a list, the row that closes it is read where its mark was laid out.
  pub behind_read-rows_of : (ms : List (Mark ℕ)) (rs : List (Mark ReadEntry)) (at level depth d : ℕ) → level ≡ suc (depth + d) → AreReadMarks ms rs →
      behind_read (suc depth) (rows_of big e at level rs) ≡ behind_from size es d at ms
  unfolding rows_of
  behind_read-rows_of [] [] at level depth d h k = refl
  behind_read-rows_of [] (r ∷ rs) at level depth d h k = absurd k
  behind_read-rows_of (m ∷ ms) [] at level depth d h k = absurd k
  behind_read-rows_of (Open j ∷ ms) (Null ∷ rs) at level depth d h k = absurd k.0
  behind_read-rows_of (Null ∷ ms) (Open x ∷ rs) at level depth d h k = absurd k.0
  behind_read-rows_of (Open j ∷ ms) (Open x ∷ rs) at level depth d h k =
      let next : Bool → ℕ = λ b. if b then suc level else level in
      ap (λ (b : Bool). behind_read (suc depth) (rows (at + length (mark_bytes big e (Open x))) (if b then suc level else level) rs)) k.0.0
      ∙ ap (λ n. behind_read (suc depth) (rows (at + n) (next (is_parent es j)) rs)) k.0.1
      ∙ behind_read-rows_of ms rs (at + size j) (next (is_parent es j)) depth (if is_parent es j then suc d else d) (deeper (is_parent es j) level depth d h) k.1
  behind_read-rows_of (Null ∷ ms) (Null ∷ rs) at level depth zero h k =
      ap (λ (b : Bool). if b then at + 1 else behind_read (suc depth) (rows (at + 1) (level - 1) rs)) (eq-eqb level (suc depth) (omega arith))
  behind_read-rows_of (Null ∷ ms) (Null ∷ rs) at level depth (suc d) h k =
      ap (λ (b : Bool). if b then at + 1 else behind_read (suc depth) (rows (at + 1) (level - 1) rs)) (ne_eqb level (suc depth) (λ same. omega arith))
      ∙ behind_read-rows_of ms rs (at + 1) (level - 1) depth d (omega arith) k.1

  -- the place past an entry, of which the marks behind it begin at a place
  past_one : (b : Bool) (ms : List (Mark ℕ)) (rs : List (Mark ReadEntry)) (to depth : ℕ) → AreReadMarks ms rs →
      (if b then behind_read (suc depth) (rows to (if b then suc depth else depth) rs) else to) ≡ (if b then behind_from size es 0 to ms else to)
  past_one true ms rs to depth h = behind_read-rows_of ms rs to (suc depth) depth 0 (omega arith) h
  past_one false ms rs to depth h = refl

  -- the place past an entry is read where the marks past it begin
  pub past_read-rows_of : (ms : List (Mark ℕ)) (rs : List (Mark ReadEntry)) (at depth i : ℕ) → AreReadMarks ms rs → past_read ms (rows_of big e at depth rs) i ≡ past_from size es at ms i
  unfolding rows_of
  past_read-rows_of [] [] at depth i h = refl
  past_read-rows_of [] (r ∷ rs) at depth i h = absurd h
  past_read-rows_of (m ∷ ms) [] at depth i h = absurd h
  past_read-rows_of (Open j ∷ ms) (Null ∷ rs) at depth i h = absurd h.0
  past_read-rows_of (Null ∷ ms) (Open x ∷ rs) at depth i h = absurd h.0
  past_read-rows_of (Open j ∷ ms) (Open x ∷ rs) at depth i h =
      let to = at + size j in
      let own = length (mark_bytes big e (Open x)) in
      let next : ℕ = if is_parent es j then suc depth else depth in
      ap (λ (b : Bool). if j == i then (if b then behind_read (suc depth) (rows (at + own) (if b then suc depth else depth) rs) else at + own) else past_read ms (rows (at + own) (if b then suc depth else depth) rs) i) h.0.0
      ∙ ap (λ n. if j == i then (if is_parent es j then behind_read (suc depth) (rows (at + n) next rs) else at + n) else past_read ms (rows (at + n) next rs) i) h.0.1
      ∙ ap (λ n. if j == i then n else past_read ms (rows to next rs) i) (past_one (is_parent es j) ms rs to depth h.1)
      ∙ ap (λ n. if j == i then (if is_parent es j then behind_from size es 0 to ms else to) else n) (past_read-rows_of ms rs to next i h.1)
  past_read-rows_of (Null ∷ ms) (Null ∷ rs) at depth i h = past_read-rows_of ms rs (at + 1) (depth - 1) i h.1

module _ (big : Bool) (e : Encoding) (t : Targets) (es : List EntryValue) (shapes : List Shape) where
  abbrev entry_sizes : ℕ → ℕ
  entry_sizes i = entry_size e t.place (code_of_entry e es shapes i) (entry_at es i)

  read_mark_is : (m : Mark ℕ) (r : Mark ReadEntry) → children_of r ≡ children_in es m → length (mark_bytes big e r) ≡ size_of entry_sizes es m → IsReadMark big e entry_sizes es m r
  read_mark_is (Open j) (Open x) c s = (cc, s)
  read_mark_is (Open j) Null c s = absurd (cc)
  read_mark_is Null (Open x) c s = absurd (cc)
  read_mark_is Null Null c s = tt

  -- marks that are read have the sizes that their targets give
  pub read_marks-are : (ms : List (Mark ℕ)) (rs : List (Mark ReadEntry)) → read_marks big e t es shapes ms ≡ Some rs →
      AreReadMarks big e (λ i. entry_size e t.place (code_of_entry e es shapes i) (entry_at es i)) es ms rs
  read_marks-are [] [] h = tt
  read_marks-are [] (r ∷ rs) h = absurd (cc)
  read_marks-are (m ∷ ms) rs h =
      let first = bind_parts (read_coded big e t es shapes m) _ rs h in
      let rest = bind_parts (read_marks big e t es shapes ms) _ rs first.2 in
      let own = read_mark_is m first.0 (mark_children big e t es shapes m first.0 first.1) (mark_size big e t es shapes m first.0 first.1) in
      subst (AreReadMarks big e entry_sizes es (m ∷ ms)) (same_Some (first.0 ∷ rest.0) rs rest.2) (own, read_marks-are ms rest.0 rest.1)

module _ (big : Bool) (e : Encoding) (es : List EntryValue) (t : Tables) (p : Placement) (l : Layout) (info : Info) (ms : List (Mark ReadEntry)) where
  -- Where the operands of a tree lead to the places of its entries, the rows of what is read of it tell these places.
  pub placement_read-rows_of : IsTreePlacement e es p → read_tree big e (targets_in (targets_of t p) l info) es ≡ Some ms →
      IsSamePlacement p (placement_read (preorder es) (rows_of big e (header_size e) 0 ms))
  placement_read-rows_of placed read =
      let to = targets_in (targets_of t p) l info in
      let shapes = tree_shapes e es in
      let are = read_marks-are big e to es shapes (preorder es) ms read in
      record {
        place = λ i. placed.place i ∙ sym (place_read-rows_of big e (entry_sizes big e to es shapes) es (preorder es) ms (header_size e) 0 i are);
        past = λ i. placed.past i ∙ sym (past_read-rows_of big e (entry_sizes big e to es shapes) es (preorder es) ms (header_size e) 0 i are);
      }

  pub placement-read : IsTreePlacement e es p → read_tree big e (targets_in (targets_of t p) l info) es ≡ Some ms → p ≡ placement_read (preorder es) (rows_of big e (header_size e) 0 ms)
  placement-read placed read = placement-same p _ (placement_read-rows_of placed read)

  -- the marks of these rows are what is read of the tree
  pub tree_marks : map (λ row. row.mark) (rows_of big e (header_size e) 0 ms) ≡ ms
  tree_marks = marks-rows_of big e (header_size e) 0 ms

  -- so the rows are read as a tree whose operands lead to the places that they tell themselves
  pub read_tree-rows_of : IsTreePlacement e es p → read_tree big e (targets_in (targets_of t p) l info) es ≡ Some ms →
      let rows = rows_of big e (header_size e) 0 ms in read_tree big e (targets_in (targets_of t (placement_read (preorder es) rows)) l info) es ≡ Some (map (λ row. row.mark) rows)
  read_tree-rows_of placed read =
      ap (λ (q : Placement). read_tree big e (targets_in (targets_of t q) l info) es) (sym (placement-read placed read)) ∙ read ∙ ap Some (sym tree_marks)
