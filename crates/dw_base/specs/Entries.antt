-- What stands in a unit after its header: entries, each with its children after it and a zero that closes them
-- (DWARF 5, 2.3 and 7.5.2).
use Rattle.std.specs.Prelude.{ℕ, zero, suc, ◌+◌, ◌-◌, List, [], ◌∷◌, length, Option, Some, None, Bool, true, false, ◌==◌, ℤ, if◌then◌else◌}
use Rattle.dw_base.specs.Numbers.{Parser, ◌>>=◌}
use Rattle.dw_base.specs.Leb128.{uleb_at}
use Rattle.dw_base.specs.Forms.{Operand, form_at}
use Rattle.dw_base.specs.Abbreviations.{Specification, Declaration, shape_of_code}
use Rattle.dw_base.specs.declared.common.Encoding.{Encoding}

-- an attribute of an entry, as it is read, with the form in which its operand stands
pub record ReadAttribute : Type 0 where
  pub name : ℕ
  pub form : ℕ
  pub constant : Option ℤ
  pub operand : Operand

-- an entry, as it is read
pub record ReadEntry : Type 0 where
  pub code : ℕ
  pub tag : ℕ
  pub has_children : Bool
  pub attributes : List ReadAttribute

-- an entry, or the null entry: the zero that closes a list of children (DWARF 5, 2.3)
pub data Mark (A : Type 0) : Type 0 where
  Open : A → Mark A
  Null : Mark A

-- from and to are the places in the unit where the row begins and ends
pub record Row : Type 0 where
  pub from : ℕ
  pub depth : ℕ
  pub mark : Mark ReadEntry
  pub to : ℕ

-- the operands of a declaration's attributes, in its order
unfoldable pub attributes_at : Bool → Encoding → List Specification → Parser (List ReadAttribute)
attributes_at big e [] bytes = Some ([], bytes)
attributes_at big e (s ∷ ss) bytes =
    form_at big e s.form bytes >>= λ x. attributes_at big e ss x.1 >>= λ more.
    Some (record { name = s.name; form = x.0.0; constant = s.constant; operand = x.0.1 } ∷ more.0, more.1)

-- a code, and the operands of its declaration
unfoldable pub mark_at : Bool → Encoding → List Declaration → Parser (Mark ReadEntry)
mark_at big e table bytes =
    uleb_at bytes >>= λ code. if code.0 == 0 then Some (Null, code.1)
    else (shape_of_code table code.0 >>= λ shape. attributes_at big e shape.attributes code.1 >>= λ x.
    Some (Open (record { code = code.0; tag = shape.tag; has_children = shape.has_children; attributes = x.0 }), x.1))

-- the depth of the next row
abbrev pub next_depth : Mark ReadEntry → ℕ → ℕ
next_depth (Open e) depth = if e.has_children then suc depth else depth
next_depth Null depth = depth - 1

-- the rows from a place on, up to the end of the bytes
unfoldable pub rows_at : ℕ → Bool → Encoding → List Declaration → ℕ → ℕ → List ℕ → Option (List Row)
rows_at fuel big e table from depth [] = Some []
rows_at zero big e table from depth (b ∷ bs) = None
rows_at (suc fuel) big e table from depth (b ∷ bs) =
    mark_at big e table (b ∷ bs) >>= λ x. let to = from + (length (b ∷ bs) - length x.1) in
    rows_at fuel big e table to (next_depth x.0 depth) x.1 >>= λ more.
    Some (record { from = from; depth = depth; mark = x.0; to = to } ∷ more)

-- with d lists of children open, the marks close the last one exactly where they end
unfoldable pub closes : ℕ → List (Mark Bool) → Bool
closes zero [] = true
closes zero (m ∷ ms) = false
closes (suc d) [] = false
closes (suc d) (Open true ∷ ms) = closes (suc (suc d)) ms
closes (suc d) (Open false ∷ ms) = closes (suc d) ms
closes (suc d) (Null ∷ ms) = closes d ms

-- one entry with all that is under it; each entry says whether it has children
unfoldable pub is_one_tree : List (Mark Bool) → Bool
is_one_tree [] = false
is_one_tree (Open true ∷ ms) = closes 1 ms
is_one_tree (Open false ∷ ms) = closes 0 ms
is_one_tree (Null ∷ ms) = false

abbrev pub children_of : Mark ReadEntry → Mark Bool
children_of (Open e) = Open e.has_children
children_of Null = Null

-- the row closes a list of children at a depth
abbrev pub is_closing : ℕ → Row → Bool
is_closing depth r = elim r.mark [ Open x ↦ false | Null ↦ r.depth == depth ]

-- the place behind the first row that closes a list of children at a depth
abbrev pub behind_read : ℕ → List Row → ℕ
behind_read depth [] = 0
behind_read depth (r ∷ rows) = if is_closing depth r then r.to else behind_read depth rows

-- the place past a row's entry, where these rows follow it: behind the zero that closes its children, or behind itself
abbrev pub past_row : Row → List Row → ℕ
past_row r rows = elim r.mark [ Open x ↦ (if x.has_children then behind_read (suc r.depth) rows else r.to) | Null ↦ r.to ]
