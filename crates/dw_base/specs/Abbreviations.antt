-- Abbreviation tables (DWARF 5, 7.5.3).
use Rattle.std.specs.Prelude.{ℕ, zero, suc, List, [], ◌∷◌, length, Option, Some, None, Bool, true, false, ◌&&◌, not, ◌==◌, ℤ, if◌then◌else◌}
use Rattle.dw_base.specs.Numbers.{Parser, ◌>>=◌, when}
use Rattle.dw_base.specs.Leb128.{uleb_at, uleb16_at, sleb_at}
use Rattle.dw_base.specs.Forms.{implicit_const}

-- an attribute in a declaration; the constant is there for the form implicit_const alone
pub record Specification : Type 0 where
  pub name : ℕ
  pub form : ℕ
  pub constant : Option ℤ

-- what entries of one code share
pub record Shape : Type 0 where
  pub tag : ℕ
  pub has_children : Bool
  pub attributes : List Specification

pub record Declaration : Type 0 where
  pub code : ℕ
  pub shape : Shape

-- the constant that implicit_const alone has
abbrev pub constant_at : ℕ → Parser (Option ℤ)
constant_at form bytes = if form == implicit_const then (sleb_at bytes >>= λ x. Some (Some x.0, x.1)) else Some (None, bytes)

-- names and forms up to two zeros; no other name is zero
unfoldable pub specifications_at : ℕ → Parser (List Specification)
specifications_at zero bytes = None
specifications_at (suc fuel) bytes =
    uleb16_at bytes >>= λ name. uleb16_at name.1 >>= λ form.
    if name.0 == 0 then when (form.0 == 0) (Some ([], form.1))
    else (constant_at form.0 form.1 >>= λ constant. specifications_at fuel constant.1 >>= λ more.
    Some (record { name = name.0; form = form.0; constant = constant.0 } ∷ more.0, more.1))

-- the byte that says whether an entry has children
abbrev pub children_at : Parser Bool
children_at [] = None
children_at (zero ∷ bs) = Some (false, bs)
children_at (suc zero ∷ bs) = Some (true, bs)
children_at (suc (suc n) ∷ bs) = None

-- a tag, which isn't zero, the byte on children, and the attributes
unfoldable pub shape_at : Parser Shape
shape_at bytes =
    uleb16_at bytes >>= λ tag. when (not (tag.0 == 0)) (children_at tag.1 >>= λ children. specifications_at (length children.1) children.1 >>= λ attributes.
    Some (record { tag = tag.0; has_children = children.0; attributes = attributes.0 }, attributes.1))

-- no declaration has the code
abbrev pub is_new_code : ℕ → List Declaration → Bool
is_new_code code [] = true
is_new_code code (d ∷ ds) = not (d.code == code) && is_new_code code ds

-- declarations up to the code zero, with codes that differ
unfoldable pub declarations_at : ℕ → Parser (List Declaration)
declarations_at zero bytes = None
declarations_at (suc fuel) bytes =
    uleb_at bytes >>= λ code. if code.0 == 0 then Some ([], code.1)
    else (shape_at code.1 >>= λ shape. declarations_at fuel shape.1 >>= λ more.
    when (is_new_code code.0 more.0) (Some (record { code = code.0; shape = shape.0 } ∷ more.0, more.1)))

-- one table
unfoldable pub table_at : Parser (List Declaration)
table_at bytes = declarations_at (length bytes) bytes

-- the shape that a code stands for
unfoldable pub shape_of_code : List Declaration → ℕ → Option Shape
shape_of_code [] code = None
shape_of_code (d ∷ ds) code = if d.code == code then Some d.shape else shape_of_code ds code
