-- Abbreviation tables as dw_base's grammar has them, with the reason where it reads nothing (DWARF 5, 7.5.3).
use Rattle.std.specs.Prelude.{ℕ, zero, suc, List, [], ◌∷◌, ◌++◌, length, Option, Some, None, Bool, true, false, not, ◌==◌, Result, Ok, Err, ℤ, if◌then◌else◌}
use Rattle.dw_base.specs.Forms.{implicit_const}
use Rattle.dw_base.specs.Abbreviations.{Specification, Shape, Declaration, is_new_code}
use Rattle.dw_read.specs.Reading.{Read}
use Rattle.dw_read.specs.Reasons.{◌=>>◌, if_so, uleb_read, uleb16_read, sleb_read}
use Rattle.dw_read.specs.declared.error.ReadError.{ReadError}
use Rattle.dw_read.specs.declared.error.ReadError.TheVariants.{UnexpectedEof, AbbreviationTagZero, AttributeNameZero, BadHasChildren, DuplicateAbbreviationCode}

-- after an item: the items before it are all, or there are more
abbrev pub items_after : {A : Type 0} → (List A → Read (List A)) → List A → Option A × List ℕ → Result (List A × List ℕ) ReadError
items_after more before (None, bytes) = Ok (before, bytes)
items_after more before (Some x, bytes) = more (before ++ x ∷ []) bytes

-- Items up to one that says that there are no more, after those before them. Each takes a byte at least, so that there are no
-- more than bytes.
unfoldable pub items_read : {A : Type 0} → (List A → Read (Option A)) → ℕ → List A → Read (List A)
items_read one zero before bytes = Err UnexpectedEof
items_read one (suc fuel) before bytes = one before bytes =>> items_after (items_read one fuel) before

-- the constant that implicit_const alone has
unfoldable pub constant_read : ℕ → Read (Option ℤ)
constant_read form bytes = if form == implicit_const then (sleb_read bytes =>> λ x. Ok (Some x.0, x.1)) else Ok (None, bytes)

-- a name, a form and its constant, or the two zeros that close a declaration
unfoldable pub specification_read : Read (Option Specification)
specification_read bytes =
    uleb16_read bytes =>> λ name. uleb16_read name.1 =>> λ form.
    if name.0 == 0 then if_so (form.0 == 0) AttributeNameZero (Ok (None, form.1))
    else (constant_read form.0 form.1 =>> λ constant. Ok (Some (record { name = name.0; form = form.0; constant = constant.0 }), constant.1))

abbrev pub specifications_read : Read (List Specification)
specifications_read bytes = items_read (λ before. specification_read) (length bytes) [] bytes

-- the byte that says whether an entry has children
unfoldable pub children_read : Read Bool
children_read [] = Err UnexpectedEof
children_read (zero ∷ bs) = Ok (false, bs)
children_read (suc zero ∷ bs) = Ok (true, bs)
children_read (suc (suc n) ∷ bs) = Err (BadHasChildren (suc (suc n)))

-- a tag, which isn't zero, the byte on children, and the attributes
unfoldable pub shape_read : Read Shape
shape_read bytes =
    uleb16_read bytes =>> λ tag. if_so (not (tag.0 == 0)) AbbreviationTagZero (children_read tag.1 =>> λ children. specifications_read children.1 =>> λ attributes.
    Ok (record { tag = tag.0; has_children = children.0; attributes = attributes.0 }, attributes.1))

-- a declaration whose code stands in none before it, or the zero that closes a table
unfoldable pub declaration_read : List Declaration → Read (Option Declaration)
declaration_read before bytes =
    uleb_read bytes =>> λ code. if code.0 == 0 then Ok (None, code.1)
    else (shape_read code.1 =>> λ shape. if_so (is_new_code code.0 before) (DuplicateAbbreviationCode code.0) (Ok (Some (record { code = code.0; shape = shape.0 }), shape.1)))

-- one table
unfoldable pub table_read : Read (List Declaration)
table_read bytes = items_read declaration_read (length bytes) [] bytes
