-- Why lists have no spelling: a line for each item and error (DWARF 4, 2.6.2, 2.17.3, 7.7.3 and 7.23; DWARF 5, 7.4, 7.7.3,
-- 7.25, 7.28 and 7.29).
use Rattle.std.specs.Prelude.{ℕ, ◌+◌, ◌^◌, Bool, true, false, not, ◌&&◌, ◌||◌, ◌==◌, nat_lt, nat_le, List, [], ◌∷◌, length, Option, Some, None, IsTrue, IsFalse, pos, ◌+ℤ◌}
use Rattle.std.specs.List.{list_any}
use Rattle.dw_base.specs.Numbers.{is_width, fits, word_of, length_fits}
use Rattle.dw_base.specs.Leb128.{fits_i64}
use Rattle.dw_base.specs.declared.common.Encoding.{Encoding}
use Rattle.dw_base.specs.declared.common.Format.{Format}
use Rattle.dw_base.specs.declared.error.Error.{Error}
use Rattle.dw_base.specs.declared.error.Error.TheVariants as errors
use Rattle.dw_base.specs.declared.address.Address.{Address}
use Rattle.dw_base.specs.declared.address.Address.TheVariants.{Constant, Symbol}
use Rattle.dw_writer.specs.Contents.{Meaning}
use Rattle.dw_writer.specs.Causes.{HasRisen}
use Rattle.dw_lists.specs.declared.range.Range.{Range}
use Rattle.dw_lists.specs.declared.range.Range.TheVariants as built
use Rattle.dw_lists.specs.Equal.{address_eq}
use Rattle.dw_lists.specs.Items.{marker, is_five}
use Rattle.dw_lists.specs.Texts.{plus}
use Rattle.dw_lists.specs.Parts.{Part}
use Rattle.dw_lists.specs.Tables.{entries_of, body_draft}
use Rattle.dw_expr.specs.Trees.{Node}
use Rattle.dw_expr.specs.Places.{place_by}
use Rattle.dw_expr.specs.Spelling.{expression_size}
use Rattle.dw_expr.specs.Causes.{expression_fails}
use Rattle.dw_expr.specs.Causes as expressions

-- none of the errors has this cause
abbrev pub IsNone : (Error → Bool) → Type 0
IsNone fails = (e : Error) → IsFalse (fails e)

abbrev pub Is : (Error → Bool) → Error → Type 0
Is fails e = IsTrue (fails e)

-- a write is refused for want of memory, by a fault, or for a cause of its own
abbrev pub Refused : Meaning → Meaning → (Error → Type 0) → Error → Type 0
Refused old new cause errors.NoMemory = Unit {0}
Refused old new cause errors.WriteFault = HasRisen old new
Refused old new cause e = cause e

-- Numbers and addresses

abbrev pub width_fails : ℕ → Error → Bool
width_fails w (errors.UnsupportedWordSize n) = (n == w) && not (is_width w)
width_fails w e = false

abbrev pub number_fails : ℕ → ℕ → Error → Bool
number_fails w n (errors.UnsupportedWordSize k) = (k == w) && not (is_width w)
number_fails w n errors.ValueTooLarge = is_width w && not (fits w n)
number_fails w n e = false

-- a symbol can't stand in a plain writer
abbrev pub address_fails : Bool → ℕ → Address → Error → Bool
address_fails plain w (Constant n) e = number_fails w n e
address_fails true w (Symbol s a) errors.InvalidAddress = true
address_fails true w (Symbol s a) e = false
address_fails false w (Symbol s a) e = width_fails w e

-- the end of a length has 64 bits, a symbol's addend one of them for the sign
abbrev pub end_fails : Address → ℕ → Error → Bool
end_fails (Constant n) k errors.ValueTooLarge = not (nat_lt (n + k) (2 ^ 64))
end_fails (Symbol s a) k errors.ValueTooLarge = not (fits_i64 (a +ℤ pos k))
end_fails a k e = false

-- Items

abbrev pub is_base : Option Range → Bool
is_base (Some (built.BaseAddress a)) = true
is_base r = false

-- what would be read as the marker of a base
abbrev pub is_marker : ℕ → Address → Bool
is_marker w (Constant n) = n == marker w
is_marker w (Symbol s a) = false

-- up to version 4 an offset pair stands where a base is in force, and addresses stand where none is; equal ends could be
-- the close, and all ones a base
abbrev pub form_fails : Bool → ℕ → Range → Error → Bool
form_fails base w r (errors.UnsupportedWordSize n) = (n == w) && not (is_width w)
form_fails base w (built.OffsetPair m n) errors.MissingBaseAddress = not base
form_fails base w (built.OffsetPair m n) errors.InvalidRange = (m == n) || (m == marker w)
form_fails base w (built.StartEnd a b) errors.UnexpectedBaseAddress = base
form_fails base w (built.StartEnd a b) errors.InvalidRange = address_eq a b || is_marker w a
form_fails base w (built.StartLength a k) errors.UnexpectedBaseAddress = base
form_fails base w (built.StartLength a k) errors.InvalidRange = (k == 0) || is_marker w a
form_fails base w r e = false

-- the numbers of an item up to version 4
abbrev pub numbers_fail : Bool → ℕ → Range → Error → Bool
numbers_fail plain w (built.BaseAddress a) e = width_fails w e || address_fails plain w a e
numbers_fail plain w (built.OffsetPair m n) e = number_fails w m e || number_fails w n e
numbers_fail plain w (built.StartEnd a b) e = address_fails plain w a e || address_fails plain w b e
numbers_fail plain w (built.StartLength a k) e = end_fails a k e || (address_fails plain w a e || address_fails plain w (plus a k) e)

-- up to version 4 there is no default location
abbrev pub old_span_fails : Bool → Bool → ℕ → Option Range → Error → Bool
old_span_fails base plain w None errors.InvalidRange = true
old_span_fails base plain w None e = false
old_span_fails base plain w (Some r) e = form_fails base w r e || numbers_fail plain w r e

-- an item of version 5
abbrev pub new_fails : Bool → ℕ → Range → Error → Bool
new_fails plain w (built.BaseAddress a) e = address_fails plain w a e
new_fails plain w (built.OffsetPair m n) e = false
new_fails plain w (built.StartEnd a b) e = address_fails plain w a e || address_fails plain w b e
new_fails plain w (built.StartLength a k) e = address_fails plain w a e

abbrev pub new_span_fails : Bool → ℕ → Option Range → Error → Bool
new_span_fails plain w None e = false
new_span_fails plain w (Some r) e = new_fails plain w r e

-- sizes have 64 bits
abbrev pub size_fails : ℕ → Error → Bool
size_fails n errors.ValueTooLarge = nat_le (2 ^ 64) n
size_fails n e = false

-- up to version 4 the length of an expression has two bytes
abbrev pub count_of_fails : Bool → ℕ → Error → Bool
count_of_fails true n e = false
count_of_fails false n e = number_fails 2 n e

-- Lists, where these places of entries are given

module _ (e : Encoding) (known : Option (ℕ → Option ℕ)) where
  -- an expression without a size
  abbrev pub unsized : Option (List Node) → Error → Bool
  unsized None err = false
  unsized (Some x) err = expressions.size_fails e known x err

  -- nor a size of 64 bits
  abbrev pub unsized_in : ℕ → Option (List Node) → Error → Bool
  unsized_in n x err = size_fails n err || unsized x err

  abbrev pub parts_unsized : List Part → Error → Bool
  parts_unsized ps err = list_any (λ p. unsized p.expression err) ps

  abbrev pub lists_unsized : List (List Part) → Error → Bool
  lists_unsized xs err = list_any (λ x. parts_unsized x err) xs

  abbrev pub parts_unsized_in : ℕ → List Part → Error → Bool
  parts_unsized_in n ps err = size_fails n err || parts_unsized ps err

  abbrev pub lists_unsized_in : ℕ → List (List Part) → Error → Bool
  lists_unsized_in n xs err = size_fails n err || lists_unsized xs err

  module _ (plain : Bool) where
    -- an expression behind its length
    abbrev pub located_fails : Bool → Option (List Node) → Error → Bool
    located_fails five None err = false
    located_fails five (Some x) err = expression_fails e known true plain x err || count_of_fails five (expression_size e (place_by known) x) err

    abbrev pub old_fails : Bool → Part → Error → Bool
    old_fails base p err = old_span_fails base plain e.address_size p.range err || located_fails false p.expression err

    abbrev pub new_part_fails : Part → Error → Bool
    new_part_fails p err = new_span_fails plain e.address_size p.range err || located_fails true p.expression err

    -- items up to version 4, as bases come into force, and the close behind them
    abbrev pub old_list_fails : Bool → List Part → Error → Bool
    old_list_fails base [] err = width_fails e.address_size err
    old_list_fails base (p ∷ ps) err = old_fails base p err || old_list_fails (base || is_base p.range) ps err

    abbrev pub new_list_fails : List Part → Error → Bool
    new_list_fails ps err = list_any (λ p. new_part_fails p err) ps

    abbrev pub list_fails : Bool → Bool → List Part → Error → Bool
    list_fails true base ps err = new_list_fails ps err
    list_fails false base ps err = old_list_fails base ps err

    abbrev pub lists_fail : Bool → Bool → List (List Part) → Error → Bool
    lists_fail five base xs err = list_any (λ x. list_fails five base x err) xs

-- Tables

-- the number of offset entries has four bytes
abbrev pub count_fails : ℕ → Error → Bool
count_fails n errors.ValueTooLarge = nat_le (2 ^ 32) n
count_fails n e = false

abbrev pub length_fails : Format → ℕ → Error → Bool
length_fails format n errors.InitialLengthOverflow = not (length_fits format n)
length_fails format n e = false

-- offset entries are words
abbrev pub words_fail : Format → List ℕ → Error → Bool
words_fail format ns e = list_any (λ n. number_fails (word_of format) n e) ns

-- what stands before the lists, where so many bytes follow the length
abbrev pub head_fails : Format → ℕ → List ℕ → Error → Bool
head_fails format size ns e = size_fails size e || (length_fails format size e || words_fail format ns e)

abbrev pub is_supported : ℕ → Bool
is_supported v = nat_le 2 v && nat_le v 5

abbrev pub version_fails : ℕ → Error → Bool
version_fails v (errors.UnsupportedVersion n) = (n == v) && not (is_supported v)
version_fails v e = false

-- tables of location lists or of range lists
module _ (loc : Bool) (e : Encoding) (known : Option (ℕ → Option ℕ)) where
  -- what a table of version 5 has around its lists
  abbrev pub header_fails : List (List Part) → Error → Bool
  header_fails xs err =
      count_fails (length xs) err || (size_fails (body_draft loc e (place_by known) xs).size err
      || (length_fails e.format (body_draft loc e (place_by known) xs).size err || words_fail e.format (entries_of loc e (place_by known) xs) err))

  -- the lists have sizes before anything is written
  abbrev pub entries_fail : List (List Part) → Error → Bool
  entries_fail xs err = header_fails xs err || lists_unsized e known xs err

  abbrev pub table_fails_by : Bool → Bool → Bool → List (List Part) → Error → Bool
  table_fails_by true base plain xs err = header_fails xs err || lists_fail e known plain true base xs err
  table_fails_by false base plain xs err = lists_fail e known plain false base xs err

  -- a table, with a base in force or without one; one without lists isn't written, whatever the version
  abbrev pub table_fails : Bool → Bool → List (List Part) → Error → Bool
  table_fails base plain [] err = false
  table_fails base plain (x ∷ xs) err = version_fails e.version err || table_fails_by (is_five e) base plain (x ∷ xs) err
