-- What a section of range lists or location lists tells (DWARF 4, 2.6.2, 2.17.3, 7.7.3 and 7.23; DWARF 5, 2.6.2, 2.17.3, 7.7.3 and 7.25 to 7.29).
use Rattle.std.specs.Prelude.{ℕ, zero, suc, ◌+◌, ◌-◌, ◌*◌, ◌^◌, Bool, true, false, ◌&&◌, ◌==◌, List, [], ◌∷◌, length, drop, Option, Some, None, if◌then◌else◌}
use Rattle.dw_base.specs.Numbers.{Parser, ◌>>=◌, bytes_at, number_at, word_of}
use Rattle.dw_base.specs.Leb128.{uleb_at}
use Rattle.dw_base.specs.declared.common.Encoding.{Encoding}
use Rattle.dw_base.specs.declared.constants.TheConstants.{DW_RLE_end_of_list, DW_RLE_base_addressx, DW_RLE_startx_endx, DW_RLE_startx_length, DW_RLE_offset_pair, DW_RLE_base_address, DW_RLE_start_end, DW_RLE_start_length}
use Rattle.dw_base.specs.declared.constants.TheConstants.{DW_LLE_end_of_list, DW_LLE_base_addressx, DW_LLE_startx_endx, DW_LLE_startx_length, DW_LLE_offset_pair, DW_LLE_default_location, DW_LLE_base_address, DW_LLE_start_end, DW_LLE_start_length}

-- the addresses of an item, in numbers
pub data Span : Type 0 where
  -- what pairs count from
  Base : ℕ → Span
  -- begin and end
  Pair : ℕ → ℕ → Span
  StartEnd : ℕ → ℕ → Span
  StartLength : ℕ → ℕ → Span
  -- all that no other item has
  Default : Span
  -- the same by indices of addresses
  BaseIndex : ℕ → Span
  IndexEnd : ℕ → ℕ → Span
  IndexLength : ℕ → ℕ → Span

-- an item, with the bytes of its expression
pub record Item : Type 0 where
  pub span : Span
  pub expression : Option (List ℕ)

-- an item that may be the close, and more items where it isn't
abbrev pub more_at : {A : Type 0} → Parser (List A) → Option A → Parser (List A)
more_at p None bytes = Some ([], bytes)
more_at p (Some x) bytes = p bytes >>= λ more. Some (x ∷ more.0, more.1)

-- items up to the close
unfoldable pub items_up_to : {A : Type 0} → Parser (Option A) → ℕ → Parser (List A)
items_up_to p zero bytes = None
items_up_to p (suc fuel) bytes = p bytes >>= λ x. more_at (items_up_to p fuel) x.0 x.1

-- all bits one: where this stands for the first number up to version 4, the second one is a base
abbrev pub marker : ℕ → ℕ
marker w = 256 ^ w - 1

-- what two numbers are up to version 4: two zeros are the close
abbrev pub old_span : ℕ → ℕ → ℕ → Option Span
old_span w a b = if (a == 0) && (b == 0) then None else Some (if a == marker w then Base b else Pair a b)

unfoldable pub old_span_at : Bool → ℕ → Parser (Option Span)
old_span_at big w bytes = number_at big w bytes >>= λ a. number_at big w a.1 >>= λ b. Some (old_span w a.0 b.0, b.1)

abbrev pub one : Parser ℕ → (ℕ → Span) → Parser (Option Span)
one p f bytes = p bytes >>= λ a. Some (Some (f a.0), a.1)

abbrev pub two : Parser ℕ → Parser ℕ → (ℕ → ℕ → Span) → Parser (Option Span)
two p q f bytes = p bytes >>= λ a. q a.1 >>= λ b. Some (Some (f a.0 b.0), b.1)

-- the items of range lists of version 5 by their kinds; no others are known
abbrev pub range_kind_at : Bool → ℕ → ℕ → Parser (Option Span)
range_kind_at big w kind bytes =
    if kind == DW_RLE_end_of_list.0 then Some (None, bytes)
    else if kind == DW_RLE_base_addressx.0 then one uleb_at BaseIndex bytes
    else if kind == DW_RLE_startx_endx.0 then two uleb_at uleb_at IndexEnd bytes
    else if kind == DW_RLE_startx_length.0 then two uleb_at uleb_at IndexLength bytes
    else if kind == DW_RLE_offset_pair.0 then two uleb_at uleb_at Pair bytes
    else if kind == DW_RLE_base_address.0 then one (number_at big w) Base bytes
    else if kind == DW_RLE_start_end.0 then two (number_at big w) (number_at big w) StartEnd bytes
    else if kind == DW_RLE_start_length.0 then two (number_at big w) uleb_at StartLength bytes
    else None

-- and those of location lists
abbrev pub location_kind_at : Bool → ℕ → ℕ → Parser (Option Span)
location_kind_at big w kind bytes =
    if kind == DW_LLE_end_of_list.0 then Some (None, bytes)
    else if kind == DW_LLE_base_addressx.0 then one uleb_at BaseIndex bytes
    else if kind == DW_LLE_startx_endx.0 then two uleb_at uleb_at IndexEnd bytes
    else if kind == DW_LLE_startx_length.0 then two uleb_at uleb_at IndexLength bytes
    else if kind == DW_LLE_offset_pair.0 then two uleb_at uleb_at Pair bytes
    else if kind == DW_LLE_default_location.0 then Some (Some Default, bytes)
    else if kind == DW_LLE_base_address.0 then one (number_at big w) Base bytes
    else if kind == DW_LLE_start_end.0 then two (number_at big w) (number_at big w) StartEnd bytes
    else if kind == DW_LLE_start_length.0 then two (number_at big w) uleb_at StartLength bytes
    else None

abbrev pub kind_at : Bool → Bool → ℕ → ℕ → Parser (Option Span)
kind_at true big w kind = location_kind_at big w kind
kind_at false big w kind = range_kind_at big w kind

unfoldable pub new_span_at : Bool → Bool → ℕ → Parser (Option Span)
new_span_at loc big w [] = None
new_span_at loc big w (kind ∷ bytes) = kind_at loc big w kind bytes

-- the addresses in version 5 or before it, in a location list or a range list
abbrev pub span_at : Bool → Bool → Bool → ℕ → Parser (Option Span)
span_at true loc big w = new_span_at loc big w
span_at false loc big w = old_span_at big w

-- in a location list all items but bases have an expression
abbrev pub is_located : Bool → Span → Bool
is_located false s = false
is_located true (Base n) = false
is_located true (BaseIndex n) = false
is_located true s = true

-- how many bytes an expression has, in two bytes up to version 4
abbrev pub count_at : Bool → Bool → Parser ℕ
count_at true big = uleb_at
count_at false big = number_at big 2

abbrev pub expression_at : Bool → Bool → Bool → Parser (Option (List ℕ))
expression_at false five big bytes = Some (None, bytes)
expression_at true five big bytes = count_at five big bytes >>= λ n. bytes_at n.0 n.1 >>= λ x. Some (Some x.0, x.1)

-- what stands behind an item's addresses
abbrev pub rest_at : Bool → Bool → Bool → Option Span → Parser (Option Item)
rest_at five loc big None bytes = Some (None, bytes)
rest_at five loc big (Some s) bytes = expression_at (is_located loc s) five big bytes >>= λ x. Some (Some (record { span = s; expression = x.0 }), x.1)

unfoldable pub item_at : Bool → Bool → Bool → ℕ → Parser (Option Item)
item_at five loc big w bytes = span_at five loc big w bytes >>= λ s. rest_at five loc big s.0 s.1

-- whether lists are those of version 5
abbrev pub is_five : Encoding → Bool
is_five e = e.version == 5

-- the items of the list at a place of a section, of location lists or of range lists
unfoldable pub items_at : Bool → Bool → Encoding → List ℕ → ℕ → Option (List Item)
items_at loc big e section place =
    items_up_to (item_at (is_five e) loc big e.address_size) (length (drop place section)) (drop place section) >>= λ x. Some x.0

-- the place of the list of a number: the base plus the word that stands so many words behind it (DWARF 5, 7.28 and 7.29)
unfoldable pub entry_at : Bool → Encoding → List ℕ → ℕ → ℕ → Option ℕ
entry_at big e section base number =
    number_at big (word_of e.format) (drop (base + number * word_of e.format) section) >>= λ x. Some (base + x.0)
