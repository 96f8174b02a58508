-- A listing that was printed says, when it is read, what was printed.
use Rattle.std.proofs.Common.{◌≡◌, ◌∙◌, ℕ, ◌+◌, Bool, true, false, List, [], ◌∷◌, ◌++◌, length, get_or, Some, Ok, Err, bytes_eq, codes, decimal, refl, sym, ap, arith, append_assoc, append-nil, ◌==◌}
use Rattle.std.specs.List.{All, list_all, slice_split}
use Rattle.std.proofs.lemmas.Bool.Decides.{nat_tests}
use Rattle.std.proofs.lemmas.List.Elements.{All-append, All-cons, All-nil}
use Rattle.std.proofs.lemmas.List.Splits.{slice_split_at, slice_split_none}
use Rattle.hex.specs.Hex.{encode_lower}
use Rattle.dw_base.specs.SectionName.{section_name}
use Rattle.dw_base.specs.declared.section_id.SectionId.TheVariants.{DebugAbbrev, DebugStr, DebugLineStr, DebugLine, DebugRanges, DebugRngLists, DebugLoc, DebugLocLists, DebugInfo, DebugFrame, EhFrame}
use Rattle.dw_writer.specs.Contents.{Meaning}
use Rattle.dw_writer.specs.Sections.{EachWriter}
use Rattle.dw_writer.specs.declared.sections.Sections.{Sections}
use Rattle.dw_ends.specs.declared.line.Line.TheVariants.{Section}
use Rattle.dw_ends.specs.Fields.{Outcome, passed_over}
use Rattle.dw_ends.specs.Lines.{line_of, parsed_line, place_of}
use Rattle.dw_ends.specs.Listing.{AreBytes, Lists, hex_word, listing_of, order_line, order_named, read_of, section_line, told}
use Rattle.dw_ends.specs.Pieces.{pieces, space}
use Rattle.dw_ends.specs.Sections.{ListingValue, after_line, after_lines, empty_listing, sections_of, with_order, with_section}
use Rattle.dw_ends.proofs.Decimals.{decimal_read, decimal_visible}
use Rattle.dw_ends.proofs.HexWords.{hex_read, hex_visible}
use Rattle.dw_ends.proofs.Visible.{IsPrintable, IsVisible, all_pass, is_visible, no_newline, no_space, printed, tested}

-- a name that begins the line of the section at a place
record IsName (name : List ℕ) (place : ℕ) : Type 0 where
  visible : list_all is_visible name ≡ true
  begins : passed_over name ≡ false
  other : bytes_eq name (codes "order") ≡ false
  at : place_of name ≡ Some place

-- the line of a section, without its newline
abbrev line_text : List ℕ → List ℕ → List ℕ
line_text name bytes = name ++ 32 ∷ (decimal (length bytes) ++ hex_word bytes)

-- the lines of a text
abbrev lines_of : List ℕ → List (List ℕ)
lines_of text = slice_split (λ b. b == 10) text

word_printable : (bytes : List ℕ) → AreBytes bytes → All IsPrintable (hex_word bytes)
word_printable [] are = All-nil IsPrintable
word_printable (b ∷ bytes) are =
    let digits = encode_lower (b ∷ bytes) in
    All-cons IsPrintable 32 digits (omega arith, omega arith) (printed digits (hex_visible (b ∷ bytes) are.1))

line_printable : (name bytes : List ℕ) → All IsVisible name → AreBytes bytes → All IsPrintable (line_text name bytes)
line_printable name bytes visible are =
    let number = decimal (length bytes) in
    let rest = number ++ hex_word bytes in
    let digits = printed number (decimal_visible (length bytes) are.0) in
    let parts = All-append IsPrintable number (hex_word bytes) digits (word_printable bytes are) in
    All-append IsPrintable name (32 ∷ rest) (printed name visible) (All-cons IsPrintable 32 rest (omega arith, omega arith) parts)

begins_line : (name rest : List ℕ) → passed_over name ≡ false → passed_over (name ++ rest) ≡ false
begins_line [] rest e = cc
begins_line (b ∷ name) rest e = e

-- the fields after the name
abbrev after_name : List ℕ → List (List ℕ)
after_name [] = decimal 0 ∷ []
after_name (b ∷ bytes) = decimal (length (b ∷ bytes)) ∷ encode_lower (b ∷ bytes) ∷ []

number_fields : (bytes : List ℕ) → AreBytes bytes → pieces space (decimal (length bytes) ++ hex_word bytes) ≡ after_name bytes
number_fields [] are =
    rw (append-nil (decimal 0)) (slice_split_none (λ b. b == 32) (decimal 0) (no_space (decimal 0) (decimal_visible 0 are.0)))
number_fields (b ∷ bytes) are =
    let number = decimal (length (b ∷ bytes)) in
    let digits = encode_lower (b ∷ bytes) in
    let cut = slice_split_at (λ b. b == 32) number 32 digits (no_space number (decimal_visible (length (b ∷ bytes)) are.0)) refl in
    let last = slice_split_none (λ b. b == 32) digits (no_space digits (hex_visible (b ∷ bytes) are.1)) in
    cut ∙ ap (λ fields. number ∷ fields) last

cut_fields : (name bytes : List ℕ) → All IsVisible name → AreBytes bytes → pieces space (line_text name bytes) ≡ name ∷ after_name bytes
cut_fields name bytes visible are =
    slice_split_at (λ b. b == 32) name 32 (decimal (length bytes) ++ hex_word bytes) (no_space name visible) refl
    ∙ ap (λ fields. name ∷ fields) (number_fields bytes are)

fields_said : (name bytes : List ℕ) (place : ℕ) → IsName name place → AreBytes bytes → line_of (name ∷ after_name bytes) ≡ Ok (Section place (length bytes) bytes)
fields_said name [] place is are = rw (is.other, is.at, decimal_read 0 are.0) refl
fields_said name (b ∷ bytes) place is are =
    rw (is.other, is.at, decimal_read (length (b ∷ bytes)) are.0, hex_read b bytes are.1) refl

line_said : (name bytes : List ℕ) (place : ℕ) → IsName name place → AreBytes bytes →
    parsed_line (line_text name bytes) ≡ Ok (Some (Section place (length bytes) bytes))
unfolding parsed_line
line_said name bytes place is are =
    let visible = tested name is.visible in
    let begins = begins_line name (32 ∷ (decimal (length bytes) ++ hex_word bytes)) is.begins in
    let passes = all_pass (line_text name bytes) (line_printable name bytes visible are) in
    rw (begins, passes, cut_fields name bytes visible are, fields_said name bytes place is are) refl

same_length : (n : ℕ) → (n == n) ≡ true
same_length n = grind (arith, nat_tests)

line_taken : (v : ListingValue) (name bytes : List ℕ) (place : ℕ) → IsName name place → AreBytes bytes → get_or v.is_taken place false ≡ false →
    after_line v (line_text name bytes) ≡ Ok (with_section v place bytes)
line_taken v name bytes place is are new = rw (line_said name bytes place is are, same_length (length bytes), new) refl

-- the newline stands behind the rest of the line
newline_last : (name number word rest : List ℕ) →
    (name ++ codes " " ++ number ++ word ++ codes "\n") ++ rest ≡ (name ++ 32 ∷ (number ++ word)) ++ 10 ∷ rest
newline_last name number word rest =
    let printed : (name ++ codes " " ++ number ++ word ++ codes "\n") ++ rest ≡ name ++ 32 ∷ (number ++ (word ++ 10 ∷ rest)) =
    rw (append_assoc, append_assoc, append_assoc, append_assoc) refl in
    let cut : (name ++ 32 ∷ (number ++ word)) ++ 10 ∷ rest ≡ name ++ 32 ∷ (number ++ (word ++ 10 ∷ rest)) = rw (append_assoc, append_assoc) refl in
    printed ∙ sym cut

-- a section's line is the first of the lines
cut_line : (name bytes rest : List ℕ) (place : ℕ) → IsName name place → AreBytes bytes →
    lines_of (section_line name bytes ++ rest) ≡ line_text name bytes ∷ lines_of rest
cut_line name bytes rest place is are =
    let line = line_text name bytes in
    let printable = line_printable name bytes (tested name is.visible) are in
    ap lines_of (newline_last name (decimal (length bytes)) (hex_word bytes) rest) ∙ slice_split_at (λ b. b == 10) line 10 rest (no_newline line printable) refl

-- after a line that is taken, those after it are read on
read_on : (number : ℕ) (v next : ListingValue) (line : List ℕ) (lines : List (List ℕ)) → after_line v line ≡ Ok next →
    after_lines number v (line ∷ lines) ≡ after_lines (number + 1) next lines
read_on number v next line lines e =
    ap (λ (r : Outcome ListingValue). elim r [ Ok found ↦ after_lines (number + 1) found lines | Err reason ↦ Err (number, reason) ]) e

-- it gives the section its bytes, and the lines after it are read on
step : (number : ℕ) (v : ListingValue) (name bytes rest : List ℕ) (place : ℕ) → IsName name place → AreBytes bytes → get_or v.is_taken place false ≡ false →
    after_lines number v (lines_of (section_line name bytes ++ rest)) ≡ after_lines (number + 1) (with_section v place bytes) (lines_of rest)
step number v name bytes rest place is are new =
    ap (after_lines number v) (cut_line name bytes rest place is are)
    ∙ read_on number v (with_section v place bytes) (line_text name bytes) (lines_of rest) (line_taken v name bytes place is are new)

-- the first line gives the byte order
order_step : (big : Bool) (rest : List ℕ) →
    after_lines 1 empty_listing (lines_of (order_line big ++ rest)) ≡ after_lines 2 (with_order empty_listing (order_named big)) (lines_of rest)
unfolding parsed_line
order_step true rest = refl
order_step false rest = refl

-- nothing is left behind the last newline
none_left : (number : ℕ) (v : ListingValue) → after_lines number v (lines_of []) ≡ Ok v
unfolding parsed_line
none_left number v = refl

-- the listing of sections is read as the sections
listing_back : {W : Type 0} (meaning : W → Meaning) (s : Sections W) → EachWriter (λ w. AreBytes (told meaning w)) s →
    sections_of (listing_of meaning s) ≡ Ok (read_of meaning s)
unfolding sections_of
listing_back meaning s are =
    let v0 = with_order empty_listing (order_named (meaning s.debug_info.0).is_big) in
    let v1 = with_section v0 0 (told meaning s.debug_abbrev.0) in
    let v2 = with_section v1 1 (told meaning s.debug_str.0) in
    let v3 = with_section v2 2 (told meaning s.debug_line_str.0) in
    let v4 = with_section v3 3 (told meaning s.debug_line.0) in
    let v5 = with_section v4 4 (told meaning s.debug_ranges.0) in
    let v6 = with_section v5 5 (told meaning s.debug_rnglists.0) in
    let v7 = with_section v6 6 (told meaning s.debug_loc.0) in
    let v8 = with_section v7 7 (told meaning s.debug_loclists.0) in
    let v9 = with_section v8 8 (told meaning s.debug_info.0) in
    let v10 = with_section v9 9 (told meaning s.debug_frame.0) in
    order_step (meaning s.debug_info.0).is_big _
    ∙ step 2 v0 (section_name DebugAbbrev) (told meaning s.debug_abbrev.0) _ 0 (record { visible = refl; begins = refl; other = refl; at = refl }) are.debug_abbrev refl
    ∙ step 3 v1 (section_name DebugStr) (told meaning s.debug_str.0) _ 1 (record { visible = refl; begins = refl; other = refl; at = refl }) are.debug_str refl
    ∙ step 4 v2 (section_name DebugLineStr) (told meaning s.debug_line_str.0) _ 2 (record { visible = refl; begins = refl; other = refl; at = refl }) are.debug_line_str refl
    ∙ step 5 v3 (section_name DebugLine) (told meaning s.debug_line.0) _ 3 (record { visible = refl; begins = refl; other = refl; at = refl }) are.debug_line refl
    ∙ step 6 v4 (section_name DebugRanges) (told meaning s.debug_ranges.0) _ 4 (record { visible = refl; begins = refl; other = refl; at = refl }) are.debug_ranges refl
    ∙ step 7 v5 (section_name DebugRngLists) (told meaning s.debug_rnglists.0) _ 5 (record { visible = refl; begins = refl; other = refl; at = refl }) are.debug_rnglists refl
    ∙ step 8 v6 (section_name DebugLoc) (told meaning s.debug_loc.0) _ 6 (record { visible = refl; begins = refl; other = refl; at = refl }) are.debug_loc refl
    ∙ step 9 v7 (section_name DebugLocLists) (told meaning s.debug_loclists.0) _ 7 (record { visible = refl; begins = refl; other = refl; at = refl }) are.debug_loclists refl
    ∙ step 10 v8 (section_name DebugInfo) (told meaning s.debug_info.0) _ 8 (record { visible = refl; begins = refl; other = refl; at = refl }) are.debug_info refl
    ∙ step 11 v9 (section_name DebugFrame) (told meaning s.debug_frame.0) _ 9 (record { visible = refl; begins = refl; other = refl; at = refl }) are.debug_frame refl
    ∙ step 12 v10 (section_name EhFrame) (told meaning s.eh_frame.0) _ 10 (record { visible = refl; begins = refl; other = refl; at = refl }) are.eh_frame refl
    ∙ none_left 13 _

-- and so is a text that lists them
pub read_back : {W : Type 0} {meaning : W → Meaning} {s : Sections W} {text : List ℕ} → Lists meaning s text → sections_of text ≡ Ok (read_of meaning s)
read_back {W} {meaning} {s} lists = ap sections_of lists.is ∙ listing_back meaning s lists.are
