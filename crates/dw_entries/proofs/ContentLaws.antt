-- What is written for values, by how it is laid out.
use Rattle.std.specs.Prelude.{◌≡◌, ℕ, ◌+◌, ◌<◌, ◌^◌, Bool, true, false, not, ◌||◌, ◌==◌, nat_le, List, [], ◌∷◌, length, Option, Some, None, ℤ, refl, IsTrue, ⊤, if◌then◌else◌}
use Rattle.std.proofs.Common.{sym, ◌∙◌, ap, subst, arith, length-append}
use Rattle.std.proofs.lemmas.Bool.Decides.{nat_tests}
use Rattle.std.proofs.lemmas.List.Elements.{All-nil, All-cons}
use Rattle.std.proofs.lemmas.Option.{same_Some}
use Rattle.dw_base.specs.Numbers.{◌>>=◌, when, is_width, fits, word_of}
use Rattle.dw_base.specs.Leb128.{uleb, uleb_groups}
use Rattle.dw_base.specs.Forms.{Operand, Absent, Number, Signed, Bytes, Text, Kind, Empty, Fixed, Uleb, Sleb, UlebBlock, Zeroed, kind_of, info_place_of}
use Rattle.dw_base.specs.Spelling.{kind_bytes}
use Rattle.dw_base.specs.Spellable.{IsText, KindFits}
use Rattle.dw_base.specs.declared.common.Encoding.{Encoding}
use Rattle.dw_base.specs.declared.common.Format.{Format}
use Rattle.dw_base.specs.declared.common.Format.TheVariants.{Dwarf32, Dwarf64}
use Rattle.dw_base.specs.declared.section_id.SectionId.{SectionId}
use Rattle.dw_base.specs.declared.section_id.SectionId.TheVariants.{DebugRanges, DebugRngLists, DebugLoc, DebugLocLists}
use Rattle.dw_base.proofs.NumberLaws.{bind_parts, when_same, length-num}
use Rattle.dw_entries.specs.Content.{Content, Nothing, Plain, Wide, Leb, SignedLeb, Block, Expression, Closed, Target, Offset, InTable, TableIndex, OwnPart, File, EntryPlace, InfoPlace, info_in, number_in, bytes_in, counted, has_zero, address_in, content_operand, content_kind, content_size, IsContentRanged}
use Rattle.dw_writer.specs.Layout.{start_of}
use Rattle.dw_expr.specs.Spelling.{expression_draft}
use Rattle.dw_expr.proofs.ExpressionDrafts.{expression-wide}
use Rattle.dw_entries.specs.Targets.{Targets}
use Rattle.dw_entries.specs.Values.{reference_form, supplementary_form, word_form, offset_form, form_of, content_of}
use Rattle.dw_entries.specs.declared.value.AttributeValue.{AttributeValue}
use Rattle.dw_entries.specs.declared.value.AttributeValue.TheVariants as values

-- The kind of a form is that of what is written

pub kind_of-reference : (e : Encoding) (format : Format) → kind_of e (reference_form format) ≡ Some (Fixed (word_of format))
unfolding kind_of
kind_of-reference e Dwarf32 = refl
kind_of-reference e Dwarf64 = refl

kind_of-supplementary : (e : Encoding) (format : Format) → kind_of e (supplementary_form format) ≡ Some (Fixed (word_of format))
unfolding kind_of
kind_of-supplementary e Dwarf32 = refl
kind_of-supplementary e Dwarf64 = refl

kind_of-word : (e : Encoding) (format : Format) → kind_of e (word_form format) ≡ Some (Fixed (word_of format))
unfolding kind_of
kind_of-word e Dwarf32 = refl
kind_of-word e Dwarf64 = refl

kind_of-offset : (e : Encoding) (b : Bool) → kind_of e (if b then 0x17 else word_form e.format) ≡ Some (Fixed (word_of e.format))
unfolding kind_of
kind_of-offset e true = refl
kind_of-offset e false = kind_of-word e e.format

kind_of-present : (e : Encoding) (b : Bool) → kind_of e (if b then 0x19 else 0x0c) ≡ Some (content_kind e (if b then Nothing else Plain 1 1))
unfolding kind_of
kind_of-present e true = refl
kind_of-present e false = refl

kind_of-constant : (e : Encoding) (z : ℤ) (b : Bool) → kind_of e (if b then 0x21 else 0x0d) ≡ Some (content_kind e (if b then Nothing else SignedLeb z))
unfolding kind_of
kind_of-constant e z true = refl
kind_of-constant e z false = refl

kind_of-expression : (e : Encoding) (b : Bool) → kind_of e (if b then 0x18 else 0x09) ≡ Some UlebBlock
unfolding kind_of
kind_of-expression e true = refl
kind_of-expression e false = refl

-- a list by its index, or by its place
kind_of-list : (e : Encoding) (form i : ℕ) (table old : SectionId) (b : Bool) → kind_of e form ≡ Some Uleb →
    kind_of e (if b then form else offset_form e) ≡ Some (content_kind e (if b then TableIndex table i else InTable old i))
kind_of-list e form i table old true h = h
kind_of-list e form i table old false h = kind_of-offset e (nat_le 4 e.version)

-- a line for each variant
pub kind_of-form : (e : Encoding) (v : AttributeValue) → kind_of e (form_of e v) ≡ Some (content_kind e (content_of e v))
unfolding kind_of
kind_of-form e (values.Address a) = refl
kind_of-form e (values.Block xs) = refl
kind_of-form e (values.Data1 n) = refl
kind_of-form e (values.Data2 n) = refl
kind_of-form e (values.Data4 n) = refl
kind_of-form e (values.Data8 n) = refl
kind_of-form e (values.Data16 n) = refl
kind_of-form e (values.Sdata z) = refl
kind_of-form e (values.Udata n) = refl
kind_of-form e (values.ImplicitConst z) = kind_of-constant e z (e.version == 5)
kind_of-form e (values.Exprloc x) = kind_of-expression e (nat_le 4 e.version)
kind_of-form e (values.Flag b) = refl
kind_of-form e values.FlagPresent = kind_of-present e (nat_le 4 e.version)
kind_of-form e (values.UnitRef i) = kind_of-reference e e.format
kind_of-form e (values.DebugInfoRef r) = refl
kind_of-form e (values.DebugInfoRefSup n) = kind_of-supplementary e e.format
kind_of-form e (values.DebugMacinfoRef n) = kind_of-offset e (nat_le 4 e.version)
kind_of-form e (values.DebugMacroRef n) = kind_of-offset e (nat_le 4 e.version)
kind_of-form e (values.DebugTypesRef n) = refl
kind_of-form e (values.DebugStrRefSup n) = refl
kind_of-form e (values.StringRef i) = refl
kind_of-form e (values.LineStringRef i) = refl
kind_of-form e values.LineProgramRef = kind_of-offset e (nat_le 4 e.version)
kind_of-form e (values.FileIndex file) = refl
kind_of-form e (values.RangeListRef i) = kind_of-list e 0x23 i.0 DebugRngLists DebugRanges (e.version == 5) refl
kind_of-form e values.RangeListsBase = kind_of-offset e (nat_le 4 e.version)
kind_of-form e values.LocationListsBase = kind_of-offset e (nat_le 4 e.version)
kind_of-form e (values.LocationListRef i) = kind_of-list e 0x22 i.0 DebugLocLists DebugLoc (e.version == 5) refl
kind_of-form e (values.String s) = refl
kind_of-form e (values.Encoding n) = refl
kind_of-form e (values.DecimalSign n) = refl
kind_of-form e (values.Endianity n) = refl
kind_of-form e (values.Accessibility n) = refl
kind_of-form e (values.Visibility n) = refl
kind_of-form e (values.Virtuality n) = refl
kind_of-form e (values.Language n) = refl
kind_of-form e (values.AddressClass n) = refl
kind_of-form e (values.IdentifierCase n) = refl
kind_of-form e (values.CallingConvention n) = refl
kind_of-form e (values.Inline n) = refl
kind_of-form e (values.Ordering n) = refl

-- What operands fit

when-fits : (w n : ℕ) (b : Bool) (o : Operand) → when b (Some (Number n)) ≡ Some o → (IsTrue b → KindFits (Fixed w) (Number n)) → KindFits (Fixed w) o
when-fits w n true o h f = subst (KindFits (Fixed w)) (same_Some (Number n) o h) (f refl)
when-fits w n false o h f = absurd (let k : ◌≡◌ {A = Option Operand} None (Some o) = h in cc)

-- a number that is there fits
pub number_in-fits : (w n : ℕ) (o : Operand) → number_in w n ≡ Some o → KindFits (Fixed w) o
number_in-fits w n o h = when-fits w n (fits w n) o h (λ k. k)

bound-fits : (w : ℕ) (i : Option ℕ) (o : Operand) → (i >>= number_in w) ≡ Some o → KindFits (Fixed w) o
bound-fits w i o h = let m = bind_parts i (number_in w) o h in number_in-fits w m.0 o m.2

table-fits : (w : ℕ) (i : Option ℕ) (start : ℕ) (o : Operand) → (i >>= λ n. number_in w (n + start)) ≡ Some o → KindFits (Fixed w) o
table-fits w i start o h = let m = bind_parts i (λ n. number_in w (n + start)) o h in number_in-fits w (m.0 + start) o m.2

-- a string without a zero is a text
no_zero : (s : List ℕ) → IsTrue (not (has_zero s)) → IsText s
no_zero [] h = All-nil (λ b. 0 < b)
no_zero (b ∷ s) h = step (b == 0) refl h (no_zero s)
  where
    step : (z : Bool) → (b == 0) ≡ z → IsTrue (not (z || has_zero s)) → (IsTrue (not (has_zero s)) → IsText s) → IsText (b ∷ s)
    step true is h more = absurd (let k : IsTrue false = h in cc)
    step false is h more = All-cons (λ x. 0 < x) b s (grind (arith, nat_tests)) (more h)

text-fits : (s : List ℕ) (b : Bool) (o : Operand) → when b (Some (Text s)) ≡ Some o → (IsTrue b → IsText s) → KindFits Zeroed o
text-fits s true o h f = subst (KindFits Zeroed) (same_Some (Text s) o h) (f refl)
text-fits s false o h f = absurd (let k : ◌≡◌ {A = Option Operand} None (Some o) = h in cc)

-- a number of sixteen bytes
wide-fits : (n : ℕ) → n < 2 ^ 128 → IsTrue (fits 16 n)
wide-fits n h = grind (arith, nat_tests)

-- a number of 64 bits
file-fits : (n : ℕ) (b : Bool) (o : Operand) → when b (Some (Number n)) ≡ Some o → (IsTrue b → n < 2 ^ 64) → KindFits Uleb o
file-fits n true o h f = subst (KindFits Uleb) (same_Some (Number n) o h) (f refl)
file-fits n false o h f = absurd (let k : ◌≡◌ {A = Option Operand} None (Some o) = h in cc)

fits_64 : (n : ℕ) → IsTrue (fits 8 n) → n < 2 ^ 64
fits_64 n h = grind (arith, nat_tests, h)

-- bytes whose number fits 64 bits
block-fits : (xs : List ℕ) (o : Operand) (b : Bool) → when b (Some (Bytes xs)) ≡ Some o → (IsTrue b → length xs < 2 ^ 64) → KindFits UlebBlock o
block-fits xs o true h f = subst (KindFits UlebBlock) (same_Some (Bytes xs) o h) (f refl)
block-fits xs o false h f = absurd (let k : ◌≡◌ {A = Option Operand} None (Some o) = h in cc)

-- the operand is one of its kind
pub content_fits : (big : Bool) (e : Encoding) (t : Targets) (c : Content) (o : Operand) → IsContentRanged c → content_operand big e t c ≡ Some o → KindFits (content_kind e c) o
content_fits big e t Nothing o r h = subst (KindFits Empty) (same_Some Absent o h) tt
content_fits big e t (Plain w n) o r h = number_in-fits w n o h
content_fits big e t (Wide n) o r h = subst (KindFits (Fixed 16)) (same_Some (Number n) o h) (wide-fits n r)
content_fits big e t (Leb n) o r h = subst (KindFits Uleb) (same_Some (Number n) o h) r
content_fits big e t (SignedLeb z) o r h = subst (KindFits Sleb) (same_Some (Signed z) o h) r
content_fits big e t (Block xs) o r h = subst (KindFits UlebBlock) (same_Some (Bytes xs) o h) r
content_fits big e t (Expression ns) o r h =
    let m = bind_parts ((expression_draft e t.place ns).text t.info big t.layout) bytes_in o h in block-fits m.0 o (fits 8 (length m.0)) m.2 (fits_64 (length m.0))
content_fits big e t (Closed s) o r h = text-fits s (not (has_zero s)) o h (no_zero s)
content_fits big e t (Target a) o r h = bound-fits e.address_size (address_in t a) o h
content_fits big e t (Offset section n) o r h = number_in-fits (word_of e.format) _ o h
content_fits big e t (InTable section i) o r h = table-fits (word_of e.format) (t.tables.part section i) (start_of t.layout section) o h
content_fits big e t (TableIndex section i) o r h = let m = bind_parts (t.tables.part section i) (λ n. Some (Number i)) o h in subst (KindFits Uleb) (same_Some (Number i) o m.2) r
content_fits big e t (OwnPart section) o r h = table-fits (word_of e.format) (t.tables.own section) (start_of t.layout section) o h
content_fits big e t (File n) o r h = file-fits n (fits 8 n) o h (fits_64 n)
content_fits big e t (EntryPlace i) o r h = bound-fits (word_of e.format) (t.place i) o h
content_fits big e t (InfoPlace x) o r h = bound-fits (info_place_of e) (info_in t.info x) o h

-- What bytes they have

when-long : (big : Bool) (w n : ℕ) (b : Bool) (o : Operand) → when b (Some (Number n)) ≡ Some o → length (kind_bytes big (Fixed w) o) ≡ w
when-long big w n b o h = ap (λ x. length (kind_bytes big (Fixed w) x)) (sym (same_Some (Number n) o (when_same b (Some (Number n)) o h))) ∙ length-num big w n

pub number_in-long : (big : Bool) (w n : ℕ) (o : Operand) → number_in w n ≡ Some o → length (kind_bytes big (Fixed w) o) ≡ w
number_in-long big w n o h = when-long big w n (fits w n) o h

bound-long : (big : Bool) (w : ℕ) (i : Option ℕ) (o : Operand) → (i >>= number_in w) ≡ Some o → length (kind_bytes big (Fixed w) o) ≡ w
bound-long big w i o h = let m = bind_parts i (number_in w) o h in number_in-long big w m.0 o m.2

table-long : (big : Bool) (w : ℕ) (i : Option ℕ) (start : ℕ) (o : Operand) → (i >>= λ n. number_in w (n + start)) ≡ Some o → length (kind_bytes big (Fixed w) o) ≡ w
table-long big w i start o h = let m = bind_parts i (λ n. number_in w (n + start)) o h in number_in-long big w (m.0 + start) o m.2

text-long : (big : Bool) (s : List ℕ) (b : Bool) (o : Operand) → when b (Some (Text s)) ≡ Some o → length (kind_bytes big Zeroed o) ≡ length s + 1
text-long big s b o h = ap (λ x. length (kind_bytes big Zeroed x)) (sym (same_Some (Text s) o (when_same b (Some (Text s)) o h))) ∙ length-append s (0 ∷ [])

told : (big : Bool) (k : Kind) (p o : Operand) → Some p ≡ Some o → length (kind_bytes big k o) ≡ length (kind_bytes big k p)
told big k p o h = ap (λ x. length (kind_bytes big k x)) (sym (same_Some p o h))

-- the number past those of 64 bits
pub long-past : 10 ≡ length (uleb (2 ^ 64))
unfolding uleb uleb_groups
long-past = refl

-- the operand has as many bytes as its size says
pub content_long : (big : Bool) (e : Encoding) (t : Targets) (c : Content) (o : Operand) → content_operand big e t c ≡ Some o → length (kind_bytes big (content_kind e c) o) ≡ content_size e t.place c
content_long big e t Nothing o h = told big Empty Absent o h
content_long big e t (Plain w n) o h = number_in-long big w n o h
content_long big e t (Wide n) o h = told big (Fixed 16) (Number n) o h ∙ length-num big 16 n
content_long big e t (Leb n) o h = told big Uleb (Number n) o h
content_long big e t (SignedLeb z) o h = told big Sleb (Signed z) o h
content_long big e t (Block xs) o h = told big UlebBlock (Bytes xs) o h ∙ length-append (uleb (length xs)) xs
content_long big e t (Expression ns) o h =
    let m = bind_parts ((expression_draft e t.place ns).text t.info big t.layout) bytes_in o h in
    told big UlebBlock (Bytes m.0) o (when_same (fits 8 (length m.0)) (Some (Bytes m.0)) o m.2)
    ∙ length-append (uleb (length m.0)) m.0
    ∙ ap counted (expression-wide e t.place ns t.info big t.layout m.0 m.1)
content_long big e t (Closed s) o h = text-long big s (not (has_zero s)) o h
content_long big e t (Target a) o h = bound-long big e.address_size (address_in t a) o h
content_long big e t (Offset section n) o h = number_in-long big (word_of e.format) _ o h
content_long big e t (InTable section i) o h = table-long big (word_of e.format) (t.tables.part section i) (start_of t.layout section) o h
content_long big e t (TableIndex section i) o h = let m = bind_parts (t.tables.part section i) (λ n. Some (Number i)) o h in told big Uleb (Number i) o m.2
content_long big e t (OwnPart section) o h = table-long big (word_of e.format) (t.tables.own section) (start_of t.layout section) o h
content_long big e t (File n) o h = told big Uleb (Number n) o (when_same (fits 8 n) (Some (Number n)) o h)
content_long big e t (EntryPlace i) o h = bound-long big (word_of e.format) (t.place i) o h
content_long big e t (InfoPlace x) o h = bound-long big (info_place_of e) (info_in t.info x) o h

-- A number has a width

abbrev pub HasWidth : Content → Type 0
HasWidth (Plain w n) = IsTrue (is_width w)
HasWidth c = ⊤

pub word_width : (format : Format) → IsTrue (is_width (word_of format))
word_width Dwarf32 = refl
word_width Dwarf64 = refl

present_width : (b : Bool) → HasWidth (if b then Nothing else Plain 1 1)
present_width true = tt
present_width false = refl

constant_width : (z : ℤ) (b : Bool) → HasWidth (if b then Nothing else SignedLeb z)
constant_width z true = tt
constant_width z false = tt

list_width : (i : ℕ) (table old : SectionId) (b : Bool) → HasWidth (if b then TableIndex table i else InTable old i)
list_width i table old true = tt
list_width i table old false = tt

content_width : (e : Encoding) (v : AttributeValue) → HasWidth (content_of e v)
content_width e (values.Data1 n) = refl
content_width e (values.Data2 n) = refl
content_width e (values.Data4 n) = refl
content_width e (values.Data8 n) = refl
content_width e (values.ImplicitConst z) = constant_width z (e.version == 5)
content_width e (values.Flag b) = refl
content_width e values.FlagPresent = present_width (nat_le 4 e.version)
content_width e (values.DebugInfoRefSup n) = word_width e.format
content_width e (values.DebugTypesRef n) = refl
content_width e (values.DebugStrRefSup n) = word_width e.format
content_width e (values.RangeListRef i) = list_width i.0 DebugRngLists DebugRanges (e.version == 5)
content_width e (values.LocationListRef i) = list_width i.0 DebugLocLists DebugLoc (e.version == 5)
content_width e v = tt

-- the width of a value that is written as a number
pub plain_width : (e : Encoding) (v : AttributeValue) (w n : ℕ) → content_of e v ≡ Plain w n → IsTrue (is_width w)
plain_width e v w n is = subst HasWidth is (content_width e v)
