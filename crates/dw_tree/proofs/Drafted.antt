-- What is written of values, as drafts: a lemma for each layout.
use Rattle.std.specs.Prelude.{◌≡◌, ℕ, ◌+◌, ◌<◌, ◌^◌, Bool, true, false, not, ◌&&◌, nat_le, List, [], ◌∷◌, ◌++◌, length, Option, Some, None, ℤ, pos, negsuc, ◌+ℤ◌, slice_get, is_none, IsTrue, IsFalse, refl, if◌then◌else◌}
use Rattle.std.proofs.Common.{sym, ◌∙◌, ap, subst, arith, length-append}
use Rattle.std.proofs.lemmas.Bool.{or_parts}
use Rattle.std.proofs.lemmas.Bool.Decides.{nat_tests}
use Rattle.dw_base.specs.Numbers.{◌>>=◌, when, num, is_width, fits, word_of}
use Rattle.dw_base.specs.Leb128.{uleb, sleb}
use Rattle.dw_base.specs.Forms.{Number, Text, Kind, Fixed, Uleb, Zeroed, info_place_of}
use Rattle.dw_base.specs.Spelling.{kind_bytes, operand_bytes}
use Rattle.dw_base.specs.declared.address.Address.{Address as TargetAddress}
use Rattle.dw_base.specs.declared.address.Address.TheVariants as addresses
use Rattle.dw_base.specs.declared.address.DebugInfoRef.{DebugInfoRef as InfoRef}
use Rattle.dw_base.specs.declared.address.DebugInfoRef.TheVariants as refs
use Rattle.dw_base.specs.declared.error.Error.{Error}
use Rattle.dw_base.specs.declared.error.Error.TheVariants as errors
use Rattle.dw_base.specs.declared.section_id.SectionId.{SectionId}
use Rattle.dw_base.specs.declared.common.Encoding.{Encoding}
use Rattle.dw_base.specs.declared.common.Format.{Format}
use Rattle.dw_base.specs.declared.common.Format.TheVariants.{Dwarf32, Dwarf64}
use Rattle.dw_writer.specs.Texts as texts
use Rattle.dw_writer.specs.Texts.{num_text, int_text, followed}
use Rattle.dw_writer.specs.Meaning.{Meaning, Layout, Model, Adds, start_of}
use Rattle.dw_writer.specs.SectionTexts.{number_text, bytes_text, offset_text, address_text}
use Rattle.dw_writer.specs.Drafts.{Info, Draft, no_draft, whole, then_draft, shifted, Drafts}
use Rattle.dw_writer.specs.declared.fixup.DebugInfoFixup.{DebugInfoFixup}
use Rattle.dw_writer.proofs.DraftLaws.{draft_is}
use Rattle.dw_writer.proofs.Plain.{Adds-number, num-byte}
use Rattle.dw_writer.proofs.Steps.{Adds-appends}
use Rattle.dw_writer.proofs.WriteLaws.{Drafts-is, Drafts-whole}
use Rattle.dw_entries.specs.Content.{Content, Nothing, Plain, Wide, Leb, SignedLeb, Block, Expression, Closed, Target, Offset, InTable, TableIndex, OwnPart, File, EntryPlace, counted, number_in, has_zero, natural, content_operand, content_kind, content_size, content_holes, InfoPlace}
use Rattle.dw_entries.specs.Targets.{UnitTargets, targets_in}
use Rattle.dw_entries.specs.Values.{content_of, operand_size, operand_holes, value_text, value_draft}
use Rattle.dw_entries.specs.declared.value.AttributeValue.{AttributeValue}
use Rattle.dw_entries.proofs.ContentLaws.{kind_of-form}
use Rattle.dw_entries.proofs.ValueTexts.{info_width, counted_text}
use Rattle.dw_expr.specs.Trees.{Node}
use Rattle.dw_expr.specs.Spelling.{starts_from, parts_of, expression_draft, expression_size}
use Rattle.dw_expr.specs.Causes.{nodes_unplaced, nodes_fail, expression_fails}
use Rattle.dw_expr.proofs.ExpressionDrafts.{expression-wide}
use Rattle.dw_tree.specs.UnitText.{content_draft, counted_draft, fitting_text, info_draft, table_text}

pub width-word : (format : Format) → IsTrue (is_width (word_of format))
width-word Dwarf32 = refl
width-word Dwarf64 = refl

-- the text of a number that fits its width
pub num_text-fits : (big : Bool) (w n : ℕ) → IsTrue (is_width w) → IsTrue (fits w n) → num_text big w n ≡ Some (num big w n)
unfolding num_text
num_text-fits big w n wide fit = by_tests (is_width w) (fits w n) wide fit
  where
    by_tests : (a b : Bool) → IsTrue a → IsTrue b → ◌≡◌ {A = texts.Text} (if a && b then Some (num big w n) else None) (Some (num big w n))
    by_tests true true h k = refl
    by_tests true false h k = absurd (let x : IsTrue false = k in cc)
    by_tests false b h k = absurd (let x : IsTrue false = h in cc)

whole_is : (n m : ℕ) (t : Model) (f : Info → Model) → n ≡ m → ((info : Info) (big : Bool) (l : Layout) → t big l ≡ f info big l) → whole n t ≡ record { size = m; text = f; holes = [] }
whole_is n m t f e h = draft_is n m (λ info. t) f [] [] e h refl

-- a number of a width, where it fits
pub fitting_is : (w n : ℕ) → IsTrue (is_width w) → IsTrue (fits w n) → whole w (number_text w n) ≡ whole w (fitting_text w n)
unfolding number_text fitting_text
fitting_is w n wide fit = whole_is w w (number_text w n) (λ info. fitting_text w n) refl (λ info big l. sym (num_text-fits big w n wide fit))

-- bytes that were added as they are
pub Drafts-bytes : {a b : Meaning} {xs : List ℕ} (k : List DebugInfoFixup) → Adds a b xs → Drafts a b k k (whole (length xs) (bytes_text xs))
unfolding bytes_text
Drafts-bytes k p = Drafts-whole k (Adds-appends p)

-- one byte
pub Drafts-byte : {a b : Meaning} (k : List DebugInfoFixup) (n : ℕ) → n < 256 → Adds a b (num a.is_big 1 n) → Drafts a b k k (whole 1 (bytes_text (n ∷ [])))
Drafts-byte {a} {b} k n small p = Drafts-bytes k (subst (λ xs. Adds a b xs) (num-byte a.is_big n small) p)

-- a number in its width
pub Drafts-number : {a b : Meaning} (k : List DebugInfoFixup) (w n : ℕ) → Adds a b (num a.is_big w n) → Drafts a b k k (whole w (number_text w n))
Drafts-number k w n p = Drafts-whole k (Adds-number w n p)

pub Drafts-fitting : {a b : Meaning} (k : List DebugInfoFixup) (w n : ℕ) → IsTrue (is_width w) → IsTrue (fits w n) → Adds a b (num a.is_big w n) → Drafts a b k k (whole w (fitting_text w n))
Drafts-fitting k w n wide fit p = Drafts-is (Drafts-number k w n p) (fitting_is w n wide fit)

-- an expression without a fault has a length of 64 bits
pub expression_short : (e : Encoding) (place : ℕ → Option ℕ) (plain : Bool) (ns : List Node) → ((err : Error) → IsFalse (expression_fails e (Some place) true plain ns err)) → expression_size e place ns < 2 ^ 64
expression_short e place plain ns sound =
    let size = (or_parts _ (nodes_fail e (Some place) true plain (starts_from 0 (parts_of e place ns)) 0 ns errors.ValueTooLarge) (sound errors.ValueTooLarge)).0 in
    let short = (or_parts (nat_le (2 ^ 64) (expression_size e place ns)) (nodes_unplaced e (Some place) ns errors.ValueTooLarge) size).0 in
    grind (arith, nat_tests, short)

-- A value is written as its content is, with the form's kind known.
pub value_content : (e : Encoding) (u : UnitTargets) (v : AttributeValue) → content_draft e u (content_of e v) ≡ value_draft e u v
value_content e u v =
    draft_is (operand_size e u.place v) (operand_size e u.place v) _ (λ info big l. value_text big e (targets_in u l info) v) (operand_holes e u.place v) (operand_holes e u.place v) refl
    (λ info big l.
    let spell : Option Kind → texts.Text = λ k. content_operand big e (targets_in u l info) (content_of e v) >>= λ o. Some (operand_bytes big k o) in
    ap spell (sym (kind_of-form e v)))
    refl

-- A draft of what is written, with its layout known

module _ (e : Encoding) (u : UnitTargets) (x : Content) where
  -- a text without references that is the operand's
  content_is : (c : Content) (n : ℕ) (t : Info → Model) (hs : List DebugInfoFixup) → x ≡ c → n ≡ content_size e u.place c → hs ≡ content_holes e u.place c →
      ((info : Info) (big : Bool) (l : Layout) → t info big l ≡ (content_operand big e (targets_in u l info) c >>= λ o. Some (kind_bytes big (content_kind e c) o))) →
      ◌≡◌ {A = Draft} (record { size = n; text = t; holes = hs }) (content_draft e u x)
  content_is c n t hs is size holes text = draft_is _ _ _ _ _ _ size text holes ∙ ap (content_draft e u) (sym is)

  value_is : (c : Content) (n : ℕ) (t : Model) → x ≡ c → n ≡ content_size e u.place c → [] ≡ content_holes e u.place c →
      ((info : Info) (big : Bool) (l : Layout) → t big l ≡ (content_operand big e (targets_in u l info) c >>= λ o. Some (kind_bytes big (content_kind e c) o))) → whole n t ≡ content_draft e u x
  value_is c n t is size none text = content_is c n (λ info. t) [] is size none text

  fitting : (big : Bool) (w n : ℕ) (b : Bool) → IsTrue b → ◌≡◌ {A = texts.Text} (Some (num big w n)) (when b (Some (Number n)) >>= λ o. Some (kind_bytes big (Fixed w) o))
  fitting big w n true h = refl
  fitting big w n false h = absurd (let x : IsTrue false = h in cc)

  pub nothing_is : x ≡ Nothing → no_draft ≡ content_draft e u x
  nothing_is is = value_is Nothing 0 (λ big l. Some []) is refl refl (λ info big l. refl)

  pub plain_is : (w n : ℕ) → x ≡ Plain w n → IsTrue (fits w n) → whole w (number_text w n) ≡ content_draft e u x
  unfolding number_text
  plain_is w n is fit = value_is (Plain w n) w (number_text w n) is refl refl (λ info big l. fitting big w n (fits w n) fit)

  pub wide_is : (n : ℕ) → x ≡ Wide n → whole 16 (number_text 16 n) ≡ content_draft e u x
  unfolding number_text
  wide_is n is = value_is (Wide n) 16 (number_text 16 n) is refl refl (λ info big l. refl)

  pub leb_is : (n : ℕ) → x ≡ Leb n → whole (length (uleb n)) (bytes_text (uleb n)) ≡ content_draft e u x
  unfolding bytes_text
  leb_is n is = value_is (Leb n) (length (uleb n)) (bytes_text (uleb n)) is refl refl (λ info big l. refl)

  pub signed_leb_is : (z : ℤ) → x ≡ SignedLeb z → whole (length (sleb z)) (bytes_text (sleb z)) ≡ content_draft e u x
  unfolding bytes_text
  signed_leb_is z is = value_is (SignedLeb z) (length (sleb z)) (bytes_text (sleb z)) is refl refl (λ info big l. refl)

  pub block_is : (xs : List ℕ) → x ≡ Block xs → whole (length (uleb (length xs) ++ xs)) (bytes_text (uleb (length xs) ++ xs)) ≡ content_draft e u x
  unfolding bytes_text
  block_is xs is = value_is (Block xs) _ (bytes_text (uleb (length xs) ++ xs)) is (length-append (uleb (length xs)) xs) refl (λ info big l. refl)

  -- an expression behind its length, where that fits
  pub expression_is : (ns : List Node) → x ≡ Expression ns → expression_size e u.place ns < 2 ^ 64 → counted_draft e u.place ns ≡ content_draft e u x
  unfolding then_draft bytes_text
  expression_is ns is small =
      let d = expression_draft e u.place ns in
      let fit : IsTrue (fits 8 d.size) = grind (arith, nat_tests, small) in
      content_is (Expression ns) (counted d.size) (counted_draft e u.place ns).text (shifted (length (uleb d.size)) d.holes) is refl refl
      (λ info big l. sym (counted_text big d.size (d.text info big l) (expression-wide e u.place ns info big l) ∙ ap (λ b. when b (followed (Some (uleb d.size)) (d.text info big l))) fit))

  closing : (big : Bool) (s : List ℕ) (b : Bool) → IsFalse b → ◌≡◌ {A = texts.Text} (Some (s ++ 0 ∷ [])) (when (not b) (Some (Text s)) >>= λ o. Some (kind_bytes big Zeroed o))
  closing big s true k = absurd (let x : true ≡ false = k in cc)
  closing big s false k = refl

  pub closed_is : (s : List ℕ) → x ≡ Closed s → IsFalse (has_zero s) → whole (length (s ++ 0 ∷ [])) (bytes_text (s ++ 0 ∷ [])) ≡ content_draft e u x
  unfolding bytes_text
  closed_is s is h = value_is (Closed s) _ (bytes_text (s ++ 0 ∷ [])) is (length-append s (0 ∷ [])) refl (λ info big l. closing big s (has_zero s) h)

  fixed_by : (big : Bool) (w n : ℕ) (a b : Bool) → IsTrue a → ◌≡◌ {A = texts.Text} (if a && b then Some (num big w n) else None) (when b (Some (Number n)) >>= λ o. Some (kind_bytes big (Fixed w) o))
  fixed_by big w n true true h = refl
  fixed_by big w n true false h = refl
  fixed_by big w n false b h = absurd (let x : IsTrue false = h in cc)

  fixed_value : (big : Bool) (w : ℕ) (o : Option ℕ) → IsTrue (is_width w) → ◌≡◌ {A = texts.Text} (o >>= num_text big w) ((o >>= number_in w) >>= λ x. Some (kind_bytes big (Fixed w) x))
  unfolding num_text
  fixed_value big w None h = refl
  fixed_value big w (Some n) h = fixed_by big w n (is_width w) (fits w n) h

  integer : (big : Bool) (w : ℕ) (z : ℤ) → int_text big w z ≡ (natural z >>= num_text big w)
  unfolding int_text
  integer big w (pos n) = refl
  integer big w (negsuc n) = refl

  symbol : (big : Bool) (w : ℕ) (a : ℤ) (o : Option ℕ) → ◌≡◌ {A = texts.Text} (elim o [ None ↦ None | Some n ↦ int_text big w (a +ℤ pos n) ]) ((o >>= λ n. natural (a +ℤ pos n)) >>= num_text big w)
  symbol big w a None = refl
  symbol big w a (Some n) = integer big w (a +ℤ pos n)

  pub target_is : (a : TargetAddress) → x ≡ Target a → IsTrue (is_width e.address_size) → whole e.address_size (address_text e.address_size a) ≡ content_draft e u x
  unfolding address_text
  target_is (addresses.Constant n) is wide =
      value_is (Target (addresses.Constant n)) e.address_size _ is refl refl (λ info big l. fixed_value big e.address_size (Some n) wide)
  target_is (addresses.Symbol s a) is wide =
      value_is (Target (addresses.Symbol s a)) e.address_size _ is refl refl
      (λ info big l. symbol big e.address_size a (slice_get l.symbols s) ∙ fixed_value big e.address_size (slice_get l.symbols s >>= λ n. natural (a +ℤ pos n)) wide)

  pub offset_is : (section : SectionId) (n : ℕ) → x ≡ Offset section n → whole (word_of e.format) (offset_text (word_of e.format) section n) ≡ content_draft e u x
  unfolding offset_text
  offset_is section n is =
      value_is (Offset section n) (word_of e.format) _ is refl refl (λ info big l. fixed_value big (word_of e.format) (Some (n + start_of l section)) (width-word e.format))

  table_value : (big : Bool) (w start : ℕ) (o : Option ℕ) → IsTrue (is_width w) →
      ◌≡◌ {A = texts.Text} (o >>= λ n. num_text big w (n + start)) ((o >>= λ n. number_in w (n + start)) >>= λ x. Some (kind_bytes big (Fixed w) x))
  table_value big w start None h = refl
  table_value big w start (Some n) h = fixed_value big w (Some (n + start)) h

  pub in_table_is : (section : SectionId) (i : ℕ) → x ≡ InTable section i → whole (word_of e.format) (table_text (word_of e.format) section (u.tables.part section i)) ≡ content_draft e u x
  unfolding offset_text
  in_table_is section i is =
      value_is (InTable section i) (word_of e.format) _ is refl refl (λ info big l. table_value big (word_of e.format) (start_of l section) (u.tables.part section i) (width-word e.format))

  pub own_part_is : (section : SectionId) → x ≡ OwnPart section → whole (word_of e.format) (table_text (word_of e.format) section (u.tables.own section)) ≡ content_draft e u x
  unfolding offset_text
  own_part_is section is =
      value_is (OwnPart section) (word_of e.format) _ is refl refl (λ info big l. table_value big (word_of e.format) (start_of l section) (u.tables.own section) (width-word e.format))

  filed : (big : Bool) (n : ℕ) (b : Bool) → IsTrue b → ◌≡◌ {A = texts.Text} (Some (uleb n)) (when b (Some (Number n)) >>= λ o. Some (kind_bytes big Uleb o))
  filed big n true h = refl
  filed big n false h = absurd (let x : IsTrue false = h in cc)

  pub file_is : (n : ℕ) → x ≡ File n → IsTrue (fits 8 n) → whole (length (uleb n)) (bytes_text (uleb n)) ≡ content_draft e u x
  unfolding bytes_text
  file_is n is fit = value_is (File n) (length (uleb n)) (bytes_text (uleb n)) is refl refl (λ info big l. filed big n (fits 8 n) fit)

  indexed : (big : Bool) (i : ℕ) (o : Option ℕ) → IsFalse (is_none o) → ◌≡◌ {A = texts.Text} (Some (uleb i)) ((o >>= λ n. Some (Number i)) >>= λ x. Some (kind_bytes big Uleb x))
  indexed big i None h = absurd (let x : true ≡ false = h in cc)
  indexed big i (Some n) h = refl

  pub table_index_is : (section : SectionId) (i : ℕ) → x ≡ TableIndex section i → IsFalse (is_none (u.tables.part section i)) → whole (length (uleb i)) (bytes_text (uleb i)) ≡ content_draft e u x
  unfolding bytes_text
  table_index_is section i is there = value_is (TableIndex section i) (length (uleb i)) (bytes_text (uleb i)) is refl refl (λ info big l. indexed big i (u.tables.part section i) there)

  pub entry_place_is : (i n : ℕ) → x ≡ EntryPlace i → u.place i ≡ Some n → IsTrue (fits (word_of e.format) n) → whole (word_of e.format) (number_text (word_of e.format) n) ≡ content_draft e u x
  unfolding number_text
  entry_place_is i n is h fit =
      let w = word_of e.format in
      value_is (EntryPlace i) w (number_text w n) is refl refl
      (λ info big l. fitting big w n (fits w n) fit ∙ ap (λ o. let t : texts.Text = (o >>= number_in w) >>= λ x. Some (kind_bytes big (Fixed w) x) in t) (sym h))

  pub info_is : (r : InfoRef) → x ≡ InfoPlace r → IsTrue (is_width e.address_size) → info_draft (info_place_of e) r ≡ content_draft e u x
  info_is (refs.Symbol s) is wide = value_is (InfoPlace (refs.Symbol s)) (info_place_of e) (λ big l. None) is refl refl (λ info big l. refl)
  info_is (refs.Entry unit entry) is wide =
      content_is (InfoPlace (refs.Entry unit entry)) (info_place_of e) _ _ is refl refl (λ info big l. fixed_value big (info_place_of e) (info unit.0 entry.0) (info_width e wide))
