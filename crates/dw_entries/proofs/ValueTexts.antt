-- The texts of values.
use Rattle.std.specs.Prelude.{◌≡◌, ℕ, Bool, true, false, ◌&&◌, ◌==◌, List, [], ◌∷◌, ◌++◌, length, Option, Some, None, refl, IsTrue, if◌then◌else◌}
use Rattle.std.proofs.Common.{sym, ◌∙◌, ap, subst, arith}
use Rattle.std.proofs.lemmas.Option.{same_Some}
use Rattle.dw_base.specs.Numbers.{◌>>=◌, when, num, is_width, fits, word_of}
use Rattle.dw_base.specs.Leb128.{uleb}
use Rattle.dw_base.specs.Forms.{Operand, Number, Bytes, Kind, Fixed, UlebBlock, kind_of, info_place_of}
use Rattle.dw_base.specs.Spelling.{operand_bytes}
use Rattle.dw_base.specs.Spellable.{KindFits, FormFits}
use Rattle.dw_base.specs.declared.address.DebugInfoRef.TheVariants as refs
use Rattle.dw_base.specs.declared.common.Encoding.{Encoding}
use Rattle.dw_base.specs.declared.ids.UnitEntryId.{UnitEntryId}
use Rattle.dw_base.specs.declared.ids.UnitId.{UnitId}
use Rattle.dw_base.proofs.NumberLaws.{bind_parts}
use Rattle.dw_writer.specs.Texts.{Text, num_text, followed, patched}
use Rattle.dw_writer.specs.SectionTexts.{bytes_text}
use Rattle.dw_writer.specs.Layout.{Layout}
use Rattle.dw_writer.specs.Drafts.{Info, Draft, left_open, open_text, filled, then_draft, AreBetween, HaveWidths, IsDraft}
use Rattle.dw_writer.specs.declared.fixup.DebugInfoFixup.{DebugInfoFixup}
use Rattle.dw_writer.proofs.Laws.{IsWide}
use Rattle.dw_writer.proofs.DraftLaws.{draft_is, then-draft}
use Rattle.dw_writer.proofs.WriteLaws.{reference-draft}
use Rattle.dw_expr.specs.Trees.{Node}
use Rattle.dw_expr.specs.Spelling.{expression_draft}
use Rattle.dw_expr.proofs.ExpressionDrafts.{bytes-draft, expression-draft}
use Rattle.dw_entries.specs.Content.{Content, Nothing, Plain, Wide, Leb, SignedLeb, Block, Expression, Closed, Target, Offset, InTable, TableIndex, OwnPart, File, EntryPlace, InfoPlace, number_in, bytes_in, content_operand, content_kind, content_size, content_holes}
use Rattle.dw_entries.specs.declared.value.AttributeValue.{AttributeValue}
use Rattle.dw_entries.specs.Targets.{Targets, UnitTargets, targets_in}
use Rattle.dw_entries.specs.Values.{reference_form, form_of, content_of, operand_of, operand_size, value_draft, IsRanged}
use Rattle.dw_entries.proofs.ContentLaws.{kind_of-form, kind_of-reference, content_fits, content_long, word_width}

-- a place in the unit fits
pub reference-fits : (e : Encoding) (o : Operand) → KindFits (Fixed (word_of e.format)) o → FormFits (kind_of e (reference_form e.format)) o
reference-fits e o h = subst (λ k. FormFits k o) (sym (kind_of-reference e e.format)) h

pub reference-long : (big : Bool) (e : Encoding) (o : Operand) → length (operand_bytes big (Some (Fixed (word_of e.format))) o) ≡ word_of e.format → length (operand_bytes big (kind_of e (reference_form e.format)) o) ≡ word_of e.format
reference-long big e o h = ap (λ k. length (operand_bytes big k o)) (kind_of-reference e e.format) ∙ h

-- the operand of a value is one of its form
pub operand_fits : (big : Bool) (e : Encoding) (t : Targets) (v : AttributeValue) (o : Operand) → IsRanged e v → operand_of big e t v ≡ Some o → FormFits (kind_of e (form_of e v)) o
operand_fits big e t v o r h = subst (λ k. FormFits k o) (sym (kind_of-form e v)) (content_fits big e t (content_of e v) o r h)

-- and has as many bytes as its size says
pub operand_long : (big : Bool) (e : Encoding) (t : Targets) (v : AttributeValue) (o : Operand) → operand_of big e t v ≡ Some o → length (operand_bytes big (kind_of e (form_of e v)) o) ≡ operand_size e t.place v
operand_long big e t v o h = ap (λ k. length (operand_bytes big k o)) (kind_of-form e v) ∙ content_long big e t (content_of e v) o h

-- so has the text
content_wide : (e : Encoding) (u : UnitTargets) (c : Content) (k : Option Kind) → k ≡ Some (content_kind e c) → (info : Info) (big : Bool) (l : Layout) (xs : List ℕ) →
    (content_operand big e (targets_in u l info) c >>= λ o. Some (operand_bytes big k o)) ≡ Some xs → length xs ≡ content_size e u.place c
content_wide e u c k kind info big l xs h =
    let t = targets_in u l info in
    let o = bind_parts (content_operand big e t c) _ xs h in
    let bytes : List ℕ = operand_bytes big k o.0 in
    sym (ap length (same_Some bytes xs o.2)) ∙ ap (λ x. length (operand_bytes big x o.0)) kind ∙ content_long big e t c o.0 o.1

-- Places in .debug_info

-- a width of such a place is one of numbers
pub info_width : (e : Encoding) → IsTrue (is_width e.address_size) → IsTrue (is_width (info_place_of e))
info_width e h = either (e.version == 2)
  where
    either : (old : Bool) → IsTrue (is_width (if old then e.address_size else word_of e.format))
    either true = h
    either false = word_width e.format

-- a number that is written as an operand is written as itself
number_text : (big : Bool) (w : ℕ) (o : Option ℕ) → IsTrue (is_width w) → (o >>= number_in w >>= λ x. Some (operand_bytes big (Some (Fixed w)) x)) ≡ (o >>= num_text big w)
unfolding num_text
number_text big w None h = refl
number_text big w (Some n) h = either (is_width w) (fits w n) h
  where
    either : (wide fit : Bool) → IsTrue wide →
        (when fit (Some (Number n)) >>= λ x. Some (operand_bytes big (Some (Fixed w)) x)) ≡ (if wide && fit then Some (num big w n) else None)
    either true true h = refl
    either true false h = refl
    either false fit h = absurd (let k : false ≡ true = h in cc)

-- what is written where operands lead to these targets, as a draft
abbrev content_draft : Encoding → UnitTargets → Option Kind → Content → Draft
content_draft e u k c = record {
  size = content_size e u.place c;
  text = λ info big l. content_operand big e (targets_in u l info) c >>= λ o. Some (operand_bytes big k o);
  holes = content_holes e u.place c;
}

-- a text that has no reference to be filled in
plain-draft : (e : Encoding) (u : UnitTargets) (c : Content) (k : Option Kind) → k ≡ Some (content_kind e c) →
    ((info : Info) (big : Bool) (l : Layout) → content_operand big e (targets_in u l left_open) c ≡ content_operand big e (targets_in u l info) c) → content_holes e u.place c ≡ [] → IsDraft (content_draft e u k c)
plain-draft e u c k kind same none = record {
  wide = content_wide e u c k kind;
  between = subst (AreBetween 0 (content_size e u.place c)) (sym none) (omega arith);
  widths = subst HaveWidths (sym none) tt;
  fills = λ info big l.
      let text : Option Operand → Text = λ x. x >>= λ o. Some (operand_bytes big k o) in
      ap (λ hs. filled big info hs (text (content_operand big e (targets_in u l left_open) c))) none ∙ ap text (same info big l);
}

-- a reference that is
info-draft : (e : Encoding) (u : UnitTargets) (unit : UnitId) (entry : UnitEntryId) (k : Option Kind) → k ≡ Some (Fixed (info_place_of e)) → IsTrue (is_width e.address_size) →
    IsDraft (content_draft e u k (InfoPlace (refs.Entry unit entry)))
info-draft e u unit entry k kind width =
    let w = info_place_of e in
    let wide = info_width e width in
    let c : Content = InfoPlace (refs.Entry unit entry) in
    subst IsDraft (draft_is w w _ _ _ _ refl
    (λ info big l. sym (ap (λ x. content_operand big e (targets_in u l info) c >>= λ o. Some (operand_bytes big x o)) kind ∙ number_text big w (info unit.0 entry.0) wide)) refl)
    (reference-draft w unit entry wide)

-- Expressions

filled-none : (big : Bool) (info : Info) (hs : List DebugInfoFixup) → filled big info hs None ≡ None
unfolding patched
filled-none big info [] = refl
filled-none big info (h ∷ hs) = filled-none big info hs

filled-when : (big : Bool) (info : Info) (hs : List DebugInfoFixup) (b : Bool) (t : Text) → filled big info hs (when b t) ≡ when b (filled big info hs t)
filled-when big info hs true t = refl
filled-when big info hs false t = filled-none big info hs

none_when : (b : Bool) → ◌≡◌ {A = Text} None (when b None)
none_when true = refl
none_when false = refl

some_when : (big : Bool) (xs : List ℕ) (b : Bool) → ◌≡◌ {A = Text} (when b (Some (Bytes xs)) >>= λ o. Some (operand_bytes big (Some UlebBlock) o)) (when b (Some (uleb (length xs) ++ xs)))
some_when big xs true = refl
some_when big xs false = refl

-- bytes behind their number, where that fits
pub counted_text : (big : Bool) (n : ℕ) (t : Text) → IsWide n t → (t >>= bytes_in >>= λ o. Some (operand_bytes big (Some UlebBlock) o)) ≡ when (fits 8 n) (followed (Some (uleb n)) t)
unfolding followed
counted_text big n None wide = none_when (fits 8 n)
counted_text big n (Some xs) wide =
    some_when big xs (fits 8 (length xs)) ∙ ap (λ (m : ℕ). let t : Text = when (fits 8 m) (Some (uleb m ++ xs)) in t) (wide xs refl)

block-draft : (e : Encoding) (u : UnitTargets) (ns : List Node) (k : Option Kind) → k ≡ Some UlebBlock → IsTrue (is_width e.address_size) → IsDraft (content_draft e u k (Expression ns))
unfolding then_draft bytes_text
block-draft e u ns k kind width =
    let d = expression_draft e u.place ns in
    let own = expression-draft e u.place width ns in
    let both = then-draft (bytes-draft (uleb d.size)) own in
    let text : Option Kind → Text → Bool → Text = λ x t big. t >>= bytes_in >>= λ o. Some (operand_bytes big x o) in
    record {
      wide = content_wide e u (Expression ns) k kind;
      between = both.between;
      widths = both.widths;
      fills = λ info big l.
          let hs = content_holes e u.place (Expression ns) in
          ap (λ x. filled big info hs (text x (open_text d big l) big)) kind
          ∙ ap (filled big info hs) (counted_text big d.size (open_text d big l) (own.wide left_open big l))
          ∙ filled-when big info hs (fits 8 d.size) (followed (Some (uleb d.size)) (open_text d big l))
          ∙ ap (when (fits 8 d.size)) (both.fills info big l)
          ∙ sym (ap (λ x. text x (d.text info big l) big) kind ∙ counted_text big d.size (d.text info big l) (own.wide info big l));
    }

content-draft : (e : Encoding) (u : UnitTargets) (c : Content) (k : Option Kind) → k ≡ Some (content_kind e c) → IsTrue (is_width e.address_size) → IsDraft (content_draft e u k c)
content-draft e u Nothing k kind width = plain-draft e u Nothing k kind (λ info big l. refl) refl
content-draft e u (Plain w n) k kind width = plain-draft e u (Plain w n) k kind (λ info big l. refl) refl
content-draft e u (Wide n) k kind width = plain-draft e u (Wide n) k kind (λ info big l. refl) refl
content-draft e u (Leb n) k kind width = plain-draft e u (Leb n) k kind (λ info big l. refl) refl
content-draft e u (SignedLeb z) k kind width = plain-draft e u (SignedLeb z) k kind (λ info big l. refl) refl
content-draft e u (Block xs) k kind width = plain-draft e u (Block xs) k kind (λ info big l. refl) refl
content-draft e u (Expression ns) k kind width = block-draft e u ns k kind width
content-draft e u (Closed s) k kind width = plain-draft e u (Closed s) k kind (λ info big l. refl) refl
content-draft e u (Target a) k kind width = plain-draft e u (Target a) k kind (λ info big l. refl) refl
content-draft e u (Offset section n) k kind width = plain-draft e u (Offset section n) k kind (λ info big l. refl) refl
content-draft e u (InTable section i) k kind width = plain-draft e u (InTable section i) k kind (λ info big l. refl) refl
content-draft e u (TableIndex section i) k kind width = plain-draft e u (TableIndex section i) k kind (λ info big l. refl) refl
content-draft e u (OwnPart section) k kind width = plain-draft e u (OwnPart section) k kind (λ info big l. refl) refl
content-draft e u (File n) k kind width = plain-draft e u (File n) k kind (λ info big l. refl) refl
content-draft e u (EntryPlace i) k kind width = plain-draft e u (EntryPlace i) k kind (λ info big l. refl) refl
content-draft e u (InfoPlace (refs.Symbol s)) k kind width = plain-draft e u (InfoPlace (refs.Symbol s)) k kind (λ info big l. refl) refl
content-draft e u (InfoPlace (refs.Entry unit entry)) k kind width = info-draft e u unit entry k kind width

-- a value is a draft
pub value-draft : (e : Encoding) (u : UnitTargets) (v : AttributeValue) → IsTrue (is_width e.address_size) → IsDraft (value_draft e u v)
value-draft e u v width = content-draft e u (content_of e v) (kind_of e (form_of e v)) (kind_of-form e v) width
