-- Going over the parts of a description.
use Rattle.std.proofs.Common.{◌≡◌, ◌∙◌, sym, ap, ℕ, ◌+◌, cond, List, [], ◌∷◌, arith}
use Rattle.std.specs.Prelude.{◌≢◌, ◌==◌, All}
use Rattle.std.proofs.lemmas.List.Elements.{All-cons, All-head, All-tail, All-same}
use Rattle.dw_base.specs.declared.constants.DwLnct.{DwLnct}
use Rattle.dw_base.specs.declared.constants.TheConstants.{DW_FORM_implicit_const}
use Rattle.dw_read.specs.Reading.{Reading}
use Rattle.dw_read_lines.specs.FileEntryFormatIters.{HasFormats, GivesFormat, part_of}
use Rattle.dw_read_lines.specs.declared.file_entry_formats.FileEntryFormat.{FileEntryFormat}
use Rattle.dw_read_lines.specs.declared.file_entry_formats.FileEntryFormatIter.{FileEntryFormatIter}
use Rattle.dw_convert_lines.specs.FormatLists.{times_told}
use Rattle.dw_convert_lines.proofs.FormatLaws.{times_told-cons}

abbrev pub IsPlain : ℕ × ℕ → Type 0
IsPlain part = part.1 ≢ DW_FORM_implicit_const.0

module _ {R E : Type 0} (reading : R → Reading) where
  -- the parts that were handed out have no value in the description
  pub record ArePlain (i : FileEntryFormatIter R E) (parts : List (ℕ × ℕ)) : Type 0 where
    pub more : List (ℕ × ℕ)
    pub left : HasFormats reading i more
    pub all : All IsPlain more → All IsPlain parts
    pub rest : All IsPlain parts → All IsPlain more

  -- so many of the parts that were handed out tell a content
  pub record Counted (content : DwLnct) (i : FileEntryFormatIter R E) (times : ℕ) (parts : List (ℕ × ℕ)) : Type 0 where
    pub more : List (ℕ × ℕ)
    pub left : HasFormats reading i more
    pub sum : times + times_told content more ≡ times_told content parts

  module _ (i : FileEntryFormatIter R E) (parts : List (ℕ × ℕ)) where
    pub plain_first : HasFormats reading i parts → ArePlain i parts
    plain_first h = record { more = parts; left = h; all = λ a. a; rest = λ a. a }

    pub counted_first : (content : DwLnct) → HasFormats reading i parts → Counted content i 0 parts
    counted_first content h = record { more = parts; left = h; sum = omega arith }

    pub plain_end : (w : ArePlain i parts) → w.more ≡ [] → All IsPlain parts
    plain_end w e = w.all (All-same IsPlain w.more [] e (λ k d h. absurd (omega arith)))

    pub counted_end : (content : DwLnct) (times : ℕ) (w : Counted content i times parts) → w.more ≡ [] → times ≡ times_told content parts
    counted_end content times w e = let z : times_told content w.more ≡ 0 = ap (times_told content) e in omega arith

    module _ (new : FileEntryFormatIter R E) (f : FileEntryFormat) where
      pub plain_more : (w : ArePlain i parts) → GivesFormat reading new w.more f → f.form.0 ≢ DW_FORM_implicit_const.0 → ArePlain new parts
      plain_more w g p = record {
        more = g.others;
        left = g.left;
        all = λ a. w.all (All-same IsPlain w.more (part_of f ∷ g.others) g.first (All-cons IsPlain (part_of f) g.others p a));
        rest = λ a. All-tail IsPlain (part_of f) g.others (All-same IsPlain (part_of f ∷ g.others) w.more (sym g.first) (w.rest a));
      }

      pub not_plain : (w : ArePlain i parts) → GivesFormat reading new w.more f → f.form.0 ≡ DW_FORM_implicit_const.0 → All IsPlain parts → ⊥
      not_plain w g p a = All-head IsPlain (part_of f) g.others (All-same IsPlain (part_of f ∷ g.others) w.more (sym g.first) (w.rest a)) p

      pub counted_more : (content : DwLnct) (times after : ℕ) (w : Counted content i times parts) → GivesFormat reading new w.more f → after ≡ times + cond (f.content_type == content.0) 1 0 → Counted content new after parts
      counted_more content times after w g q = record {
        more = g.others;
        left = g.left;
        sum =
            let z : times_told content w.more ≡ cond (f.content_type == content.0) 1 0 + times_told content g.others = ap (times_told content) g.first ∙ times_told-cons content (part_of f) g.others in
            let s : times + times_told content w.more ≡ times_told content parts = w.sum in
            omega arith;
      }
