-- Sequences that are begun, and what is added to them.
use Rattle.std.proofs.Common.{◌≡◌, ◌∙◌, sym, ap, subst, inl, inr, ◌⊎◌, ℕ, false, List, Option, Some, None, Ok, Err, refl, IsSome, true≢false}
use Rattle.std.specs.Prelude.{unwrap_or}
use Rattle.std.specs.Option.{option_map}
use Rattle.dw_base.specs.declared.address.Address.{Address}
use Rattle.dw_base.specs.declared.ids.FileId.{FileId}
use Rattle.dw_base.specs.LineMachine.{Registers}
use Rattle.dw_line.specs.LinePrograms.{LineProgramValue, line_encoding_of, is_in_sequence, last_offset_of, begun}
use Rattle.dw_line.specs.LineRows.{last_offset}
use Rattle.dw_line.specs.ProgramTexts.{ProgramValue, minimum_length, with_begin, with_row, with_end}
use Rattle.dw_line.specs.RawRows.{base_of}
use Rattle.dw_line.specs.declared.row.LineRow.{LineRow}
use Rattle.dw_convert_lines.specs.RowImages.{row_image, offset_image, AddressImage}
use Rattle.dw_sources.specs.declared.convert_error.ConvertError.{ConvertError}
use Rattle.dw_convert_lines.specs.RowOutcomes.{Begins, AddsRow, AddsEnd, RefusesBegin, RefusesRow, RefusesEnd, Changes, Refuses}

pub there_is : (o : Option ProgramValue) → IsSome o → (p : ProgramValue) × (o ≡ Some p)
there_is None h = absurd (true≢false (sym h))
there_is (Some p) h = (p, refl)

-- a refusal in other words
pub refused_more : (P Q : ProgramValue → Type 0) (v : LineProgramValue) → ((p : ProgramValue) → P p → Q p) → Refuses P v → Refuses Q v
refused_more P Q v f h = record { before = h.before; was = h.was; fails = f h.before h.fails }

base_is : (base : Option ℕ) → unwrap_or base 0 ≡ base_of base
base_is None = refl
base_is (Some n) = refl

module _ (answers : ℕ → Option Address → Type 0) (base : Option ℕ) where
  pub answered : (n : ℕ) (a : Address) (address result : Option Address) → base ≡ Some n → address ≡ Some a → result ≡ Some a → answers n result → AddressImage answers base address
  answered n a address result b c d h = rw (b, c) (subst (λ (r : Option Address). answers n r) d h)

  pub unset : (address : Option Address) → base ≡ None → address ≡ None → AddressImage answers base address
  unset address b c = rw (b, c) tt

  pub begun_at : (v w : LineProgramValue) (a : Option Address) → IsSome v.program → is_in_sequence v.program ≡ false → AddressImage answers base a → w ≡ begun a v → Changes (Begins answers base) v w
  begun_at v w a there closed image is =
      let p = there_is v.program there in
      record {
        before = p.0;
        was = p.1;
        after = with_begin a p.0;
        is = ap (λ (x : LineProgramValue). x.program) is ∙ ap (option_map (with_begin a)) p.1;
        does = inr (sym (ap is_in_sequence p.1) ∙ closed, a, image, refl);
      }

  begins_length : (p q : ProgramValue) → Begins answers base p q → minimum_length q ≡ minimum_length p
  begins_length p q (inl h) = ap minimum_length h.1
  begins_length p q (inr h) = ap minimum_length h.3

  module _ (v w : LineProgramValue) (c : Changes (Begins answers base) v w) (m before from : ℕ) (length_is : m ≡ (line_encoding_of w.program).minimum_instruction_length) (before_is : before ≡ last_offset_of w.program) (from_is : from ≡ unwrap_or base 0) where
    length_here : m ≡ minimum_length c.before
    length_here = length_is ∙ ap (λ (o : Option ProgramValue). (line_encoding_of o).minimum_instruction_length) c.is ∙ begins_length c.before c.after c.does

    before_here : before ≡ last_offset 0 c.after.rows
    before_here = before_is ∙ ap last_offset_of c.is

    from_here : from ≡ base_of base
    from_here = from_is ∙ base_is base

    pub row_added : (x : LineProgramValue) (version : ℕ) (ids : List FileId) (r : Registers) (row : LineRow) → row_image version ids m from before r ≡ Ok row → x.program ≡ option_map (with_row row) w.program → Changes (AddsRow answers base version ids r) v x
    row_added x version ids r row image is = record {
      before = c.before;
      was = c.was;
      after = with_row row c.after;
      is = is ∙ ap (option_map (with_row row)) c.is;
      does = record {
        begun = c.after;
        begins = c.does;
        row = row;
        image = subst (λ (n : ℕ). row_image version ids (minimum_length c.before) (base_of base) n r ≡ Ok row) before_here
            (subst (λ (n : ℕ). row_image version ids (minimum_length c.before) n before r ≡ Ok row) from_here
            (subst (λ (n : ℕ). row_image version ids n from before r ≡ Ok row) length_here image));
        is = refl;
      };
    }

    pub row_refused : (version : ℕ) (ids : List FileId) (r : Registers) (e : ConvertError) → row_image version ids m from before r ≡ Err e → Refuses (λ p. RefusesBegin answers base p e ⊎ RefusesRow answers base version ids r p e) v
    row_refused version ids r e image = record {
      before = c.before;
      was = c.was;
      fails = inr (record {
        begun = c.after;
        begins = c.does;
        refused = subst (λ (n : ℕ). row_image version ids (minimum_length c.before) (base_of base) n r ≡ Err e) before_here
            (subst (λ (n : ℕ). row_image version ids (minimum_length c.before) n before r ≡ Err e) from_here
            (subst (λ (n : ℕ). row_image version ids n from before r ≡ Err e) length_here image));
      });
    }

    pub end_added : (x : LineProgramValue) (address end : ℕ) → offset_image m from before address ≡ Ok end → x.program ≡ option_map (with_end end) w.program → Changes (AddsEnd answers base address) v x
    end_added x address end image is = record {
      before = c.before;
      was = c.was;
      after = with_end end c.after;
      is = is ∙ ap (option_map (with_end end)) c.is;
      does = record {
        begun = c.after;
        begins = c.does;
        end = end;
        image = subst (λ (n : ℕ). offset_image (minimum_length c.before) (base_of base) n address ≡ Ok end) before_here
            (subst (λ (n : ℕ). offset_image (minimum_length c.before) n before address ≡ Ok end) from_here
            (subst (λ (n : ℕ). offset_image n from before address ≡ Ok end) length_here image));
        is = refl;
      };
    }

    pub end_refused : (address : ℕ) (e : ConvertError) → offset_image m from before address ≡ Err e → Refuses (λ p. RefusesBegin answers base p e ⊎ RefusesEnd answers base address p e) v
    end_refused address e image = record {
      before = c.before;
      was = c.was;
      fails = inr (record {
        begun = c.after;
        begins = c.does;
        refused = subst (λ (n : ℕ). offset_image (minimum_length c.before) (base_of base) n address ≡ Err e) before_here
            (subst (λ (n : ℕ). offset_image (minimum_length c.before) n before address ≡ Err e) from_here
            (subst (λ (n : ℕ). offset_image n from before address ≡ Err e) length_here image));
      });
    }
