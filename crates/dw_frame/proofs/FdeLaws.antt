-- FDEs that are written are read again.
use Rattle.std.specs.Prelude.{◌≡◌, ℕ, zero, suc, ◌+◌, ◌-◌, ◌≤◌, ◌==◌, Bool, true, false, not, nat_le, List, [], ◌++◌, length, Option, Some, None, slice_get, refl, pos, ◌+ℤ◌, if◌then◌else◌}
use Rattle.std.proofs.Common.{sym, ◌∙◌, ap, subst, arith, length-append}
use Rattle.std.proofs.lemmas.Bool.{le-leb, ne_eqb}
use Rattle.dw_base.specs.Numbers.{◌>>=◌, when, word_of}
use Rattle.dw_base.specs.Pointers.{format_of, pointer_width}
use Rattle.dw_base.specs.declared.address.Address.{Address}
use Rattle.dw_base.specs.declared.address.Address.TheVariants.{Constant, Symbol}
use Rattle.dw_base.specs.declared.common.Format.{Format}
use Rattle.dw_writer.specs.Texts.{Text, num_text}
use Rattle.dw_writer.specs.Pointers.{constant_pointer, data_text, address_of, pointer_text}
use Rattle.dw_writer.specs.SectionTexts.{offset_text, address_text, eh_pointer_text, eh_pointer_size}
use Rattle.dw_writer.proofs.Laws.{length-num_text}
use Rattle.dw_writer.proofs.PointerSteps.{length-constant_pointer}
use Rattle.dw_frame.specs.declared.kind.FrameKind.{FrameKind}
use Rattle.dw_frame.specs.declared.kind.FrameKind.TheVariants.{Debug, Eh}
use Rattle.dw_frame.specs.declared.cie.CommonInformationEntry.{CommonInformationEntry}
use Rattle.dw_frame.specs.declared.fde.FrameDescriptionEntry.{FrameDescriptionEntry}
use Rattle.dw_frame_instructions.specs.Pieces.{missing, both}
use Rattle.dw_frame.specs.Parts.{Placed, caused, in_turn, numbered}
use Rattle.dw_frame.specs.PointerParts.{pointer, address, pointer_data, frame_offset}
use Rattle.dw_frame.specs.Cies.{cie_number, has_encoding}
use Rattle.dw_frame.specs.Fdes.{too_large, cie_pointer, range_part}
use Rattle.dw_frame.specs.Reading.{IsWide, at_zero, cie_field_at}
use Rattle.dw_frame.proofs.NumberSteps.{data_wide}
use Rattle.dw_frame.proofs.TextParts.{IsText, split, turned, number_again}

no_symbol : (s : ℕ) → ◌≡◌ {A = Option ℕ} (slice_get [] s) None
no_symbol zero = refl
no_symbol (suc s) = refl

no_pointer : (o : Option ℕ) (s : ℕ) (f : ℕ → ℕ → Text) → (o >>= λ w. slice_get [] s >>= λ v. f w v) ≡ None
no_pointer None s f = refl
no_pointer (Some w) s f = ap (λ x. x >>= λ v. f w v) (no_symbol s)

-- an address that is known
pub record IsKnown (a : Address) : Type 0 where
  pub number : ℕ
  pub is : a ≡ Constant number

-- the text of a pointer is there only where the address is known
pub pointer_known : (size encoding at : ℕ) (a : Address) (big : Bool) (xs : List ℕ) → IsText big (pointer size encoding a at) xs → IsKnown a
unfolding eh_pointer_text
pointer_known size encoding at (Constant n) big xs e = record { number = n; is = refl }
pointer_known size encoding at (Symbol s addend) big xs e =
    let none = no_pointer (pointer_width size (format_of encoding)) s (λ w v. address_of (addend +ℤ pos v) >>= pointer_text big w encoding (0 + at)) in
    absurd (let k : ◌≡◌ {A = Text} None (Some xs) = sym none ∙ e in cc)

pub known_text : (size encoding at n : ℕ) (big : Bool) (xs : List ℕ) → IsText big (pointer size encoding (Constant n) at) xs → constant_pointer big size encoding at n ≡ Some xs
unfolding eh_pointer_text
known_text size encoding at n big xs e = e

pub address_known : (w at : ℕ) (a : Address) (big : Bool) (xs : List ℕ) → IsText big (address w a at) xs → IsKnown a
unfolding address_text
address_known w at (Constant n) big xs e = record { number = n; is = refl }
address_known w at (Symbol s addend) big xs e = absurd (let k : ◌≡◌ {A = Text} None (Some xs) = e in cc)

pub address_is_pointer : (w at n : ℕ) (big : Bool) (xs : List ℕ) → IsText big (address w (Constant n) at) xs → constant_pointer big w 0 at n ≡ Some xs
unfolding address_text constant_pointer data_text
address_is_pointer w at n big xs e = e

pub number_is_data : (w n : ℕ) (big : Bool) (xs : List ℕ) → num_text big w n ≡ Some xs → data_text big w 0 n ≡ Some xs
unfolding data_text
number_is_data w n big xs e = e

-- an offset of a CIE that is written isn't the id of a CIE
pub offset_by : (b : Bool) (w cie at : ℕ) (big : Bool) (xs : List ℕ) → IsText big ((if b then caused missing too_large else frame_offset w cie) at) xs → (b ≡ false) × IsText big (frame_offset w cie at) xs
offset_by true w cie at big xs e = cc
offset_by false w cie at big xs e = (refl, e)

offset_wide : (b : Bool) (w cie at : ℕ) → IsWide ((if b then caused missing too_large else frame_offset w cie) at)
unfolding offset_text
offset_wide true w cie at big xs e = cc
offset_wide false w cie at big xs e = length-num_text big w (cie + 0) xs e

-- the field that leads to the CIE
pub field_again : (kind : FrameKind) (format : Format) (cie at : ℕ) (big : Bool) (xs rest : List ℕ) → cie ≤ at → IsText big (cie_pointer kind format cie at) xs →
    cie_field_at kind big format at (xs ++ rest) ≡ Some (cie, rest)
unfolding offset_text
field_again Debug format cie at big xs rest before e =
    let t = offset_by (cie == cie_number Debug format) (word_of format) cie at big xs e in
    number_again big (word_of format) cie xs rest (ap (num_text big (word_of format)) (omega arith) ∙ t.1)
field_again Eh format cie at big xs rest before e =
    let back : ℕ = at - cie in
    ap (λ o. o >>= λ x. when (nat_le x.0 at) (Some (at - x.0, x.1))) (number_again big 4 back xs rest e)
    ∙ ap (λ b. when b (Some (at - back, rest))) (le-leb back at (omega arith))
    ∙ ap (λ n. Some (n, rest)) (omega (arith, before))

pub field_wide : (kind : FrameKind) (format : Format) (cie at : ℕ) → IsWide (cie_pointer kind format cie at)
field_wide Debug format cie at big xs e = offset_wide (cie == cie_number Debug format) (word_of format) cie at big xs e
field_wide Eh format cie at big xs e = length-num_text big 4 (at - cie) xs e

-- Ranges

pub turn_wide : (p q : Placed) (at : ℕ) → IsWide (p at) → IsWide (q (at + (p at).piece.size)) → IsWide (in_turn p q at)
unfolding in_turn both
turn_wide p q at h k big zs e =
    let s = split ((p at).piece.text big at_zero) ((q (at + (p at).piece.size)).piece.text big at_zero) zs e in
    omega (arith, ap length s.whole, length-append s.xs s.ys, h big s.xs s.first, k big s.ys s.second)

pub pointer_wide : (size encoding : ℕ) (a : Address) (at : ℕ) → IsWide (pointer size encoding a at)
pointer_wide size encoding a at big xs e =
    let known = pointer_known size encoding at a big xs e in
    let text = known_text size encoding at known.number big xs (subst (λ b. IsText big (pointer size encoding b at) xs) known.is e) in
    length-constant_pointer big size encoding at known.number xs text ∙ ap (λ b. eh_pointer_size size encoding at b) (sym known.is)

address_wide : (w : ℕ) (a : Address) (at : ℕ) → IsWide (address w a at)
unfolding address_text
address_wide w (Constant n) at big xs e = length-num_text big w n xs e
address_wide w (Symbol s addend) at big xs e = absurd (let k : ◌≡◌ {A = Text} None (Some xs) = e in cc)

-- the range of an FDE: its address and its length
pub record RangeParts (w encoding at : ℕ) (f : FrameDescriptionEntry) (big : Bool) (zs : List ℕ) : Type 0 where
  pub known : IsKnown f.address
  pub xs : List ℕ
  pub ys : List ℕ
  pub whole : zs ≡ xs ++ ys
  pub first : constant_pointer big w encoding at known.number ≡ Some xs
  pub second : data_text big w (format_of encoding) f.length ≡ Some ys

encoded_parts : (w encoding at : ℕ) (f : FrameDescriptionEntry) (big : Bool) (zs : List ℕ) → IsText big (in_turn (pointer w encoding f.address) (pointer_data w (format_of encoding) f.length) at) zs → RangeParts w encoding at f big zs
encoded_parts w encoding at f big zs e =
    let s = turned (pointer w encoding f.address) (pointer_data w (format_of encoding) f.length) at big zs e in
    let known = pointer_known w encoding at f.address big s.xs s.first in
    record {
      known = known;
      xs = s.xs;
      ys = s.ys;
      whole = s.whole;
      first = known_text w encoding at known.number big s.xs (subst (λ b. IsText big (pointer w encoding b at) s.xs) known.is s.first);
      second = s.second;
    }

plain_parts : (w at : ℕ) (f : FrameDescriptionEntry) (big : Bool) (zs : List ℕ) → IsText big (in_turn (address w f.address) (numbered w f.length) at) zs → RangeParts w 0 at f big zs
plain_parts w at f big zs e =
    let s = turned (address w f.address) (numbered w f.length) at big zs e in
    let known = address_known w at f.address big s.xs s.first in
    record {
      known = known;
      xs = s.xs;
      ys = s.ys;
      whole = s.whole;
      first = address_is_pointer w at known.number big s.xs (subst (λ b. IsText big (address w b at) s.xs) known.is s.first);
      second = number_is_data w f.length big s.ys s.second;
    }

range_by : (b : Bool) (w encoding at : ℕ) (f : FrameDescriptionEntry) (big : Bool) (zs : List ℕ) → not (encoding == 0) ≡ b →
    IsText big ((if b then in_turn (pointer w encoding f.address) (pointer_data w (format_of encoding) f.length) else in_turn (address w f.address) (numbered w f.length)) at) zs → RangeParts w encoding at f big zs
range_by true w encoding at f big zs h e = encoded_parts w encoding at f big zs e
range_by false w zero at f big zs h e = plain_parts w at f big zs e
range_by false w (suc n) at f big zs h e = absurd (let k : true ≡ false = ap not (sym (ne_eqb (suc n) 0 (λ z. omega (arith, z)))) ∙ h in cc)

pub range_parts : (c : CommonInformationEntry) (f : FrameDescriptionEntry) (at : ℕ) (big : Bool) (zs : List ℕ) → IsText big (range_part c f at) zs → RangeParts c.encoding.address_size c.fde_address_encoding.0 at f big zs
range_parts c f at big zs e = range_by (has_encoding c) c.encoding.address_size c.fde_address_encoding.0 at f big zs refl e

wide_by : (b : Bool) (w encoding at : ℕ) (f : FrameDescriptionEntry) →
    IsWide ((if b then in_turn (pointer w encoding f.address) (pointer_data w (format_of encoding) f.length) else in_turn (address w f.address) (numbered w f.length)) at)
wide_by true w encoding at f = turn_wide (pointer w encoding f.address) (pointer_data w (format_of encoding) f.length) at (pointer_wide w encoding f.address at) (λ big xs e. data_wide w (format_of encoding) f.length big xs e)
wide_by false w encoding at f = turn_wide (address w f.address) (numbered w f.length) at (address_wide w f.address at) (λ big xs e. length-num_text big w f.length xs e)

pub range_wide : (c : CommonInformationEntry) (f : FrameDescriptionEntry) (at : ℕ) → IsWide (range_part c f at)
range_wide c f at = wide_by (has_encoding c) c.encoding.address_size c.fde_address_encoding.0 at f
