-- FDEs that are written are read back.
use Rattle.std.specs.Prelude.{◌≡◌, ℕ, ◌+◌, ◌-◌, ◌^◌, ◌<◌, ◌≤◌, ◌==◌, ◌||◌, not, IsTrue, IfSome, Bool, true, false, List, [], ◌∷◌, ◌++◌, length, Option, Some, None, Ok, is_some, unwrap_or, refl, if◌then◌else◌}
use Rattle.std.specs.Option.{option_map}
use Rattle.std.proofs.Common.{sym, ◌∙◌, ap, subst, arith, append_assoc, append-nil, length-append}
use Rattle.std.proofs.lemmas.Bool.{eqb-true}
use Rattle.dw_base.specs.Numbers.{num, is_width, length_fits, length_size, escape_of, word_of}
use Rattle.dw_base.specs.declared.address.Address.{Address}
use Rattle.dw_base.specs.declared.address.Address.TheVariants.{Constant}
use Rattle.dw_base.specs.declared.common.Format.{Format}
use Rattle.dw_base.specs.declared.common.Format.TheVariants.{Dwarf32, Dwarf64}
use Rattle.dw_base.specs.declared.constants.DwEhPe.{DwEhPe}
use Rattle.dw_base.specs.declared.constants.TheConstants.{DW_EH_PE_absptr}
use Rattle.dw_base.proofs.NumberLaws.{length-num}
use Rattle.dw_writer.specs.Texts.{zeros}
use Rattle.dw_writer.specs.SectionTexts.{offset_text}
use Rattle.dw_writer.proofs.Laws.{length-num_text}
use Rattle.dw_frame.specs.declared.cie.CommonInformationEntry.{CommonInformationEntry}
use Rattle.dw_frame.specs.declared.fde.FrameDescriptionEntry.{FrameDescriptionEntry}
use Rattle.dw_frame.specs.declared.kind.FrameKind.{FrameKind}
use Rattle.dw_frame.specs.declared.kind.FrameKind.TheVariants.{Debug, Eh}
use Rattle.dw_frame.specs.Cies.{is_augmented, has_encoding, cie_number}
use Rattle.dw_frame.specs.Entries.{counted, padding, padded, entry}
use Rattle.dw_frame.specs.Fdes.{cie_pointer, range_part, lsda_part, disagree, mismatch, instructions, fde_contents}
use Rattle.dw_frame.specs.Parts.{Placed, in_turn, only_if, refused_if}
use Rattle.dw_frame.specs.PointerParts.{pointer, frame_offset}
use Rattle.dw_frame_instructions.specs.Programs.{program_piece}
use Rattle.dw_frame.specs.ReadCies.{IsShort}
use Rattle.dw_frame.specs.Reading.{at_zero, IsRanged}
use Rattle.dw_frame.proofs.FdeLaws.{RangeParts, offset_by, pointer_known, known_text, field_again, field_wide, range_parts, range_wide, turn_wide}
use Rattle.dw_frame.proofs.IdLaws.{field_id}
use Rattle.dw_frame.proofs.TextParts.{IsText, turned, measured_parts, counted_parts}
use Rattle.dw_read_frames.specs.Augmentations.{standing}
use Rattle.dw_read_frames.specs.Entries.{Fde, entry_read, entry_at}
use Rattle.dw_read_frames.specs.Fdes.{address_encoding, pointed_read, lsda_read, fde_read}
use Rattle.dw_read_frames.specs.Heads.{head_read, owner_read}
use Rattle.dw_read_frames.specs.Pointers.{data_read, pointer_read}
use Rattle.dw_read_frames.specs.declared.augmentation.Augmentation.{Augmentation}
use Rattle.dw_read_frames.specs.declared.cie.CieFields.{CieFields}
use Rattle.dw_read_frames.specs.declared.fde.FdeFields.{FdeFields}
use Rattle.dw_read_back.specs.Heads.{is_eh}
use Rattle.dw_read_back.specs.Entries.{AreFields, IsSaid, ReadsFdeBack, FdeReadsBack}
use Rattle.dw_read_back.proofs.AugmentationReading.{count_byte, count_back}
use Rattle.dw_read_back.proofs.CieReading.{padded_parts}
use Rattle.dw_read_back.proofs.HeadReading.{owner_back, head_back}
use Rattle.dw_read_back.proofs.OperandReading.{bytes_back}
use Rattle.dw_read_back.proofs.PointerReading.{data_back, pointer_back}
use Rattle.dw_read_back.proofs.Widths.{bytes_wide, lsda_wide, fde_wide, pad_wide, pointer_short}

-- The pointer to the data for the function's language

record LsdaBack (x : Option Address) (result : Option ℕ → Type 0) : Type 0 where
  pub number : Option ℕ
  pub is : x ≡ option_map Constant number
  pub read : result number

record Pointed (x : Option Address) (result : Option ℕ → List ℕ → Type 0) : Type 0 where
  pub number : Option ℕ
  pub left : List ℕ
  pub is : x ≡ option_map Constant number
  pub read : result number left

pointed_back : (o : Option DwEhPe) (x : Option Address) (w here end : ℕ) (big : Bool) (ys : List ℕ) → disagree o x ≡ false → IfSome x IsShort → IsTrue (is_width w) → IsText big (lsda_part w o x here) ys →
    standing end ys ≡ here → Pointed x (λ n left. pointed_read big w o end ys ≡ Ok (n, left))
unfolding pointed_read
pointed_back None None w here end big ys agree short width e stands = record { number = None; left = ys; is = refl; read = refl }
pointed_back None (Some a) w here end big ys agree short width e stands = cc
pointed_back (Some x) None w here end big ys agree short width e stands = cc
pointed_back (Some x) (Some a) w here end big ys agree short width e stands =
    let known = pointer_known w x.0 here a big ys e in
    let text = known_text w x.0 here known.number big ys (subst (λ b. IsText big (pointer w x.0 b here) ys) known.is e) in
    let small : known.number < 2 ^ 64 = subst IsShort known.is short in
    let again : pointer_read big w x (standing end ys) ys ≡ Ok (known.number, []) =
    ap (λ n. pointer_read big w x n ys) stands ∙ ap (pointer_read big w x here) (sym (append-nil ys)) ∙ pointer_back big w x here known.number ys [] width small text in
    record { number = Some known.number; left = []; is = ap Some known.is; read = rw again refl }

lsda_short : (w here : ℕ) (o : Option DwEhPe) (x : Option Address) (big : Bool) (ys : List ℕ) → IsText big (lsda_part w o x here) ys → length ys ≤ 10
lsda_short w here None None big ys e = omega (arith, bytes_wide [] big ys e)
lsda_short w here None (Some a) big ys e = omega (arith, bytes_wide [] big ys e)
lsda_short w here (Some x) None big ys e = omega (arith, bytes_wide [] big ys e)
lsda_short w here (Some x) (Some a) big ys e =
    let known = pointer_known w x.0 here a big ys e in
    pointer_short big w x.0 here known.number ys (known_text w x.0 here known.number big ys (subst (λ b. IsText big (pointer w x.0 b here) ys) known.is e))

nothing_more : (o : Option DwEhPe) (x : Option Address) (b : Bool) → (is_some o || b) ≡ false → disagree o x ≡ false → x ≡ None
nothing_more None None b h agree = refl
nothing_more None (Some a) b h agree = cc
nothing_more (Some e) x b h agree = cc

lsda_by : (m : Option Augmentation) (c : CommonInformationEntry) (x : Option Address) (here end : ℕ) (big : Bool) (zs rest : List ℕ) → IsSaid c m → disagree c.lsda_encoding x ≡ false → IfSome x IsShort →
    IsTrue (is_width c.encoding.address_size) → IsText big (only_if (is_augmented c) (counted (lsda_part c.encoding.address_size c.lsda_encoding x)) here) zs → length (zs ++ rest) ≤ end → standing end (zs ++ rest) ≡ here →
    LsdaBack x (λ n. lsda_read big c.encoding.address_size m end (zs ++ rest) ≡ Ok (n, rest))
unfolding lsda_read
lsda_by None c x here end big zs rest said agree short width e within stands =
    let t : IsText big (only_if false (counted (lsda_part c.encoding.address_size c.lsda_encoding x)) here) zs =
    subst (λ b. IsText big (only_if b (counted (lsda_part c.encoding.address_size c.lsda_encoding x)) here) zs) said e in
    let none : [] ≡ zs = cc in
    record { number = None; is = nothing_more c.lsda_encoding x _ said agree; read = ap (λ ys. Ok (None, ys ++ rest)) (sym none) }
lsda_by (Some a) c x here end big zs rest said agree short width e within stands =
    let w = c.encoding.address_size in
    let t : IsText big (counted (lsda_part w c.lsda_encoding x) here) zs = subst (λ b. IsText big (only_if b (counted (lsda_part w c.lsda_encoding x)) here) zs) said.0 e in
    let s = counted_parts (lsda_part w c.lsda_encoding x (here + 1)) big zs t in
    let n = (lsda_part w c.lsda_encoding x (here + 1)).piece.size in
    let one = count_byte big n s.xs s.first in
    let long : length s.ys ≡ n = lsda_wide w c.lsda_encoding x (here + 1) big s.ys s.second in
    let small : n < 128 = omega (arith, long, lsda_short w (here + 1) c.lsda_encoding x big s.ys s.second) in
    let apart : zs ++ rest ≡ n ∷ (s.ys ++ rest) = ap (λ ys. ys ++ rest) s.whole ∙ append_assoc s.xs s.ys rest ∙ ap (λ ys. ys ++ (s.ys ++ rest)) one in
    let sizes = ap length apart in
    let p = pointed_back c.lsda_encoding x w (here + 1) (standing end rest) big s.ys agree short width s.second (omega (arith, within, stands, sizes, length-append s.ys rest)) in
    let read : pointed_read big w a.lsda (standing end rest) s.ys ≡ Ok (p.number, p.left) = ap (λ o. pointed_read big w o (standing end rest) s.ys) said.1.lsda ∙ p.read in
    record { number = p.number; is = p.is; read = ap (lsda_read big w (Some a) end) apart ∙ rw (count_back n (s.ys ++ rest) small, bytes_back n s.ys rest long, read) refl }

-- The encoding of addresses

zero_byte : (e : DwEhPe) → (e.0 == 0) ≡ true → DW_EH_PE_absptr ≡ e
zero_byte e h = ap (λ n. record { 0 = n }) (sym (eqb-true e.0 0 h))

not_false : (b : Bool) → not b ≡ false → b ≡ true
not_false true h = refl
not_false false h = cc

or_none : (a b d e : Bool) → (a || (b || (d || e))) ≡ false → d ≡ false
or_none false false false e h = refl
or_none false false true e h = cc
or_none false true d e h = cc
or_none true b d e h = cc

absolute_or : (b : Bool) (x : DwEhPe) → not (x.0 == 0) ≡ b → unwrap_or (if b then Some x else None) DW_EH_PE_absptr ≡ x
absolute_or true x h = refl
absolute_or false x h = zero_byte x (not_false (x.0 == 0) h)

encoding_is : (m : Option Augmentation) (c : CommonInformationEntry) → IsSaid c m → address_encoding m ≡ c.fde_address_encoding
encoding_is None c said =
    zero_byte c.fde_address_encoding (not_false (c.fde_address_encoding.0 == 0) (or_none (is_some c.lsda_encoding) (is_some c.personality) (has_encoding c) c.signal_trampoline said))
encoding_is (Some a) c said = ap (λ o. unwrap_or o DW_EH_PE_absptr) said.1.addresses ∙ absolute_or (has_encoding c) c.fde_address_encoding refl

-- The texts of an FDE

record FdeTexts (kind : FrameKind) (cie at : ℕ) (c : CommonInformationEntry) (f : FrameDescriptionEntry) (big : Bool) (zs : List ℕ) : Type 0 where
  pub agree : disagree c.lsda_encoding f.lsda ≡ false
  pub size : ℕ
  pub body : List ℕ
  pub field : List ℕ
  pub block : List ℕ
  pub program : List ℕ
  pub zeros_behind : ℕ
  pub range_at : ℕ
  pub range : List ℕ
  pub parts : RangeParts c.encoding.address_size c.fde_address_encoding.0 range_at f big range
  pub fit : IsTrue (length_fits c.encoding.format size)
  pub whole : zs ≡ (escape_of c.encoding.format ++ num big (word_of c.encoding.format) size) ++ body
  pub long : length body ≡ size
  pub apart : body ≡ field ++ (parts.xs ++ (parts.ys ++ (block ++ (program ++ zeros zeros_behind))))
  pub width : IsTrue (is_width c.encoding.address_size)
  pub field_is : IsText big (cie_pointer kind c.encoding.format cie (at + length_size c.encoding.format)) field
  pub place : ℕ
  pub block_is : IsText big (only_if (is_augmented c) (counted (lsda_part c.encoding.address_size c.lsda_encoding f.lsda)) place) block
  pub range_place : range_at + length (parts.xs ++ (parts.ys ++ (block ++ (program ++ zeros zeros_behind)))) ≡ at + length_size c.encoding.format + size
  pub place_is : place + length (block ++ (program ++ zeros zeros_behind)) ≡ at + length_size c.encoding.format + size
  pub program_is : (program_piece c.encoding c.code_alignment_factor c.data_alignment_factor 0 f.steps.items).text big at_zero ≡ Some program

joined : (x r1 r2 b p z ys x1 y2 y3 r : List ℕ) → ys ≡ x1 ++ z → x1 ≡ x ++ y2 → y2 ≡ r ++ y3 → r ≡ r1 ++ r2 → y3 ≡ b ++ p → ys ≡ x ++ (r1 ++ (r2 ++ (b ++ (p ++ z))))
joined x r1 r2 b p z ys x1 y2 y3 r a d f g h =
    a ∙ ap (λ q. q ++ z) (d ∙ ap (λ q. x ++ q) (f ∙ ap (λ q. q ++ y3) g ∙ ap (λ q. (r1 ++ r2) ++ q) h))
    ∙ append_assoc x ((r1 ++ r2) ++ (b ++ p)) z
    ∙ ap (λ q. x ++ q) (append_assoc (r1 ++ r2) (b ++ p) z ∙ append_assoc r1 r2 ((b ++ p) ++ z) ∙ ap (λ q. r1 ++ (r2 ++ q)) (append_assoc b p z))

entry_texts : (kind : FrameKind) (cie at : ℕ) (c : CommonInformationEntry) (f : FrameDescriptionEntry) (big : Bool) (zs : List ℕ) → disagree c.lsda_encoding f.lsda ≡ false → IsText big (entry c.encoding (fde_contents kind cie c f) at) zs →
    FdeTexts kind cie at c f big zs
entry_texts kind cie at c f big zs agree e =
    let format = c.encoding.format in
    let w = c.encoding.address_size in
    let body = fde_contents kind cie c f in
    let at1 = at + length_size format in
    let n = (body at1).piece.size in
    let inner : Placed = λ k. in_turn body (padded c.encoding (body k).piece.size) k in
    let block : Placed = only_if (is_augmented c) (counted (lsda_part w c.lsda_encoding f.lsda)) in
    let m = measured_parts format (inner at1) big zs e in
    let s1 = turned body (padded c.encoding n) at1 big m.ys m.body in
    let s2 = turned (cie_pointer kind format cie) (in_turn (range_part c f) (in_turn block (instructions c f))) at1 big s1.xs s1.first in
    let at2 = at1 + (cie_pointer kind format cie at1).piece.size in
    let s3 = turned (range_part c f) (in_turn block (instructions c f)) at2 big s2.ys s2.second in
    let at3 = at2 + (range_part c f at2).piece.size in
    let s4 = turned block (instructions c f) at3 big s3.ys s3.second in
    let r = range_parts c f at2 big s3.xs s3.first in
    let k = padding w (word_of format + n) in
    let pad = padded_parts (is_width w) w k _ big s1.ys s1.second in
    let long : length m.ys ≡ (inner at1).piece.size = turn_wide body (padded c.encoding n) at1 (fde_wide kind cie c f at1) (pad_wide c.encoding n _) big m.ys m.body in
    let joint = joined s2.xs r.xs r.ys s4.xs s4.ys s1.ys m.ys s1.xs s2.ys s3.ys s3.xs s1.whole s2.whole s3.whole r.whole s4.whole in
    let tail = s4.xs ++ (s4.ys ++ zeros k) in
    let apart : m.ys ≡ s2.xs ++ (r.xs ++ (r.ys ++ tail)) = joint ∙ ap (λ q. s2.xs ++ (r.xs ++ (r.ys ++ (s4.xs ++ (s4.ys ++ q))))) (sym pad.1) in
    let sizes = length-append s2.xs (r.xs ++ (r.ys ++ tail)) in
    let first = field_wide kind format cie at1 big s2.xs s2.first in
    let second = range_wide c f at2 big s3.xs s3.first in
    record {
      agree = agree;
      size = (inner at1).piece.size;
      body = m.ys;
      field = s2.xs;
      block = s4.xs;
      program = s4.ys;
      zeros_behind = k;
      range_at = at2;
      range = s3.xs;
      parts = r;
      fit = m.fit;
      whole = m.whole;
      long = long;
      apart = apart;
      width = pad.0;
      field_is = s2.first;
      place = at3;
      block_is = s4.first;
      range_place = omega (arith, long, ap length apart, sizes, first);
      place_is = omega (
        arith,
        long,
        ap length apart,
        sizes,
        first,
        second,
        ap length r.whole,
        length-append r.xs r.ys,
        length-append r.xs (r.ys ++ tail),
        length-append r.ys tail,
      );
      program_is = s4.second;
    }

texts_by : (b : Bool) (kind : FrameKind) (cie at : ℕ) (c : CommonInformationEntry) (f : FrameDescriptionEntry) (big : Bool) (zs : List ℕ) → disagree c.lsda_encoding f.lsda ≡ b →
    IsText big (in_turn (refused_if b mismatch) (entry c.encoding (fde_contents kind cie c f)) at) zs → FdeTexts kind cie at c f big zs
texts_by true kind cie at c f big zs is e =
    let s = turned (refused_if true mismatch) (entry c.encoding (fde_contents kind cie c f)) at big zs e in cc
texts_by false kind cie at c f big zs is e =
    let s = turned (refused_if false mismatch) (entry c.encoding (fde_contents kind cie c f)) at big zs e in
    let nothing : [] ≡ s.xs = cc in
    let same : zs ≡ s.ys = s.whole ∙ ap (λ ys. ys ++ s.ys) (sym nothing) in
    let there : IsText big (entry c.encoding (fde_contents kind cie c f) at) s.ys = subst (λ n. IsText big (entry c.encoding (fde_contents kind cie c f) n) s.ys) (omega arith) s.second in
    subst (FdeTexts kind cie at c f big) (sym same) (entry_texts kind cie at c f big s.ys is there)

-- The fields

some_length : (format : Format) → 1 ≤ length_size format
some_length Dwarf32 = omega arith
some_length Dwarf64 = omega arith

fde_owner : (kind : FrameKind) (format : Format) (cie at : ℕ) (big : Bool) (xs rest : List ℕ) → cie < at → IsText big (cie_pointer kind format cie at) xs → owner_read (is_eh kind) big format at (xs ++ rest) ≡ Ok (Some cie, rest)
fde_owner kind format cie at big xs rest before e =
    owner_back kind big format at (xs ++ rest) (Some cie, rest) (rw (field_id kind format cie at big xs rest before e, field_again kind format cie at big xs rest (omega (arith, before)) e) refl)

entry_is : (eh big : Bool) (size at cie : ℕ) (bytes rest body : List ℕ) (format : Format) → head_read eh big at bytes ≡ Ok (Some (record { format = format; cie = Some cie; body = body }), rest) →
    entry_at eh big size at bytes ≡ Some (Some (Fde format cie body), rest)
unfolding entry_at entry_read
entry_is eh big size at cie bytes rest body format h = rw h refl

fields_back : (big : Bool) (d : CieFields) (end address length_is : ℕ) (lsda : Option ℕ) (b0 b1 b2 rest : List ℕ) →
    pointer_read big d.encoding.address_size (address_encoding d.augmentation) (standing end b0) b0 ≡ Ok (address, b1) →
    data_read big d.encoding.address_size (address_encoding d.augmentation) b1 ≡ Ok (length_is, b2) → lsda_read big d.encoding.address_size d.augmentation end b2 ≡ Ok (lsda, rest) →
    fde_read big d end b0 ≡ Ok (record { initial_address = address; length = length_is; lsda = lsda }, rest)
unfolding fde_read
fields_back big d end address length_is lsda b0 b1 b2 rest h0 h1 h2 = rw (h0, h1, h2) refl

-- The address of the data is known, whatever the fields say.
record Known (x : Option Address) : Type 0 where
  pub number : Option ℕ
  pub is : x ≡ option_map Constant number

lsda_known : (o : Option DwEhPe) (x : Option Address) (b : Bool) (w here : ℕ) (big : Bool) (zs : List ℕ) → (is_some o ≡ true → b ≡ true) → disagree o x ≡ false → IsText big (only_if b (counted (lsda_part w o x)) here) zs → Known x
lsda_known None None b w here big zs has agree e = record { number = None; is = refl }
lsda_known None (Some a) b w here big zs has agree e = cc
lsda_known (Some x) None b w here big zs has agree e = cc
lsda_known (Some x) (Some a) b w here big zs has agree e =
    let t : IsText big (counted (lsda_part w (Some x) (Some a)) here) zs = subst (λ q. IsText big (only_if q (counted (lsda_part w (Some x) (Some a))) here) zs) (has refl) e in
    let s = counted_parts (pointer w x.0 a (here + 1)) big zs t in
    let known = pointer_known w x.0 (here + 1) a big s.ys s.second in
    record { number = Some known.number; is = ap Some known.is }

same_number : (n m : Option ℕ) → ◌≡◌ {A = Option Address} (option_map Constant n) (option_map Constant m) → n ≡ m
same_number None None h = refl
same_number None (Some y) h = cc
same_number (Some x) None h = cc
same_number (Some x) (Some y) h = let k : x ≡ y = cc in ap Some k

augmented : (c : CommonInformationEntry) → is_some c.lsda_encoding ≡ true → is_augmented c ≡ true
augmented c h = cc

word_long : (format : Format) → 4 ≤ word_of format
word_long Dwarf32 = omega arith
word_long Dwarf64 = omega arith

offset_long : (w cie at : ℕ) (big : Bool) (xs : List ℕ) → IsText big (frame_offset w cie at) xs → length xs ≡ w
unfolding offset_text
offset_long w cie at big xs e = length-num_text big w (cie + 0) xs e

field_long : (kind : FrameKind) (format : Format) (cie at : ℕ) (big : Bool) (xs : List ℕ) → IsText big (cie_pointer kind format cie at) xs → 0 < length xs
field_long Debug format cie at big xs e =
    let s = offset_by (cie == cie_number Debug format) (word_of format) cie at big xs e in
    omega (arith, offset_long (word_of format) cie at big xs s.1, word_long format)
field_long Eh format cie at big xs e = omega (arith, length-num_text big 4 (at - cie) xs e)

texts_back : (kind : FrameKind) (cie at : ℕ) (c : CommonInformationEntry) (f : FrameDescriptionEntry) (big : Bool) (zs : List ℕ) → cie ≤ at → IsRanged f → FdeTexts kind cie at c f big zs → ReadsFdeBack kind big c f cie at zs
texts_back kind cie at c f big zs before ranged t =
    let format = c.encoding.format in
    let w = c.encoding.address_size in
    let encoding = c.fde_address_encoding in
    let instructions = t.program ++ zeros t.zeros_behind in
    let b2 = t.block ++ instructions in
    let b1 = t.parts.ys ++ b2 in
    let b0 = t.parts.xs ++ b1 in
    let end = at + length zs in
    let whole_size : length zs ≡ length_size format + t.size =
    omega (arith, ap length t.whole, length-append (escape_of format ++ num big (word_of format) t.size) t.body, length-append (escape_of format) (num big (word_of format) t.size), length-num big (word_of format) t.size, t.long) in
    let known = lsda_known c.lsda_encoding f.lsda (is_augmented c) w t.place big t.block (augmented c) t.agree t.block_is in
    let small : t.parts.known.number < 2 ^ 64 = subst IsShort t.parts.known.is ranged.address in
    let stands0 : standing end b0 ≡ t.range_at = omega (arith, t.range_place, whole_size) in
    let stands2 : standing end b2 ≡ t.place = omega (arith, t.place_is, whole_size) in
    let fields : FdeFields = record { initial_address = t.parts.known.number; length = f.length; lsda = known.number } in
    let read : (d : CieFields) → AreFields c d → fde_read big d end b0 ≡ Ok (fields, instructions) = λ d are.
    let size_is : d.encoding.address_size ≡ w = ap (λ e. e.address_size) are.encoding in
    let kind_is = encoding_is d.augmentation c are.augmentation in
    let l = lsda_by d.augmentation c f.lsda t.place end big t.block instructions are.augmentation t.agree ranged.lsda t.width t.block_is (omega (arith, t.place_is, whole_size)) stands2 in
    let number : l.number ≡ known.number = same_number l.number known.number (sym l.is ∙ known.is) in
    fields_back big d end t.parts.known.number f.length known.number b0 b1 b2 instructions
    (ap (λ s. pointer_read big s (address_encoding d.augmentation) (standing end b0) b0) size_is ∙ ap (λ e. pointer_read big w e (standing end b0) b0) kind_is
    ∙ ap (λ p. pointer_read big w encoding p b0) stands0 ∙ pointer_back big w encoding t.range_at t.parts.known.number t.parts.xs b1 t.width small t.parts.first)
    (ap (λ s. data_read big s (address_encoding d.augmentation) b1) size_is ∙ ap (λ e. data_read big w e b1) kind_is ∙ data_back big w encoding f.length t.parts.ys b2 t.width ranged.length t.parts.second)
    (ap (λ s. lsda_read big s d.augmentation end b2) size_is ∙ l.read ∙ ap (λ n. Ok (n, instructions)) number) in
    let some : 0 < t.size = omega (arith, t.long, ap length t.apart, length-append t.field b0, field_long kind format cie (at + length_size format) big t.field t.field_is) in
    let owner : owner_read (is_eh kind) big format (at + length_size format) t.body ≡ Ok (Some cie, b0) =
    ap (owner_read (is_eh kind) big format (at + length_size format)) t.apart ∙ fde_owner kind format cie (at + length_size format) big t.field b0 (omega (arith, before, some_length format)) t.field_is in
    record {
      body = b0;
      fields = fields;
      instructions = instructions;
      entry = λ size rest. entry_is (is_eh kind) big size at cie (zs ++ rest) rest b0 format (head_back (is_eh kind) big format at t.size zs t.body rest b0 (Some cie) t.fit t.whole t.long some owner);
      read = read;
      address = t.parts.known.is;
      length = refl;
      lsda = known.is;
      program = record { text = t.program; padding = t.zeros_behind; is = t.program_is; whole = refl };
    }

pub fde_back : (kind : FrameKind) (c : CommonInformationEntry) (f : FrameDescriptionEntry) → FdeReadsBack kind c f
fde_back kind c f big cie at zs before ranged e = texts_back kind cie at c f big zs before ranged (texts_by (disagree c.lsda_encoding f.lsda) kind cie at c f big zs refl e)
