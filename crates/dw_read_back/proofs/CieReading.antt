-- CIEs that are written are read back.
use Rattle.std.specs.Prelude.{◌≡◌, ℕ, ◌+◌, ◌-◌, ◌^◌, ◌<◌, ◌≤◌, ◌==◌, ◌||◌, IsTrue, Bool, true, false, List, [], ◌∷◌, ◌++◌, length, Option, Some, None, Ok, ℤ, refl, if◌then◌else◌}
use Rattle.std.proofs.Common.{sym, ◌∙◌, ap, arith, append_assoc, length-append}
use Rattle.dw_base.specs.Numbers.{num, is_width, number_at, length_fits, length_size, escape_of, word_of}
use Rattle.dw_base.specs.Leb128.{uleb, sleb}
use Rattle.dw_base.specs.Forms.{text_at}
use Rattle.dw_base.specs.declared.common.Format.{Format}
use Rattle.dw_base.specs.declared.common.Format.TheVariants.{Dwarf32, Dwarf64}
use Rattle.dw_base.proofs.NumberLaws.{length-num}
use Rattle.dw_writer.specs.Texts.{zeros}
use Rattle.dw_expr.specs.Causes.{width_fails}
use Rattle.dw_read.specs.Reasons.{number_read, uleb_read, uleb16_read, sleb_read, text_read}
use Rattle.dw_read.proofs.Laws.{read_is, number_law, text_law}
use Rattle.dw_frame.specs.declared.cie.CommonInformationEntry.{CommonInformationEntry}
use Rattle.dw_frame.specs.declared.kind.FrameKind.{FrameKind}
use Rattle.dw_frame.specs.declared.kind.FrameKind.TheVariants.{Debug, Eh}
use Rattle.dw_frame.specs.Cies.{cie_id, is_known, version_fails, version_part, letters, sizes, register_part, is_augmented, has_encoding, cie_data, first_instructions, cie_head, cie_measures, cie_contents, cie_part}
use Rattle.dw_frame.specs.Entries.{counted, padding, padded}
use Rattle.dw_frame.specs.Parts.{Placed, free, caused, in_turn, only_if, numbered}
use Rattle.dw_frame_instructions.specs.Pieces.{missing, bytes}
use Rattle.dw_frame_instructions.specs.Programs.{instructions_piece}
use Rattle.dw_frame.specs.ReadCies.{IsRangedCie}
use Rattle.dw_frame.specs.Reading.{at_zero}
use Rattle.dw_frame.proofs.CieReading.{head_wide, measures_wide}
use Rattle.dw_frame.proofs.FdeLaws.{turn_wide}
use Rattle.dw_frame.proofs.IdLaws.{id_again}
use Rattle.dw_frame.proofs.TextParts.{IsText, turned, number_again, measured_parts}
use Rattle.dw_read_frames.specs.Augmentations.{augmentation_read}
use Rattle.dw_read_frames.specs.Cies.{is_cie_version, version_read, sizes_read, register_read, fields_read}
use Rattle.dw_read_frames.specs.Entries.{Cie, entry_read, entry_at}
use Rattle.dw_read_frames.specs.Heads.{head_read, owner_read}
use Rattle.dw_read_frames.specs.declared.augmentation.Augmentation.{Augmentation}
use Rattle.dw_read_frames.specs.declared.cie.CieFields.{CieFields}
use Rattle.dw_read_back.specs.Heads.{is_eh}
use Rattle.dw_read_back.specs.Entries.{KnowsSize, ReadsCieBack, CieReadsBack}
use Rattle.dw_read_back.proofs.AugmentationReading.{bif, names, same_bytes, letters_back, augmentation_back}
use Rattle.dw_read_back.proofs.HeadReading.{owner_back, head_back}
use Rattle.dw_read_back.proofs.OperandReading.{byte_back, uleb_back, uleb16_back, sleb_back}
use Rattle.dw_read_back.proofs.Widths.{cie_wide, pad_wide}

-- The fields

version_by : (b : Bool) (kind : FrameKind) (v at : ℕ) (big : Bool) (xs : List ℕ) → IsText big ((if b then free (bytes (v ∷ [])) else caused missing (version_fails kind v)) at) xs → IsTrue b × (v ∷ [] ≡ xs)
version_by true kind v at big xs e = (refl, cc)
version_by false kind v at big xs e = cc

known_version : (kind : FrameKind) (v : ℕ) → IsTrue (is_known kind v) → is_cie_version v ≡ true
known_version Debug v h = h
known_version Eh v h = ap (λ b. b || ((v == 3) || (v == 4))) h

version_back : (big : Bool) (v : ℕ) (rest : List ℕ) → is_cie_version v ≡ true → version_read big (v ∷ rest) ≡ Ok (v, rest)
unfolding version_read
version_back big v rest h = rw (byte_back big v rest, h) refl

sizes_by : (b : Bool) (v w size : ℕ) (big : Bool) (xs rest : List ℕ) → (v == 4) ≡ b → (if b then bytes (w ∷ 0 ∷ []) else bytes []).text big at_zero ≡ Some xs → IsTrue (is_width w) → (b ≡ false → size ≡ w) →
    sizes_read big v size (xs ++ rest) ≡ Ok (w, rest)
unfolding sizes_read
sizes_by true v w size big xs rest is e width same =
    let f = same_bytes (w ∷ 0 ∷ []) xs e in
    ap (λ ys. sizes_read big v size (ys ++ rest)) (sym f) ∙ rw (is, byte_back big w (0 ∷ rest), width, byte_back big 0 rest) refl
sizes_by false v w size big xs rest is e width same =
    let f = same_bytes [] xs e in
    ap (λ ys. sizes_read big v size (ys ++ rest)) (sym f) ∙ rw (is, same refl) refl

register_by : (b : Bool) (r at : ℕ) (big : Bool) (xs rest : List ℕ) → r < 2 ^ 16 → IsText big ((if b then numbered 1 r else free (bytes (uleb r))) at) xs → (if b then number_read big 1 (xs ++ rest) else uleb16_read (xs ++ rest)) ≡ Ok (r, rest)
register_by true r at big xs rest h e = read_is ℕ (number_at big 1) (number_read big 1) (xs ++ rest) (r, rest) (number_law big 1) (number_again big 1 r xs rest e)
register_by false r at big xs rest h e = ap (λ ys. uleb16_read (ys ++ rest)) (sym (same_bytes (uleb r) xs e)) ∙ uleb16_back r rest h

register_back : (kind : FrameKind) (v r at : ℕ) (big : Bool) (xs rest : List ℕ) → r < 2 ^ 16 → IsText big (register_part kind v r at) xs → register_read (is_eh kind) big v (xs ++ rest) ≡ Ok (r, rest)
unfolding register_read
register_back Debug v r at big xs rest h e = register_by (v == 1) r at big xs rest h e
register_back Eh v r at big xs rest h e = register_by false r at big xs rest h e

pub padded_parts : (b : Bool) (w k at : ℕ) (big : Bool) (xs : List ℕ) → IsText big ((if b then free (bytes (zeros k)) else caused missing (width_fails w)) at) xs → IsTrue b × (zeros k ≡ xs)
padded_parts true w k at big xs e = (refl, cc)
padded_parts false w k at big xs e = cc

-- the texts of a CIE
record CieTexts (kind : FrameKind) (c : CommonInformationEntry) (at : ℕ) (big : Bool) (zs : List ℕ) : Type 0 where
  pub size : ℕ
  pub body : List ℕ
  pub string : List ℕ
  pub own : List ℕ
  pub column : List ℕ
  pub block : List ℕ
  pub program : List ℕ
  pub zeros_behind : ℕ
  pub fit : IsTrue (length_fits c.encoding.format size)
  pub whole : zs ≡ (escape_of c.encoding.format ++ num big (word_of c.encoding.format) size) ++ body
  pub long : length body ≡ size
  pub apart : body ≡ cie_id kind c.encoding.format ++ (c.encoding.version ∷ (string ++ (own ++ (uleb c.code_alignment_factor ++ (sleb c.data_alignment_factor ++ (column ++ (block ++ (program ++ zeros zeros_behind))))))))
  pub known : IsTrue (is_known kind c.encoding.version)
  pub width : IsTrue (is_width c.encoding.address_size)
  pub string_is : (letters c).text big at_zero ≡ Some string
  pub own_is : (sizes c.encoding.version c.encoding.address_size).text big at_zero ≡ Some own
  pub column_at : ℕ
  pub column_is : IsText big (register_part kind c.encoding.version c.return_address_register.0 column_at) column
  pub place : ℕ
  pub block_is : IsText big (only_if (is_augmented c) (counted (cie_data c)) place) block
  pub place_is : place + length (block ++ (program ++ zeros zeros_behind)) ≡ at + length_size c.encoding.format + size
  pub program_is : (instructions_piece c.encoding c.data_alignment_factor c.instructions.items).text big at_zero ≡ Some program

joined : (h1 h2 h3 h4 m1 m2 m3 b p z : List ℕ) → ((h1 ++ (h2 ++ (h3 ++ h4))) ++ ((m1 ++ (m2 ++ m3)) ++ (b ++ p))) ++ z ≡ h1 ++ (h2 ++ (h3 ++ (h4 ++ (m1 ++ (m2 ++ (m3 ++ (b ++ (p ++ z))))))))
joined h1 h2 h3 h4 m1 m2 m3 b p z =
    let h = h1 ++ (h2 ++ (h3 ++ h4)) in
    let m = m1 ++ (m2 ++ m3) in
    let t = b ++ (p ++ z) in
    let r = m ++ t in
    append_assoc h (m ++ (b ++ p)) z
    ∙ ap (λ q. h ++ q) (append_assoc m (b ++ p) z ∙ ap (λ q. m ++ q) (append_assoc b p z))
    ∙ append_assoc h1 (h2 ++ (h3 ++ h4)) r ∙ ap (λ q. h1 ++ q) (append_assoc h2 (h3 ++ h4) r ∙ ap (λ q. h2 ++ q) (append_assoc h3 h4 r))
    ∙ ap (λ q. h1 ++ (h2 ++ (h3 ++ (h4 ++ q)))) (append_assoc m1 (m2 ++ m3) t ∙ ap (λ q. m1 ++ q) (append_assoc m2 m3 t))

parts_whole : (ys x1 y1 x2 y2 x3 y3 x4 y4 head measures : List ℕ) → ys ≡ x1 ++ y1 → x1 ≡ x2 ++ y2 → y2 ≡ x3 ++ y3 → y3 ≡ x4 ++ y4 → x2 ≡ head → x3 ≡ measures → ys ≡ (head ++ (measures ++ (x4 ++ y4))) ++ y1
parts_whole ys x1 y1 x2 y2 x3 y3 x4 y4 head measures b d f g h k =
    b ∙ ap (λ q. q ++ y1) (d ∙ ap (λ q. x2 ++ q) (f ∙ ap (λ q. x3 ++ q) g) ∙ ap (λ q. q ++ (x3 ++ (x4 ++ y4))) h ∙ ap (λ q. head ++ (q ++ (x4 ++ y4))) k)

cie_texts : (kind : FrameKind) (c : CommonInformationEntry) (at : ℕ) (big : Bool) (zs : List ℕ) → IsText big (cie_part kind c at) zs → CieTexts kind c at big zs
cie_texts kind c at big zs e =
    let format = c.encoding.format in
    let w = c.encoding.address_size in
    let v = c.encoding.version in
    let body = cie_contents kind c in
    let at1 = at + length_size format in
    let n = (body at1).piece.size in
    let inner : Placed = λ k. in_turn body (padded c.encoding (body k).piece.size) k in
    let block : Placed = only_if (is_augmented c) (counted (cie_data c)) in
    let m = measured_parts format (inner at1) big zs e in
    let s1 = turned body (padded c.encoding n) at1 big m.ys m.body in
    let s2 = turned (cie_head kind c) (in_turn (cie_measures kind c) (in_turn block (first_instructions c))) at1 big s1.xs s1.first in
    let at2 = at1 + (cie_head kind c at1).piece.size in
    let s3 = turned (cie_measures kind c) (in_turn block (first_instructions c)) at2 big s2.ys s2.second in
    let at3 = at2 + (cie_measures kind c at2).piece.size in
    let s4 = turned block (first_instructions c) at3 big s3.ys s3.second in
    let h1 = turned (free (bytes (cie_id kind format))) (in_turn (version_part kind v) (in_turn (free (letters c)) (free (sizes v w)))) at1 big s2.xs s2.first in
    let h2 = turned (version_part kind v) (in_turn (free (letters c)) (free (sizes v w))) _ big h1.ys h1.second in
    let h3 = turned (free (letters c)) (free (sizes v w)) _ big h2.ys h2.second in
    let m1 = turned (free (bytes (uleb c.code_alignment_factor))) (in_turn (free (bytes (sleb c.data_alignment_factor))) (register_part kind v c.return_address_register.0)) at2 big s3.xs s3.first in
    let m2 = turned (free (bytes (sleb c.data_alignment_factor))) (register_part kind v c.return_address_register.0) _ big m1.ys m1.second in
    let head : s2.xs ≡ h1.xs ++ (h2.xs ++ (h3.xs ++ h3.ys)) = h1.whole ∙ ap (λ ys. h1.xs ++ ys) (h2.whole ∙ ap (λ ys. h2.xs ++ ys) h3.whole) in
    let measures : s3.xs ≡ m1.xs ++ (m2.xs ++ m2.ys) = m1.whole ∙ ap (λ ys. m1.xs ++ ys) m2.whole in
    let pad = padded_parts (is_width w) w (padding w (word_of format + n)) _ big s1.ys s1.second in
    let version = version_by (is_known kind v) kind v _ big h2.xs h2.first in
    let id = same_bytes (cie_id kind format) h1.xs h1.first in
    let code = same_bytes (uleb c.code_alignment_factor) m1.xs m1.first in
    let signed = same_bytes (sleb c.data_alignment_factor) m2.xs m2.first in
    let k = padding w (word_of format + n) in
    let long : length m.ys ≡ (inner at1).piece.size = turn_wide body (padded c.encoding n) at1 (cie_wide kind c at1) (pad_wide c.encoding n _) big m.ys m.body in
    let tail = s4.xs ++ (s4.ys ++ s1.ys) in
    let join = parts_whole m.ys s1.xs s1.ys s2.xs s2.ys s3.xs s3.ys s4.xs s4.ys (h1.xs ++ (h2.xs ++ (h3.xs ++ h3.ys))) (m1.xs ++ (m2.xs ++ m2.ys)) s1.whole s2.whole s3.whole s4.whole head measures in
    let joint : m.ys ≡ h1.xs ++ (h2.xs ++ (h3.xs ++ (h3.ys ++ (m1.xs ++ (m2.xs ++ (m2.ys ++ tail)))))) = join ∙ joined h1.xs h2.xs h3.xs h3.ys m1.xs m2.xs m2.ys s4.xs s4.ys s1.ys in
    let named : h1.xs ++ (h2.xs ++ (h3.xs ++ (h3.ys ++ (m1.xs ++ (m2.xs ++ (m2.ys ++ tail)))))) ≡ cie_id kind format ++ (v ∷ (h3.xs ++ (h3.ys ++ (uleb c.code_alignment_factor ++ (sleb c.data_alignment_factor ++ (m2.ys ++ (s4.xs ++ (s4.ys ++ zeros k)))))))) =
    ap (λ q. q ++ (h2.xs ++ (h3.xs ++ (h3.ys ++ (m1.xs ++ (m2.xs ++ (m2.ys ++ tail))))))) (sym id)
    ∙ ap (λ q. cie_id kind format ++ (q ++ (h3.xs ++ (h3.ys ++ (m1.xs ++ (m2.xs ++ (m2.ys ++ tail))))))) (sym version.1)
    ∙ ap (λ q. cie_id kind format ++ (v ∷ (h3.xs ++ (h3.ys ++ (q ++ (m2.xs ++ (m2.ys ++ tail))))))) (sym code)
    ∙ ap (λ q. cie_id kind format ++ (v ∷ (h3.xs ++ (h3.ys ++ (uleb c.code_alignment_factor ++ (q ++ (m2.ys ++ tail))))))) (sym signed)
    ∙ ap (λ q. cie_id kind format ++ (v ∷ (h3.xs ++ (h3.ys ++ (uleb c.code_alignment_factor ++ (sleb c.data_alignment_factor ++ (m2.ys ++ (s4.xs ++ (s4.ys ++ q))))))))) (sym pad.1) in
    record {
      size = (inner at1).piece.size;
      body = m.ys;
      string = h3.xs;
      own = h3.ys;
      column = m2.ys;
      block = s4.xs;
      program = s4.ys;
      zeros_behind = k;
      fit = m.fit;
      whole = m.whole;
      long = long;
      apart = joint ∙ named;
      known = version.0;
      width = pad.0;
      string_is = h3.first;
      own_is = h3.second;
      column_at = _;
      column_is = m2.second;
      place = at3;
      block_is = s4.first;
      place_is = omega (
        arith,
        long,
        ap length s1.whole,
        length-append s1.xs s1.ys,
        ap length s2.whole,
        length-append s2.xs s2.ys,
        ap length s3.whole,
        length-append s3.xs s3.ys,
        ap length s4.whole,
        length-append s4.xs s4.ys,
        ap length pad.1,
        length-append s4.xs (s4.ys ++ zeros k),
        length-append s4.ys (zeros k),
        head_wide kind c at1 big s2.xs s2.first,
        measures_wide kind c at2 big s3.xs s3.first,
      );
      program_is = s4.second;
    }

-- fields that are read one after another
fields_back : (eh big : Bool) (size end v w code register : ℕ) (format : Format) (signed : ℤ) (string b0 b1 b2 b3 b4 b5 rest : List ℕ) (a : Option Augmentation) →
    version_read big (v ∷ b0) ≡ Ok (v, b0) → text_read b0 ≡ Ok (string, b1) → sizes_read big v size b1 ≡ Ok (w, b2) → uleb_read b2 ≡ Ok (code, b3) → sleb_read b3 ≡ Ok (signed, b4) →
    register_read eh big v b4 ≡ Ok (register, b5) → augmentation_read big w end string b5 ≡ Ok (a, rest) →
    fields_read eh big size format end (v ∷ b0) ≡ Ok (
      record {
        encoding = record { address_size = w; format = format; version = v };
        augmentation = a;
        code_alignment_factor = code;
        data_alignment_factor = signed;
        return_address_register = record { 0 = register };
      },
      rest,
    )
unfolding fields_read
fields_back eh big size end v w code register format signed string b0 b1 b2 b3 b4 b5 rest a h0 h1 h2 h3 h4 h5 h6 = rw (h0, h1, h2, h3, h4, h5, h6) refl

entry_is : (eh big : Bool) (size at : ℕ) (bytes rest body : List ℕ) (format : Format) (fields : CieFields) (instructions : List ℕ) → head_read eh big at bytes ≡ Ok (Some (record { format = format; cie = None; body = body }), rest) →
    fields_read eh big size format (at + (length bytes - length rest)) body ≡ Ok (fields, instructions) → entry_at eh big size at bytes ≡ Some (Some (Cie fields instructions), rest)
unfolding entry_at entry_read
entry_is eh big size at bytes rest body format fields instructions h k = rw (h, k) refl

id_some : (kind : FrameKind) (format : Format) → 4 ≤ length (cie_id kind format)
id_some Debug Dwarf32 = omega arith
id_some Debug Dwarf64 = omega arith
id_some Eh format = omega arith

cie_owner : (kind : FrameKind) (big : Bool) (format : Format) (place : ℕ) (rest : List ℕ) → owner_read (is_eh kind) big format place (cie_id kind format ++ rest) ≡ Ok (None, rest)
cie_owner kind big format place rest = owner_back kind big format place (cie_id kind format ++ rest) (None, rest) (rw (id_again kind big format rest) refl)

texts_back : (kind : FrameKind) (c : CommonInformationEntry) (big : Bool) (size at : ℕ) (zs : List ℕ) → KnowsSize size c → IsRangedCie c → c.return_address_register.0 < 2 ^ 16 → CieTexts kind c at big zs → ReadsCieBack kind big c size at zs
texts_back kind c big size at zs knows ranged short t =
    let format = c.encoding.format in
    let w = c.encoding.address_size in
    let v = c.encoding.version in
    let instructions = t.program ++ zeros t.zeros_behind in
    let b5 = t.block ++ instructions in
    let b4 = t.column ++ b5 in
    let b3 = sleb c.data_alignment_factor ++ b4 in
    let b2 = uleb c.code_alignment_factor ++ b3 in
    let b1 = t.own ++ b2 in
    let b0 = t.string ++ b1 in
    let end = at + length zs in
    let string = bif (is_augmented c) 0x7a ++ names c.lsda_encoding c.personality (has_encoding c) c.signal_trampoline in
    let whole_size : length zs ≡ length_size format + t.size =
    omega (arith, ap length t.whole, length-append (escape_of format ++ num big (word_of format) t.size) t.body, length-append (escape_of format) (num big (word_of format) t.size), length-num big (word_of format) t.size, t.long) in
    let a = augmentation_back c t.place end big t.block instructions t.width ranged.personality t.block_is (omega (arith, t.place_is, whole_size)) (omega (arith, t.place_is, whole_size)) in
    let fields : CieFields = record {
      encoding = record { address_size = w; format = format; version = v };
      augmentation = a.augmentation;
      code_alignment_factor = c.code_alignment_factor;
      data_alignment_factor = c.data_alignment_factor;
      return_address_register = record { 0 = c.return_address_register.0 };
    } in
    let read : fields_read (is_eh kind) big size format end (v ∷ b0) ≡ Ok (fields, instructions) =
    fields_back (is_eh kind) big size end v w c.code_alignment_factor c.return_address_register.0 format c.data_alignment_factor string b0 b1 b2 b3 b4 b5 instructions a.augmentation
    (version_back big v b0 (known_version kind v t.known))
    (read_is (List ℕ) text_at text_read b0 (string, b1) text_law (letters_back c big t.string b1 t.string_is))
    (sizes_by (v == 4) v w size big t.own b2 refl t.own_is t.width (λ no. knows (λ four. let k : (v == 4) ≡ true = ap (λ n. n == 4) four in let j : true ≡ false = sym k ∙ no in cc)))
    (uleb_back c.code_alignment_factor b3 ranged.code_factor)
    (sleb_back c.data_alignment_factor b4 ranged.data_factor)
    (register_back kind v c.return_address_register.0 t.column_at big t.column b5 short t.column_is)
    a.read in
    let some : 0 < t.size = omega (arith, t.long, ap length t.apart, length-append (cie_id kind format) (v ∷ b0), id_some kind format) in
    let owner : owner_read (is_eh kind) big format (at + length_size format) t.body ≡ Ok (None, v ∷ b0) = ap (owner_read (is_eh kind) big format (at + length_size format)) t.apart ∙ cie_owner kind big format (at + length_size format) (v ∷ b0) in
    record {
      fields = fields;
      instructions = instructions;
      read = λ rest.
          entry_is (is_eh kind) big size at (zs ++ rest) rest (v ∷ b0) format fields instructions
          (head_back (is_eh kind) big format at t.size zs t.body rest (v ∷ b0) None t.fit t.whole t.long some owner)
          (ap (λ n. fields_read (is_eh kind) big size format n (v ∷ b0)) (omega (arith, length-append zs rest)) ∙ read);
      are = record { encoding = refl; augmentation = a.said; code_factor = refl; data_factor = refl; register = refl };
      program = record { text = t.program; padding = t.zeros_behind; is = t.program_is; whole = refl };
    }

pub cie_back : (kind : FrameKind) (c : CommonInformationEntry) → CieReadsBack kind c
cie_back kind c big size at zs knows ranged short e = texts_back kind c big size at zs knows ranged short (cie_texts kind c at big zs e)
