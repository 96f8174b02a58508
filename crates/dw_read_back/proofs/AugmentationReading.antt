-- Augmentations of CIEs that are written are read again.
use Rattle.std.specs.Prelude.{◌≡◌, ℕ, suc, ◌+◌, ◌^◌, ◌<◌, ◌≤◌, ◌||◌, IsTrue, IfSome, Bool, true, false, List, [], ◌∷◌, ◌++◌, length, Option, Some, None, Ok, is_some, refl, if◌then◌else◌}
use Rattle.std.proofs.Common.{sym, ◌∙◌, ap, subst, arith, append_assoc, append-nil, length-append}
use Rattle.std.proofs.lemmas.Bool.{lt-ltb}
use Rattle.std.proofs.lemmas.Option.{some_pair_parts}
use Rattle.dw_base.specs.Numbers.{◌>>=◌, is_width, number_at}
use Rattle.dw_base.specs.Leb128.{groups_at}
use Rattle.dw_base.specs.Forms.{text_at}
use Rattle.dw_base.specs.declared.address.Address.{Address}
use Rattle.dw_base.specs.declared.constants.DwEhPe.{DwEhPe}
use Rattle.dw_base.proofs.HeaderLaws.{byte-again}
use Rattle.dw_writer.specs.Texts.{Text, num_text}
use Rattle.dw_writer.proofs.Laws.{length-num_text}
use Rattle.dw_read.specs.Reading.{Read}
use Rattle.dw_read.specs.Reasons.{uleb_read}
use Rattle.dw_frame.specs.declared.cie.CommonInformationEntry.{CommonInformationEntry}
use Rattle.dw_frame.specs.Cies.{byte_if, letters, encoding_if, personality_part, cie_data, is_augmented, has_encoding}
use Rattle.dw_frame.specs.Entries.{counted}
use Rattle.dw_frame.specs.Parts.{Placed, free, in_turn, only_if}
use Rattle.dw_frame_instructions.specs.Pieces.{Piece, bytes, both}
use Rattle.dw_frame.specs.PointerParts.{pointer}
use Rattle.dw_frame.specs.ReadCies.{IsShort}
use Rattle.dw_frame.specs.Reading.{at_zero}
use Rattle.dw_frame.proofs.FdeLaws.{pointer_known, known_text}
use Rattle.dw_frame.proofs.TextParts.{IsText, Split, split, turned, number_again, counted_parts}
use Rattle.dw_read_frames.specs.Augmentations.{standing, no_letters, encoding_of, letter_read, letters_read, augmentation_read}
use Rattle.dw_read_frames.specs.Pointers.{pointer_read}
use Rattle.dw_read_frames.specs.declared.augmentation.Augmentation.{Augmentation}
use Rattle.dw_read_back.specs.Entries.{IsRoutine, Says, IsSaid}
use Rattle.dw_read_back.proofs.OperandReading.{byte_back, bytes_back}
use Rattle.dw_read_back.proofs.PointerReading.{pointer_back}
use Rattle.dw_read_back.proofs.Widths.{bytes_wide, data_wide, pointer_short}

-- a byte where something holds
abbrev pub bif : Bool → ℕ → List ℕ
bif true n = n ∷ []
bif false n = []

byte_text : (b : Bool) (n : ℕ) (big : Bool) (xs : List ℕ) → (byte_if b n).text big at_zero ≡ Some xs → xs ≡ bif b n
byte_text true n big xs e = let f : n ∷ [] ≡ xs = cc in sym f
byte_text false n big xs e = let f : [] ≡ xs = cc in sym f

pub same_bytes : (xs ys : List ℕ) → ◌≡◌ {A = Text} (Some xs) (Some ys) → xs ≡ ys
same_bytes xs ys e = cc

both_split : (p q : Piece) (big : Bool) (zs : List ℕ) → (both p q).text big at_zero ≡ Some zs → Split (p.text big at_zero) (q.text big at_zero) zs
unfolding both
both_split p q big zs e = split (p.text big at_zero) (q.text big at_zero) zs e

-- The letters

-- those behind "z"
abbrev pub names : Option DwEhPe → Option (DwEhPe × Address) → Bool → Bool → List ℕ
names o p r s = bif (is_some o) 0x4c ++ (bif (is_some p) 0x50 ++ (bif r 0x52 ++ (bif s 0x53 ++ [])))

text_step : (b : Bool) (n : ℕ) (tail s rest : List ℕ) → text_at tail ≡ Some (s, rest) → text_at (bif b (suc n) ++ tail) ≡ Some (bif b (suc n) ++ s, rest)
unfolding text_at
text_step true n tail s rest h = ap (λ o. o >>= λ x. Some (suc n ∷ x.0, x.1)) h
text_step false n tail s rest h = h

text_end : (rest : List ℕ) → text_at (0 ∷ rest) ≡ Some ([], rest)
unfolding text_at
text_end rest = refl

pub letters_back : (c : CommonInformationEntry) (big : Bool) (xs rest : List ℕ) → (letters c).text big at_zero ≡ Some xs →
    text_at (xs ++ rest) ≡ Some (bif (is_augmented c) 0x7a ++ names c.lsda_encoding c.personality (has_encoding c) c.signal_trampoline, rest)
letters_back c big xs rest e =
    let z = bif (is_augmented c) 0x7a in
    let l = bif (is_some c.lsda_encoding) 0x4c in
    let p = bif (is_some c.personality) 0x50 in
    let r = bif (has_encoding c) 0x52 in
    let s = bif c.signal_trampoline 0x53 in
    let s1 = both_split (byte_if (is_augmented c) 0x7a) _ big xs e in
    let s2 = both_split (byte_if (is_some c.lsda_encoding) 0x4c) _ big s1.ys s1.second in
    let s3 = both_split (byte_if (is_some c.personality) 0x50) _ big s2.ys s2.second in
    let s4 = both_split (byte_if (has_encoding c) 0x52) _ big s3.ys s3.second in
    let s5 = both_split (byte_if c.signal_trampoline 0x53) (bytes (0 ∷ [])) big s4.ys s4.second in
    let end : s5.ys ≡ 0 ∷ [] = let f : 0 ∷ [] ≡ s5.ys = cc in sym f in
    let t5 : s4.ys ++ rest ≡ s ++ (0 ∷ rest) = ap (λ ys. ys ++ rest) s5.whole ∙ append_assoc s5.xs s5.ys rest ∙ ap (λ ys. ys ++ (s5.ys ++ rest)) (byte_text c.signal_trampoline 0x53 big s5.xs s5.first) ∙ ap (λ ys. s ++ (ys ++ rest)) end in
    let t4 : s3.ys ++ rest ≡ r ++ (s ++ (0 ∷ rest)) = ap (λ ys. ys ++ rest) s4.whole ∙ append_assoc s4.xs s4.ys rest ∙ ap (λ ys. ys ++ (s4.ys ++ rest)) (byte_text (has_encoding c) 0x52 big s4.xs s4.first) ∙ ap (λ ys. r ++ ys) t5 in
    let t3 : s2.ys ++ rest ≡ p ++ (r ++ (s ++ (0 ∷ rest))) = ap (λ ys. ys ++ rest) s3.whole ∙ append_assoc s3.xs s3.ys rest ∙ ap (λ ys. ys ++ (s3.ys ++ rest)) (byte_text (is_some c.personality) 0x50 big s3.xs s3.first) ∙ ap (λ ys. p ++ ys) t4 in
    let t2 : s1.ys ++ rest ≡ l ++ (p ++ (r ++ (s ++ (0 ∷ rest)))) = ap (λ ys. ys ++ rest) s2.whole ∙ append_assoc s2.xs s2.ys rest ∙ ap (λ ys. ys ++ (s2.ys ++ rest)) (byte_text (is_some c.lsda_encoding) 0x4c big s2.xs s2.first) ∙ ap (λ ys. l ++ ys) t3 in
    let t1 : xs ++ rest ≡ z ++ (l ++ (p ++ (r ++ (s ++ (0 ∷ rest))))) = ap (λ ys. ys ++ rest) s1.whole ∙ append_assoc s1.xs s1.ys rest ∙ ap (λ ys. ys ++ (s1.ys ++ rest)) (byte_text (is_augmented c) 0x7a big s1.xs s1.first) ∙ ap (λ ys. z ++ ys) t2 in
    ap text_at t1
    ∙ text_step (is_augmented c) 0x79 _ (l ++ (p ++ (r ++ (s ++ [])))) rest
    (text_step (is_some c.lsda_encoding) 0x4b _ (p ++ (r ++ (s ++ []))) rest
    (text_step (is_some c.personality) 0x4f _ (r ++ (s ++ [])) rest
    (text_step (has_encoding c) 0x51 _ (s ++ []) rest
    (text_step c.signal_trampoline 0x52 (0 ∷ rest) [] rest (text_end rest)))))

-- Their data

module _ (big : Bool) (w end : ℕ) where
  abbrev Letters : List ℕ → Augmentation → Read Augmentation
  Letters ls a bytes = letters_read big w end ls a bytes

  lsda_step : (o : Option DwEhPe) (ls xs tail : List ℕ) → (encoding_if o).text big at_zero ≡ Some xs → Letters (bif (is_some o) 0x4c ++ ls) no_letters (xs ++ tail) ≡ Letters ls (record no_letters { lsda = o }) tail
  unfolding letters_read letter_read
  lsda_step None ls xs tail e = let f : [] ≡ xs = cc in ap (λ ys. Letters ls no_letters (ys ++ tail)) (sym f)
  lsda_step (Some x) ls xs tail e =
      let f : x.0 ∷ [] ≡ xs = cc in
      ap (λ ys. Letters (0x4c ∷ ls) no_letters (ys ++ tail)) (sym f) ∙ rw (byte_back big x.0 tail) refl

  record PointedBack (p : Option (DwEhPe × Address)) (ls : List ℕ) (a : Augmentation) (rest tail : List ℕ) : Type 0 where
    pub seen : Option (DwEhPe × ℕ)
    pub is : IsRoutine p seen
    pub read : Letters (bif (is_some p) 0x50 ++ ls) a rest ≡ Letters ls (record a { personality = seen }) tail

  personality_step : (p : Option (DwEhPe × Address)) (here : ℕ) (ls xs tail : List ℕ) (l : Option DwEhPe) → IsTrue (is_width w) → IfSome p (λ q. IsShort q.1) → IsText big (personality_part w p here) xs →
      length (xs ++ tail) ≤ end → standing end (xs ++ tail) ≡ here → PointedBack p ls (record no_letters { lsda = l }) (xs ++ tail) tail
  unfolding letters_read letter_read
  personality_step None here ls xs tail l width short e within place =
      let f : [] ≡ xs = cc in
      record { seen = None; is = tt; read = ap (λ ys. Letters ls (record no_letters { lsda = l }) (ys ++ tail)) (sym f) }
  personality_step (Some q) here ls xs tail l width short e within place =
      let s = turned (free (bytes (q.0.0 ∷ []))) (pointer w q.0.0 q.1) here big xs e in
      let f = same_bytes (q.0.0 ∷ []) s.xs s.first in
      let known = pointer_known w q.0.0 (here + 1) q.1 big s.ys s.second in
      let text = known_text w q.0.0 (here + 1) known.number big s.ys (subst (λ b. IsText big (pointer w q.0.0 b (here + 1)) s.ys) known.is s.second) in
      let small : known.number < 2 ^ 64 = subst IsShort known.is short in
      let apart : xs ++ tail ≡ q.0.0 ∷ (s.ys ++ tail) = ap (λ ys. ys ++ tail) s.whole ∙ append_assoc s.xs s.ys tail ∙ ap (λ ys. ys ++ (s.ys ++ tail)) (sym f) in
      let behind : standing end (s.ys ++ tail) ≡ here + 1 = omega (arith, place, within, ap length apart) in
      let again : pointer_read big w (encoding_of q.0.0) (standing end (s.ys ++ tail)) (s.ys ++ tail) ≡ Ok (known.number, tail) =
      ap (λ n. pointer_read big w (encoding_of q.0.0) n (s.ys ++ tail)) behind ∙ pointer_back big w (encoding_of q.0.0) (here + 1) known.number s.ys tail width small text in
      record {
        seen = Some (q.0, known.number);
        is = (refl, known.is);
        read = ap (Letters (0x50 ∷ ls) (record no_letters { lsda = l })) apart ∙ rw (byte_back big q.0.0 (s.ys ++ tail), again) refl;
      }

  addresses_step : (r : Bool) (x : DwEhPe) (ls xs tail : List ℕ) (l : Option DwEhPe) (p : Option (DwEhPe × ℕ)) → (byte_if r x.0).text big at_zero ≡ Some xs →
      Letters (bif r 0x52 ++ ls) (record no_letters { lsda = l; personality = p }) (xs ++ tail) ≡ Letters ls (record no_letters { lsda = l; personality = p; fde_address_encoding = if r then Some x else None }) tail
  unfolding letters_read letter_read
  addresses_step false x ls xs tail l p e = let f : [] ≡ xs = cc in ap (λ ys. Letters ls (record no_letters { lsda = l; personality = p }) (ys ++ tail)) (sym f)
  addresses_step true x ls xs tail l p e =
      let f : x.0 ∷ [] ≡ xs = cc in
      ap (λ ys. Letters (0x52 ∷ ls) (record no_letters { lsda = l; personality = p }) (ys ++ tail)) (sym f) ∙ rw (byte_back big x.0 tail) refl

  signal_step : (s : Bool) (rest : List ℕ) (l : Option DwEhPe) (p : Option (DwEhPe × ℕ)) (a : Option DwEhPe) →
      Letters (bif s 0x53 ++ []) (record no_letters { lsda = l; personality = p; fde_address_encoding = a }) rest ≡ Ok (record { lsda = l; personality = p; fde_address_encoding = a; is_signal_trampoline = s }, rest)
  unfolding letters_read letter_read
  signal_step true rest l p a = refl
  signal_step false rest l p a = refl

-- all of them
record DataBack (c : CommonInformationEntry) (result : Augmentation → Type 0) : Type 0 where
  pub data_read : Augmentation
  pub says : Says c data_read
  pub read : result data_read

letters_data : (c : CommonInformationEntry) (here end : ℕ) (big : Bool) (zs : List ℕ) → IsTrue (is_width c.encoding.address_size) → IfSome c.personality (λ q. IsShort q.1) → IsText big (cie_data c here) zs →
    length zs ≤ end → standing end zs ≡ here →
    DataBack c (λ a. letters_read big c.encoding.address_size end (names c.lsda_encoding c.personality (has_encoding c) c.signal_trampoline) no_letters zs ≡ Ok (a, []))
letters_data c here end big zs width short e within place =
    let w = c.encoding.address_size in
    let o = c.lsda_encoding in
    let p = c.personality in
    let r = has_encoding c in
    let s = c.signal_trampoline in
    let n = c.fde_address_encoding in
    let s1 = turned (free (encoding_if o)) (in_turn (personality_part w p) (free (byte_if r n.0))) here big zs e in
    let here1 = here + (encoding_if o).size in
    let s2 = turned (personality_part w p) (free (byte_if r n.0)) here1 big s1.ys s1.second in
    let tail2 = s2.ys ++ [] in
    let tail1 = s2.xs ++ tail2 in
    let apart : zs ≡ s1.xs ++ tail1 = s1.whole ∙ ap (λ ys. s1.xs ++ ys) (s2.whole ∙ ap (λ ys. s2.xs ++ ys) (sym (append-nil s2.ys))) in
    let long : length s1.xs ≡ (encoding_if o).size = encoding_wide o big s1.xs s1.first in
    let sizes : length zs ≡ length s1.xs + length tail1 = ap length apart ∙ length-append s1.xs tail1 in
    let behind : standing end tail1 ≡ here1 = omega (arith, place, within, sizes, long) in
    let pointed = personality_step big w end p here1 (bif r 0x52 ++ (bif s 0x53 ++ [])) s2.xs tail2 o width short s2.first (omega (arith, within, sizes)) behind in
    record {
      data_read = record { lsda = o; personality = pointed.seen; fde_address_encoding = if r then Some n else None; is_signal_trampoline = s };
      says = record { lsda = refl; personality = pointed.is; addresses = refl; signal = refl };
      read = ap (letters_read big w end (names o p r s) no_letters) apart
          ∙ lsda_step big w end o (bif (is_some p) 0x50 ++ (bif r 0x52 ++ (bif s 0x53 ++ []))) s1.xs tail1 s1.first
          ∙ pointed.read ∙ addresses_step big w end r n (bif s 0x53 ++ []) s2.ys [] o pointed.seen s2.second
          ∙ signal_step big w end s [] o pointed.seen (if r then Some n else None);
    }
  where
    encoding_wide : (o : Option DwEhPe) (big : Bool) (xs : List ℕ) → (encoding_if o).text big at_zero ≡ Some xs → length xs ≡ (encoding_if o).size
    encoding_wide None big xs e = bytes_wide [] big xs e
    encoding_wide (Some x) big xs e = bytes_wide (x.0 ∷ []) big xs e

-- A number of one byte is read as one in ULEB128 too, below 128.
one_byte : (big : Bool) (n b : ℕ) (bs : List ℕ) → ◌≡◌ {A = Option (ℕ × List ℕ)} (Some (b, bs)) (Some (n, bs)) → b ≡ n
one_byte big n b bs e = (some_pair_parts b n bs bs e).0

pub count_byte : (big : Bool) (n : ℕ) (xs : List ℕ) → num_text big 1 n ≡ Some xs → xs ≡ n ∷ []
count_byte big n [] e = absurd (omega (arith, length-num_text big 1 n [] e))
count_byte big n (b ∷ []) e =
    let read : number_at big 1 (b ∷ []) ≡ Some (n, []) = number_again big 1 n (b ∷ []) [] e in
    ap (λ k. k ∷ []) (one_byte big n b [] (sym (byte-again big b []) ∙ read))
count_byte big n (b ∷ (d ∷ more)) e = absurd (omega (arith, length-num_text big 1 n (b ∷ (d ∷ more)) e))

pub count_back : (n : ℕ) (rest : List ℕ) → n < 128 → uleb_read (n ∷ rest) ≡ Ok (n, rest)
unfolding uleb_read groups_at
count_back n rest h = rw (lt-ltb n 128 h, lt-ltb n (2 ^ 64) (omega (arith, h))) refl

pub record AugmentationBack (c : CommonInformationEntry) (result : Option Augmentation → Type 0) : Type 0 where
  pub augmentation : Option Augmentation
  pub said : IsSaid c augmentation
  pub read : result augmentation

names_none : (o : Option DwEhPe) (p : Option (DwEhPe × Address)) (r s : Bool) → (is_some o || (is_some p || (r || s))) ≡ false → names o p r s ≡ []
names_none None None false false h = refl
names_none (Some x) p r s h = cc
names_none None (Some q) r s h = cc
names_none None None true s h = cc
names_none None None false true h = cc

-- the data is short
encoding_short : (o : Option DwEhPe) (big : Bool) (xs : List ℕ) → (encoding_if o).text big at_zero ≡ Some xs → length xs ≤ 1
encoding_short None big xs e = omega (arith, bytes_wide [] big xs e)
encoding_short (Some x) big xs e = omega (arith, bytes_wide (x.0 ∷ []) big xs e)

byte_short : (b : Bool) (n : ℕ) (big : Bool) (xs : List ℕ) → (byte_if b n).text big at_zero ≡ Some xs → length xs ≤ 1
byte_short true n big xs e = omega (arith, bytes_wide (n ∷ []) big xs e)
byte_short false n big xs e = omega (arith, bytes_wide [] big xs e)

personality_short : (w : ℕ) (p : Option (DwEhPe × Address)) (here : ℕ) (big : Bool) (xs : List ℕ) → IsText big (personality_part w p here) xs → length xs ≤ 11
personality_short w None here big xs e = omega (arith, bytes_wide [] big xs e)
personality_short w (Some q) here big xs e =
    let s = turned (free (bytes (q.0.0 ∷ []))) (pointer w q.0.0 q.1) here big xs e in
    let known = pointer_known w q.0.0 (here + 1) q.1 big s.ys s.second in
    let text = known_text w q.0.0 (here + 1) known.number big s.ys (subst (λ b. IsText big (pointer w q.0.0 b (here + 1)) s.ys) known.is s.second) in
    omega (arith, ap length s.whole, length-append s.xs s.ys, bytes_wide (q.0.0 ∷ []) big s.xs s.first, pointer_short big w q.0.0 (here + 1) known.number s.ys text)

data_short : (c : CommonInformationEntry) (here : ℕ) (big : Bool) (zs : List ℕ) → IsText big (cie_data c here) zs → length zs ≤ 13
data_short c here big zs e =
    let w = c.encoding.address_size in
    let last : Placed = free (byte_if (has_encoding c) c.fde_address_encoding.0) in
    let s1 = turned (free (encoding_if c.lsda_encoding)) (in_turn (personality_part w c.personality) last) here big zs e in
    let here1 = here + (encoding_if c.lsda_encoding).size in
    let s2 = turned (personality_part w c.personality) last here1 big s1.ys s1.second in
    omega (
      arith,
      ap length s1.whole,
      length-append s1.xs s1.ys,
      ap length s2.whole,
      length-append s2.xs s2.ys,
      encoding_short c.lsda_encoding big s1.xs s1.first,
      personality_short w c.personality here1 big s2.xs s2.first,
      byte_short (has_encoding c) c.fde_address_encoding.0 big s2.ys s2.second,
    )

augmentation_by : (b : Bool) (c : CommonInformationEntry) (place end : ℕ) (big : Bool) (xs tail : List ℕ) → is_augmented c ≡ b → IsTrue (is_width c.encoding.address_size) → IfSome c.personality (λ q. IsShort q.1) →
    IsText big (only_if b (counted (cie_data c)) place) xs → length (xs ++ tail) ≤ end → standing end (xs ++ tail) ≡ place →
    AugmentationBack c (λ a. augmentation_read big c.encoding.address_size end (bif b 0x7a ++ names c.lsda_encoding c.personality (has_encoding c) c.signal_trampoline) (xs ++ tail) ≡ Ok (a, tail))
unfolding augmentation_read
augmentation_by true c place end big xs tail is width short e within stands =
    let t = counted_parts (cie_data c (place + 1)) big xs e in
    let n = (cie_data c (place + 1)).piece.size in
    let one = count_byte big n t.xs t.first in
    let long : length t.ys ≡ n = data_wide c (place + 1) big t.ys t.second in
    let small : n < 128 = omega (arith, long, data_short c (place + 1) big t.ys t.second) in
    let apart : xs ++ tail ≡ n ∷ (t.ys ++ tail) = ap (λ ys. ys ++ tail) t.whole ∙ append_assoc t.xs t.ys tail ∙ ap (λ ys. ys ++ (t.ys ++ tail)) one in
    let sizes = ap length apart in
    let more = length-append t.ys tail in
    let d = letters_data c (place + 1) (standing end tail) big t.ys width short t.second (omega (arith, within, stands, sizes, more)) (omega (arith, within, stands, sizes, more)) in
    record {
      augmentation = Some d.data_read;
      said = (is, d.says);
      read = ap (augmentation_read big c.encoding.address_size end (0x7a ∷ names c.lsda_encoding c.personality (has_encoding c) c.signal_trampoline)) apart
          ∙ rw (count_back n (t.ys ++ tail) small, bytes_back n t.ys tail long, d.read) refl;
    }
augmentation_by false c place end big xs tail is width short e within stands =
    let none : [] ≡ xs = cc in
    record {
      augmentation = None;
      said = is;
      read = ap (λ ls. augmentation_read big c.encoding.address_size end ls (xs ++ tail)) (names_none c.lsda_encoding c.personality (has_encoding c) c.signal_trampoline is)
          ∙ ap (λ ys. Ok (None, ys ++ tail)) (sym none);
    }

pub augmentation_back : (c : CommonInformationEntry) (place end : ℕ) (big : Bool) (xs tail : List ℕ) → IsTrue (is_width c.encoding.address_size) → IfSome c.personality (λ q. IsShort q.1) →
    IsText big (only_if (is_augmented c) (counted (cie_data c)) place) xs → length (xs ++ tail) ≤ end → standing end (xs ++ tail) ≡ place →
    AugmentationBack c (λ a. augmentation_read big c.encoding.address_size end (bif (is_augmented c) 0x7a ++ names c.lsda_encoding c.personality (has_encoding c) c.signal_trampoline) (xs ++ tail) ≡ Ok (a, tail))
augmentation_back c place end big xs tail width short e within stands = augmentation_by (is_augmented c) c place end big xs tail refl width short e within stands
