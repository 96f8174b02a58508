-- CIEs that are written are read again.
use Rattle.std.specs.Prelude.{◌≡◌, ℕ, ◌+◌, ◌^◌, ◌<◌, ◌≤◌, ◌==◌, ◌||◌, Bool, true, false, List, [], ◌∷◌, ◌++◌, length, Option, Some, None, ℤ, is_some, IfSome, refl, IsTrue, if◌then◌else◌}
use Rattle.std.specs.Option.{option_map}
use Rattle.std.proofs.Common.{sym, ◌∙◌, ap, subst, arith, append_assoc, length-append}
use Rattle.dw_base.specs.Numbers.{◌>>=◌, num, bytes_at, number_at, initial_length_at, word_of, length_size, length_fits, escape_of}
use Rattle.dw_base.specs.Leb128.{uleb, sleb, uleb_at, sleb_at}
use Rattle.dw_base.specs.declared.address.Address.{Address}
use Rattle.dw_base.specs.declared.common.Format.{Format}
use Rattle.dw_base.specs.declared.constants.DwEhPe.{DwEhPe}
use Rattle.dw_base.proofs.NumberLaws.{bytes_at_is, initial_length-again, length-num}
use Rattle.dw_base.proofs.Leb128Laws.{uleb-again, sleb-again}
use Rattle.dw_base.proofs.HeaderLaws.{byte-again}
use Rattle.dw_writer.specs.Texts.{Text}
use Rattle.dw_writer.proofs.Laws.{length-num_text}
use Rattle.dw_frame.specs.declared.cie.CommonInformationEntry.{CommonInformationEntry}
use Rattle.dw_frame.specs.declared.kind.FrameKind.{FrameKind}
use Rattle.dw_frame_instructions.specs.Pieces.{Piece, bytes, both, missing}
use Rattle.dw_frame.specs.Parts.{Placed, free, caused, in_turn, only_if, numbered}
use Rattle.dw_frame.specs.PointerParts.{pointer}
use Rattle.dw_frame.specs.Entries.{counted, padded}
use Rattle.dw_frame.specs.Cies.{cie_id, is_known, version_fails, version_part, byte_if, letters, sizes, has_byte_register, register_part, encoding_if, personality_part, cie_data, is_augmented, has_encoding, first_instructions, cie_head, cie_measures, cie_contents, cie_part}
use Rattle.dw_frame.specs.ReadPointers.{pointer_at}
use Rattle.dw_frame.specs.ReadCies.{place_of, behind_id_at, string_at, Announced, nothing_announced, letters_at, announced_at, CieRead, register_at, cie_at, IsPointer, IsShort, IsRangedCie, ReadsCie}
use Rattle.dw_frame.specs.Reading.{at_zero, IsWide}
use Rattle.dw_frame.proofs.PointerLaws.{pointer-again}
use Rattle.dw_frame.proofs.TextParts.{IsText, Split, split, turned, number_again, measured_parts, counted_parts}
use Rattle.dw_frame.proofs.FdeLaws.{pointer_known, known_text, turn_wide}
use Rattle.dw_frame.proofs.IdLaws.{behind_id}

-- a byte where something holds
abbrev bif : Bool → ℕ → List ℕ
bif true n = n ∷ []
bif false n = []

byte_text : (b : Bool) (n : ℕ) (big : Bool) (xs : List ℕ) → (byte_if b n).text big at_zero ≡ Some xs → xs ≡ bif b n
byte_text true n big xs e = let f : n ∷ [] ≡ xs = cc in sym f
byte_text false n big xs e = let f : [] ≡ xs = cc in sym f

byte_wide : (b : Bool) (n : ℕ) (big : Bool) (xs : List ℕ) → (byte_if b n).text big at_zero ≡ Some xs → length xs ≡ (byte_if b n).size
byte_wide true n big xs e = let f : n ∷ [] ≡ xs = cc in sym (ap length f)
byte_wide false n big xs e = let f : [] ≡ xs = cc in sym (ap length f)

both_split : (p q : Piece) (big : Bool) (zs : List ℕ) → (both p q).text big at_zero ≡ Some zs → Split (p.text big at_zero) (q.text big at_zero) zs
unfolding both
both_split p q big zs e = split (p.text big at_zero) (q.text big at_zero) zs e

both_wide : (p q : Piece) → ((big : Bool) (xs : List ℕ) → p.text big at_zero ≡ Some xs → length xs ≡ p.size) → ((big : Bool) (xs : List ℕ) → q.text big at_zero ≡ Some xs → length xs ≡ q.size) →
    (big : Bool) (zs : List ℕ) → (both p q).text big at_zero ≡ Some zs → length zs ≡ (both p q).size
unfolding both
both_wide p q h k big zs e =
    let s = split (p.text big at_zero) (q.text big at_zero) zs e in
    omega (arith, ap length s.whole, length-append s.xs s.ys, h big s.xs s.first, k big s.ys s.second)

bytes_wide : (ys : List ℕ) (big : Bool) (xs : List ℕ) → ◌≡◌ {A = Text} (Some ys) (Some xs) → length xs ≡ length ys
bytes_wide ys big xs e = let f : ys ≡ xs = cc in sym (ap length f)

same_bytes : (xs ys : List ℕ) → ◌≡◌ {A = Text} (Some xs) (Some ys) → xs ≡ ys
same_bytes xs ys e = cc

-- The fields before the data

version_by : (b : Bool) (kind : FrameKind) (v at : ℕ) (big : Bool) (xs : List ℕ) → IsText big ((if b then free (bytes (v ∷ [])) else caused missing (version_fails kind v)) at) xs → v ∷ [] ≡ xs
version_by true kind v at big xs e = cc
version_by false kind v at big xs e = cc

version_wide_by : (b : Bool) (kind : FrameKind) (v at : ℕ) → IsWide ((if b then free (bytes (v ∷ [])) else caused missing (version_fails kind v)) at)
version_wide_by true kind v at big xs e = bytes_wide (v ∷ []) big xs e
version_wide_by false kind v at big xs e = cc

sizes_by : (b : Bool) (w : ℕ) (big : Bool) (xs rest : List ℕ) → (if b then bytes (w ∷ 0 ∷ []) else bytes []).text big at_zero ≡ Some xs → bytes_at (if b then 2 else 0) (xs ++ rest) ≡ Some (xs, rest)
sizes_by true w big xs rest e = bytes_at_is 2 xs rest (bytes_wide (w ∷ 0 ∷ []) big xs e)
sizes_by false w big xs rest e = bytes_at_is 0 xs rest (bytes_wide [] big xs e)

sizes_wide_by : (b : Bool) (w : ℕ) (big : Bool) (xs : List ℕ) → (if b then bytes (w ∷ 0 ∷ []) else bytes []).text big at_zero ≡ Some xs → length xs ≡ (if b then bytes (w ∷ 0 ∷ []) else bytes []).size
sizes_wide_by true w big xs e = bytes_wide (w ∷ 0 ∷ []) big xs e
sizes_wide_by false w big xs e = bytes_wide [] big xs e

register_by : (b : Bool) (r at : ℕ) (big : Bool) (xs rest : List ℕ) → r < 2 ^ 64 → IsText big ((if b then numbered 1 r else free (bytes (uleb r))) at) xs → (if b then number_at big 1 (xs ++ rest) else uleb_at (xs ++ rest)) ≡ Some (r, rest)
register_by true r at big xs rest h e = number_again big 1 r xs rest e
register_by false r at big xs rest h e = let f : uleb r ≡ xs = cc in ap (λ ys. uleb_at (ys ++ rest)) (sym f) ∙ uleb-again r rest h

register_wide_by : (b : Bool) (r at : ℕ) → IsWide ((if b then numbered 1 r else free (bytes (uleb r))) at)
register_wide_by true r at big xs e = length-num_text big 1 r xs e
register_wide_by false r at big xs e = bytes_wide (uleb r) big xs e

string_step : (b : Bool) (n : ℕ) (tail s rest : List ℕ) → (n == 0) ≡ false → string_at tail ≡ Some (s, rest) → string_at (bif b n ++ tail) ≡ Some (bif b n ++ s, rest)
string_step true n tail s rest z h =
    let more : Option (List ℕ × List ℕ) → Option (List ℕ × List ℕ) = λ o. o >>= λ x. Some (n ∷ x.0, x.1) in
    ap (λ t. if t then Some ([], tail) else more (string_at tail)) z ∙ ap more h
string_step false n tail s rest z h = h

-- the letters of a CIE behind "z"
abbrev names : Option DwEhPe → Option (DwEhPe × Address) → Bool → Bool → List ℕ
names o p r s = bif (is_some o) 0x4c ++ (bif (is_some p) 0x50 ++ (bif r 0x52 ++ (bif s 0x53 ++ [])))

letters_again : (c : CommonInformationEntry) (big : Bool) (xs rest : List ℕ) → (letters c).text big at_zero ≡ Some xs →
    string_at (xs ++ rest) ≡ Some (bif (is_augmented c) 0x7a ++ names c.lsda_encoding c.personality (has_encoding c) c.signal_trampoline, rest)
letters_again c big xs rest e =
    let z = bif (is_augmented c) 0x7a in
    let l = bif (is_some c.lsda_encoding) 0x4c in
    let p = bif (is_some c.personality) 0x50 in
    let r = bif (has_encoding c) 0x52 in
    let s = bif c.signal_trampoline 0x53 in
    let s1 = both_split (byte_if (is_augmented c) 0x7a) _ big xs e in
    let s2 = both_split (byte_if (is_some c.lsda_encoding) 0x4c) _ big s1.ys s1.second in
    let s3 = both_split (byte_if (is_some c.personality) 0x50) _ big s2.ys s2.second in
    let s4 = both_split (byte_if (has_encoding c) 0x52) _ big s3.ys s3.second in
    let s5 = both_split (byte_if c.signal_trampoline 0x53) (bytes (0 ∷ [])) big s4.ys s4.second in
    let end : s5.ys ≡ 0 ∷ [] = let f : 0 ∷ [] ≡ s5.ys = cc in sym f in
    let t5 : s4.ys ++ rest ≡ s ++ (0 ∷ rest) = ap (λ ys. ys ++ rest) s5.whole ∙ append_assoc s5.xs s5.ys rest ∙ ap (λ ys. ys ++ (s5.ys ++ rest)) (byte_text c.signal_trampoline 0x53 big s5.xs s5.first) ∙ ap (λ ys. s ++ (ys ++ rest)) end in
    let t4 : s3.ys ++ rest ≡ r ++ (s ++ (0 ∷ rest)) = ap (λ ys. ys ++ rest) s4.whole ∙ append_assoc s4.xs s4.ys rest ∙ ap (λ ys. ys ++ (s4.ys ++ rest)) (byte_text (has_encoding c) 0x52 big s4.xs s4.first) ∙ ap (λ ys. r ++ ys) t5 in
    let t3 : s2.ys ++ rest ≡ p ++ (r ++ (s ++ (0 ∷ rest))) = ap (λ ys. ys ++ rest) s3.whole ∙ append_assoc s3.xs s3.ys rest ∙ ap (λ ys. ys ++ (s3.ys ++ rest)) (byte_text (is_some c.personality) 0x50 big s3.xs s3.first) ∙ ap (λ ys. p ++ ys) t4 in
    let t2 : s1.ys ++ rest ≡ l ++ (p ++ (r ++ (s ++ (0 ∷ rest)))) = ap (λ ys. ys ++ rest) s2.whole ∙ append_assoc s2.xs s2.ys rest ∙ ap (λ ys. ys ++ (s2.ys ++ rest)) (byte_text (is_some c.lsda_encoding) 0x4c big s2.xs s2.first) ∙ ap (λ ys. l ++ ys) t3 in
    let t1 : xs ++ rest ≡ z ++ (l ++ (p ++ (r ++ (s ++ (0 ∷ rest))))) = ap (λ ys. ys ++ rest) s1.whole ∙ append_assoc s1.xs s1.ys rest ∙ ap (λ ys. ys ++ (s1.ys ++ rest)) (byte_text (is_augmented c) 0x7a big s1.xs s1.first) ∙ ap (λ ys. z ++ ys) t2 in
    ap string_at t1
    ∙ string_step (is_augmented c) 0x7a _ (l ++ (p ++ (r ++ (s ++ [])))) rest refl
    (string_step (is_some c.lsda_encoding) 0x4c _ (p ++ (r ++ (s ++ []))) rest refl
    (string_step (is_some c.personality) 0x50 _ (r ++ (s ++ [])) rest refl
    (string_step (has_encoding c) 0x52 _ (s ++ []) rest refl
    (string_step c.signal_trampoline 0x53 (0 ∷ rest) [] rest refl refl))))

letters_wide : (c : CommonInformationEntry) (big : Bool) (xs : List ℕ) → (letters c).text big at_zero ≡ Some xs → length xs ≡ (letters c).size
letters_wide c =
    both_wide (byte_if (is_augmented c) 0x7a) _ (byte_wide (is_augmented c) 0x7a)
    (both_wide (byte_if (is_some c.lsda_encoding) 0x4c) _ (byte_wide (is_some c.lsda_encoding) 0x4c)
    (both_wide (byte_if (is_some c.personality) 0x50) _ (byte_wide (is_some c.personality) 0x50)
    (both_wide (byte_if (has_encoding c) 0x52) _ (byte_wide (has_encoding c) 0x52)
    (both_wide (byte_if c.signal_trampoline 0x53) (bytes (0 ∷ [])) (byte_wide c.signal_trampoline 0x53) (bytes_wide (0 ∷ []))))))

pub head_wide : (kind : FrameKind) (c : CommonInformationEntry) (at : ℕ) → IsWide (cie_head kind c at)
head_wide kind c at =
    let a1 = at + length (cie_id kind c.encoding.format) in
    turn_wide (free (bytes (cie_id kind c.encoding.format))) _ at (bytes_wide (cie_id kind c.encoding.format))
    (turn_wide (version_part kind c.encoding.version) _ a1 (version_wide_by (is_known kind c.encoding.version) kind c.encoding.version a1)
    (turn_wide (free (letters c)) (free (sizes c.encoding.version c.encoding.address_size)) _ (letters_wide c) (sizes_wide_by (c.encoding.version == 4) c.encoding.address_size)))

pub measures_wide : (kind : FrameKind) (c : CommonInformationEntry) (at : ℕ) → IsWide (cie_measures kind c at)
measures_wide kind c at =
    turn_wide (free (bytes (uleb c.code_alignment_factor))) _ at (bytes_wide (uleb c.code_alignment_factor))
    (turn_wide (free (bytes (sleb c.data_alignment_factor))) (register_part kind c.encoding.version c.return_address_register.0) _ (bytes_wide (sleb c.data_alignment_factor))
    (register_wide_by (has_byte_register kind c.encoding.version) c.return_address_register.0 _))

-- The data that the letters announce

number_byte : (n : ℕ) (big : Bool) (tail : List ℕ) → number_at big 1 ((n ∷ []) ++ tail) ≡ Some (n, tail)
number_byte n big tail = byte-again big n tail

-- a pointer that is announced is the built one
record Pointed (w at : ℕ) (big : Bool) (all : List ℕ) (p : Option (DwEhPe × Address)) (ls : List ℕ) (d : Announced) (rest tail : List ℕ) : Type 0 where
  pub seen : Option (ℕ × ℕ)
  pub is : IsPointer p seen
  pub read : letters_at big w at all (bif (is_some p) 0x50 ++ ls) d rest ≡ letters_at big w at all ls (record d { personality = seen }) tail

lsda_step : (o : Option DwEhPe) (w at : ℕ) (big : Bool) (all ls xs tail : List ℕ) → (encoding_if o).text big at_zero ≡ Some xs →
    letters_at big w at all (bif (is_some o) 0x4c ++ ls) nothing_announced (xs ++ tail) ≡ letters_at big w at all ls (record nothing_announced { lsda = option_map (λ e. e.0) o }) tail
lsda_step None w at big all ls xs tail e = let f : [] ≡ xs = cc in ap (λ ys. letters_at big w at all ls nothing_announced (ys ++ tail)) (sym f)
lsda_step (Some x) w at big all ls xs tail e =
    let f : x.0 ∷ [] ≡ xs = cc in
    let next : Option (ℕ × List ℕ) → Option Announced = λ o. o >>= λ y. letters_at big w at all ls (record nothing_announced { lsda = Some y.0 }) y.1 in
    ap (λ ys. next (number_at big 1 (ys ++ tail))) (sym f) ∙ ap next (number_byte x.0 big tail)

personality_step : (p : Option (DwEhPe × Address)) (w at here : ℕ) (big : Bool) (all ls xs tail : List ℕ) (l : Option ℕ) → IfSome p (λ q. IsShort q.1) → IsText big (personality_part w p here) xs →
    length (xs ++ tail) ≤ length all → place_of at all (xs ++ tail) ≡ here → Pointed w at big all p ls (record nothing_announced { lsda = l }) (xs ++ tail) tail
personality_step None w at here big all ls xs tail l short e within place =
    let f : [] ≡ xs = cc in
    record { seen = None; is = tt; read = ap (λ ys. letters_at big w at all ls (record nothing_announced { lsda = l }) (ys ++ tail)) (sym f) }
personality_step (Some q) w at here big all ls xs tail l short e within place =
    let s = turned (free (bytes (q.0.0 ∷ []))) (pointer w q.0.0 q.1) here big xs e in
    let f = same_bytes (q.0.0 ∷ []) s.xs s.first in
    let known = pointer_known w q.0.0 (here + 1) q.1 big s.ys s.second in
    let text = known_text w q.0.0 (here + 1) known.number big s.ys (subst (λ b. IsText big (pointer w q.0.0 b (here + 1)) s.ys) known.is s.second) in
    let small : known.number < 2 ^ 64 = subst IsShort known.is short in
    let apart : xs ++ tail ≡ (q.0.0 ∷ []) ++ (s.ys ++ tail) = ap (λ ys. ys ++ tail) s.whole ∙ append_assoc s.xs s.ys tail ∙ ap (λ ys. ys ++ (s.ys ++ tail)) (sym f) in
    let behind : place_of at all (s.ys ++ tail) ≡ here + 1 = omega (arith, place, within, ap length apart) in
    let d : Announced = record nothing_announced { lsda = l } in
    let last : Option (ℕ × List ℕ) → Option Announced = λ o. o >>= λ y. letters_at big w at all ls (record d { personality = Some (q.0.0, y.0) }) y.1 in
    let next : Option (ℕ × List ℕ) → Option Announced = λ o. o >>= λ x. (pointer_at big w x.0 (place_of at all x.1) x.1 >>= λ y. letters_at big w at all ls (record d { personality = Some (x.0, y.0) }) y.1) in
    record {
      seen = Some (q.0.0, known.number);
      is = (refl, known.is);
      read = ap (λ ys. next (number_at big 1 ys)) apart ∙ ap next (number_byte q.0.0 big (s.ys ++ tail))
          ∙ ap (λ n. last (pointer_at big w q.0.0 n (s.ys ++ tail))) behind ∙ ap last (pointer-again big w q.0.0 (here + 1) known.number s.ys tail small text);
    }

addresses_step : (r : Bool) (n w at : ℕ) (big : Bool) (all ls xs tail : List ℕ) (l : Option ℕ) (p : Option (ℕ × ℕ)) → (byte_if r n).text big at_zero ≡ Some xs →
    letters_at big w at all (bif r 0x52 ++ ls) (record nothing_announced { lsda = l; personality = p }) (xs ++ tail)
    ≡ letters_at big w at all ls (record nothing_announced { lsda = l; personality = p; addresses = if r then Some n else None }) tail
addresses_step false n w at big all ls xs tail l p e = let f : [] ≡ xs = cc in ap (λ ys. letters_at big w at all ls (record nothing_announced { lsda = l; personality = p }) (ys ++ tail)) (sym f)
addresses_step true n w at big all ls xs tail l p e =
    let f : n ∷ [] ≡ xs = cc in
    let next : Option (ℕ × List ℕ) → Option Announced = λ o. o >>= λ y. letters_at big w at all ls (record nothing_announced { lsda = l; personality = p; addresses = Some y.0 }) y.1 in
    ap (λ ys. next (number_at big 1 (ys ++ tail))) (sym f) ∙ ap next (number_byte n big tail)

signal_step : (s : Bool) (w at : ℕ) (big : Bool) (all rest : List ℕ) (l : Option ℕ) (p : Option (ℕ × ℕ)) (a : Option ℕ) →
    letters_at big w at all (bif s 0x53 ++ []) (record { lsda = l; personality = p; addresses = a; signal = false }) rest ≡ Some (record { lsda = l; personality = p; addresses = a; signal = s })
signal_step true w at big all rest l p a = refl
signal_step false w at big all rest l p a = refl

-- all of them
record AnnouncedAgain (o : Option DwEhPe) (p : Option (DwEhPe × Address)) (r : Bool) (n : ℕ) (s : Bool) (result : Option Announced) : Type 0 where
  pub pointer : Option (ℕ × ℕ)
  pub is : IsPointer p pointer
  pub read : result ≡ Some (record { lsda = option_map (λ e. e.0) o; personality = pointer; addresses = if r then Some n else None; signal = s })

data_again : (o : Option DwEhPe) (p : Option (DwEhPe × Address)) (r : Bool) (n : ℕ) (s : Bool) (w at here : ℕ) (big : Bool) (all zs rest : List ℕ) → IfSome p (λ q. IsShort q.1) →
    IsText big (in_turn (free (encoding_if o)) (in_turn (personality_part w p) (free (byte_if r n))) here) zs → length (zs ++ rest) ≤ length all → place_of at all (zs ++ rest) ≡ here →
    AnnouncedAgain o p r n s (letters_at big w at all (names o p r s) nothing_announced (zs ++ rest))
data_again o p r n s w at here big all zs rest short e within place =
    let s1 = turned (free (encoding_if o)) (in_turn (personality_part w p) (free (byte_if r n))) here big zs e in
    let here1 = here + (encoding_if o).size in
    let s2 = turned (personality_part w p) (free (byte_if r n)) here1 big s1.ys s1.second in
    let tail2 = s2.ys ++ rest in
    let tail1 = s2.xs ++ tail2 in
    let l : Option ℕ = option_map (λ x. x.0) o in
    let apart : zs ++ rest ≡ s1.xs ++ tail1 = ap (λ ys. ys ++ rest) s1.whole ∙ append_assoc s1.xs s1.ys rest ∙ ap (λ ys. s1.xs ++ (ys ++ rest)) s2.whole ∙ ap (λ ys. s1.xs ++ ys) (append_assoc s2.xs s2.ys rest) in
    let long : length s1.xs ≡ (encoding_if o).size = encoding_wide o big s1.xs s1.first in
    let sizes : length (zs ++ rest) ≡ length s1.xs + length tail1 = ap length apart ∙ length-append s1.xs tail1 in
    let behind : place_of at all tail1 ≡ here1 = omega (arith, place, within, sizes, long) in
    let pointed = personality_step p w at here1 big all (bif r 0x52 ++ (bif s 0x53 ++ [])) s2.xs tail2 l short s2.first (omega (arith, within, sizes)) behind in
    record {
      pointer = pointed.seen;
      is = pointed.is;
      read = ap (letters_at big w at all (names o p r s) nothing_announced) apart
          ∙ lsda_step o w at big all (bif (is_some p) 0x50 ++ (bif r 0x52 ++ (bif s 0x53 ++ []))) s1.xs tail1 s1.first
          ∙ pointed.read ∙ addresses_step r n w at big all (bif s 0x53 ++ []) s2.ys rest l pointed.seen s2.second
          ∙ signal_step s w at big all rest l pointed.seen (if r then Some n else None);
    }
  where
    encoding_wide : (o : Option DwEhPe) (big : Bool) (xs : List ℕ) → (encoding_if o).text big at_zero ≡ Some xs → length xs ≡ (encoding_if o).size
    encoding_wide None big xs e = bytes_wide [] big xs e
    encoding_wide (Some x) big xs e = bytes_wide (x.0 ∷ []) big xs e

-- with or without an augmentation
augmented_again : (o : Option DwEhPe) (p : Option (DwEhPe × Address)) (r : Bool) (n : ℕ) (s augmented : Bool) (w at here : ℕ) (big : Bool) (all zs rest : List ℕ) →
    augmented ≡ (is_some o || (is_some p || (r || s))) → IfSome p (λ q. IsShort q.1) →
    IsText big (only_if augmented (counted (in_turn (free (encoding_if o)) (in_turn (personality_part w p) (free (byte_if r n))))) here) zs → length (zs ++ rest) ≤ length all → place_of at all (zs ++ rest) ≡ here →
    AnnouncedAgain o p r n s (announced_at big w at all (bif augmented 0x7a ++ names o p r s) (zs ++ rest))
augmented_again o p r n s true w at here big all zs rest any short e within place =
    let announced : Placed = in_turn (free (encoding_if o)) (in_turn (personality_part w p) (free (byte_if r n))) in
    let t = counted_parts (announced (here + 1)) big zs e in
    let apart : zs ++ rest ≡ t.xs ++ (t.ys ++ rest) = ap (λ ys. ys ++ rest) t.whole ∙ append_assoc t.xs t.ys rest in
    let one : length t.xs ≡ 1 = length-num_text big 1 (announced (here + 1)).piece.size t.xs t.first in
    let sizes : length (zs ++ rest) ≡ 1 + length (t.ys ++ rest) = omega (arith, ap length apart, length-append t.xs (t.ys ++ rest), one) in
    let a = data_again o p r n s w at (here + 1) big all t.ys rest short t.second (omega (arith, within, sizes)) (omega (arith, place, within, sizes)) in
    let next : Option (ℕ × List ℕ) → Option Announced = λ x. x >>= λ y. letters_at big w at all (names o p r s) nothing_announced y.1 in
    record {
      pointer = a.pointer;
      is = a.is;
      read = ap (λ ys. next (number_at big 1 ys)) apart ∙ ap next (number_again big 1 (announced (here + 1)).piece.size t.xs (t.ys ++ rest) t.first) ∙ a.read;
    }
augmented_again None None false n false false w at here big all zs rest any short e within place = record { pointer = None; is = tt; read = refl }
augmented_again (Some x) p r n s false w at here big all zs rest any short e within place = cc
augmented_again None (Some q) r n s false w at here big all zs rest any short e within place = cc
augmented_again None None true n s false w at here big all zs rest any short e within place = cc
augmented_again None None false n true false w at here big all zs rest any short e within place = cc

-- the parts of a CIE's bytes
record CieParts (kind : FrameKind) (c : CommonInformationEntry) (at : ℕ) (big : Bool) (zs : List ℕ) : Type 0 where
  pub size : ℕ
  pub h1 : List ℕ
  pub h2 : List ℕ
  pub h3 : List ℕ
  pub h4 : List ℕ
  pub m1 : List ℕ
  pub m2 : List ℕ
  pub m3 : List ℕ
  pub block : List ℕ
  pub behind : List ℕ
  pub fit : IsTrue (length_fits c.encoding.format size)
  pub whole : zs ≡ (escape_of c.encoding.format ++ num big (word_of c.encoding.format) size) ++ ((h1 ++ (h2 ++ (h3 ++ h4))) ++ ((m1 ++ (m2 ++ m3)) ++ (block ++ behind)))
  pub id : cie_id kind c.encoding.format ≡ h1
  pub version : c.encoding.version ∷ [] ≡ h2
  pub string : (letters c).text big at_zero ≡ Some h3
  pub widths : (sizes c.encoding.version c.encoding.address_size).text big at_zero ≡ Some h4
  pub code : uleb c.code_alignment_factor ≡ m1
  pub signed : sleb c.data_alignment_factor ≡ m2
  pub column : IsText big (register_part kind c.encoding.version c.return_address_register.0 0) m3
  pub place : ℕ
  pub announced : IsText big (only_if (is_augmented c) (counted (cie_data c)) place) block
  pub is : place ≡ at + length_size c.encoding.format + length (h1 ++ (h2 ++ (h3 ++ h4))) + length (m1 ++ (m2 ++ m3))

register_place : (b : Bool) (r at : ℕ) (big : Bool) (xs : List ℕ) → IsText big ((if b then numbered 1 r else free (bytes (uleb r))) at) xs → IsText big ((if b then numbered 1 r else free (bytes (uleb r))) 0) xs
register_place true r at big xs e = e
register_place false r at big xs e = e

cie_parts : (kind : FrameKind) (c : CommonInformationEntry) (at : ℕ) (big : Bool) (zs : List ℕ) → IsText big (cie_part kind c at) zs → CieParts kind c at big zs
cie_parts kind c at big zs e =
    let format = c.encoding.format in
    let w = c.encoding.address_size in
    let v = c.encoding.version in
    let body = cie_contents kind c in
    let at1 = at + length_size format in
    let inner : Placed = λ n. in_turn body (padded c.encoding (body n).piece.size) n in
    let block : Placed = only_if (is_augmented c) (counted (cie_data c)) in
    let m = measured_parts format (inner at1) big zs e in
    let s1 = turned body (padded c.encoding (body at1).piece.size) at1 big m.ys m.body in
    let s2 = turned (cie_head kind c) (in_turn (cie_measures kind c) (in_turn block (first_instructions c))) at1 big s1.xs s1.first in
    let at2 = at1 + (cie_head kind c at1).piece.size in
    let s3 = turned (cie_measures kind c) (in_turn block (first_instructions c)) at2 big s2.ys s2.second in
    let at3 = at2 + (cie_measures kind c at2).piece.size in
    let s4 = turned block (first_instructions c) at3 big s3.ys s3.second in
    let h1 = turned (free (bytes (cie_id kind format))) (in_turn (version_part kind v) (in_turn (free (letters c)) (free (sizes v w)))) at1 big s2.xs s2.first in
    let h2 = turned (version_part kind v) (in_turn (free (letters c)) (free (sizes v w))) _ big h1.ys h1.second in
    let h3 = turned (free (letters c)) (free (sizes v w)) _ big h2.ys h2.second in
    let m1 = turned (free (bytes (uleb c.code_alignment_factor))) (in_turn (free (bytes (sleb c.data_alignment_factor))) (register_part kind v c.return_address_register.0)) at2 big s3.xs s3.first in
    let m2 = turned (free (bytes (sleb c.data_alignment_factor))) (register_part kind v c.return_address_register.0) _ big m1.ys m1.second in
    let head : s2.xs ≡ h1.xs ++ (h2.xs ++ (h3.xs ++ h3.ys)) = h1.whole ∙ ap (λ ys. h1.xs ++ ys) (h2.whole ∙ ap (λ ys. h2.xs ++ ys) h3.whole) in
    let measures : s3.xs ≡ m1.xs ++ (m2.xs ++ m2.ys) = m1.whole ∙ ap (λ ys. m1.xs ++ ys) m2.whole in
    let whole = parts_whole (escape_of format ++ num big (word_of format) (inner at1).piece.size) zs m.ys s1.xs s1.ys s2.xs s2.ys s3.xs s3.ys s4.xs s4.ys (h1.xs ++ (h2.xs ++ (h3.xs ++ h3.ys))) (m1.xs ++ (m2.xs ++ m2.ys)) m.whole s1.whole s2.whole s3.whole s4.whole head measures in
    record {
      size = (inner at1).piece.size;
      h1 = h1.xs;
      h2 = h2.xs;
      h3 = h3.xs;
      h4 = h3.ys;
      m1 = m1.xs;
      m2 = m2.xs;
      m3 = m2.ys;
      block = s4.xs;
      behind = s4.ys ++ s1.ys;
      fit = m.fit;
      whole = whole;
      id = same_bytes (cie_id kind format) h1.xs h1.first;
      version = version_by (is_known kind v) kind v _ big h2.xs h2.first;
      string = h3.first;
      widths = h3.second;
      code = same_bytes (uleb c.code_alignment_factor) m1.xs m1.first;
      signed = same_bytes (sleb c.data_alignment_factor) m2.xs m2.first;
      column = register_place (has_byte_register kind v) c.return_address_register.0 _ big m2.ys m2.second;
      place = at3;
      announced = s4.first;
      is = omega (arith, ap length head, ap length measures, head_wide kind c at1 big s2.xs s2.first, measures_wide kind c at2 big s3.xs s3.first);
    }
  where
    parts_whole : (pre zs ys x1 y1 x2 y2 x3 y3 x4 y4 head measures : List ℕ) → zs ≡ pre ++ ys → ys ≡ x1 ++ y1 → x1 ≡ x2 ++ y2 → y2 ≡ x3 ++ y3 → y3 ≡ x4 ++ y4 → x2 ≡ head → x3 ≡ measures → zs ≡ pre ++ (head ++ (measures ++ (x4 ++ (y4 ++ y1))))
    parts_whole pre zs ys x1 y1 x2 y2 x3 y3 x4 y4 head measures a b d f g h k =
        a ∙ ap (λ q. pre ++ q) (b ∙ ap (λ q. q ++ y1) d ∙ append_assoc x2 y2 y1
        ∙ ap (λ q. x2 ++ (q ++ y1)) (f ∙ ap (λ q. x3 ++ q) g) ∙ ap (λ q. x2 ++ q) (append_assoc x3 (x4 ++ y4) y1 ∙ ap (λ q. x3 ++ q) (append_assoc x4 y4 y1))
        ∙ ap (λ q. q ++ (x3 ++ (x4 ++ (y4 ++ y1)))) h ∙ ap (λ q. head ++ (q ++ (x4 ++ (y4 ++ y1)))) k)

-- fields that are read one after another
fields_again : (kind : FrameKind) (big : Bool) (w at : ℕ) (format : Format) (size v code register : ℕ) (signed : ℤ) (string : List ℕ) (announced : Announced) (h1 h2 h3 h4 m1 m2 m3 end all : List ℕ) →
    IsTrue (length_fits format size) → all ≡ escape_of format ++ (num big (word_of format) size ++ (h1 ++ (h2 ++ (h3 ++ (h4 ++ (m1 ++ (m2 ++ (m3 ++ end)))))))) →
    cie_id kind format ≡ h1 → v ∷ [] ≡ h2 → string_at (h3 ++ (h4 ++ (m1 ++ (m2 ++ (m3 ++ end))))) ≡ Some (string, h4 ++ (m1 ++ (m2 ++ (m3 ++ end)))) →
    bytes_at (if v == 4 then 2 else 0) (h4 ++ (m1 ++ (m2 ++ (m3 ++ end)))) ≡ Some (h4, m1 ++ (m2 ++ (m3 ++ end))) →
    uleb_at (m1 ++ (m2 ++ (m3 ++ end))) ≡ Some (code, m2 ++ (m3 ++ end)) → sleb_at (m2 ++ (m3 ++ end)) ≡ Some (signed, m3 ++ end) → register_at kind big v (m3 ++ end) ≡ Some (register, end) →
    announced_at big w at all string end ≡ Some announced →
    cie_at kind big w at all ≡ Some (record { version = v; code_factor = code; data_factor = signed; register = register; announced = announced })
fields_again kind big w at format size v code register signed string announced h1 h2 h3 h4 m1 m2 m3 end all fit whole id is s z u l r a =
    let r6 = m1 ++ (m2 ++ (m3 ++ end)) in
    let r4 = h3 ++ (h4 ++ r6) in
    let f9 : Option Announced → Option CieRead = λ o. o >>= λ q. Some (record { version = v; code_factor = code; data_factor = signed; register = register; announced = q }) in
    let f8 : ℤ → Option (ℕ × List ℕ) → Option CieRead = λ y o. o >>= λ x. (announced_at big w at all string x.1 >>= λ q. Some (record { version = v; code_factor = code; data_factor = y; register = x.0; announced = q })) in
    let f7 : ℕ → Option (ℤ × List ℕ) → Option CieRead = λ k o. o >>= λ y. (register_at kind big v y.1 >>= λ x. announced_at big w at all string x.1 >>= λ q. Some (record { version = v; code_factor = k; data_factor = y.0; register = x.0; announced = q })) in
    let g6 : ℕ → List ℕ → Option (ℕ × List ℕ) → Option CieRead = λ n t o. o >>= λ k. (sleb_at k.1 >>= λ y. register_at kind big n y.1 >>= λ x. announced_at big w at all t x.1 >>= λ q. Some (record { version = n; code_factor = k.0; data_factor = y.0; register = x.0; announced = q })) in
    let g5 : ℕ → List ℕ → Option (List ℕ × List ℕ) → Option CieRead = λ n t o. o >>= λ q. g6 n t (uleb_at q.1) in
    let g4 : ℕ → Option (List ℕ × List ℕ) → Option CieRead = λ n o. o >>= λ t. g5 n t.0 (bytes_at (if n == 4 then 2 else 0) t.1) in
    let g3 : Option (ℕ × List ℕ) → Option CieRead = λ o. o >>= λ n. g4 n.0 (string_at n.1) in
    let g2 : Option (List ℕ) → Option CieRead = λ o. o >>= λ b. g3 (number_at big 1 b) in
    let g1 : Option ((Format × ℕ) × List ℕ) → Option CieRead = λ o. o >>= λ n. g2 (behind_id_at kind big n.0.0 n.1) in
    ap (λ ys. g1 (initial_length_at big ys)) whole ∙ ap g1 (initial_length-again big format size (h1 ++ (h2 ++ r4)) fit)
    ∙ ap g2 (behind_id kind big format h1 (h2 ++ r4) id)
    ∙ ap (λ ys. g3 (number_at big 1 (ys ++ r4))) (sym is) ∙ ap g3 (number_byte v big r4)
    ∙ ap (g4 v) s ∙ ap (g5 v string) z ∙ ap (g6 v string) u ∙ ap (f7 code) l ∙ ap (f8 signed) r ∙ ap f9 a

-- a CIE is read by its parts
parts_again : (kind : FrameKind) (c : CommonInformationEntry) (at : ℕ) (big : Bool) (zs rest : List ℕ) → IsRangedCie c → CieParts kind c at big zs → ReadsCie kind big c at (zs ++ rest)
parts_again kind c at big zs rest ranged p =
    let format = c.encoding.format in
    let w = c.encoding.address_size in
    let v = c.encoding.version in
    let n = num big (word_of format) p.size in
    let end = p.block ++ (p.behind ++ rest) in
    let m = p.m1 ++ (p.m2 ++ p.m3) in
    let h = p.h1 ++ (p.h2 ++ (p.h3 ++ p.h4)) in
    let r6 = p.m1 ++ (p.m2 ++ (p.m3 ++ end)) in
    let r2 = p.h1 ++ (p.h2 ++ (p.h3 ++ (p.h4 ++ r6))) in
    let all = escape_of format ++ (n ++ r2) in
    let measures : (m ++ (p.block ++ p.behind)) ++ rest ≡ r6 =
    append_assoc m (p.block ++ p.behind) rest ∙ ap (λ ys. m ++ ys) (append_assoc p.block p.behind rest) ∙ append_assoc p.m1 (p.m2 ++ p.m3) end ∙ ap (λ ys. p.m1 ++ ys) (append_assoc p.m2 p.m3 end) in
    let head : (h ++ (m ++ (p.block ++ p.behind))) ++ rest ≡ r2 =
    append_assoc h (m ++ (p.block ++ p.behind)) rest ∙ ap (λ ys. h ++ ys) measures ∙ append_assoc p.h1 (p.h2 ++ (p.h3 ++ p.h4)) r6
    ∙ ap (λ ys. p.h1 ++ ys) (append_assoc p.h2 (p.h3 ++ p.h4) r6 ∙ ap (λ ys. p.h2 ++ ys) (append_assoc p.h3 p.h4 r6)) in
    let whole : zs ++ rest ≡ all =
    ap (λ ys. ys ++ rest) p.whole ∙ append_assoc (escape_of format ++ n) (h ++ (m ++ (p.block ++ p.behind))) rest ∙ append_assoc (escape_of format) n ((h ++ (m ++ (p.block ++ p.behind))) ++ rest)
    ∙ ap (λ ys. escape_of format ++ (n ++ ys)) head in
    let long : length (zs ++ rest) ≡ length_size format + length h + length m + length end =
    ap length whole ∙ omega (
      arith,
      length-append (escape_of format) (n ++ r2),
      length-append n r2,
      length-num big (word_of format) p.size,
      sym (ap length head),
      length-append (h ++ (m ++ (p.block ++ p.behind))) rest,
      length-append h (m ++ (p.block ++ p.behind)),
      length-append m (p.block ++ p.behind),
      length-append p.block p.behind,
      length-append p.block (p.behind ++ rest),
      length-append p.behind rest,
    ) in
    let a = augmented_again c.lsda_encoding c.personality (has_encoding c) c.fde_address_encoding.0 c.signal_trampoline (is_augmented c) w at p.place big (zs ++ rest) p.block (p.behind ++ rest) refl ranged.personality p.announced
    (omega (arith, long)) (omega (arith, long, p.is)) in
    let string = bif (is_augmented c) 0x7a ++ names c.lsda_encoding c.personality (has_encoding c) c.signal_trampoline in
    let announced : Announced = record
    { lsda = option_map (λ x. x.0) c.lsda_encoding; personality = a.pointer; addresses = if has_encoding c then Some c.fde_address_encoding.0 else None; signal = c.signal_trampoline } in
    let code : uleb_at r6 ≡ Some (c.code_alignment_factor, p.m2 ++ (p.m3 ++ end)) = ap (λ ys. uleb_at (ys ++ (p.m2 ++ (p.m3 ++ end)))) (sym p.code) ∙ uleb-again c.code_alignment_factor (p.m2 ++ (p.m3 ++ end)) ranged.code_factor in
    let signed : sleb_at (p.m2 ++ (p.m3 ++ end)) ≡ Some (c.data_alignment_factor, p.m3 ++ end) = ap (λ ys. sleb_at (ys ++ (p.m3 ++ end))) (sym p.signed) ∙ sleb-again c.data_alignment_factor (p.m3 ++ end) ranged.data_factor in
    record {
      seen = record { version = v; code_factor = c.code_alignment_factor; data_factor = c.data_alignment_factor; register = c.return_address_register.0; announced = announced };
      read = fields_again kind big w at format p.size v c.code_alignment_factor c.return_address_register.0 c.data_alignment_factor string announced p.h1 p.h2 p.h3 p.h4 p.m1 p.m2 p.m3 end (zs ++ rest)
          p.fit whole p.id p.version (letters_again c big p.h3 (p.h4 ++ r6) p.string) (sizes_by (v == 4) w big p.h4 r6 p.widths) code signed
          (register_by (has_byte_register kind v) c.return_address_register.0 0 big p.m3 end ranged.register p.column) a.read;
      version = refl;
      code_factor = refl;
      data_factor = refl;
      register = refl;
      lsda = refl;
      personality = a.is;
      addresses = refl;
      signal = refl;
    }

-- a CIE that is written is read again
pub cie_again : (kind : FrameKind) (c : CommonInformationEntry) (at : ℕ) (big : Bool) (zs rest : List ℕ) → IsRangedCie c → IsText big (cie_part kind c at) zs → ReadsCie kind big c at (zs ++ rest)
cie_again kind c at big zs rest ranged e = parts_again kind c at big zs rest ranged (cie_parts kind c at big zs e)
