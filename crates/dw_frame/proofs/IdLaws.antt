-- What tells a CIE from an FDE is read again.
use Rattle.std.specs.Prelude.{◌≡◌, ℕ, ◌+◌, ◌-◌, ◌<◌, ◌≤◌, ◌==◌, Bool, true, false, List, [], ◌++◌, length, Option, Some, refl}
use Rattle.std.proofs.Common.{sym, ◌∙◌, ap, subst, arith, append_assoc, length-append}
use Rattle.std.proofs.lemmas.Bool.{eq-eqb, ne_eqb}
use Rattle.dw_base.specs.Numbers.{◌>>=◌, when, number_at, initial_length_at, value_of, num, word_of, length_size, escape_of}
use Rattle.dw_base.specs.declared.common.Format.{Format}
use Rattle.dw_base.specs.declared.common.Format.TheVariants.{Dwarf32, Dwarf64}
use Rattle.dw_base.proofs.NumberLaws.{bytes_at_is, initial_length-again, length-num}
use Rattle.dw_writer.specs.SectionTexts.{offset_text}
use Rattle.dw_frame.specs.declared.cie.CommonInformationEntry.{CommonInformationEntry}
use Rattle.dw_frame.specs.declared.fde.FrameDescriptionEntry.{FrameDescriptionEntry}
use Rattle.dw_frame.specs.declared.kind.FrameKind.{FrameKind}
use Rattle.dw_frame.specs.declared.kind.FrameKind.TheVariants.{Debug, Eh}
use Rattle.dw_frame_instructions.specs.Pieces.{bytes, both}
use Rattle.dw_frame.specs.Parts.{Part, Placed, free, in_turn, only_if, refused_if}
use Rattle.dw_frame.specs.Entries.{with_length, counted, padded, entry}
use Rattle.dw_frame.specs.Cies.{cie_id, cie_number, version_part, letters, sizes, cie_data, is_augmented, first_instructions, cie_head, cie_measures, cie_contents, cie_part}
use Rattle.dw_frame.specs.Fdes.{cie_pointer, range_part, lsda_part, disagree, mismatch, instructions, fde_contents, fde_part}
use Rattle.dw_frame.specs.ReadCies.{id_at, behind_id_at}
use Rattle.dw_frame.specs.ReadTables.{entry_at}
use Rattle.dw_frame.proofs.TextParts.{IsText, turned, turn_size, number_again, measured_parts}
use Rattle.dw_frame.proofs.FdeLaws.{offset_by}

id_value : (kind : FrameKind) (format : Format) (big : Bool) → value_of big (cie_id kind format) ≡ cie_number kind format
id_value Debug Dwarf32 true = refl
id_value Debug Dwarf32 false = refl
id_value Debug Dwarf64 true = refl
id_value Debug Dwarf64 false = refl
id_value Eh format true = refl
id_value Eh format false = refl

-- bytes as a number
number_of : (big : Bool) (xs rest : List ℕ) → number_at big (length xs) (xs ++ rest) ≡ Some (value_of big xs, rest)
unfolding number_at
number_of big xs rest =
    let f : Option (List ℕ × List ℕ) → Option (ℕ × List ℕ) = λ o. o >>= λ x. Some (value_of big x.0, x.1) in
    ap f (bytes_at_is (length xs) xs rest refl)

-- the id of a CIE
pub id_again : (kind : FrameKind) (big : Bool) (format : Format) (rest : List ℕ) → id_at kind big format (cie_id kind format ++ rest) ≡ Some (true, rest)
id_again kind big format rest =
    let f : Option (ℕ × List ℕ) → Option (Bool × List ℕ) = λ o. o >>= λ i. Some (i.0 == cie_number kind format, i.1) in
    ap f (number_of big (cie_id kind format) rest) ∙ ap (λ b. Some (b, rest)) (eq-eqb (value_of big (cie_id kind format)) (cie_number kind format) (id_value kind format big))

pub behind_id : (kind : FrameKind) (big : Bool) (format : Format) (xs rest : List ℕ) → cie_id kind format ≡ xs → behind_id_at kind big format (xs ++ rest) ≡ Some rest
behind_id kind big format xs rest e =
    ap (λ ys. behind_id_at kind big format (ys ++ rest)) (sym e) ∙ ap (λ o. o >>= λ i. when i.0 (Some i.1)) (id_again kind big format rest)

some_length : (format : Format) → 1 ≤ length_size format
some_length Dwarf32 = omega arith
some_length Dwarf64 = omega arith

id_size : (format : Format) → length (cie_id Debug format) ≡ word_of format
id_size Dwarf32 = refl
id_size Dwarf64 = refl

-- another number, where the id of a CIE would be
other_number : (kind : FrameKind) (big : Bool) (format : Format) (w n : ℕ) (xs rest : List ℕ) → length (cie_id kind format) ≡ w → number_at big w (xs ++ rest) ≡ Some (n, rest) → (n == cie_number kind format) ≡ false →
    id_at kind big format (xs ++ rest) ≡ Some (false, rest)
other_number kind big format w n xs rest long read other =
    let f : Option (ℕ × List ℕ) → Option (Bool × List ℕ) = λ o. o >>= λ i. Some (i.0 == cie_number kind format, i.1) in
    ap (λ k. f (number_at big k (xs ++ rest))) long ∙ ap f read ∙ ap (λ b. Some (b, rest)) other

-- the field of an FDE whose CIE stands before it
pub field_id : (kind : FrameKind) (format : Format) (cie at : ℕ) (big : Bool) (xs rest : List ℕ) → cie < at → IsText big (cie_pointer kind format cie at) xs → id_at kind big format (xs ++ rest) ≡ Some (false, rest)
unfolding offset_text
field_id Debug format cie at big xs rest before e =
    let t = offset_by (cie == cie_number Debug format) (word_of format) cie at big xs e in
    other_number Debug big format (word_of format) (cie + 0) xs rest (id_size format) (number_again big (word_of format) (cie + 0) xs rest t.1) (ap (λ n. n == cie_number Debug format) (omega arith) ∙ t.0)
field_id Eh format cie at big xs rest before e =
    other_number Eh big format 4 (at - cie) xs rest refl (number_again big 4 (at - cie) xs rest e) (ne_eqb (at - cie) 0 (λ z. omega (arith, z, before)))

-- what stands behind the length of an entry tells whether it is a CIE
abbrev Starts : FrameKind → Bool → Format → Bool → List ℕ → Type 0
Starts kind big format cie ys = (rest : List ℕ) × (id_at kind big format ys ≡ Some (cie, rest))

-- an entry behind its length
entry_read : (kind : FrameKind) (format : Format) (p : Part) (big cie : Bool) (zs : List ℕ) → IsText big (with_length format p) zs → length zs ≡ (with_length format p).piece.size →
    ((ys : List ℕ) → IsText big p ys → Starts kind big format cie ys) → entry_at kind big zs ≡ Some cie
unfolding with_length both
entry_read kind format p big cie zs e long first =
    let m = measured_parts format p big zs e in
    let n = p.piece.size in
    let here = first m.ys m.body in
    let whole : zs ≡ escape_of format ++ (num big (word_of format) n ++ m.ys) = m.whole ∙ append_assoc (escape_of format) (num big (word_of format) n) m.ys in
    let counts : n ≡ length m.ys = omega (arith, long, ap length whole, length-append (escape_of format) (num big (word_of format) n ++ m.ys), length-append (num big (word_of format) n) m.ys, length-num big (word_of format) n) in
    let f2 : Option (Bool × List ℕ) → Option Bool = λ o. o >>= λ i. Some i.0 in
    let f1 : Option ((Format × ℕ) × List ℕ) → Option Bool = λ o. o >>= λ x. when (x.0.1 == length x.1) (f2 (id_at kind big x.0.0 x.1)) in
    ap (λ ys. f1 (initial_length_at big ys)) whole ∙ ap f1 (initial_length-again big format n m.ys m.fit)
    ∙ ap (λ b. when b (f2 (id_at kind big format m.ys))) (eq-eqb n (length m.ys) counts) ∙ ap f2 here.1

-- the first part of the first part of the first part
first_of : (ys x1 y1 x2 y2 x3 y3 : List ℕ) → ys ≡ x1 ++ y1 → x1 ≡ x2 ++ y2 → x2 ≡ x3 ++ y3 → ys ≡ x3 ++ (y3 ++ (y2 ++ y1))
first_of ys x1 y1 x2 y2 x3 y3 a b c = a ∙ ap (λ q. q ++ y1) b ∙ append_assoc x2 y2 y1 ∙ ap (λ q. q ++ (y2 ++ y1)) c ∙ append_assoc x3 y3 (y2 ++ y1)

-- the contents of a CIE, and what pads them
cie_starts : (kind : FrameKind) (c : CommonInformationEntry) (at : ℕ) (pad : Placed) (big : Bool) (ys : List ℕ) → IsText big (in_turn (cie_contents kind c) pad at) ys → Starts kind big c.encoding.format true ys
cie_starts kind c at pad big ys e =
    let format = c.encoding.format in
    let s1 = turned (cie_contents kind c) pad at big ys e in
    let s2 = turned (cie_head kind c) (in_turn (cie_measures kind c) (in_turn (only_if (is_augmented c) (counted (cie_data c))) (first_instructions c))) at big s1.xs s1.first in
    let s3 = turned (free (bytes (cie_id kind format))) (in_turn (version_part kind c.encoding.version) (in_turn (free (letters c)) (free (sizes c.encoding.version c.encoding.address_size)))) at big s2.xs s2.first in
    let id : cie_id kind format ≡ s3.xs = let f = s3.first in cc in
    let rest = s3.ys ++ (s2.ys ++ s1.ys) in
    let whole : ys ≡ cie_id kind format ++ rest = first_of ys s1.xs s1.ys s2.xs s2.ys s3.xs s3.ys s1.whole s2.whole s3.whole ∙ ap (λ q. q ++ rest) (sym id) in
    (rest, ap (id_at kind big format) whole ∙ id_again kind big format rest)

-- a CIE that is written is an entry with the id of a CIE
pub cie_is_entry : (kind : FrameKind) (c : CommonInformationEntry) (at : ℕ) (big : Bool) (zs : List ℕ) → IsText big (cie_part kind c at) zs → length zs ≡ (cie_part kind c at).piece.size → entry_at kind big zs ≡ Some true
cie_is_entry kind c at big zs e long =
    let format = c.encoding.format in
    let at1 = at + length_size format in
    let pad : Placed = padded c.encoding (cie_contents kind c at1).piece.size in
    entry_read kind format (in_turn (cie_contents kind c) pad at1) big true zs e long (λ ys t. cie_starts kind c at1 pad big ys t)

-- the contents of an FDE whose CIE stands before it
fde_starts : (kind : FrameKind) (cie : ℕ) (c : CommonInformationEntry) (f : FrameDescriptionEntry) (at : ℕ) (pad : Placed) (big : Bool) (ys : List ℕ) → cie < at →
    IsText big (in_turn (fde_contents kind cie c f) pad at) ys → Starts kind big c.encoding.format false ys
fde_starts kind cie c f at pad big ys before e =
    let format = c.encoding.format in
    let s1 = turned (fde_contents kind cie c f) pad at big ys e in
    let s2 = turned (cie_pointer kind format cie) (in_turn (range_part c f) (in_turn (only_if (is_augmented c) (counted (lsda_part c.encoding.address_size c.lsda_encoding f.lsda))) (instructions c f))) at big s1.xs s1.first in
    let whole : ys ≡ s2.xs ++ (s2.ys ++ s1.ys) = s1.whole ∙ ap (λ q. q ++ s1.ys) s2.whole ∙ append_assoc s2.xs s2.ys s1.ys in
    (s2.ys ++ s1.ys, ap (id_at kind big format) whole ∙ field_id kind format cie at big s2.xs (s2.ys ++ s1.ys) before s2.first)

own_entry : (kind : FrameKind) (cie at : ℕ) (c : CommonInformationEntry) (f : FrameDescriptionEntry) (big : Bool) (zs : List ℕ) → cie ≤ at →
    IsText big (entry c.encoding (fde_contents kind cie c f) at) zs → length zs ≡ (entry c.encoding (fde_contents kind cie c f) at).piece.size → entry_at kind big zs ≡ Some false
own_entry kind cie at c f big zs before e long =
    let format = c.encoding.format in
    let at1 = at + length_size format in
    let pad : Placed = padded c.encoding (fde_contents kind cie c f at1).piece.size in
    entry_read kind format (in_turn (fde_contents kind cie c f) pad at1) big false zs e long (λ ys t. fde_starts kind cie c f at1 pad big ys (omega (arith, before, some_length format)) t)

agreed_entry : (b : Bool) (kind : FrameKind) (cie at : ℕ) (c : CommonInformationEntry) (f : FrameDescriptionEntry) (big : Bool) (zs : List ℕ) → cie ≤ at →
    IsText big (in_turn (refused_if b mismatch) (entry c.encoding (fde_contents kind cie c f)) at) zs → length zs ≡ (in_turn (refused_if b mismatch) (entry c.encoding (fde_contents kind cie c f)) at).piece.size → entry_at kind big zs ≡ Some false
agreed_entry true kind cie at c f big zs before e long =
    let s = turned (refused_if true mismatch) (entry c.encoding (fde_contents kind cie c f)) at big zs e in cc
agreed_entry false kind cie at c f big zs before e long =
    let own : Placed = entry c.encoding (fde_contents kind cie c f) in
    let s = turned (refused_if false mismatch) own at big zs e in
    let nothing : [] ≡ s.xs = cc in
    let same : s.ys ≡ zs = ap (λ ys. ys ++ s.ys) nothing ∙ sym s.whole in
    let here : at + 0 ≡ at = omega arith in
    let there : IsText big (own at) s.ys = subst (λ n. IsText big (own n) s.ys) here s.second in
    let size : length zs ≡ (own at).piece.size = omega (arith, long, turn_size (refused_if false mismatch) own at, ap (λ n. (own n).piece.size) here) in
    own_entry kind cie at c f big zs before (subst (IsText big (own at)) same there) size

-- an FDE that is written is an entry without that id
pub fde_is_entry : (kind : FrameKind) (cie at : ℕ) (c : CommonInformationEntry) (f : FrameDescriptionEntry) (big : Bool) (zs : List ℕ) → cie ≤ at → IsText big (fde_part kind cie c f at) zs → length zs ≡ (fde_part kind cie c f at).piece.size →
    entry_at kind big zs ≡ Some false
fde_is_entry kind cie at c f big zs before e long = agreed_entry (disagree c.lsda_encoding f.lsda) kind cie at c f big zs before e long
