-- Whole FDEs are read again.
use Rattle.std.specs.Prelude.{◌≡◌, ℕ, ◌+◌, ◌-◌, ◌^◌, ◌<◌, ◌≤◌, Bool, true, false, List, [], ◌++◌, length, Option, Some, None, is_some, IfSome, refl, IsTrue}
use Rattle.std.specs.Option.{option_map}
use Rattle.std.proofs.Common.{sym, ◌∙◌, ap, subst, arith, append_assoc, length-append}
use Rattle.dw_base.specs.Numbers.{◌>>=◌, num, word_of, length_size, escape_of}
use Rattle.dw_base.specs.Pointers.{format_of}
use Rattle.dw_base.specs.declared.address.Address.{Address}
use Rattle.dw_base.specs.declared.address.Address.TheVariants.{Constant}
use Rattle.dw_base.specs.declared.common.Format.{Format}
use Rattle.dw_base.specs.declared.constants.DwEhPe.{DwEhPe}
use Rattle.dw_base.proofs.NumberLaws.{initial_length-again, length-num}
use Rattle.dw_writer.proofs.Laws.{length-num_text}
use Rattle.dw_frame.specs.declared.cie.CommonInformationEntry.{CommonInformationEntry}
use Rattle.dw_frame.specs.declared.fde.FrameDescriptionEntry.{FrameDescriptionEntry}
use Rattle.dw_frame.specs.declared.kind.FrameKind.{FrameKind}
use Rattle.dw_frame.specs.Parts.{Placed, in_turn, only_if, refused_if}
use Rattle.dw_frame.specs.PointerParts.{pointer}
use Rattle.dw_frame.specs.Entries.{counted, padded, entry}
use Rattle.dw_frame.specs.Cies.{is_augmented}
use Rattle.dw_frame.specs.Fdes.{cie_pointer, range_part, lsda_part, disagree, mismatch, instructions, fde_contents, fde_part}
use Rattle.dw_frame.specs.ReadPointers.{data_at, pointer_at}
use Rattle.dw_frame.specs.Reading.{cie_field_at, lsda_at, fde_at, FdeRead, IsRanged, ShowsFde}
use Rattle.dw_frame.specs.ReadCies.{place_of, IsShort}
use Rattle.dw_frame.proofs.PointerLaws.{data-again, pointer-again}
use Rattle.dw_frame.proofs.TextParts.{IsText, turned, number_again, measured_parts, counted_parts}
use Rattle.dw_frame.proofs.FdeLaws.{pointer_known, known_text, field_again, field_wide, range_parts, range_wide}

-- Places and lengths by numbers alone, so that no tactic looks into the parts that they come from: how far a place is on
-- once so many bytes are read, and how long bytes are of which parts are told
passed : (at n k r : ℕ) → n ≡ k + r → at + (n - r) ≡ at + k
passed at n k r h = omega arith

passed_two : (at n k l m r : ℕ) → n ≡ k + m → m ≡ l + r → at + (n - r) ≡ at + k + l
passed_two at n k l m r h i = omega arith

passed_three : (at n k l j m o r : ℕ) → n ≡ k + m → m ≡ l + o → o ≡ j + r → at + (n - r) ≡ at + k + l + j
passed_three at n k l j m o r h i g = omega arith

within_three : (n k l j m o r : ℕ) → n ≡ k + m → m ≡ l + o → o ≡ j + r → r ≤ n
within_three n k l j m o r h i g = omega arith

later : (n at k : ℕ) → n ≤ at → n ≤ at + k
later n at k h = omega arith

behind_one : (at n k r here : ℕ) → at + (n - r) ≡ here → r ≤ n → r ≡ 1 + k → at + (n - k) ≡ here + 1
behind_one at n k r here h i g = omega arith

long_first : (xs r : List ℕ) (k : ℕ) → length xs ≡ k → length (xs ++ r) ≡ k + length r
long_first xs r k h = length-append xs r ∙ ap (λ n. n + length r) h

long_two : (xs ys zs r : List ℕ) (k : ℕ) → zs ≡ xs ++ ys → length zs ≡ k → length (xs ++ (ys ++ r)) ≡ k + length r
long_two xs ys zs r k e h = ap length (sym (append_assoc xs ys r)) ∙ long_first (xs ++ ys) r k (ap length (sym e) ∙ h)

long_length : (format : Format) (n r : List ℕ) → length n ≡ word_of format → length (escape_of format ++ (n ++ r)) ≡ length_size format + length r
long_length format n r h = ap length (sym (append_assoc (escape_of format) n r)) ∙ long_first (escape_of format ++ n) r (length_size format) (length-append (escape_of format) n ∙ ap (λ k. length (escape_of format) + k) h)

nothing_more : (at : ℕ) → at + 0 ≡ at
nothing_more at = omega arith

-- the pointer to the data for the function's language
pub record LsdaAgain (o : Option DwEhPe) (x : Option Address) (w at : ℕ) (big : Bool) (bytes rest : List ℕ) : Type 0 where
  pub number : Option ℕ
  pub is : x ≡ option_map Constant number
  pub read : lsda_at big w o at bytes rest ≡ Some number

lsda_by : (o : Option DwEhPe) (x : Option Address) (augmented : Bool) (w at here : ℕ) (big : Bool) (zs rest bytes : List ℕ) → (IsTrue (is_some o) → augmented ≡ true) → disagree o x ≡ false → IfSome x IsShort →
    IsText big (only_if augmented (counted (lsda_part w o x)) here) zs → length (zs ++ rest) ≤ length bytes → place_of at bytes (zs ++ rest) ≡ here → LsdaAgain o x w at big bytes (zs ++ rest)
lsda_by None None augmented w at here big zs rest bytes has agree short e within place = record { number = None; is = refl; read = refl }
lsda_by None (Some a) augmented w at here big zs rest bytes has agree short e within place = cc
lsda_by (Some x) None augmented w at here big zs rest bytes has agree short e within place = cc
lsda_by (Some x) (Some a) augmented w at here big zs rest bytes has agree short e within place =
    let t : IsText big (counted (lsda_part w (Some x) (Some a)) here) zs = subst (λ b. IsText big (only_if b (counted (lsda_part w (Some x) (Some a))) here) zs) (has refl) e in
    let s = counted_parts (pointer w x.0 a (here + 1)) big zs t in
    let known = pointer_known w x.0 (here + 1) a big s.ys s.second in
    let text = known_text w x.0 (here + 1) known.number big s.ys (subst (λ b. IsText big (pointer w x.0 b (here + 1)) s.ys) known.is s.second) in
    let size = (pointer w x.0 a (here + 1)).piece.size in
    let small : known.number < 2 ^ 64 = subst IsShort known.is short in
    let split : zs ++ rest ≡ s.xs ++ (s.ys ++ rest) = ap (λ ys. ys ++ rest) s.whole ∙ append_assoc s.xs s.ys rest in
    let one : length s.xs ≡ 1 = length-num_text big 1 size s.xs s.first in
    let first_one : length (zs ++ rest) ≡ 1 + length (s.ys ++ rest) = ap length split ∙ long_first s.xs (s.ys ++ rest) 1 one in
    let behind : place_of at bytes (s.ys ++ rest) ≡ here + 1 = behind_one at (length bytes) (length (s.ys ++ rest)) (length (zs ++ rest)) here place within first_one in
    let count = number_again big 1 size s.xs (s.ys ++ rest) s.first in
    let again = pointer-again big w x.0 (here + 1) known.number s.ys rest small text in
    let last : Option (ℕ × List ℕ) → Option (Option ℕ) = λ o. o >>= λ y. Some (Some y.0) in
    let first : Option (ℕ × List ℕ) → Option (Option ℕ) = λ o. o >>= λ n. last (pointer_at big w x.0 (place_of at bytes n.1) n.1) in
    record {
      number = Some known.number;
      is = ap Some known.is;
      read = ap (lsda_at big w (Some x) at bytes) split ∙ ap first count ∙ ap (λ p. last (pointer_at big w x.0 p (s.ys ++ rest))) behind ∙ ap last again;
    }

-- an entry behind its length
entry_again : (kind : FrameKind) (cie at : ℕ) (c : CommonInformationEntry) (f : FrameDescriptionEntry) (big : Bool) (zs rest : List ℕ) → cie ≤ at → IsRanged f → disagree c.lsda_encoding f.lsda ≡ false →
    (IsTrue (is_some c.lsda_encoding) → is_augmented c ≡ true) → IsText big (entry c.encoding (fde_contents kind cie c f) at) zs → ShowsFde kind big c f cie at (zs ++ rest)
entry_again kind cie at c f big zs rest before ranged agree has e =
    let format = c.encoding.format in
    let w = c.encoding.address_size in
    let encoding = c.fde_address_encoding.0 in
    let body = fde_contents kind cie c f in
    let at1 = at + length_size format in
    let inner : Placed = λ n. in_turn body (padded c.encoding (body n).piece.size) n in
    let m = measured_parts format (inner at1) big zs e in
    let block : Placed = only_if (is_augmented c) (counted (lsda_part w c.lsda_encoding f.lsda)) in
    let s1 = turned body (padded c.encoding (body at1).piece.size) at1 big m.ys m.body in
    let s2 = turned (cie_pointer kind format cie) (in_turn (range_part c f) (in_turn block (instructions c f))) at1 big s1.xs s1.first in
    let at2 = at1 + (cie_pointer kind format cie at1).piece.size in
    let s3 = turned (range_part c f) (in_turn block (instructions c f)) at2 big s2.ys s2.second in
    let at3 = at2 + (range_part c f at2).piece.size in
    let s4 = turned block (instructions c f) at3 big s3.ys s3.second in
    let r = range_parts c f at2 big s3.xs s3.first in
    let size = (inner at1).piece.size in
    let n = num big (word_of format) size in
    let r5 = s4.ys ++ (s1.ys ++ rest) in
    let r4 = s4.xs ++ r5 in
    let r3 = r.ys ++ r4 in
    let r2 = r.xs ++ r3 in
    let r1 = s2.xs ++ r2 in
    let bytes = escape_of format ++ (n ++ r1) in
    let blocks : s3.ys ++ (s1.ys ++ rest) ≡ r4 = ap (λ ys. ys ++ (s1.ys ++ rest)) s4.whole ∙ append_assoc s4.xs s4.ys (s1.ys ++ rest) in
    let ranges : s2.ys ++ (s1.ys ++ rest) ≡ r2 =
    ap (λ ys. ys ++ (s1.ys ++ rest)) s3.whole ∙ append_assoc s3.xs s3.ys (s1.ys ++ rest) ∙ ap (λ ys. s3.xs ++ ys) blocks ∙ ap (λ ys. ys ++ r4) r.whole ∙ append_assoc r.xs r.ys r4 in
    let fields : m.ys ++ rest ≡ r1 =
    ap (λ ys. ys ++ rest) s1.whole ∙ append_assoc s1.xs s1.ys rest ∙ ap (λ ys. ys ++ (s1.ys ++ rest)) s2.whole ∙ append_assoc s2.xs s2.ys (s1.ys ++ rest) ∙ ap (λ ys. s2.xs ++ ys) ranges in
    let whole : zs ++ rest ≡ bytes =
    ap (λ ys. ys ++ rest) m.whole ∙ append_assoc (escape_of format ++ n) m.ys rest ∙ append_assoc (escape_of format) n (m.ys ++ rest) ∙ ap (λ ys. escape_of format ++ (n ++ ys)) fields in
    let k1 = length_size format in
    let k2 = (cie_pointer kind format cie at1).piece.size in
    let k3 = (range_part c f at2).piece.size in
    let long : length bytes ≡ k1 + length r1 = long_length format n r1 (length-num big (word_of format) size) in
    let long1 : length r1 ≡ k2 + length r2 = long_first s2.xs r2 k2 (field_wide kind format cie at1 big s2.xs s2.first) in
    let long2 : length r2 ≡ k3 + length r4 = long_two r.xs r.ys s3.xs r4 k3 r.whole (range_wide c f at2 big s3.xs s3.first) in
    let here1 : place_of at bytes r1 ≡ at1 = passed at (length bytes) k1 (length r1) long in
    let here2 : place_of at bytes r2 ≡ at2 = passed_two at (length bytes) k1 k2 (length r1) (length r2) long long1 in
    let here3 : place_of at bytes r4 ≡ at3 = passed_three at (length bytes) k1 k2 k3 (length r1) (length r2) (length r4) long long1 long2 in
    let within : length r4 ≤ length bytes = within_three (length bytes) k1 k2 k3 (length r1) (length r2) (length r4) long long1 long2 in
    let small : r.known.number < 2 ^ 64 = subst IsShort r.known.is ranged.address in
    let d = lsda_by c.lsda_encoding f.lsda (is_augmented c) w at at3 big s4.xs r5 bytes has agree ranged.lsda s4.first within here3 in
    let seen : FdeRead = record { cie = cie; address = r.known.number; length = f.length; lsda = d.number } in
    let f5 : ℕ → ℕ → ℕ → Option (Option ℕ) → Option FdeRead = λ q a k o. o >>= λ y. Some (record { cie = q; address = a; length = k; lsda = y }) in
    let f4 : ℕ → ℕ → Option (ℕ × List ℕ) → Option FdeRead = λ q a o. o >>= λ k. f5 q a k.0 (lsda_at big w c.lsda_encoding at bytes k.1) in
    let f3 : ℕ → Option (ℕ × List ℕ) → Option FdeRead = λ q o. o >>= λ a. f4 q a.0 (data_at big w (format_of encoding) a.1) in
    let f2 : Option (ℕ × List ℕ) → Option FdeRead = λ o. o >>= λ q. f3 q.0 (pointer_at big w encoding (place_of at bytes q.1) q.1) in
    let f1 : Option ((Format × ℕ) × List ℕ) → Option FdeRead = λ o. o >>= λ x. f2 (cie_field_at kind big x.0.0 (place_of at bytes x.1) x.1) in
    let read : fde_at kind big c at bytes ≡ Some seen =
    ap f1 (initial_length-again big format size r1 m.fit)
    ∙ ap (λ p. f2 (cie_field_at kind big format p r1)) here1 ∙ ap f2 (field_again kind format cie at1 big s2.xs r2 (later cie at k1 before) s2.first)
    ∙ ap (λ p. f3 cie (pointer_at big w encoding p r2)) here2 ∙ ap (f3 cie) (pointer-again big w encoding at2 r.known.number r.xs r3 small r.first)
    ∙ ap (f4 cie r.known.number) (data-again big w (format_of encoding) f.length r.ys r4 ranged.length r.second)
    ∙ ap (f5 cie r.known.number f.length) d.read in
    record { seen = seen; read = ap (fde_at kind big c at) whole ∙ read; cie = refl; address = r.known.is; length = refl; lsda = d.is }

agree_by : (b : Bool) (kind : FrameKind) (cie at : ℕ) (c : CommonInformationEntry) (f : FrameDescriptionEntry) (big : Bool) (zs rest : List ℕ) → cie ≤ at → IsRanged f → disagree c.lsda_encoding f.lsda ≡ b →
    (IsTrue (is_some c.lsda_encoding) → is_augmented c ≡ true) → IsText big (in_turn (refused_if b mismatch) (entry c.encoding (fde_contents kind cie c f)) at) zs → ShowsFde kind big c f cie at (zs ++ rest)
agree_by true kind cie at c f big zs rest before ranged is has e =
    let s = turned (refused_if true mismatch) (entry c.encoding (fde_contents kind cie c f)) at big zs e in cc
agree_by false kind cie at c f big zs rest before ranged is has e =
    let s = turned (refused_if false mismatch) (entry c.encoding (fde_contents kind cie c f)) at big zs e in
    let nothing : [] ≡ s.xs = cc in
    let same : zs ≡ s.ys = s.whole ∙ ap (λ ys. ys ++ s.ys) (sym nothing) in
    let there : IsText big (entry c.encoding (fde_contents kind cie c f) at) s.ys = subst (λ n. IsText big (entry c.encoding (fde_contents kind cie c f) n) s.ys) (nothing_more at) s.second in
    subst (λ ys. ShowsFde kind big c f cie at (ys ++ rest)) (sym same) (entry_again kind cie at c f big s.ys rest before ranged is has there)

augmented : (c : CommonInformationEntry) → IsTrue (is_some c.lsda_encoding) → is_augmented c ≡ true
augmented c h = cc

-- an FDE that is written is read again
pub fde_again : (kind : FrameKind) (cie at : ℕ) (c : CommonInformationEntry) (f : FrameDescriptionEntry) (big : Bool) (zs rest : List ℕ) → cie ≤ at → IsRanged f →
    IsText big (fde_part kind cie c f at) zs → ShowsFde kind big c f cie at (zs ++ rest)
fde_again kind cie at c f big zs rest before ranged e = agree_by (disagree c.lsda_encoding f.lsda) kind cie at c f big zs rest before ranged refl (augmented c) e
