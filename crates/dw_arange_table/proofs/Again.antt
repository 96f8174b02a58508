-- What was written is read again.
use Rattle.std.specs.Prelude.{◌≡◌, ℕ, zero, suc, ◌+◌, ◌*◌, ◌<◌, ◌≤◌, Bool, true, false, not, ◌&&◌, ◌||◌, List, [], ◌∷◌, ◌++◌, length, Some, None, Ok, Err, Result, OnOk, refl, IsTrue, IsFalse, if◌then◌else◌}
use Rattle.std.specs.List.{flat_map, list_all, AllByRecursion}
use Rattle.std.proofs.Common.{sym, ◌∙◌, ap, subst, arith, append_assoc, append-nil, length-append, add-zero}
use Rattle.dw_base.specs.Numbers.{bytes_at, number_at, value_of, num, fits, is_width, word_of, escape_of, length_fits, initial_length_at}
use Rattle.dw_base.specs.declared.common.Format.{Format}
use Rattle.dw_base.specs.declared.error.Error.{Error}
use Rattle.dw_base.specs.declared.error.Error.TheVariants as errors
use Rattle.dw_base.proofs.NumberLaws.{bytes_at_is, number_at_is, number-again, number-fits-again, initial_length-again}
use Rattle.dw_base.proofs.HeaderLaws.{byte-again}
use Rattle.dw_read.specs.Reasons.{◌=>>◌, number_read, bytes_read, initial_length_read}
use Rattle.dw_read.specs.declared.error.ReadError.{ReadError}
use Rattle.dw_read.proofs.Laws.{read_is, number_law, bytes_law, initial_length_law}
use Rattle.dw_writer.specs.Texts.{Text, zeros, followed}
use Rattle.dw_writer.specs.Resolved.{resolved}
use Rattle.dw_writer.specs.Meaning.{Meaning, Layout, Model, AllInside, IsTidy, IsSameWriter, Appends}
use Rattle.dw_writer.specs.New.{IsEmptyPlainWriter}
use Rattle.dw_writer.proofs.Steps.{shown, resolved-same}
use Rattle.dw_arange_table.specs.declared.range.RangeDescriptor.{RangeDescriptor}
use Rattle.dw_arange_table.specs.Sets.{RangeSet, is_range, is_set}
use Rattle.dw_arange_table.specs.Bytes.{padding, range_bytes, rest_bytes, content_bytes, set_bytes, aranges_bytes}
use Rattle.dw_arange_table.specs.Causes.{sets_fail, IsNone}
use Rattle.dw_arange_table.specs.Texts.{linked, set_text, sets_text, sets_size, Writes, HoldsAlone}
use Rattle.dw_arange_table.specs.Reading.{range_at, ranges_after, ranges_up_to, ranges_in, fields_read, set_read, unless_empty, sets_up_to, sets_read}
use Rattle.dw_arange_table.proofs.ReadSteps.{one_range, two_zeros, ranges_end, width_positive, whole_fields, whole_set}
use Rattle.dw_arange_table.proofs.WriteSteps.{length-zeros, length-range, length-content}
use Rattle.dw_arange_table.proofs.TextSteps.{length-set}

and_left : (a b : Bool) → IsTrue (a && b) → IsTrue a
and_left true b h = refl
and_left false b h = h

and_right : (a b : Bool) → IsTrue (a && b) → IsTrue b
and_right true b h = h
and_right false b h = absurd (let e : false ≡ true = h in cc)

not_true : (b : Bool) → IsTrue (not b) → b ≡ false
not_true true h = absurd (let e : false ≡ true = h in cc)
not_true false h = refl

-- a range, whatever follows it
range-again : (big : Bool) (w : ℕ) (r : RangeDescriptor) (rest : List ℕ) → IsTrue (is_range w r) → range_at big w (range_bytes big w r ++ rest) ≡ Some (r, rest)
range-again big w r rest h =
    let fit = and_left _ _ h in
    let first = number-fits-again big w r.address (num big w r.length ++ rest) (and_left _ _ fit) in
    let second = number-fits-again big w r.length rest (and_right _ _ fit) in
    ap (range_at big w) (append_assoc (num big w r.address) (num big w r.length) rest)
    ∙ one_range big w r.address r.length _ _ _ first second (not_true _ (and_right _ _ h))

-- two zeros end the ranges
zeros-twice : (n m : ℕ) → zeros (n + m) ≡ zeros n ++ zeros m
zeros-twice zero m = ap zeros (omega arith)
zeros-twice (suc n) m = let e : suc n + m ≡ suc (n + m) = omega arith in ap zeros e ∙ ap (λ l. 0 ∷ l) (zeros-twice n m)

value_of-zeros : (big : Bool) (n : ℕ) → value_of big (zeros n) ≡ 0
value_of-zeros true zero = refl
value_of-zeros true (suc n) = value_of-zeros true n
value_of-zeros false zero = refl
value_of-zeros false (suc n) = omega (arith, value_of-zeros false n)

zero-again : (big : Bool) (w : ℕ) (rest : List ℕ) → number_at big w (zeros w ++ rest) ≡ Some (0, rest)
zero-again big w rest = number_at_is big w (zeros w) rest (length-zeros w) ∙ ap (λ v. Some (v, rest)) (value_of-zeros big w)

end-again : (big : Bool) (w : ℕ) (rest : List ℕ) → range_at big w (zeros (2 * w) ++ rest) ≡ None
end-again big w rest =
    let twice : 2 * w ≡ w + w = omega arith in
    ap (range_at big w) (ap (λ n. zeros n ++ rest) twice ∙ ap (λ l. l ++ rest) (zeros-twice w w) ∙ append_assoc (zeros w) (zeros w) rest)
    ∙ two_zeros big w 0 0 _ _ _ (zero-again big w (zeros w ++ rest)) (zero-again big w rest) refl

-- ranges up to two zeros
ranges-again : (most : ℕ) (big : Bool) (w : ℕ) (rs : List RangeDescriptor) (rest : List ℕ) → IsTrue (list_all (is_range w) rs) → length rs ≤ most → ranges_up_to most big w (flat_map (range_bytes big w) rs ++ (zeros (2 * w) ++ rest)) ≡ rs
unfolding ranges_up_to
ranges-again most big w [] rest h m = ranges_end most big w (zeros (2 * w) ++ rest) (end-again big w rest)
ranges-again zero big w (r ∷ rs) rest h m = absurd (omega arith)
ranges-again (suc most) big w (r ∷ rs) rest h m =
    let tail = flat_map (range_bytes big w) rs ++ (zeros (2 * w) ++ rest) in
    ap (λ bs. ranges_after (ranges_up_to most big w) (range_at big w bs)) (append_assoc (range_bytes big w r) (flat_map (range_bytes big w) rs) (zeros (2 * w) ++ rest))
    ∙ ap (ranges_after (ranges_up_to most big w)) (range-again big w r tail (and_left _ _ h))
    ∙ ap (λ l. r ∷ l) (ranges-again most big w rs rest (and_right _ _ h) (omega arith))

fewer_ranges : (big : Bool) (w : ℕ) (rs : List RangeDescriptor) → 0 < w → length rs ≤ length (flat_map (range_bytes big w) rs)
fewer_ranges big w [] h = omega arith
fewer_ranges big w (r ∷ rs) h = omega (arith, length-append (range_bytes big w r) (flat_map (range_bytes big w) rs), length-range big w r, fewer_ranges big w rs h)

all_ranges : (big : Bool) (w : ℕ) (rs : List RangeDescriptor) → IsTrue (is_width w) → IsTrue (list_all (is_range w) rs) → ranges_in big w (flat_map (range_bytes big w) rs ++ zeros (2 * w)) ≡ rs
all_ranges big w rs width h =
    let ranges = flat_map (range_bytes big w) rs in
    let enough : length rs ≤ length (ranges ++ zeros (2 * w)) = omega (arith, length-append ranges (zeros (2 * w)), fewer_ranges big w rs (width_positive w width)) in
    ap (λ l. ranges_up_to (length (ranges ++ zeros (2 * w))) big w (ranges ++ l)) (sym (append-nil (zeros (2 * w))))
    ∙ ranges-again (length (ranges ++ zeros (2 * w))) big w rs [] h enough

-- the fields
number_is : (big : Bool) (w n : ℕ) (bs rest : List ℕ) → number_at big w bs ≡ Some (n, rest) → number_read big w bs ≡ Ok (n, rest)
number_is big w n bs rest h = read_is ℕ (number_at big w) (number_read big w) bs (n, rest) (number_law big w) h

bytes_are : (xs rest : List ℕ) (n : ℕ) → length xs ≡ n → bytes_read n (xs ++ rest) ≡ Ok (xs, rest)
bytes_are xs rest n h = read_is (List ℕ) (bytes_at n) (bytes_read n) (xs ++ rest) (xs, rest) (bytes_law n) (bytes_at_is n xs rest h)

fields-again : (big : Bool) (f : Format) (u w : ℕ) (more : List ℕ) → IsTrue (fits (word_of f) u) → IsTrue (is_width w) → fields_read big f (num big 2 2 ++ (num big (word_of f) u ++ (w ∷ 0 ∷ (zeros (padding f w) ++ more)))) ≡ Ok ((u, w), more)
fields-again big f u w more fit width =
    let unused = zeros (padding f w) ++ more in
    let sizes = w ∷ 0 ∷ unused in
    whole_fields big f 2 u w 0 _ _ _ _ _ (zeros (padding f w)) more
    (number_is big 2 2 _ _ (number-again big 2 2 (num big (word_of f) u ++ sizes) (omega arith))) refl
    (number_is big (word_of f) u _ _ (number-fits-again big (word_of f) u sizes fit))
    (number_is big 1 w _ _ (byte-again big w (0 ∷ unused))) width
    (number_is big 1 0 _ _ (byte-again big 0 unused)) refl
    (bytes_are (zeros (padding f w)) more (padding f w) (length-zeros (padding f w)))

-- what a writer has looked at: the length and the unit's place fit
record CanBeWritten (s : RangeSet) : Type 0 where
  length_fits : IsTrue (length_fits s.format (length (content_bytes false s)))
  unit_fits : IsTrue (fits (word_of s.format) s.unit)

content-again : (big : Bool) (s : RangeSet) → IsTrue (is_set s) → IsTrue (fits (word_of s.format) s.unit) → fields_read big s.format (content_bytes big s) ≡ Ok ((s.unit, s.address_size), flat_map (range_bytes big s.address_size) s.ranges ++ zeros (2 * s.address_size))
unfolding content_bytes rest_bytes
content-again big s h fit = fields-again big s.format s.unit s.address_size _ fit (and_left _ _ h)

set-again : (big : Bool) (s : RangeSet) (rest : List ℕ) → IsTrue (is_set s) → CanBeWritten s → set_read big (set_bytes big s ++ rest) ≡ Ok (s, rest)
unfolding set_bytes
set-again big s rest h can =
    let content = content_bytes big s in
    let n = length content in
    let size : length (content_bytes false s) ≡ n = length-content false s ∙ sym (length-content big s) in
    let fit : IsTrue (length_fits s.format n) = subst (λ k. IsTrue (length_fits s.format k)) size can.length_fits in
    let start = read_is (Format × ℕ) (initial_length_at big) (initial_length_read big) _ ((s.format, n), content ++ rest) (initial_length_law big) (initial_length-again big s.format n (content ++ rest) fit) in
    let ranges = all_ranges big s.address_size s.ranges (and_left _ _ h) (and_right _ _ h) in
    ap (set_read big) (append_assoc (escape_of s.format) (num big (word_of s.format) n ++ content) rest ∙ ap (λ l. escape_of s.format ++ l) (append_assoc (num big (word_of s.format) n) content rest))
    ∙ whole_set big s.format n s.unit s.address_size _ _ content rest _ start (bytes_are content rest n refl) (content-again big s h can.unit_fits)
    ∙ ap (λ rs. Ok (record s { ranges = rs }, rest)) ranges

-- Sets

unless_some : (bs : List ℕ) (r : Result (List RangeSet) ReadError) → 0 < length bs → unless_empty bs r ≡ r
unless_some [] r h = absurd (omega arith)
unless_some (b ∷ bs) r h = refl

set_some : (big : Bool) (s : RangeSet) → 0 < length (set_bytes big s)
set_some big s = omega (arith, length-set big s)

abbrev AllCan : List RangeSet → Type 0
AllCan ss = AllByRecursion CanBeWritten ss

sets-again : (most : ℕ) (big : Bool) (ss : List RangeSet) → IsTrue (list_all is_set ss) → AllCan ss → length ss ≤ most → sets_up_to most big (aranges_bytes big ss) ≡ Ok ss
unfolding sets_up_to
sets-again zero big [] h can m = refl
sets-again (suc most) big [] h can m = refl
sets-again zero big (s ∷ ss) h can m = absurd (omega arith)
sets-again (suc most) big (s ∷ ss) h can m =
    let tail = aranges_bytes big ss in
    unless_some (set_bytes big s ++ tail) _ (omega (arith, length-append (set_bytes big s) tail, set_some big s))
    ∙ ap (λ r. r =>> λ x. sets_up_to most big x.1 =>> λ others. Ok (x.0 ∷ others)) (set-again big s tail (and_left _ _ h) can.0)
    ∙ ap (λ r. r =>> λ others. Ok (s ∷ others)) (sets-again most big ss (and_right _ _ h) can.1 (omega arith))

fewer_sets : (big : Bool) (ss : List RangeSet) → length ss ≤ length (aranges_bytes big ss)
fewer_sets big [] = omega arith
fewer_sets big (s ∷ ss) = omega (arith, length-append (set_bytes big s) (aranges_bytes big ss), set_some big s, fewer_sets big ss)

all_sets : (big : Bool) (ss : List RangeSet) → IsTrue (list_all is_set ss) → AllCan ss → sets_read big (aranges_bytes big ss) ≡ Ok ss
all_sets big ss h can = sets-again (length (aranges_bytes big ss)) big ss h can (fewer_sets big ss)

-- where nothing is a cause, all can be written
not_not : (b : Bool) → IsFalse (not b) → IsTrue b
not_not true h = refl
not_not false h = absurd (let e : true ≡ false = h in cc)

or_false_left : (a b : Bool) → IsFalse (a || b) → IsFalse a
or_false_left true b h = h
or_false_left false b h = refl

or_false_right : (a b : Bool) → IsFalse (a || b) → IsFalse b
or_false_right true b h = absurd (let e : true ≡ false = h in cc)
or_false_right false b h = h

all_can : (ss : List RangeSet) → IsNone (sets_fail true ss) → AllCan ss
all_can [] h = tt
all_can (s ∷ ss) h = (
  record {
    length_fits = not_not _ (or_false_left _ _ (h errors.InitialLengthOverflow));
    unit_fits = not_not _ (or_false_left _ _ (h errors.ValueTooLarge));
  },
  all_can ss (λ e. or_false_right _ _ (h e)),
)

-- all sections start at 0, and there are no symbols
abbrev at_zero : Layout
at_zero = record { starts = []; own_start = 0; symbols = [] }

at_place : (s : RangeSet) → linked at_zero s ≡ s
at_place s = ap (λ u. record s { unit = u }) (add-zero s.unit)

shown_set : (big : Bool) (s : RangeSet) → CanBeWritten s → set_text s big at_zero ≡ Some (set_bytes big s)
unfolding set_text
shown_set big s can =
    ap (λ x. if fits (word_of s.format) x.unit then Some (set_bytes big x) else None) (at_place s)
    ∙ ap (λ b. if b then Some (set_bytes big s) else None) can.unit_fits

shown_sets : (big : Bool) (ss : List RangeSet) → AllCan ss → sets_text ss big at_zero ≡ Some (aranges_bytes big ss)
unfolding sets_text followed
shown_sets big [] can = refl
shown_sets big (s ∷ ss) can = ap (λ t. followed t (sets_text ss big at_zero)) (shown_set big s can.0) ∙ ap (followed (Some (set_bytes big s))) (shown_sets big ss can.1)

nothing_tidy : (m : Meaning) (big : Bool) → IsEmptyPlainWriter m big → IsTidy m
unfolding AllInside
nothing_tidy m big e = record {
  sized = λ b is. let none : [] ≡ b = cc in sym (ap length none) ∙ sym e.size;
  inside = subst (λ rs. AllInside m.size rs) (sym e.records) tt;
}

shown_plain : (plain big : Bool) (t : Text) → plain ≡ true → shown plain big at_zero [] t ≡ t
unfolding shown
shown_plain true big t e = refl
shown_plain false big t e = cc

nothing_followed : (t : Text) → followed (Some []) t ≡ t
unfolding followed
nothing_followed None = refl
nothing_followed (Some xs) = refl

-- what a plain writer holds that held nothing is what was added
plain_text : {a b : Meaning} {n : ℕ} {t : Model} (bytes : List ℕ) → Appends a b n t → IsEmptyPlainWriter a a.is_big → b.records ≡ [] → b.bytes ≡ Some bytes → t a.is_big at_zero ≡ Some bytes
plain_text {a} {b} {n} {t} bytes p e none is =
    let itself : IsSameWriter a a = record { order = refl; kind = refl; faults = omega arith } in
    let before : resolved at_zero a ≡ Some [] = resolved-same at_zero a a [] (Some []) itself e.records e.bytes ∙ shown_plain a.is_plain a.is_big (Some []) e.plain in
    let after : resolved at_zero b ≡ Some bytes = resolved-same at_zero a b [] (Some bytes) p.same none is ∙ shown_plain a.is_plain a.is_big (Some bytes) e.plain in
    sym (sym after ∙ p.resolves (nothing_tidy a a.is_big e) at_zero ∙ ap (λ x. followed x (t a.is_big at_zero)) before ∙ nothing_followed (t a.is_big at_zero))

-- a section of its own has the bytes of the sets
bytes_alone : (a b : Meaning) (ss : List RangeSet) → (b.is_plain ≡ true → b.records ≡ []) → Appends a b (sets_size ss) (sets_text ss) → IsNone (sets_fail a.is_plain ss) → IsEmptyPlainWriter a a.is_big → (bytes : List ℕ) → b.bytes ≡ Some bytes →
    (bytes ≡ aranges_bytes a.is_big ss) × AllCan ss
bytes_alone a b ss plain p none empty bytes is =
    let can : AllCan ss = all_can ss (subst (λ k. IsNone (sets_fail k ss)) empty.plain none) in
    let text = plain_text bytes p empty (plain (p.same.kind ∙ empty.plain)) is in
    let same : Some bytes ≡ Some (aranges_bytes a.is_big ss) = sym text ∙ shown_sets a.is_big ss can in
    (cc, can)

pub written_alone : (r : Result (Unit {0}) Error) (a b : Meaning) (ss : List RangeSet) → (b.is_plain ≡ true → b.records ≡ []) → Writes r a b (sets_size ss) (sets_text ss) (sets_fail a.is_plain ss) → OnOk r (HoldsAlone a b (λ bytes. bytes ≡ aranges_bytes a.is_big ss))
written_alone (Ok x) a b ss plain h = λ empty bytes is. (bytes_alone a b ss plain h.0 h.1 empty bytes is).0
written_alone (Err e) a b ss plain h = tt

-- and is read as these
pub written_again : (r : Result (Unit {0}) Error) (a b : Meaning) (ss : List RangeSet) → (b.is_plain ≡ true → b.records ≡ []) → Writes r a b (sets_size ss) (sets_text ss) (sets_fail a.is_plain ss) → OnOk r (IsTrue (list_all is_set ss)) →
    OnOk r (HoldsAlone a b (λ bytes. sets_read a.is_big bytes ≡ Ok ss))
written_again (Ok x) a b ss plain h are = λ empty bytes is.
    let found = bytes_alone a b ss plain h.0 h.1 empty bytes is in
    ap (sets_read a.is_big) found.0 ∙ all_sets a.is_big ss are found.1
written_again (Err e) a b ss plain h are = tt
