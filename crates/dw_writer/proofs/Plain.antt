-- What plain writers' calls come to.
use Rattle.std.specs.Prelude.{◌≡◌, ◌⊎◌, ℕ, suc, zero, ◌+◌, ◌-◌, ◌<◌, ◌≤◌, Bool, true, false, ◌&&◌, not, List, [], ◌∷◌, length, take, drop, Some, None, slice_index, refl, IsTrue, if◌then◌else◌, Result, Ok, Err, OnOk, IfErr}
use Rattle.std.specs.List.{list_all}
use Rattle.std.specs.Int.{byte_at, bytes_low_first, bytes_high_first}
use Rattle.std.proofs.Common.{sym, ◌∙◌, ap, subst, inl, inr, arith, add-zero}
use Rattle.std.proofs.lemmas.Bool.{and_from}
use Rattle.dw_base.specs.Numbers.{num, is_width, fits}
use Rattle.dw_writer.specs.Texts.{Text, followed, num_text, patched}
use Rattle.dw_writer.specs.Resolved.{resolved, put_records}
use Rattle.dw_writer.specs.Meaning.{Layout, Meaning, IsApart, IsClear, Adds, Replaces, Appends, Patches, is_zero, is_at_zero, start_of, section_number}
use Rattle.dw_writer.specs.Causes.{NumberRefused, BytesRefused, PatchCause}
use Rattle.dw_writer.specs.SectionTexts.{offset_text, address_text, number_text}
use Rattle.dw_base.specs.declared.section_id.SectionId.{SectionId}
use Rattle.dw_base.specs.declared.address.Address.TheVariants.{Constant}
use Rattle.dw_base.specs.declared.error.Error.{Error}
use Rattle.dw_base.specs.declared.error.Error.TheVariants.{NoMemory, WriteFault, OffsetOutOfBounds, LengthOutOfBounds}
use Rattle.dw_base.proofs.NumberLaws.{length-num}
use Rattle.dw_writer.proofs.Laws.{length-bytes_high_first, length-num_text}
use Rattle.dw_writer.proofs.Steps.{Adds-appends, Replaces-patches, Appends-by, Patches-by}
use Rattle.dw_writer.proofs.Outcomes.{OnOk-map, IfErr-map}

-- after a number was found to fit, only the bytes can be refused
pub NumberRefused-bytes : (a b : Meaning) (w : ℕ) (fit : Bool) → IsTrue (is_width w) → IsTrue fit → (e : Error) → BytesRefused a b e → NumberRefused w fit (BytesRefused a b) e
NumberRefused-bytes a b w fit width h NoMemory r = (width, h, r)
NumberRefused-bytes a b w fit width h WriteFault r = (width, h, r)
NumberRefused-bytes a b w fit width h _ r = absurd r

pub NumberRefused-patch : (size : ℕ) (rise : Type 0) (p n w : ℕ) (fit : Bool) → n ≡ w → IsTrue (is_width w) → IsTrue fit → (e : Error) → PatchCause size rise p n e → NumberRefused w fit (PatchCause size rise p w) e
NumberRefused-patch size rise p n w fit same width h NoMemory r = (width, h, r)
NumberRefused-patch size rise p n w fit same width h WriteFault r = (width, h, r)
NumberRefused-patch size rise p n w fit same width h OffsetOutOfBounds r = (width, h, r)
NumberRefused-patch size rise p n w fit same width h LengthOutOfBounds r = (width, h, (r.0, omega (arith, r.1)))
NumberRefused-patch size rise p n w fit same width h _ r = absurd r

both : (a b : Bool) (xs : List ℕ) → IsTrue a → IsTrue b → ◌≡◌ {A = Text} (if a && b then Some xs else None) (Some xs)
both true true xs h k = refl
both true false xs h k = cc
both false b xs h k = cc

pub num-shown : (big : Bool) (w n : ℕ) → IsTrue (is_width w) → IsTrue (fits w n) → num_text big w n ≡ Some (num big w n)
unfolding num_text
num-shown big w n a b = both (is_width w) (fits w n) (num big w n) a b

start-zero_at : (xs : List ℕ) (k : ℕ) → list_all is_zero xs ≡ true → slice_index xs k ≡ 0
start-zero_at [] k e = refl
start-zero_at (zero ∷ xs) zero e = refl
start-zero_at (suc x ∷ xs) zero e = cc
start-zero_at (zero ∷ xs) (suc k) e = start-zero_at xs k e
start-zero_at (suc x ∷ xs) (suc k) e = cc

resolved-elsewhere : (l : Layout) (m : Meaning) → m.is_plain ≡ true → is_at_zero l ≡ false → resolved l m ≡ None
unfolding resolved
resolved-elsewhere l m plain off = ap (λ b. if b && not (is_at_zero l) then None else put_records m.is_big l m.records m.bytes) plain ∙ ap (λ b. if not b then None else put_records m.is_big l m.records m.bytes) off

at_zero : (l : Layout) → (is_at_zero l ≡ true) ⊎ (is_at_zero l ≡ false)
at_zero l = elim (is_at_zero l) as (λ b. (b ≡ true) ⊎ (b ≡ false)) [ true ↦ inl refl | false ↦ inr refl ]

-- In a plain writer an offset is the number: its section starts at 0 wherever the bytes are told.
plain_offset : (l : Layout) (old : Meaning) (big : Bool) (w n : ℕ) (section : SectionId) → old.is_plain ≡ true → IsTrue (is_width w) → IsTrue (fits w n) →
    followed (resolved l old) (Some (num big w n)) ≡ followed (resolved l old) (offset_text w section n big l)
unfolding offset_text followed
plain_offset l old big w n section plain a b =
    elim (at_zero l) [
      | inl z ↦ ap (followed (resolved l old)) (sym (num-shown big w n a b) ∙ ap (num_text big w) (sym (ap (λ k. n + k) (start-zero_at l.starts (section_number section) z) ∙ add-zero n)))
      | inr z ↦ ap (λ t. followed t (Some (num big w n))) (resolved-elsewhere l old plain z) ∙ sym (ap (λ t. followed t (num_text big w (n + start_of l section))) (resolved-elsewhere l old plain z))
    ]

plain_offset_at : (l : Layout) (old : Meaning) (p : ℕ) (big : Bool) (w n : ℕ) (section : SectionId) → old.is_plain ≡ true → IsTrue (is_width w) → IsTrue (fits w n) →
    patched p (Some (num big w n)) (resolved l old) ≡ patched p (offset_text w section n big l) (resolved l old)
unfolding offset_text patched
plain_offset_at l old p big w n section plain a b =
    elim (at_zero l) [
      | inl z ↦ ap (λ t. patched p t (resolved l old)) (sym (num-shown big w n a b) ∙ ap (num_text big w) (sym (ap (λ k. n + k) (start-zero_at l.starts (section_number section) z) ∙ add-zero n)))
      | inr z ↦ ap (patched p (Some (num big w n))) (resolved-elsewhere l old plain z) ∙ sym (ap (patched p (num_text big w (n + start_of l section))) (resolved-elsewhere l old plain z))
    ]

pub Adds-offset : {a b : Meaning} (w n : ℕ) (section : SectionId) → Adds a b (num a.is_big w n) → a.is_plain ≡ true → IsTrue (is_width w) → IsTrue (fits w n) →
    Appends a b w (offset_text w section n)
unfolding offset_text
Adds-offset {a} {b} w n section p plain h k =
    let q : Appends a b (length (num a.is_big w n)) (λ _ _. Some (num a.is_big w n)) = Adds-appends p in
    record {
      same = q.same;
      size = q.size ∙ ap (λ j. a.size + j) (length-num a.is_big w n);
      tidy = q.tidy;
      clear = q.clear;
      wide = λ big l xs e. length-num_text big w (n + start_of l section) xs e;
      resolves = λ tidy l. q.resolves tidy l ∙ plain_offset l a a.is_big w n section plain h k;
    }

pub Replaces-offset : {a b : Meaning} {p : ℕ} (w n : ℕ) (section : SectionId) → Replaces a b p (num a.is_big w n) → a.is_plain ≡ true → IsTrue (is_width w) → IsTrue (fits w n) →
    Patches a b p w (offset_text w section n)
unfolding offset_text
Replaces-offset {a} {b} {p} w n section r plain h k =
    let q : Patches a b p (length (num a.is_big w n)) (λ _ _. Some (num a.is_big w n)) = Replaces-patches r in
    let len : length (num a.is_big w n) ≡ w = length-num a.is_big w n in
    record {
      same = q.same;
      within = subst (λ j. p + j ≤ a.size) len q.within;
      size = q.size;
      tidy = q.tidy;
      clear = subst (λ j. (i m : ℕ) → IsApart i m p j → IsClear a i m → IsClear b i m) len q.clear;
      wide = λ big l xs e. length-num_text big w (n + start_of l section) xs e;
      resolves = λ tidy clear l. q.resolves tidy (subst (λ j. IsClear a p j) (sym len) clear) l ∙ plain_offset_at l a p a.is_big w n section plain h k;
    }

pub Adds-constant : {a b : Meaning} (w n : ℕ) → Adds a b (num a.is_big w n) → IsTrue (is_width w) → IsTrue (fits w n) →
    Appends a b w (address_text w (Constant n))
unfolding address_text
Adds-constant {a} {b} w n p h k = Appends-by (Adds-appends p) (length-num a.is_big w n) (λ l. sym (num-shown a.is_big w n h k)) (λ big l xs e. length-num_text big w n xs e)

-- a number that was added as it is, and one that was patched
pub Adds-number : {a b : Meaning} (w n : ℕ) → Adds a b (num a.is_big w n) → Appends a b w (number_text w n)
unfolding number_text
Adds-number {a} {b} w n p = Appends-by (Adds-appends p) (length-num a.is_big w n) (λ l. refl) (λ big l xs e. let f : num big w n ≡ xs = cc in sym (ap length f) ∙ length-num big w n)

pub Replaces-number : {a b : Meaning} {p : ℕ} (w n : ℕ) → Replaces a b p (num a.is_big w n) → Patches a b p w (number_text w n)
unfolding number_text
Replaces-number {a} {b} {p} w n r = Patches-by (Replaces-patches r) refl (length-num a.is_big w n) (λ l. refl) (λ big l xs e. let f : num big w n ≡ xs = cc in sym (ap length f) ∙ length-num big w n)

-- the first and the last bytes of a number's eight
pub take-low : (w m i n : ℕ) → w ≤ m → take w (bytes_low_first i m n) ≡ bytes_low_first i w n
take-low zero m i n h = refl
take-low (suc w) zero i n h = absurd (omega arith)
take-low (suc w) (suc m) i n h = ap (λ r. byte_at i n ∷ r) (take-low w m (suc i) n (omega arith))

drop-high : (k m w n : ℕ) → m ≡ k + w → drop k (bytes_high_first m n) ≡ bytes_high_first w n
drop-high zero m w n e = ap (λ j. bytes_high_first j n) (omega arith)
drop-high (suc k) zero w n e = absurd (omega arith)
drop-high (suc k) (suc m) w n e = drop-high k m w n (omega arith)

take-all : (n : ℕ) (ys : List ℕ) → length ys ≡ n → take n ys ≡ ys
take-all zero [] e = refl
take-all zero (y ∷ ys) e = absurd (omega arith)
take-all (suc n) [] e = refl
take-all (suc n) (y ∷ ys) e = ap (λ r. y ∷ r) (take-all n ys (omega arith))

pub part-low : (w n : ℕ) → w ≤ 8 → take (w - 0) (drop 0 (bytes_low_first 0 8 n)) ≡ num false w n
unfolding num
part-low w n h = ap (λ k. take k (bytes_low_first 0 8 n)) (omega arith) ∙ take-low w 8 0 n h

pub part-high : (w n : ℕ) → w ≤ 8 → take (8 - (8 - w)) (drop (8 - w) (bytes_high_first 8 n)) ≡ num true w n
unfolding num
part-high w n h =
    ap (take (8 - (8 - w))) (drop-high (8 - w) 8 w n (omega arith))
    ∙ ap (λ k. take k (bytes_high_first w n)) (omega arith)
    ∙ take-all w (bytes_high_first w n) (length-bytes_high_first w n)

-- The calls of a plain writer for an offset and a constant, from what its `write` and `write_at` ensure.
pub Adds-offset_ok : {T : Type 0} (r : Result T Error) (a b : Meaning) (w n : ℕ) (section : SectionId) → OnOk r (Adds a b (num a.is_big w n)) → OnOk r (IsTrue (is_width w) × IsTrue (fits w n)) →
    a.is_plain ≡ true → OnOk r (Appends a b w (offset_text w section n))
Adds-offset_ok (Ok x) a b w n section h fit plain = Adds-offset w n section h plain fit.0 fit.1
Adds-offset_ok (Err x) a b w n section h fit plain = tt

pub Replaces-offset_ok : {T : Type 0} (r : Result T Error) (a b : Meaning) (p : ℕ) (xs : List ℕ) (w n : ℕ) (section : SectionId) → OnOk r (Replaces a b p xs) → xs ≡ num a.is_big w n →
    a.is_plain ≡ true → IsTrue (is_width w) → IsTrue (fits w n) → OnOk r (Patches a b p w (offset_text w section n))
Replaces-offset_ok (Ok x) a b p xs w n section h e plain i j = Replaces-offset w n section (subst (λ ys. Replaces a b p ys) e h) plain i j
Replaces-offset_ok (Err x) a b p xs w n section h e plain i j = tt

pub constant-fits : {T : Type 0} (r : Result T Error) (w n : ℕ) → OnOk r (IsTrue (is_width w) × IsTrue (fits w n)) → OnOk r (IsTrue (is_width w && fits w n))
constant-fits r w n h = OnOk-map r h (λ fit. and_from (is_width w) (fits w n) fit.0 fit.1)

pub Adds-constant_ok : {T : Type 0} (r : Result T Error) (a b : Meaning) (w n : ℕ) → OnOk r (Adds a b (num a.is_big w n)) → OnOk r (IsTrue (is_width w) × IsTrue (fits w n)) → OnOk r (Appends a b w (address_text w (Constant n)))
Adds-constant_ok (Ok x) a b w n h fit = Adds-constant w n h fit.0 fit.1
Adds-constant_ok (Err x) a b w n h fit = tt

pub Patch_refused : {T : Type 0} (r : Result T Error) (size : ℕ) (rise : Type 0) (p : ℕ) (xs : List ℕ) (big : Bool) (w n : ℕ) (fit : Bool) → IfErr r (PatchCause size rise p (length xs)) → xs ≡ num big w n →
    IsTrue (is_width w) → IsTrue fit → IfErr r (NumberRefused w fit (PatchCause size rise p w))
Patch_refused r size rise p xs big w n fit h e i j = IfErr-map r h (NumberRefused-patch size rise p (length xs) w fit (ap length e ∙ length-num big w n) i j)

-- a number of one byte, in either order
pub num-byte : (big : Bool) (n : ℕ) → n < 256 → num big 1 n ≡ n ∷ []
unfolding num
num-byte true n h = grind arith
num-byte false n h = grind arith
