-- What parts behind their lengths come to, where a length is put in last.
use Rattle.std.specs.Prelude.{◌≡◌, ℕ, ◌+◌, ◌-◌, ◌≤◌, Bool, true, false, not, List, [], ◌∷◌, ◌++◌, length, take, zero, suc, Result, Ok, Err, OnOk, IfErr, Some, None, refl, IsTrue, IsFalse}
use Rattle.std.proofs.Common.{sym, ◌∙◌, ap, subst, arith, length-append, append_assoc}
use Rattle.dw_base.specs.Numbers.{when, num, is_width, fits, word_of, length_size, escape_of, length_fits}
use Rattle.dw_base.specs.declared.common.Encoding.{Encoding}
use Rattle.dw_base.specs.declared.common.Format.{Format}
use Rattle.dw_base.specs.declared.error.Error.{Error}
use Rattle.dw_base.specs.declared.error.Error.TheVariants as errors
use Rattle.dw_base.proofs.NumberLaws.{length-num}
use Rattle.dw_writer.specs.Texts.{Text, zeros, followed}
use Rattle.dw_writer.specs.Meaning.{Meaning, Model, Adds, Replaces, Patches}
use Rattle.dw_writer.specs.SectionTexts.{number_text}
use Rattle.dw_writer.specs.Causes.{PatchRefused, NumberRefused, LengthRefused}
use Rattle.dw_writer.proofs.Places.{length-zeros}
use Rattle.dw_writer.proofs.Plain.{Replaces-number, num-shown}
use Rattle.dw_writer.proofs.Steps.{IsSameWriter-trans, Adds-filled, Appends-as, Patches-by}
use Rattle.dw_expr.specs.Places.{Refused}
use Rattle.dw_frame_instructions.specs.Pieces.{Piece, number, both, IsWritten}
use Rattle.dw_frame_instructions.specs.Causes.{IsNone, Writes}
use Rattle.dw_frame.specs.Parts.{Part, Placed, in_turn, Puts, number_fails}
use Rattle.dw_frame.specs.Entries.{length_piece, length_fails, with_length, measured, with_count, counted, padded, entry}
use Rattle.dw_frame.specs.Opened.{IsOpened}
use Rattle.dw_frame.specs.declared.entry.OpenEntry.{OpenEntry}
use Rattle.dw_frame_instructions.proofs.Steps.{or_none, refused_first, refused_second, refused_in, nothing-followed}
use Rattle.dw_frame.proofs.CauseSteps.{number_none}
use Rattle.dw_frame.proofs.PartSteps.{Puts-first}

length_by : (b : Bool) (x y : List ℕ) (t : Text) → IsTrue b → followed (Some x) (followed (Some y) t) ≡ followed (when b (Some (x ++ y))) t
unfolding followed
length_by true x y None h = refl
length_by true x y (Some zs) h = ap Some (sym (append_assoc x y zs))
length_by false x y t h = absurd (let e : IsTrue false = h in cc)

opened_size : {a c : Meaning} (format : Format) → Adds a c (escape_of format ++ zeros (word_of format)) → c.size ≡ a.size + length_size format
opened_size format p = omega (arith, p.size, length-append (escape_of format) (zeros (word_of format)), length-zeros (word_of format))

length_then : {a c n z : Meaning} (format : Format) (p : Piece) (at len : ℕ) → Adds a c (escape_of format ++ zeros (word_of format)) → at ≡ a.size + length (escape_of format) → IsWritten c n p →
    IsTrue (length_fits format len) → Replaces n z at (num n.is_big (word_of format) len) → IsWritten a z (both (length_piece format len) p)
unfolding both number_text
length_then {a} {c} {n} {z} format p at len q place body fit r =
    let w = word_of format in
    let h : Model = λ big l. Some (num big w len) in
    let patch : Patches n z (a.size + length (escape_of format)) (length (zeros w)) h =
    Patches-by (Replaces-number w len r) place (sym (length-zeros w)) (λ l. refl)
    (λ big l xs e. let f : num big w len ≡ xs = cc in sym (ap length f) ∙ length-num big w len ∙ sym (length-zeros w)) in
    Appends-as (Adds-filled (escape_of format) (zeros w) q body patch) (omega (arith, length-zeros w))
    (λ big l. length_by (length_fits format len) (escape_of format) (num big w len) (p.text big l) fit)

length_refused : (old new : Meaning) (format : Format) (n p k : ℕ) → p + k ≤ old.size → (e : Error) → LengthRefused format n (PatchRefused old new p k) e → Refused old new (length_fails format n) e
length_refused old new format n p k within errors.NoMemory h = tt
length_refused old new format n p k within errors.WriteFault h = h.1
length_refused old new format n p k within errors.InitialLengthOverflow h = ap not h
length_refused old new format n p k within errors.OffsetOutOfBounds h = absurd (omega (arith, h.1, within))
length_refused old new format n p k within errors.LengthOutOfBounds h = absurd (omega (arith, h.1, within))
length_refused old new format n p k within e h = absurd h.1

length_none : (format : Format) (n : ℕ) → IsTrue (length_fits format n) → IsNone (length_fails format n)
length_none format n h errors.InitialLengthOverflow = ap not h
length_none format n h e = refl

-- a body is refused behind the room for its length
pub measured_refused : (T : Type 0) (a c d : Meaning) (format : Format) (body : Placed) → Adds a c (escape_of format ++ zeros (word_of format)) → (e : Error) → Refused c d ((body c.size).fails c.is_plain) e →
    Puts {T = T} (Err e) a d (measured format body)
unfolding with_length
measured_refused T a c d format body p e h =
    let f : ℕ → Bool → Error → Bool = λ n plain. (body n).fails plain in
    let here : Refused c d (f (a.size + length_size format) a.is_plain) e = subst (λ n. Refused c d (f n a.is_plain) e) (opened_size format p) (subst (λ plain. Refused c d (f c.size plain) e) p.same.kind h) in
    refused_first a d (f (a.size + length_size format) a.is_plain) (length_fails format (body (a.size + length_size format)).piece.size) e
    (refused_in a c d (f (a.size + length_size format) a.is_plain) (f (a.size + length_size format) a.is_plain) p.same (λ err k. k) e here)

length_puts : {T : Type 0} (r : Result T Error) (a c n z : Meaning) (format : Format) (p : Part) (at len : ℕ) →
    Adds a c (escape_of format ++ zeros (word_of format)) → at ≡ a.size + length (escape_of format) → IsWritten c n p.piece × IsNone (p.fails a.is_plain) → len ≡ p.piece.size →
    OnOk r (IsTrue (length_fits format len)) → OnOk r (Replaces n z at (num n.is_big (word_of format) len)) → IfErr r (LengthRefused format len (PatchRefused n z at (word_of format))) →
    Writes r a z (with_length format p).piece ((with_length format p).fails a.is_plain)
unfolding with_length
length_puts (Ok x) a c n z format p at len q place b long fit ok err = (
  subst (λ k. IsWritten a z (both (length_piece format k) p.piece)) long (length_then format p.piece at len q place b.0 fit ok),
  λ e. or_none (p.fails a.is_plain e) (length_fails format p.piece.size e) (b.1 e) (subst (λ k. IsNone (length_fails format k)) long (length_none format len fit) e),
)
length_puts (Err e) a c n z format p at len q place b long fit ok err =
    let within : at + word_of format ≤ n.size = omega (arith, place, opened_size format q, b.0.size) in
    let why : Refused n z (length_fails format len) e = length_refused n z format len at (word_of format) within e err in
    refused_second a n z (p.fails a.is_plain) (length_fails format p.piece.size) (IsSameWriter-trans q.same b.0.same) e (subst (λ k. Refused n z (length_fails format k) e) long why)

body_moved : (a c n : Meaning) (body : Placed) (at : ℕ) → c.is_plain ≡ a.is_plain → c.size ≡ at → Puts {T = Unit {0}} (Ok tt) c n body → IsWritten c n (body at).piece × IsNone ((body at).fails a.is_plain)
body_moved a c n body at kind here b =
    subst (λ k. IsWritten c n (body k).piece × IsNone ((body k).fails a.is_plain)) here (b.0, subst (λ plain. IsNone ((body c.size).fails plain)) kind b.1)

-- a part behind its length, which is put in last
pub measured_puts : {T : Type 0} (r : Result T Error) (a c n z : Meaning) (format : Format) (body : Placed) (at len : ℕ) →
    Adds a c (escape_of format ++ zeros (word_of format)) → at ≡ a.size + length (escape_of format) → Puts {T = Unit {0}} (Ok tt) c n body → len ≡ n.size - c.size →
    OnOk r (IsTrue (length_fits format len)) → OnOk r (Replaces n z at (num n.is_big (word_of format) len)) → IfErr r (LengthRefused format len (PatchRefused n z at (word_of format))) →
    Puts r a z (measured format body)
measured_puts r a c n z format body at len q place b sized fit ok err =
    let here : c.size ≡ a.size + length_size format = opened_size format q in
    let moved = body_moved a c n body (a.size + length_size format) q.same.kind here b in
    length_puts r a c n z format (body (a.size + length_size format)) at len q place moved (omega (arith, sized, moved.0.size)) fit ok err

-- Blocks behind a length of one byte

count_then : {a c n z : Meaning} (p : Piece) (at len : ℕ) → Adds a c (0 ∷ []) → at ≡ a.size → IsWritten c n p →
    IsTrue (fits 1 len) → Replaces n z at (num n.is_big 1 len) → IsWritten a z (both (number 1 len) p)
unfolding both number_text
count_then {a} {c} {n} {z} p at len q place body fit r =
    let h : Model = λ big l. Some (num big 1 len) in
    let patch : Patches n z (a.size + 0) 1 h =
    Patches-by (Replaces-number 1 len r) (omega (arith, place)) refl (λ l. refl)
    (λ big l xs e. let f : num big 1 len ≡ xs = cc in sym (ap length f) ∙ length-num big 1 len) in
    Appends-as (Adds-filled [] (0 ∷ []) q body patch) (omega arith)
    (λ big l. nothing-followed (followed (Some (num big 1 len)) (p.text big l)) ∙ ap (λ t. followed t (p.text big l)) (sym (num-shown big 1 len refl fit)))

count_refused : (old new : Meaning) (n p : ℕ) → p + 1 ≤ old.size → (e : Error) → NumberRefused 1 (fits 1 n) (PatchRefused old new p 1) e → Refused old new (number_fails 1 n) e
count_refused old new n p within errors.NoMemory h = tt
count_refused old new n p within errors.WriteFault h = h.2
count_refused old new n p within (errors.UnsupportedWordSize k) h = absurd (let e : IsFalse true = h.1 in cc)
count_refused old new n p within errors.ValueTooLarge h = ap not h.1
count_refused old new n p within errors.OffsetOutOfBounds h = absurd (omega (arith, h.2, within))
count_refused old new n p within errors.LengthOutOfBounds h = absurd (omega (arith, h.2, within))
count_refused old new n p within e h = absurd h.2

-- a block is refused behind the room for its length
pub counted_refused : (T : Type 0) (a c d : Meaning) (body : Placed) → Adds a c (0 ∷ []) → (e : Error) → Refused c d ((body c.size).fails c.is_plain) e → Puts {T = T} (Err e) a d (counted body)
unfolding with_count
counted_refused T a c d body p e h =
    let f : ℕ → Bool → Error → Bool = λ n plain. (body n).fails plain in
    let here : Refused c d (f (a.size + 1) a.is_plain) e = subst (λ n. Refused c d (f n a.is_plain) e) p.size (subst (λ plain. Refused c d (f c.size plain) e) p.same.kind h) in
    refused_first a d (f (a.size + 1) a.is_plain) (number_fails 1 (body (a.size + 1)).piece.size) e
    (refused_in a c d (f (a.size + 1) a.is_plain) (f (a.size + 1) a.is_plain) p.same (λ err k. k) e here)

count_puts : {T : Type 0} (r : Result T Error) (a c n z : Meaning) (p : Part) (at len : ℕ) →
    Adds a c (0 ∷ []) → at ≡ a.size → IsWritten c n p.piece × IsNone (p.fails a.is_plain) → len ≡ p.piece.size →
    OnOk r (IsTrue (is_width 1) × IsTrue (fits 1 len)) → OnOk r (Replaces n z at (num n.is_big 1 len)) → IfErr r (NumberRefused 1 (fits 1 len) (PatchRefused n z at 1)) →
    Writes r a z (with_count p).piece ((with_count p).fails a.is_plain)
unfolding with_count
count_puts (Ok x) a c n z p at len q place b long fit ok err = (
  subst (λ k. IsWritten a z (both (number 1 k) p.piece)) long (count_then p.piece at len q place b.0 fit.1 ok),
  λ e. or_none (p.fails a.is_plain e) (number_fails 1 p.piece.size e) (b.1 e) (subst (λ k. IsNone (number_fails 1 k)) long (number_none 1 len fit.0 fit.1) e),
)
count_puts (Err e) a c n z p at len q place b long fit ok err =
    let within : at + 1 ≤ n.size = omega (arith, place, q.size, b.0.size) in
    let why : Refused n z (number_fails 1 len) e = count_refused n z len at within e err in
    refused_second a n z (p.fails a.is_plain) (number_fails 1 p.piece.size) (IsSameWriter-trans q.same b.0.same) e (subst (λ k. Refused n z (number_fails 1 k) e) long why)

-- a block behind its length, which is put in last
pub counted_puts : {T : Type 0} (r : Result T Error) (a c n z : Meaning) (body : Placed) (at len : ℕ) →
    Adds a c (0 ∷ []) → at ≡ a.size → Puts {T = Unit {0}} (Ok tt) c n body → len ≡ n.size - c.size →
    OnOk r (IsTrue (is_width 1) × IsTrue (fits 1 len)) → OnOk r (Replaces n z at (num n.is_big 1 len)) → IfErr r (NumberRefused 1 (fits 1 len) (PatchRefused n z at 1)) →
    Puts r a z (counted body)
counted_puts r a c n z body at len q place b sized fit ok err =
    let moved = body_moved a c n body (a.size + 1) q.same.kind q.size b in
    count_puts r a c n z (body (a.size + 1)) at len q place moved (omega (arith, sized, moved.0.size)) fit ok err

-- Padding and whole entries

pub take-zeros : (n m : ℕ) → n ≤ m → take n (zeros m) ≡ zeros n
take-zeros zero m h = refl
take-zeros (suc n) zero h = absurd (omega (arith, h))
take-zeros (suc n) (suc m) h = ap (λ xs. 0 ∷ xs) (take-zeros n m (omega (arith, h)))

-- an entry is refused behind the room for its length
pub entry_refused : (T : Type 0) (a c d : Meaning) (o : OpenEntry) (e : Encoding) (body : Placed) → IsOpened a c o → o.encoding ≡ e → (err : Error) → Refused c d ((body c.size).fails c.is_plain) err →
    Puts {T = T} (Err err) a d (entry e body)
entry_refused T a c d o e body is same err h =
    let adds : Adds a c (escape_of e.format ++ zeros (word_of e.format)) = subst (λ x. Adds a c (escape_of x.format ++ zeros (word_of x.format))) same is.adds in
    let inner : Placed = λ at. in_turn body (padded e (body at).piece.size) at in
    measured_refused T a c d e.format inner adds err (Puts-first T c d body (padded e (body c.size).piece.size) err h)
