-- What the calls of a writer come to that write a unit, one after another.
use Rattle.std.specs.Prelude.{◌≡◌, ℕ, ◌+◌, ◌-◌, ◌≤◌, Bool, true, false, not, List, ◌++◌, length, Some, IsTrue, IsFalse, refl, nat_eq}
use Rattle.std.proofs.Common.{sym, ◌∙◌, ap, arith, length-append}
use Rattle.std.proofs.lemmas.Bool.{eq-eqb, ne_eqb}
use Rattle.std.proofs.lemmas.Bool.Decides.{nat_tests}
use Rattle.dw_base.specs.Numbers.{when, num, fits, is_width, word_of, escape_of, length_fits}
use Rattle.dw_base.specs.Spelling.{fields_size, header_size}
use Rattle.dw_base.specs.declared.common.Encoding.{Encoding}
use Rattle.dw_base.specs.declared.common.Format.{Format}
use Rattle.dw_base.specs.declared.common.Format.TheVariants.{Dwarf32, Dwarf64}
use Rattle.dw_base.specs.declared.error.Error.{Error}
use Rattle.dw_base.specs.declared.error.Error.TheVariants as errors
use Rattle.dw_base.specs.declared.section_id.SectionId.TheVariants.{DebugAbbrev}
use Rattle.dw_writer.specs.Texts.{Text, zeros, num_text}
use Rattle.dw_writer.specs.Meaning.{Meaning, Layout, Adds, Appends, Replaces}
use Rattle.dw_writer.specs.Causes.{LengthRefused, PatchRefused}
use Rattle.dw_writer.specs.SectionTexts.{number_text, bytes_text, offset_text, after}
use Rattle.dw_writer.specs.Drafts.{Draft, Drafts, whole, then_draft}
use Rattle.dw_writer.specs.declared.fixup.DebugInfoFixup.{DebugInfoFixup}
use Rattle.dw_writer.proofs.Places.{length-zeros}
use Rattle.dw_writer.proofs.Plain.{Adds-number, Replaces-number}
use Rattle.dw_writer.proofs.Steps.{Appends-then, Appends-as, Patches-by}
use Rattle.dw_writer.proofs.WriteLaws.{Drafts-is, Drafts-filled}
use Rattle.dw_tree.specs.Causes.{Refused, Is}
use Rattle.dw_tree.specs.UnitFaults.{fields_fail, header_fails}
use Rattle.dw_tree.specs.UnitText.{fitting_text, length_text, fields_text, header_text, unit_draft, unit_length}
use Rattle.dw_tree.proofs.Drafted.{num_text-fits, width-word}

-- a number that fits its width
Appends-fitting : {a b : Meaning} (w n : ℕ) → IsTrue (is_width w) → IsTrue (fits w n) → Adds a b (num a.is_big w n) → Appends a b w (fitting_text w n)
unfolding number_text fitting_text
Appends-fitting w n wide fit p = Appends-as (Adds-number w n p) refl (λ big l. sym (num_text-fits big w n wide fit))

-- the fields of a header of version 5
pub new_fields : {m0 m1 m2 m3 m4 : Meaning} (e : Encoding) (table : ℕ) → e.version ≡ 5 → IsTrue (fits 2 e.version) → IsTrue (fits 1 e.address_size) →
    Adds m0 m1 (num m0.is_big 2 e.version) → Adds m1 m2 (num m1.is_big 1 1) → Adds m2 m3 (num m2.is_big 1 e.address_size) →
    Appends m3 m4 (word_of e.format) (offset_text (word_of e.format) DebugAbbrev table) →
    Appends m0 m4 (fields_size e) (fields_text e table)
unfolding fields_text after
new_fields e table five small byte version type size place =
    let new : nat_eq e.version 5 ≡ true = eq-eqb _ _ five in
    Appends-as
    (Appends-then (Appends-fitting 2 e.version refl small version) (Appends-then (Appends-fitting 1 1 refl refl type) (Appends-then (Appends-fitting 1 e.address_size refl byte size) place)))
    (rw new (omega arith)) (λ big l. rw new refl)

-- and of one below
pub old_fields : {m0 m1 m2 m3 : Meaning} (e : Encoding) (table : ℕ) → (e.version ≡ 5 → ⊥) → IsTrue (fits 2 e.version) → IsTrue (fits 1 e.address_size) →
    Adds m0 m1 (num m0.is_big 2 e.version) →
    Appends m1 m2 (word_of e.format) (offset_text (word_of e.format) DebugAbbrev table) →
    Adds m2 m3 (num m2.is_big 1 e.address_size) →
    Appends m0 m3 (fields_size e) (fields_text e table)
unfolding fields_text after
old_fields e table other small byte version place size =
    let old : nat_eq e.version 5 ≡ false = ne_eqb _ _ other in
    Appends-as
    (Appends-then (Appends-fitting 2 e.version refl small version) (Appends-then place (Appends-fitting 1 e.address_size refl byte size)))
    (rw old (omega arith)) (λ big l. rw old refl)

-- a length that a format can spell has room in its word
length-fits : (format : Format) (n : ℕ) → IsTrue (length_fits format n) → IsTrue (fits (word_of format) n)
length-fits Dwarf32 n h = grind (arith, nat_tests)
length-fits Dwarf64 n h = h

-- and is there
pub length_text-fits : (format : Format) (n : ℕ) (big : Bool) (l : Layout) → IsTrue (length_fits format n) → length_text format n big l ≡ Some (num big (word_of format) n)
unfolding length_text
length_text-fits format n big l h =
    ap (λ b. let t : Text = when b (num_text big (word_of format) n) in t) h ∙ num_text-fits big (word_of format) n (width-word format) (length-fits format n h)

-- a unit whose length was put in last
pub unit_drafted : {m0 m1 m2 m3 m4 : Meaning} {x y : List DebugInfoFixup} {body : Draft} (e : Encoding) (table : ℕ) →
    Adds m0 m1 (escape_of e.format ++ zeros (word_of e.format)) →
    Appends m1 m2 (fields_size e) (fields_text e table) →
    Drafts m2 m3 x y body →
    IsTrue (length_fits e.format (unit_length e body.size)) →
    Replaces m3 m4 (m0.size + length (escape_of e.format)) (num m3.is_big (word_of e.format) (unit_length e body.size)) →
    Drafts m0 m4 x y (unit_draft e table body)
unfolding header_text after bytes_text number_text
unit_drafted {m0} {m1} {m2} {m3} {m4} {x} {y} {body} e table start fields entries fit len =
    let w : ℕ = word_of e.format in
    let n : ℕ = unit_length e body.size in
    let width : length (zeros w) ≡ w = length-zeros w in
    let patch = Replaces-number w n len in
    let patch1 = Patches-by patch refl (sym width) (λ l. sym (length_text-fits e.format n m3.is_big l fit)) (λ big l xs h. patch.wide big l xs (sym (length_text-fits e.format n big l fit) ∙ h) ∙ sym width) in
    let size : length (escape_of e.format) + (length (zeros w) + fields_size e) ≡ header_size e = omega arith in
    Drafts-is (Drafts-filled (escape_of e.format) (zeros w) start fields entries patch1) (ap (λ k. then_draft (whole k (header_text e table body.size)) body) size)

-- the length that is put in
pub unit_length_is : {m1 m2 m3 : Meaning} {x y : List DebugInfoFixup} {body : Draft} (e : Encoding) (table n k : ℕ) →
    Appends m1 m2 (fields_size e) (fields_text e table) → Drafts m2 m3 x y body → n ≡ m3.size → k ≡ m1.size → n - k ≡ unit_length e body.size
unit_length_is e table n k fields body at from = omega (arith, fields.size, body.text.size)

-- the place of the length lies inside
pub place_within : {m0 m1 : Meaning} (e : Encoding) (p : ℕ) → Adds m0 m1 (escape_of e.format ++ zeros (word_of e.format)) →
    p ≡ m0.size + length (escape_of e.format) → p + word_of e.format ≡ m1.size
place_within {m0} {m1} e p start at =
    omega (arith, start.size, length-append (escape_of e.format) (zeros (word_of e.format)), length-zeros (word_of e.format))

-- Faults of a header

pub length_refused : (old new : Meaning) (e : Encoding) (table : ℕ) (plain : Bool) (length at : ℕ) → at + word_of e.format ≤ old.size → (err : Error) → LengthRefused e.format length (PatchRefused old new at (word_of e.format)) err → Refused old new (Is (header_fails e table plain length)) err
length_refused old new e table plain length at inside errors.NoMemory h = tt
length_refused old new e table plain length at inside errors.WriteFault h = h.1
length_refused old new e table plain length at inside errors.InitialLengthOverflow h = ap not h
length_refused old new e table plain length at inside errors.OffsetOutOfBounds h = absurd (omega (arith, inside, h.1))
length_refused old new e table plain length at inside errors.LengthOutOfBounds h = absurd (omega (arith, inside, h.1.1))
length_refused old new e table plain length at inside err h = absurd h.1

-- what stands in the way of the fields stands in the way of the header
pub in_fields : (e : Encoding) (table : ℕ) (plain : Bool) (length : ℕ) (err : Error) → IsTrue (fields_fail e table plain err) → IsTrue (header_fails e table plain length err)
in_fields e table plain length errors.InitialLengthOverflow h = absurd (let x : false ≡ true = h in cc)
in_fields e table plain length err h = h

-- a header without a fault
pub header_sound : (e : Encoding) (table : ℕ) (plain : Bool) (length : ℕ) → ((err : Error) → IsFalse (fields_fail e table plain err)) → IsTrue (length_fits e.format length) → (err : Error) → IsFalse (header_fails e table plain length err)
header_sound e table plain length place fits errors.InitialLengthOverflow = ap not fits
header_sound e table plain length place fits err = place err
