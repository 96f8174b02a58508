-- The texts of sets, and what writes of them come to.
use Rattle.std.specs.Prelude.{◌≡◌, ℕ, ◌+◌, ◌*◌, Bool, true, false, not, ◌&&◌, ◌||◌, List, [], ◌∷◌, ◌++◌, length, Some, None, Result, Ok, Err, OnOk, IfErr, refl, IsTrue, IsFalse, if◌then◌else◌}
use Rattle.std.proofs.Common.{sym, ◌∙◌, ap, subst, arith, append_assoc, length-append}
use Rattle.dw_base.specs.Numbers.{num, fits, is_width, word_of, escape_of, length_fits}
use Rattle.dw_base.specs.declared.common.Format.{Format}
use Rattle.dw_base.specs.declared.common.Format.TheVariants.{Dwarf32, Dwarf64}
use Rattle.dw_base.specs.declared.error.Error.{Error}
use Rattle.dw_base.specs.declared.error.Error.TheVariants as errors
use Rattle.dw_base.specs.declared.section_id.SectionId.TheVariants.{DebugInfo}
use Rattle.dw_base.proofs.NumberLaws.{length-num}
use Rattle.dw_writer.specs.Texts.{Text, followed, num_text}
use Rattle.dw_writer.specs.SectionTexts.{offset_text}
use Rattle.dw_writer.specs.Meaning.{Meaning, Layout, IsSameWriter, Adds, Appends, start_of}
use Rattle.dw_writer.specs.Causes.{BytesRefused, offset_fits, LengthRefused, NumberRefused}
use Rattle.dw_writer.proofs.FaultLaws.{HasRisen-from}
use Rattle.dw_writer.proofs.Steps.{IsSameWriter-trans, Adds-appends, Appends-then, Appends-by, Appends-as}
use Rattle.dw_writer.proofs.Parts.{Adds-none}
use Rattle.dw_arange_table.specs.Sets.{RangeSet}
use Rattle.dw_arange_table.specs.Bytes.{padding, rest_bytes, content_bytes, set_bytes, aranges_bytes}
use Rattle.dw_arange_table.specs.Causes.{set_fails, sets_fail, IsNone, Refused}
use Rattle.dw_arange_table.specs.Texts.{linked, set_text, sets_text, set_size, sets_size, Writes}
use Rattle.dw_arange_table.proofs.WriteSteps.{number_after, length-rest, length-content}

-- what stands before the unit's place
abbrev front : Bool → RangeSet → List ℕ
front big s = (escape_of s.format ++ num big (word_of s.format) (length (content_bytes false s))) ++ num big 2 2

word_is_width : (f : Format) → is_width (word_of f) ≡ true
word_is_width Dwarf32 = refl
word_is_width Dwarf64 = refl

followed_if : (b : Bool) (xs ys zs : List ℕ) → followed (Some xs) (followed (if b then Some ys else None) (Some zs)) ≡ (if b then Some (xs ++ (ys ++ zs)) else None)
unfolding followed
followed_if true xs ys zs = refl
followed_if false xs ys zs = refl

regrouped : (a b c d : List ℕ) → ((a ++ b) ++ c) ++ d ≡ a ++ (b ++ (c ++ d))
regrouped a b c d = simp append_assoc

bytes_of_set : (big : Bool) (s : RangeSet) (n : ℕ) → front big s ++ (num big (word_of s.format) n ++ rest_bytes big s) ≡ set_bytes big (record s { unit = n })
unfolding set_bytes content_bytes rest_bytes
bytes_of_set big s n =
    let size : length (content_bytes false s) ≡ length (content_bytes big (record s { unit = n })) = length-content false s ∙ sym (length-content big (record s { unit = n })) in
    regrouped (escape_of s.format) (num big (word_of s.format) (length (content_bytes false s))) (num big 2 2) (num big (word_of s.format) n ++ rest_bytes big s)
    ∙ ap (λ k. escape_of s.format ++ (num big (word_of s.format) k ++ (num big 2 2 ++ (num big (word_of s.format) n ++ rest_bytes big s)))) size

text_of_set : (big : Bool) (l : Layout) (s : RangeSet) → followed (Some (front big s)) (followed (offset_text (word_of s.format) DebugInfo s.unit big l) (Some (rest_bytes big s))) ≡ set_text s big l
unfolding set_text offset_text num_text
text_of_set big l s =
    let n = s.unit + start_of l DebugInfo in
    let w = word_of s.format in
    ap (λ b. followed (Some (front big s)) (followed (if b && fits w n then Some (num big w n) else None) (Some (rest_bytes big s)))) (word_is_width s.format)
    ∙ followed_if (fits w n) (front big s) (num big w n) (rest_bytes big s)
    ∙ ap (λ (xs : List ℕ). if fits w n then Some xs else None) (bytes_of_set big s n)

pub length-set : (big : Bool) (s : RangeSet) → length (set_bytes big s) ≡ length (escape_of s.format) + (word_of s.format + (4 + word_of s.format + padding s.format s.address_size + 2 * s.address_size * (length s.ranges + 1)))
unfolding set_bytes
length-set big s =
    omega (arith, length-append (escape_of s.format) (num big (word_of s.format) (length (content_bytes big s)) ++ content_bytes big s), length-append (num big (word_of s.format) (length (content_bytes big s))) (content_bytes big s), length-num big (word_of s.format) (length (content_bytes big s)), length-content big s)

some_if : (b : Bool) (ys xs : List ℕ) → ◌≡◌ {A = Text} (if b then Some ys else None) (Some xs) → ys ≡ xs
some_if true ys xs e = cc
some_if false ys xs e = cc

text_wide : (big : Bool) (l : Layout) (s : RangeSet) (xs : List ℕ) → set_text s big l ≡ Some xs → length xs ≡ set_size s
unfolding set_text
text_wide big l s xs e =
    sym (ap length (some_if (fits (word_of s.format) (linked l s).unit) (set_bytes big (linked l s)) xs e)) ∙ length-set big (linked l s) ∙ sym (length-set false s)

front_size : (big : Bool) (s : RangeSet) → length (front big s) + (word_of s.format + length (rest_bytes big s)) ≡ set_size s
front_size big s =
    let e = escape_of s.format in
    let n = num big (word_of s.format) (length (content_bytes false s)) in
    omega (arith, length-append (e ++ n) (num big 2 2), length-append e n, length-num big (word_of s.format) (length (content_bytes false s)), length-num big 2 2, length-rest big s, length-set false s)

-- a set, from its parts
pub set_written : {a b c d e : Meaning} (s : RangeSet) (n : ℕ) → n ≡ length (content_bytes false s) → Adds a b (escape_of s.format ++ num a.is_big (word_of s.format) n) → Adds b c (num b.is_big 2 2) →
    Appends c d (word_of s.format) (offset_text (word_of s.format) DebugInfo s.unit) → Adds d e (rest_bytes d.is_big s) → Appends a e (set_size s) (set_text s)
set_written {a} {b} {c} {d} {e} s n size p q r t =
    let p' = subst (λ k. Adds a b (escape_of s.format ++ num a.is_big (word_of s.format) k)) size p in
    let first : Adds a c (front a.is_big s) = number_after _ 2 2 p' q in
    let order : d.is_big ≡ a.is_big = r.same.order ∙ first.same.order in
    let last : Adds d e (rest_bytes a.is_big s) = subst (λ big. Adds d e (rest_bytes big s)) order t in
    Appends-by (Appends-then (Adds-appends first) (Appends-then r (Adds-appends last))) (front_size a.is_big s) (λ l. text_of_set a.is_big l s) (λ big l. text_wide big l s)

none_of : (plain : Bool) (s : RangeSet) → IsTrue (length_fits s.format (length (content_bytes false s))) → IsTrue (offset_fits plain (word_of s.format) s.unit) → IsNone (set_fails plain s)
none_of plain s h k errors.InitialLengthOverflow = ap not h
none_of plain s h k errors.ValueTooLarge = ap not k
none_of plain s h k e = refl

pub bytes_refused : (a b c : Meaning) (f : Error → Bool) (e : Error) → IsSameWriter a b → BytesRefused b c e → Refused a c f e
bytes_refused a b c f errors.NoMemory same h = tt
bytes_refused a b c f errors.WriteFault same h = HasRisen-from a b c same.faults h
bytes_refused a b c f e same h = absurd h

-- a set is refused for its length
pub length_refused : (a b : Meaning) (plain : Bool) (s : RangeSet) (n : ℕ) (e : Error) → n ≡ length (content_bytes false s) → LengthRefused s.format n (BytesRefused a b) e → Refused a b (set_fails plain s) e
length_refused a b plain s n errors.InitialLengthOverflow size h = ap not (subst (λ k. IsFalse (length_fits s.format k)) size h)
length_refused a b plain s n errors.NoMemory size h = tt
length_refused a b plain s n errors.WriteFault size h = h.1
length_refused a b plain s n e size h = absurd h.1

-- and for its unit's place
pub place_refused : (a c d : Meaning) (s : RangeSet) (e : Error) → IsSameWriter a c → NumberRefused (word_of s.format) (offset_fits c.is_plain (word_of s.format) s.unit) (BytesRefused c d) e → Refused a d (set_fails a.is_plain s) e
place_refused a c d s (errors.UnsupportedWordSize n) same h = absurd (let x : true ≡ false = sym (word_is_width s.format) ∙ h.1 in cc)
place_refused a c d s errors.ValueTooLarge same h = ap not (subst (λ k. IsFalse (offset_fits k (word_of s.format) s.unit)) same.kind h.1)
place_refused a c d s errors.NoMemory same h = tt
place_refused a c d s errors.WriteFault same h = HasRisen-from a c d same.faults h.2
place_refused a c d s e same h = absurd h.2

-- the last call of a set's writes
pub set_writes : (r : Result (Unit {0}) Error) (a b c d e : Meaning) (s : RangeSet) (n : ℕ) → n ≡ length (content_bytes false s) → Adds a b (escape_of s.format ++ num a.is_big (word_of s.format) n) → IsTrue (length_fits s.format n) → Adds b c (num b.is_big 2 2) →
    Appends c d (word_of s.format) (offset_text (word_of s.format) DebugInfo s.unit) → IsTrue (offset_fits c.is_plain (word_of s.format) s.unit) → OnOk r (Adds d e (rest_bytes d.is_big s)) → IfErr r (BytesRefused d e) → Writes r a e (set_size s) (set_text s) (set_fails a.is_plain s)
set_writes (Ok x) a b c d e s n size p fit q r place ok err =
    let kind : c.is_plain ≡ a.is_plain = q.same.kind ∙ p.same.kind in
    (set_written s n size p q r ok, none_of a.is_plain s (subst (λ k. IsTrue (length_fits s.format k)) size fit) (subst (λ plain. IsTrue (offset_fits plain (word_of s.format) s.unit)) kind place))
set_writes (Err x) a b c d e s n size p fit q r place ok err =
    bytes_refused a d e (set_fails a.is_plain s) x (IsSameWriter-trans p.same (IsSameWriter-trans q.same r.same)) err

-- Sets, one behind another

or_here : (a b : Bool) → IsTrue a → IsTrue (a || b)
or_here true b h = refl
or_here false b h = cc

or_there : (a b : Bool) → IsTrue b → IsTrue (a || b)
or_there true b h = refl
or_there false b h = h

or_none : (a b : Bool) → IsFalse a → IsFalse b → IsFalse (a || b)
or_none true b h k = h
or_none false b h k = k

refused_in : (a b c : Meaning) (f g : Error → Bool) → IsSameWriter a b → ((e : Error) → IsTrue (f e) → IsTrue (g e)) → (e : Error) → Refused b c f e → Refused a c g e
refused_in a b c f g same h errors.NoMemory r = tt
refused_in a b c f g same h errors.WriteFault r = HasRisen-from a b c same.faults r
refused_in a b c f g same h e r = h e r

itself : (m : Meaning) → IsSameWriter m m
itself m = record { order = refl; kind = refl; faults = omega arith }

sets_size-cons : (s : RangeSet) (ss : List RangeSet) → set_size s + sets_size ss ≡ sets_size (s ∷ ss)
sets_size-cons s ss = sym (length-append (set_bytes false s) (aranges_bytes false ss))

pub no_sets : (m : Meaning) (plain : Bool) → Writes {T = Unit {0}} (Ok tt) m m (sets_size []) (sets_text []) (sets_fail plain [])
unfolding sets_text
no_sets m plain = (Adds-appends (Adds-none m), λ e. refl)

pub first_refused : (a b : Meaning) (s : RangeSet) (ss : List RangeSet) (e : Error) → Refused a b (set_fails a.is_plain s) e → Refused a b (sets_fail a.is_plain (s ∷ ss)) e
first_refused a b s ss e h = refused_in a a b (set_fails a.is_plain s) (sets_fail a.is_plain (s ∷ ss)) (itself a) (λ x. or_here (set_fails a.is_plain s x) (sets_fail a.is_plain ss x)) e h

pub sets_then : (r : Result (Unit {0}) Error) (a b c : Meaning) (plain : Bool) (s : RangeSet) (ss : List RangeSet) → Appends a b (set_size s) (set_text s) × IsNone (set_fails plain s) → Writes r b c (sets_size ss) (sets_text ss) (sets_fail plain ss) →
    Writes r a c (sets_size (s ∷ ss)) (sets_text (s ∷ ss)) (sets_fail plain (s ∷ ss))
unfolding sets_text
sets_then (Ok x) a b c plain s ss h k = (Appends-as (Appends-then h.0 k.0) (sets_size-cons s ss) (λ big l. refl), λ e. or_none (set_fails plain s e) (sets_fail plain ss e) (h.1 e) (k.1 e))
sets_then (Err x) a b c plain s ss h k =
    refused_in a b c (sets_fail plain ss) (sets_fail plain (s ∷ ss)) h.0.same (λ e. or_there (set_fails plain s e) (sets_fail plain ss e)) x k
