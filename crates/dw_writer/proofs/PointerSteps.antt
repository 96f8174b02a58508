-- What pointers of call frame tables come to.
use Rattle.std.specs.Prelude.{◌≡◌, ◌==◌, ℕ, ◌+◌, ◌*◌, ◌/◌, ◌%◌, ◌^◌, Bool, true, false, ◌&&◌, List, [], length, Option, Some, None, refl, ℤ, IsTrue, IsSome, if◌then◌else◌, bit_and, Result, Ok, Err, OnOk, OnErr, IfErr}
use Rattle.std.specs.Option.{unwrap_or, is_some}
use Rattle.std.proofs.Common.{sym, ◌∙◌, ap, subst, arith}
use Rattle.std.proofs.lemmas.Nat.{and_mask, and_block}
use Rattle.dw_base.specs.Pointers.{format_of, application_of, pointer_width, is_signed, signed_of}
use Rattle.dw_base.specs.declared.constants.TheConstants.{DW_EH_PE_uleb128, DW_EH_PE_sleb128}
use Rattle.dw_base.specs.Leb128.{uleb, sleb}
use Rattle.dw_base.specs.Numbers.{◌>>=◌, num, is_width, fits}
use Rattle.dw_base.specs.declared.error.Error.{Error}
use Rattle.dw_base.specs.declared.address.Address.TheVariants.{Constant}
use Rattle.dw_base.specs.declared.constants.DwEhPe.{DwEhPe}
use Rattle.dw_writer.specs.Causes.{EncodingRefused, LaidRefused, DataRefused, CountedRefused, PointerRefused}
use Rattle.dw_writer.specs.Texts.{Text, num_text}
use Rattle.dw_writer.specs.SignedNumbers.{signed_fits, signed_num}
use Rattle.dw_writer.specs.Pointers.{signed_text, layout_by, laid_out, laid_size, data_text, counted, constant_pointer}
use Rattle.dw_writer.specs.Meaning.{Meaning, Adds, AddsSome, AddsWith, AddsSomeWith, Appends, spelled_num, spelled_signed, spelled_text, pointer_bytes, pointer_records, pointer_fits}
use Rattle.dw_writer.specs.SectionTexts.{eh_pointer_text, eh_pointer_size}
use Rattle.dw_writer.specs.declared.pointer.PointerLayout.{PointerLayout}
use Rattle.dw_writer.specs.declared.pointer.PointerLayout.TheVariants.{Uleb128, Sleb128, Unsigned, Signed}
use Rattle.dw_writer.proofs.Laws.{length-num_text, length-signed_text}
use Rattle.dw_writer.proofs.Plain.{num-shown}
use Rattle.dw_writer.proofs.Parts.{Adds-with, AddsSome-with, AddsSome-either}
use Rattle.dw_writer.proofs.Steps.{Adds-appends, Appends-by}

pub format-and : (n : ℕ) → bit_and n 0x0f ≡ format_of n
format-and n = and_mask n 4

pub application-and : (n : ℕ) → bit_and n 0x70 ≡ application_of n
application-and n =
    let cut : n / 16 * 2 ^ 4 + n % 16 ≡ n = grind arith in
    ap (λ k. bit_and k 0x70) (sym cut)
    ∙ and_block 4 (n / 16) 7 (n % 16) 0 (grind arith) (grind arith)
    ∙ ap (λ k. k * 16 + bit_and (n % 16) 0) (and_mask (n / 16) 3)
    ∙ ap (λ k. n / 16 % 8 * 16 + k) (and_mask (n % 16) 0)
    ∙ grind arith

-- A number in the format of a pointer, from the calls that write it

spelled_if : (b : Bool) (xs : List ℕ) → (if b then xs else []) ≡ spelled_text (if b then Some xs else None)
spelled_if true xs = refl
spelled_if false xs = refl

some_both : (a b : Bool) (xs : List ℕ) → IsTrue a → IsTrue b → ◌≡◌ {A = Text} (if a && b then Some xs else None) (Some xs)
some_both true true xs h k = refl
some_both true false xs h k = cc
some_both false b xs h k = cc

signed-shown : (big : Bool) (w : ℕ) (z : ℤ) → IsTrue (is_width w) → IsTrue (signed_fits w z) → signed_text big w z ≡ Some (signed_num big w z)
unfolding signed_text
signed-shown big w z a b = some_both (is_width w) (signed_fits w z) (signed_num big w z) a b

num-spelled_text : (big : Bool) (w n : ℕ) → spelled_num big w n ≡ spelled_text (num_text big w n)
unfolding num_text
num-spelled_text big w n = spelled_if (is_width w && fits w n) (num big w n)

signed-spelled_text : (big : Bool) (w : ℕ) (z : ℤ) → spelled_signed big w z ≡ spelled_text (signed_text big w z)
unfolding signed_text
signed-spelled_text big w z = spelled_if (is_width w && signed_fits w z) (signed_num big w z)

pub data_by : (big : Bool) (size format n : ℕ) (layout : PointerLayout) → layout_by size format ≡ Some layout → data_text big size format n ≡ laid_out big layout n
unfolding data_text
data_by big size format n layout e = ap (λ o. o >>= λ k. laid_out big k n) e

-- what is there under one variant of a result, from a text that is there
pub data_ok : {T : Type 0} (r : Result T Error) (a b : Meaning) (xs : List ℕ) (t : Text) → OnOk r (Adds a b xs) → OnOk r (t ≡ Some xs) → OnOk r (Adds a b (spelled_text t))
data_ok (Ok x) a b xs t p e = subst (λ ys. Adds a b ys) (sym (ap spelled_text e)) p
data_ok (Err x) a b xs t p e = tt

pub data_fits : {T : Type 0} (r : Result T Error) (xs : List ℕ) (t : Text) → OnOk r (t ≡ Some xs) → OnOk r (IsSome t)
data_fits (Ok x) xs t e = subst IsSome (sym e) refl
data_fits (Err x) xs t e = tt

pub data_partly : {T : Type 0} (r : Result T Error) (a b : Meaning) (xs : List ℕ) (t : Text) → OnErr r (AddsSome a b xs) → xs ≡ spelled_text t → OnErr r (AddsSome a b (spelled_text t))
data_partly (Ok x) a b xs t p e = tt
data_partly (Err x) a b xs t p e = subst (λ ys. AddsSome a b ys) e p

pub num_there : {T : Type 0} (r : Result T Error) (big : Bool) (size format w n : ℕ) → OnOk r (IsTrue (is_width w) × IsTrue (fits w n)) → layout_by size format ≡ Some (Unsigned w) → OnOk r (data_text big size format n ≡ Some (num big w n))
num_there (Ok x) big size format w n h e = data_by big size format n (Unsigned w) e ∙ num-shown big w n h.0 h.1
num_there (Err x) big size format w n h e = tt

pub signed_there : {T : Type 0} (r : Result T Error) (big : Bool) (size format w n : ℕ) → OnOk r (IsTrue (is_width w) × IsTrue (signed_fits w (signed_of n))) → layout_by size format ≡ Some (Signed w) →
    OnOk r (data_text big size format n ≡ Some (signed_num big w (signed_of n)))
signed_there (Ok x) big size format w n h e = data_by big size format n (Signed w) e ∙ signed-shown big w (signed_of n) h.0 h.1
signed_there (Err x) big size format w n h e = tt

pub num_spelling : (big : Bool) (size format w n : ℕ) → layout_by size format ≡ Some (Unsigned w) → spelled_num big w n ≡ spelled_text (data_text big size format n)
num_spelling big size format w n e = num-spelled_text big w n ∙ ap spelled_text (sym (data_by big size format n (Unsigned w) e))

pub signed_spelling : (big : Bool) (size format w n : ℕ) → layout_by size format ≡ Some (Signed w) → spelled_signed big w (signed_of n) ≡ spelled_text (data_text big size format n)
signed_spelling big size format w n e = signed-spelled_text big w (signed_of n) ∙ ap spelled_text (sym (data_by big size format n (Signed w) e))

-- A pointer to an address that is known, from the number that is put for it

length-laid_out : (big : Bool) (layout : PointerLayout) (n : ℕ) (xs : List ℕ) → laid_out big layout n ≡ Some xs → length xs ≡ laid_size layout n
length-laid_out big Uleb128 n xs e = let f : uleb n ≡ xs = cc in sym (ap length f)
length-laid_out big Sleb128 n xs e = let f : sleb (signed_of n) ≡ xs = cc in sym (ap length f)
length-laid_out big (Unsigned w) n xs e = length-num_text big w n xs e
length-laid_out big (Signed w) n xs e = length-signed_text big w (signed_of n) xs e

length-pointer : (big : Bool) (size encoding place n : ℕ) (o : Option ℕ) (layout : Option PointerLayout) (xs : List ℕ) →
    ◌≡◌ {A = Text} (o >>= λ k. layout >>= λ f. laid_out big f k) (Some xs) → length xs ≡ unwrap_or (o >>= λ k. layout >>= λ f. Some (laid_size f k)) 0
length-pointer big size encoding place n None layout xs e = cc
length-pointer big size encoding place n (Some k) None xs e = cc
length-pointer big size encoding place n (Some k) (Some f) xs e = length-laid_out big f k xs e

pub length-constant_pointer : (big : Bool) (size encoding place n : ℕ) (xs : List ℕ) → constant_pointer big size encoding place n ≡ Some xs → length xs ≡ eh_pointer_size size encoding place (Constant n)
unfolding constant_pointer eh_pointer_size data_text
length-constant_pointer big size encoding place n xs e = length-pointer big size encoding place n (counted encoding place n) (layout_by size (format_of encoding)) xs e

counted_text : (big : Bool) (size encoding place n k : ℕ) → counted encoding place n ≡ Some k → constant_pointer big size encoding place n ≡ data_text big size (format_of encoding) k
unfolding constant_pointer
counted_text big size encoding place n k e = ap (λ o. o >>= data_text big size (format_of encoding)) e

some_is : (t : Text) → IsSome t → t ≡ Some (spelled_text t)
some_is None h = cc
some_is (Some xs) h = refl

pub pointer_fits-constant : {T : Type 0} (r : Result T Error) (plain big : Bool) (size encoding format place n k : ℕ) → OnOk r (IsSome (data_text big size format k)) → format ≡ format_of encoding → counted encoding place n ≡ Some k →
    OnOk r (IsTrue (pointer_fits plain big size encoding place (Constant n)))
pointer_fits-constant (Ok x) plain big size encoding format place n k h f e =
    let there : IsSome (constant_pointer big size encoding place n) =
    subst IsSome (ap (λ q. data_text big size q k) f ∙ sym (counted_text big size encoding place n k e)) h in
    is_true (constant_pointer big size encoding place n) there
  where
    is_true : (t : Text) → IsSome t → IsTrue (is_some t)
    is_true None h = cc
    is_true (Some xs) h = refl
pointer_fits-constant (Err x) plain big size encoding format place n k h f e = tt

constant_appends : {a b : Meaning} (size encoding n : ℕ) → Adds a b (spelled_text (constant_pointer a.is_big size encoding a.size n)) → IsSome (constant_pointer a.is_big size encoding a.size n) →
    Appends a b (eh_pointer_size size encoding a.size (Constant n)) (eh_pointer_text size encoding a.size (Constant n))
unfolding eh_pointer_text
constant_appends {a} {b} size encoding n p h =
    let there : constant_pointer a.is_big size encoding a.size n ≡ Some (spelled_text (constant_pointer a.is_big size encoding a.size n)) = some_is _ h in
    Appends-by (Adds-appends p) (length-constant_pointer a.is_big size encoding a.size n (spelled_text (constant_pointer a.is_big size encoding a.size n)) there)
    (λ l. sym there) (λ big l xs e. length-constant_pointer big size encoding a.size n xs e)

-- the bytes of the number are those of the pointer
pub pointer_spelled : (plain big : Bool) (size encoding format place n k : ℕ) → format ≡ format_of encoding → counted encoding place n ≡ Some k →
    spelled_text (data_text big size format k) ≡ pointer_bytes plain big size encoding place (Constant n)
unfolding pointer_bytes
pointer_spelled plain big size encoding format place n k f e =
    ap (λ q. spelled_text (data_text big size q k)) f ∙ ap spelled_text (sym (counted_text big size encoding place n k e))

pub pointer_ok-constant : {T : Type 0} (r : Result T Error) (a b : Meaning) (size encoding format n k : ℕ) → OnOk r (Adds a b (spelled_text (data_text a.is_big size format k))) → OnOk r (IsSome (data_text a.is_big size format k)) →
    format ≡ format_of encoding → counted encoding a.size n ≡ Some k → OnOk r (Appends a b (eh_pointer_size size encoding a.size (Constant n)) (eh_pointer_text size encoding a.size (Constant n)))
pointer_ok-constant (Ok x) a b size encoding format n k p h f e =
    let same : data_text a.is_big size format k ≡ constant_pointer a.is_big size encoding a.size n =
    ap (λ q. data_text a.is_big size q k) f ∙ sym (counted_text a.is_big size encoding a.size n k e) in
    constant_appends size encoding n (subst (λ t. Adds a b (spelled_text t)) same p) (subst IsSome same h)
pointer_ok-constant (Err x) a b size encoding format n k p h f e = tt

pub uleb_there : {T : Type 0} (r : Result T Error) (big : Bool) (size format n : ℕ) → layout_by size format ≡ Some Uleb128 → OnOk r (data_text big size format n ≡ Some (uleb n))
uleb_there (Ok x) big size format n e = data_by big size format n Uleb128 e
uleb_there (Err x) big size format n e = tt

pub sleb_there : {T : Type 0} (r : Result T Error) (big : Bool) (size format n : ℕ) → layout_by size format ≡ Some Sleb128 → OnOk r (data_text big size format n ≡ Some (sleb (signed_of n)))
sleb_there (Ok x) big size format n e = data_by big size format n Sleb128 e
sleb_there (Err x) big size format n e = tt

pub uleb_spelling : (big : Bool) (size format n : ℕ) → layout_by size format ≡ Some Uleb128 → uleb n ≡ spelled_text (data_text big size format n)
uleb_spelling big size format n e = ap spelled_text (sym (data_by big size format n Uleb128 e))

pub sleb_spelling : (big : Bool) (size format n : ℕ) → layout_by size format ≡ Some Sleb128 → sleb (signed_of n) ≡ spelled_text (data_text big size format n)
sleb_spelling big size format n e = ap spelled_text (sym (data_by big size format n Sleb128 e))

pub pointer_raw-constant : {T : Type 0} (r : Result T Error) (a b : Meaning) (size format n k : ℕ) (encoding : DwEhPe) → OnOk r (Adds a b (spelled_text (data_text a.is_big size format k))) →
    format ≡ format_of encoding.0 → counted encoding.0 a.size n ≡ Some k →
    OnOk r (AddsWith a b (pointer_bytes a.is_plain a.is_big size encoding.0 a.size (Constant n)) (pointer_records a.is_plain size encoding a.size (Constant n)))
unfolding pointer_records
pointer_raw-constant r a b size format n k encoding p f e = Adds-with r a b _ _ p (pointer_spelled a.is_plain a.is_big size encoding.0 format a.size n k f e)

pub pointer_partly-constant : {T : Type 0} (r : Result T Error) (a b : Meaning) (size format n k : ℕ) (encoding : DwEhPe) →
    OnOk r (Adds a b (spelled_text (data_text a.is_big size format k))) → OnErr r (AddsSome a b (spelled_text (data_text a.is_big size format k))) →
    format ≡ format_of encoding.0 → counted encoding.0 a.size n ≡ Some k →
    AddsSomeWith a b (pointer_bytes a.is_plain a.is_big size encoding.0 a.size (Constant n)) (pointer_records a.is_plain size encoding a.size (Constant n))
unfolding pointer_records
pointer_partly-constant r a b size format n k encoding p q f e = AddsSome-with (AddsSome-either r a b _ _ p q (pointer_spelled a.is_plain a.is_big size encoding.0 format a.size n k f e))

-- Why such a number is refused

pub DataRefused-none : (size format n : ℕ) (more : Error → Type 0) (e : Error) → EncodingRefused format e → layout_by size format ≡ None → DataRefused size format n more e
DataRefused-none size format n more e h none = subst (λ o. LaidRefused o format n more e) (sym none) h

pub DataRefused-by : {T : Type 0} (r : Result T Error) (size format n : ℕ) (more : Error → Type 0) (layout : PointerLayout) → layout_by size format ≡ Some layout → IfErr r (LaidRefused (Some layout) format n more) → IfErr r (DataRefused size format n more)
DataRefused-by r size format n more layout e h = subst (λ o. IfErr r (LaidRefused o format n more)) (sym e) h

pub PointerRefused-none : (plain : Bool) (size encoding place n : ℕ) (more : Error → Type 0) (e : Error) → EncodingRefused encoding e → counted encoding place n ≡ None → PointerRefused plain size encoding place (Constant n) more e
PointerRefused-none plain size encoding place n more e h none = subst (λ o. CountedRefused o size encoding more e) (sym none) h

pub PointerRefused-some : {T : Type 0} (r : Result T Error) (plain : Bool) (size encoding format place n k : ℕ) (more : Error → Type 0) → IfErr r (DataRefused size format k more) → format ≡ format_of encoding → counted encoding place n ≡ Some k →
    IfErr r (PointerRefused plain size encoding place (Constant n) more)
PointerRefused-some r plain size encoding format place n k more h f e =
    subst (λ o. IfErr r (CountedRefused o size encoding more)) (sym e) (subst (λ q. IfErr r (DataRefused size q k more)) f h)

-- The width of a pointer, from its layout

width_of : (a b s : Bool) (o : Option ℕ) (w : ℕ) (layout : PointerLayout) → ((k : ℕ) → (if s then Signed k else Unsigned k) ≡ layout → k ≡ w) → (Uleb128 ≡ layout → ⊥) → (Sleb128 ≡ layout → ⊥) →
    ◌≡◌ {A = Option PointerLayout} (if a then Some Uleb128 else (if b then Some Sleb128 else (o >>= λ k. Some (if s then Signed k else Unsigned k)))) (Some layout) → o ≡ Some w
width_of true b s o w layout f u v e = let h : Uleb128 ≡ layout = cc in absurd (u h)
width_of false true s o w layout f u v e = let h : Sleb128 ≡ layout = cc in absurd (v h)
width_of false false s None w layout f u v e = cc
width_of false false s (Some k) w layout f u v e = let h : (if s then Signed k else Unsigned k) ≡ layout = cc in ap Some (f k h)

unsigned-is : (s : Bool) (k w : ℕ) → (if s then Signed k else Unsigned k) ≡ Unsigned w → k ≡ w
unsigned-is true k w e = cc
unsigned-is false k w e = cc

signed-is : (s : Bool) (k w : ℕ) → (if s then Signed k else Unsigned k) ≡ Signed w → k ≡ w
signed-is true k w e = cc
signed-is false k w e = cc

pub unsigned_width : (size encoding format w : ℕ) → format ≡ format_of encoding → layout_by size format ≡ Some (Unsigned w) → pointer_width size (format_of encoding) ≡ Some w
unsigned_width size encoding format w f e =
    ap (pointer_width size) (sym f)
    ∙ width_of (format == DW_EH_PE_uleb128.0) (format == DW_EH_PE_sleb128.0) (is_signed format) (pointer_width size format) w (Unsigned w) (λ k. unsigned-is (is_signed format) k w) (λ h. cc) (λ h. cc) e

pub signed_width : (size encoding format w : ℕ) → format ≡ format_of encoding → layout_by size format ≡ Some (Signed w) → pointer_width size (format_of encoding) ≡ Some w
signed_width size encoding format w f e =
    ap (pointer_width size) (sym f)
    ∙ width_of (format == DW_EH_PE_uleb128.0) (format == DW_EH_PE_sleb128.0) (is_signed format) (pointer_width size format) w (Signed w) (λ k. signed-is (is_signed format) k w) (λ h. cc) (λ h. cc) e
