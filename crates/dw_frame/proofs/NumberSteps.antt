-- What writes of numbers, addresses and pointers come to.
use Rattle.std.specs.Prelude.{◌≡◌, ℕ, Bool, List, length, Result, Ok, Err, OnOk, IfErr, Option, Some, None, refl, IsTrue, IsSome}
use Rattle.std.specs.Option.{unwrap_or, is_some}
use Rattle.std.proofs.Common.{sym, ap}
use Rattle.dw_base.specs.Numbers.{◌>>=◌, num, is_width, fits}
use Rattle.dw_base.specs.Leb128.{uleb, sleb}
use Rattle.dw_base.specs.Pointers.{signed_of}
use Rattle.dw_base.specs.declared.address.Address.{Address}
use Rattle.dw_base.specs.declared.error.Error.{Error}
use Rattle.dw_base.specs.declared.section_id.SectionId.TheVariants.{DebugFrame}
use Rattle.dw_base.proofs.NumberLaws.{length-num}
use Rattle.dw_writer.specs.Texts.{Text}
use Rattle.dw_writer.specs.Meaning.{Meaning, Adds, Appends, pointer_fits, spelled_text}
use Rattle.dw_writer.specs.Causes.{BytesRefused, NumberRefused, AddressRefused, DataRefused, PointerRefused, address_fits, offset_fits}
use Rattle.dw_writer.specs.Pointers.{layout_by, laid_out, laid_size, data_text}
use Rattle.dw_writer.specs.SectionTexts.{offset_text, address_text, eh_pointer_text, eh_pointer_size}
use Rattle.dw_writer.specs.declared.pointer.PointerLayout.{PointerLayout}
use Rattle.dw_writer.specs.declared.pointer.PointerLayout.TheVariants.{Uleb128, Sleb128, Unsigned, Signed}
use Rattle.dw_writer.proofs.Laws.{length-num_text, length-signed_text}
use Rattle.dw_writer.proofs.Plain.{num-shown}
use Rattle.dw_writer.proofs.Steps.{Adds-appends, Appends-by}
use Rattle.dw_frame_instructions.specs.Pieces.{IsWritten, number}
use Rattle.dw_frame.specs.Parts.{Puts, numbered}
use Rattle.dw_frame.specs.PointerParts.{pointer, address, pointer_data, frame_offset}
use Rattle.dw_frame.proofs.PartSteps.{called}
use Rattle.dw_frame.proofs.CauseSteps.{number_none, number_refused, offset_none, offset_refused, address_none, address_refused, data_none, data_refused, pointer_none, pointer_refused}

number_written : {a b : Meaning} (w n : ℕ) → IsTrue (is_width w) → IsTrue (fits w n) → Adds a b (num a.is_big w n) → IsWritten a b (number w n)
number_written {a} {b} w n width fit p =
    Appends-by (Adds-appends p) (length-num a.is_big w n) (λ l. sym (num-shown a.is_big w n width fit)) (λ big l xs e. length-num_text big w n xs e)

pub Puts-number : {T : Type 0} (r : Result T Error) (a b : Meaning) (w n : ℕ) → OnOk r (IsTrue (is_width w) × IsTrue (fits w n)) → OnOk r (Adds a b (num a.is_big w n)) → IfErr r (NumberRefused w (fits w n) (BytesRefused a b)) →
    Puts r a b (numbered w n)
Puts-number (Ok x) a b w n fit ok err = (number_written w n fit.0 fit.1 ok, number_none w n fit.0 fit.1)
Puts-number (Err e) a b w n fit ok err = number_refused a b w n e err

pub Puts-offset : {T : Type 0} (r : Result T Error) (a b : Meaning) (w n : ℕ) → OnOk r (IsTrue (is_width w) × IsTrue (offset_fits a.is_plain w n)) → OnOk r (Appends a b w (offset_text w DebugFrame n)) →
    IfErr r (NumberRefused w (offset_fits a.is_plain w n) (BytesRefused a b)) → Puts r a b (frame_offset w n)
Puts-offset r a b w n fit ok err = called r a b (frame_offset w n) ok fit err (offset_none a.is_plain w n) (offset_refused a b a.is_plain w n)

pub Puts-address : {T : Type 0} (r : Result T Error) (a b : Meaning) (w : ℕ) (x : Address) → OnOk r (IsTrue (address_fits a.is_plain w x)) → OnOk r (Appends a b w (address_text w x)) →
    IfErr r (AddressRefused a.is_plain w x (BytesRefused a b)) → Puts r a b (address w x)
Puts-address r a b w x fit ok err = called r a b (address w x) ok fit err (address_none a.is_plain w x) (address_refused a b a.is_plain w x)

pub Puts-pointer : {T : Type 0} (r : Result T Error) (a b : Meaning) (size encoding : ℕ) (x : Address) → OnOk r (IsTrue (pointer_fits a.is_plain a.is_big size encoding a.size x)) →
    OnOk r (Appends a b (eh_pointer_size size encoding a.size x) (eh_pointer_text size encoding a.size x)) → IfErr r (PointerRefused a.is_plain size encoding a.size x (BytesRefused a b)) →
    Puts r a b (pointer size encoding x)
Puts-pointer r a b size encoding x fit ok err =
    called r a b (pointer size encoding x) ok fit err (pointer_none a.is_plain a.is_big size encoding a.size x) (pointer_refused a b a.is_plain size encoding a.size x)

length-laid : (big : Bool) (layout : PointerLayout) (n : ℕ) (xs : List ℕ) → laid_out big layout n ≡ Some xs → length xs ≡ laid_size layout n
length-laid big Uleb128 n xs e = let f : uleb n ≡ xs = cc in sym (ap length f)
length-laid big Sleb128 n xs e = let f : sleb (signed_of n) ≡ xs = cc in sym (ap length f)
length-laid big (Unsigned w) n xs e = length-num_text big w n xs e
length-laid big (Signed w) n xs e = length-signed_text big w (signed_of n) xs e

laid_by : (big : Bool) (layout : Option PointerLayout) (n : ℕ) (xs : List ℕ) → ◌≡◌ {A = Text} (layout >>= λ f. laid_out big f n) (Some xs) → length xs ≡ unwrap_or (layout >>= λ f. Some (laid_size f n)) 0
laid_by big None n xs e = cc
laid_by big (Some f) n xs e = length-laid big f n xs e

pub data_wide : (size format n : ℕ) (big : Bool) (xs : List ℕ) → data_text big size format n ≡ Some xs → length xs ≡ unwrap_or (layout_by size format >>= λ f. Some (laid_size f n)) 0
unfolding data_text
data_wide size format n big xs e = laid_by big (layout_by size format) n xs e

some_is : (t : Text) → IsSome t → t ≡ Some (spelled_text t)
some_is None h = cc
some_is (Some xs) h = refl

is_true : (t : Text) → IsSome t → IsTrue (is_some t)
is_true None h = cc
is_true (Some xs) h = refl

pub Puts-data : {T : Type 0} (r : Result T Error) (a b : Meaning) (size format n : ℕ) → OnOk r (IsSome (data_text a.is_big size format n)) → OnOk r (Adds a b (spelled_text (data_text a.is_big size format n))) →
    IfErr r (DataRefused size format n (BytesRefused a b)) → Puts r a b (pointer_data size format n)
Puts-data (Ok x) a b size format n fit ok err =
    let t = data_text a.is_big size format n in
    let is : t ≡ Some (spelled_text t) = some_is t fit in (
      Appends-by (Adds-appends ok) (data_wide size format n a.is_big (spelled_text t) is) (λ l. sym is) (λ big l xs e. data_wide size format n big xs e),
      data_none a.is_big size format n (is_true t fit),
    )
Puts-data (Err e) a b size format n fit ok err = data_refused a b size format n e err
