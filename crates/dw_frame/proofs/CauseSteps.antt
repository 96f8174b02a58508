-- Why numbers, addresses and pointers are refused.
use Rattle.std.specs.Prelude.{ℕ, Bool, true, false, not, ◌&&◌, ◌==◌, List, Option, Some, None, ℤ, is_some, refl, IsTrue, IsFalse, if◌then◌else◌}
use Rattle.std.proofs.lemmas.Bool.{eq-eqb, and_parts}
use Rattle.dw_base.specs.Numbers.{◌>>=◌, is_width, fits}
use Rattle.dw_base.specs.Pointers.{format_of, pointer_width, signed_of}
use Rattle.dw_base.specs.declared.error.Error.{Error}
use Rattle.dw_base.specs.declared.error.Error.TheVariants as errors
use Rattle.dw_base.specs.declared.address.Address.{Address}
use Rattle.dw_base.specs.declared.address.Address.TheVariants.{Constant, Symbol}
use Rattle.dw_writer.specs.Texts.{num_text}
use Rattle.dw_writer.specs.Contents.{Meaning}
use Rattle.dw_writer.specs.Meaning.{pointer_fits, has_width}
use Rattle.dw_writer.specs.Pointers.{layout_by, laid_out, counted, data_text, constant_pointer, signed_text}
use Rattle.dw_writer.specs.SignedNumbers.{signed_fits}
use Rattle.dw_writer.specs.declared.pointer.PointerLayout.{PointerLayout}
use Rattle.dw_writer.specs.declared.pointer.PointerLayout.TheVariants.{Uleb128, Sleb128, Unsigned, Signed}
use Rattle.dw_writer.specs.Causes.{BytesRefused, NumberRefused, AddressRefused, EncodingRefused, LaidRefused, DataRefused, CountedRefused, RecordRefused, PointerRefused, address_fits, offset_fits}
use Rattle.dw_expr.specs.Causes.{width_fails, address_fails}
use Rattle.dw_expr.specs.Places.{Refused}
use Rattle.dw_frame_instructions.specs.Causes.{IsNone}
use Rattle.dw_frame.specs.Parts.{number_fails}
use Rattle.dw_frame.specs.PointerParts.{signed_fails, encoding_fails, laid_fails, data_fails, counted_fails, record_fails, pointer_fails, offset_fails}

both_hold : (a b : Bool) → IsTrue a → IsFalse b → IsTrue (a && not b)
both_hold true false h k = refl
both_hold false b h k = absurd (let e : IsTrue false = h in cc)
both_hold true true h k = absurd (let e : IsFalse true = k in cc)

and_false : (a b : Bool) → IsTrue b → IsFalse (a && not b)
and_false true true h = refl
and_false false true h = refl
and_false a false h = absurd (let e : IsTrue false = h in cc)

-- What can be written has no cause

pub width_none : (w : ℕ) → IsTrue (is_width w) → IsNone (width_fails w)
width_none w h (errors.UnsupportedWordSize n) = and_false (n == w) (is_width w) h
width_none w h e = refl

pub number_none : (w n : ℕ) → IsTrue (is_width w) → IsTrue (fits w n) → IsNone (number_fails w n)
number_none w n h k (errors.UnsupportedWordSize m) = and_false (m == w) (is_width w) h
number_none w n h k errors.ValueTooLarge = and_false (is_width w) (fits w n) k
number_none w n h k e = refl

signed_none : (w : ℕ) (z : ℤ) → IsTrue (is_width w) → IsTrue (signed_fits w z) → IsNone (signed_fails w z)
signed_none w z h k (errors.UnsupportedWordSize m) = and_false (m == w) (is_width w) h
signed_none w z h k errors.ValueTooLarge = and_false (is_width w) (signed_fits w z) k
signed_none w z h k e = refl

pub offset_none : (plain : Bool) (w n : ℕ) → IsTrue (is_width w) × IsTrue (offset_fits plain w n) → IsNone (offset_fails plain w n)
offset_none plain w n h errors.ValueTooLarge = and_false (is_width w) (offset_fits plain w n) h.1
offset_none plain w n h (errors.UnsupportedWordSize m) = and_false (m == w) (is_width w) h.0
offset_none plain w n h e = refl

pub address_none : (plain : Bool) (w : ℕ) (a : Address) → IsTrue (address_fits plain w a) → IsNone (address_fails w plain a)
address_none plain w (Constant n) h errors.ValueTooLarge = let p = and_parts (is_width w) (fits w n) h in and_false (is_width w) (fits w n) p.1
address_none plain w (Constant n) h (errors.UnsupportedWordSize m) = let p = and_parts (is_width w) (fits w n) h in and_false (m == w) (is_width w) p.0
address_none plain w (Constant n) h e = refl
address_none true w (Symbol s a) h e = absurd (let k : IsTrue false = h in cc)
address_none false w (Symbol s a) h errors.InvalidAddress = refl
address_none false w (Symbol s a) h (errors.UnsupportedWordSize m) = and_false (m == w) (is_width w) h
address_none false w (Symbol s a) h e = refl

some_if : (b : Bool) (xs : List ℕ) → IsTrue (is_some (if b then Some xs else None)) → IsTrue b
some_if true xs h = refl
some_if false xs h = h

laid_none : (big : Bool) (layout : Option PointerLayout) (format n : ℕ) → IsTrue (is_some (layout >>= λ f. laid_out big f n)) → IsNone (laid_fails layout format n)
unfolding num_text signed_text
laid_none big None format n h e = absurd (let k : IsTrue false = h in cc)
laid_none big (Some Uleb128) format n h e = refl
laid_none big (Some Sleb128) format n h e = refl
laid_none big (Some (Unsigned w)) format n h e =
    let p = and_parts (is_width w) (fits w n) (some_if (is_width w && fits w n) _ h) in number_none w n p.0 p.1 e
laid_none big (Some (Signed w)) format n h e =
    let p = and_parts (is_width w) (signed_fits w (signed_of n)) (some_if (is_width w && signed_fits w (signed_of n)) _ h) in signed_none w (signed_of n) p.0 p.1 e

pub data_none : (big : Bool) (size format n : ℕ) → IsTrue (is_some (data_text big size format n)) → IsNone (data_fails size format n)
unfolding data_text
data_none big size format n h = laid_none big (layout_by size format) format n h

counted_none : (big : Bool) (o : Option ℕ) (size encoding : ℕ) → IsTrue (is_some (o >>= data_text big size (format_of encoding))) → IsNone (counted_fails o size encoding)
counted_none big None size encoding h e = absurd (let k : IsTrue false = h in cc)
counted_none big (Some n) size encoding h e = data_none big size (format_of encoding) n h e

record_none : (w : Option ℕ) (encoding : ℕ) → IsTrue (has_width w) → IsNone (record_fails w encoding)
record_none None encoding h e = absurd (let k : IsTrue false = h in cc)
record_none (Some w) encoding h e = width_none w h e

pub pointer_none : (plain big : Bool) (size encoding place : ℕ) (a : Address) → IsTrue (pointer_fits plain big size encoding place a) → IsNone (pointer_fails plain size encoding place a)
unfolding constant_pointer
pointer_none plain big size encoding place (Constant n) h e = counted_none big (counted encoding place n) size encoding h e
pointer_none true big size encoding place (Symbol s a) h e = absurd (let k : IsTrue false = h in cc)
pointer_none false big size encoding place (Symbol s a) h e = record_none (pointer_width size (format_of encoding)) encoding h e

-- What is refused has one

pub number_refused : (old new : Meaning) (w n : ℕ) (e : Error) → NumberRefused w (fits w n) (BytesRefused old new) e → Refused old new (number_fails w n) e
number_refused old new w n errors.NoMemory h = tt
number_refused old new w n errors.WriteFault h = h.2
number_refused old new w n (errors.UnsupportedWordSize k) h = both_hold (k == w) (is_width w) (eq-eqb k w h.0) h.1
number_refused old new w n errors.ValueTooLarge h = both_hold (is_width w) (fits w n) h.0 h.1
number_refused old new w n e h = absurd h.2

signed_refused : (old new : Meaning) (w : ℕ) (z : ℤ) (e : Error) → NumberRefused w (signed_fits w z) (BytesRefused old new) e → Refused old new (signed_fails w z) e
signed_refused old new w z errors.NoMemory h = tt
signed_refused old new w z errors.WriteFault h = h.2
signed_refused old new w z (errors.UnsupportedWordSize k) h = both_hold (k == w) (is_width w) (eq-eqb k w h.0) h.1
signed_refused old new w z errors.ValueTooLarge h = both_hold (is_width w) (signed_fits w z) h.0 h.1
signed_refused old new w z e h = absurd h.2

width_refused : (old new : Meaning) (w : ℕ) (e : Error) → NumberRefused w true (BytesRefused old new) e → Refused old new (width_fails w) e
width_refused old new w errors.NoMemory h = tt
width_refused old new w errors.WriteFault h = h.2
width_refused old new w (errors.UnsupportedWordSize k) h = both_hold (k == w) (is_width w) (eq-eqb k w h.0) h.1
width_refused old new w errors.ValueTooLarge h = absurd (let e : IsFalse true = h.1 in cc)
width_refused old new w e h = absurd h.2

pub offset_refused : (old new : Meaning) (plain : Bool) (w n : ℕ) (e : Error) → NumberRefused w (offset_fits plain w n) (BytesRefused old new) e → Refused old new (offset_fails plain w n) e
offset_refused old new plain w n errors.NoMemory h = tt
offset_refused old new plain w n errors.WriteFault h = h.2
offset_refused old new plain w n (errors.UnsupportedWordSize k) h = both_hold (k == w) (is_width w) (eq-eqb k w h.0) h.1
offset_refused old new plain w n errors.ValueTooLarge h = both_hold (is_width w) (offset_fits plain w n) h.0 h.1
offset_refused old new plain w n e h = absurd h.2

pub address_refused : (old new : Meaning) (plain : Bool) (w : ℕ) (a : Address) (e : Error) → AddressRefused plain w a (BytesRefused old new) e → Refused old new (address_fails w plain a) e
address_refused old new plain w (Constant n) errors.NoMemory h = tt
address_refused old new plain w (Constant n) errors.WriteFault h = h.2
address_refused old new plain w (Constant n) (errors.UnsupportedWordSize k) h = both_hold (k == w) (is_width w) (eq-eqb k w h.0) h.1
address_refused old new plain w (Constant n) errors.ValueTooLarge h = both_hold (is_width w) (fits w n) h.0 h.1
address_refused old new plain w (Constant n) e h = absurd h.2
address_refused old new true w (Symbol s a) errors.InvalidAddress h = refl
address_refused old new true w (Symbol s a) errors.NoMemory h = absurd h
address_refused old new true w (Symbol s a) errors.WriteFault h = absurd h
address_refused old new true w (Symbol s a) e h = absurd h
address_refused old new false w (Symbol s a) errors.NoMemory h = tt
address_refused old new false w (Symbol s a) errors.WriteFault h = h.2
address_refused old new false w (Symbol s a) (errors.UnsupportedWordSize k) h = both_hold (k == w) (is_width w) (eq-eqb k w h.0) h.1
address_refused old new false w (Symbol s a) errors.ValueTooLarge h = absurd (let e : IsFalse true = h.1 in cc)
address_refused old new false w (Symbol s a) e h = absurd h.2

encoding_refused : (old new : Meaning) (n : ℕ) (e : Error) → EncodingRefused n e → Refused old new (encoding_fails n) e
encoding_refused old new n (errors.UnsupportedPointerEncoding x) h = eq-eqb x.0 n h
encoding_refused old new n errors.NoMemory h = tt
encoding_refused old new n errors.WriteFault h = absurd h
encoding_refused old new n e h = absurd h

bytes_refused : (old new : Meaning) (f : Error → Bool) (e : Error) → BytesRefused old new e → Refused old new f e
bytes_refused old new f errors.NoMemory h = tt
bytes_refused old new f errors.WriteFault h = h
bytes_refused old new f e h = absurd h

laid_refused : (old new : Meaning) (layout : Option PointerLayout) (format n : ℕ) (e : Error) → LaidRefused layout format n (BytesRefused old new) e → Refused old new (laid_fails layout format n) e
laid_refused old new None format n e h = encoding_refused old new format e h
laid_refused old new (Some Uleb128) format n e h = bytes_refused old new (laid_fails (Some Uleb128) format n) e h
laid_refused old new (Some Sleb128) format n e h = bytes_refused old new (laid_fails (Some Sleb128) format n) e h
laid_refused old new (Some (Unsigned w)) format n e h = number_refused old new w n e h
laid_refused old new (Some (Signed w)) format n e h = signed_refused old new w (signed_of n) e h

pub data_refused : (old new : Meaning) (size format n : ℕ) (e : Error) → DataRefused size format n (BytesRefused old new) e → Refused old new (data_fails size format n) e
data_refused old new size format n e h = laid_refused old new (layout_by size format) format n e h

counted_refused : (old new : Meaning) (o : Option ℕ) (size encoding : ℕ) (e : Error) → CountedRefused o size encoding (BytesRefused old new) e → Refused old new (counted_fails o size encoding) e
counted_refused old new None size encoding e h = encoding_refused old new encoding e h
counted_refused old new (Some n) size encoding e h = data_refused old new size (format_of encoding) n e h

record_refused : (old new : Meaning) (w : Option ℕ) (encoding : ℕ) (e : Error) → RecordRefused w encoding (BytesRefused old new) e → Refused old new (record_fails w encoding) e
record_refused old new None encoding e h = encoding_refused old new encoding e h
record_refused old new (Some w) encoding e h = width_refused old new w e h

pub pointer_refused : (old new : Meaning) (plain : Bool) (size encoding place : ℕ) (a : Address) (e : Error) → PointerRefused plain size encoding place a (BytesRefused old new) e → Refused old new (pointer_fails plain size encoding place a) e
pointer_refused old new plain size encoding place (Constant n) e h = counted_refused old new (counted encoding place n) size encoding e h
pointer_refused old new true size encoding place (Symbol s a) errors.InvalidAddress h = refl
pointer_refused old new true size encoding place (Symbol s a) errors.NoMemory h = absurd h
pointer_refused old new true size encoding place (Symbol s a) errors.WriteFault h = absurd h
pointer_refused old new true size encoding place (Symbol s a) e h = absurd h
pointer_refused old new false size encoding place (Symbol s a) e h = record_refused old new (pointer_width size (format_of encoding)) encoding e h
