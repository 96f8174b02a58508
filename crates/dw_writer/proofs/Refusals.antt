-- Causes of a refusal, as a call that hands them on has them.
use Rattle.std.specs.Prelude.{◌≡◌, ℕ, ◌+◌, ◌≤◌, Bool, Result, Ok, Err, IfErr, IsTrue}
use Rattle.std.specs.Result.{IsErrAnd}
use Rattle.std.proofs.Common.{arith}
use Rattle.dw_base.specs.Numbers.{is_width, length_fits}
use Rattle.dw_base.specs.declared.common.Format.{Format}
use Rattle.dw_base.specs.declared.error.Error.{Error}
use Rattle.dw_base.specs.declared.error.Error.TheVariants.{NoMemory, WriteFault, OffsetOutOfBounds, LengthOutOfBounds, ValueTooLarge, UnsupportedWordSize}
use Rattle.dw_writer.specs.Causes.{BytesRefused, PatchCause, PatchRefused, PlaceRefused, KeptOutside, NumberRefused, LengthRefused, NotAtAll, IsNotMemory}
use Rattle.dw_writer.specs.Contents.{Meaning}
use Rattle.dw_writer.specs.Meaning.{IsSameWriter}
use Rattle.dw_writer.proofs.Outcomes.{IfErr-exit}

-- a number that is refused for its width or its size alone
pub NumberRefused-only : (w : ℕ) (fit : Bool) (more : Error → Type 0) (e : Error) → NumberRefused w fit NotAtAll e → NumberRefused w fit more e
NumberRefused-only w fit more (UnsupportedWordSize n) h = h
NumberRefused-only w fit more ValueTooLarge h = h
NumberRefused-only w fit more e h = absurd h.2

-- such a number at the exit of a `?`
pub NumberRefused-exit : {T : Type 0} (r : Result T Error) (w : ℕ) (fit : Bool) (more : Error → Type 0) (e : Error) → IsErrAnd r (λ y. y ≡ e) → NumberRefused w fit NotAtAll e → IfErr r (NumberRefused w fit more)
NumberRefused-exit r w fit more e h k = IfErr-exit r (NumberRefused w fit more) h (NumberRefused-only w fit more e k)

-- such a number isn't refused for want of memory
pub NumberRefused-not_memory : (w : ℕ) (fit : Bool) (e : Error) → NumberRefused w fit NotAtAll e → IsNotMemory e
NumberRefused-not_memory w fit NoMemory h = h.2
NumberRefused-not_memory w fit _ h = tt

pub NotMemory-exit : {T : Type 0} (r : Result T Error) (w : ℕ) (fit : Bool) (e : Error) → IsErrAnd r (λ y. y ≡ e) → NumberRefused w fit NotAtAll e → IfErr r IsNotMemory
NotMemory-exit r w fit e h k = IfErr-exit r IsNotMemory h (NumberRefused-not_memory w fit e k)

-- bytes and patches that are refused once the number fits
pub NumberRefused-bytes : {T : Type 0} (r : Result T Error) {a b : Meaning} (w : ℕ) (fit : Bool) → IsSameWriter a b → IsTrue (is_width w) → IsTrue fit → IfErr r (BytesRefused a b) → IfErr r (NumberRefused w fit (BytesRefused a b))
NumberRefused-bytes (Ok x) w fit same wide fits h = tt
NumberRefused-bytes (Err NoMemory) w fit same wide fits h = (wide, fits, h)
NumberRefused-bytes (Err WriteFault) w fit same wide fits h = (wide, fits, h)
NumberRefused-bytes (Err _) w fit same wide fits h = absurd h

pub NumberRefused-patched : {T : Type 0} (r : Result T Error) {a b : Meaning} (p n w : ℕ) (fit : Bool) → IsSameWriter a b → IsTrue (is_width w) → IsTrue fit → IfErr r (PatchRefused a b p n) → IfErr r (NumberRefused w fit (PatchRefused a b p n))
NumberRefused-patched (Ok x) p n w fit same wide fits h = tt
NumberRefused-patched (Err NoMemory) p n w fit same wide fits h = (wide, fits, h)
NumberRefused-patched (Err WriteFault) p n w fit same wide fits h = (wide, fits, h)
NumberRefused-patched (Err OffsetOutOfBounds) p n w fit same wide fits h = (wide, fits, h)
NumberRefused-patched (Err LengthOutOfBounds) p n w fit same wide fits h = (wide, fits, h)
NumberRefused-patched (Err _) p n w fit same wide fits h = absurd h

-- and patches with a length that the format can spell
pub LengthRefused-patched : {T : Type 0} (r : Result T Error) {a b : Meaning} (p k : ℕ) (format : Format) (n : ℕ) → IsSameWriter a b → IsTrue (length_fits format n) → IfErr r (PatchRefused a b p k) → IfErr r (LengthRefused format n (PatchRefused a b p k))
LengthRefused-patched (Ok x) p k format n same fits h = tt
LengthRefused-patched (Err NoMemory) p k format n same fits h = (fits, h)
LengthRefused-patched (Err WriteFault) p k format n same fits h = (fits, h)
LengthRefused-patched (Err OffsetOutOfBounds) p k format n same fits h = (fits, h)
LengthRefused-patched (Err LengthOutOfBounds) p k format n same fits h = (fits, h)
LengthRefused-patched (Err _) p k format n same fits h = absurd h

-- a place that is refused is a cause of a patch
pub PlaceRefused-patch : (size : ℕ) (rise : Type 0) (p n : ℕ) (e : Error) → PlaceRefused size p n e → PatchCause size rise p n e
PlaceRefused-patch size rise p n OffsetOutOfBounds h = h
PlaceRefused-patch size rise p n LengthOutOfBounds h = h
PlaceRefused-patch size rise p n _ h = absurd h

-- a patch that has room isn't refused for its place
pub PatchCause-inside : (size : ℕ) (rise : Type 0) (p n : ℕ) (old new : Meaning) → p + n ≤ size → (e : Error) → PatchCause size rise p n e → KeptOutside old new e
PatchCause-inside size rise p n old new room OffsetOutOfBounds h = absurd (omega arith)
PatchCause-inside size rise p n old new room LengthOutOfBounds h = absurd (omega (arith, h.1))
PatchCause-inside size rise p n old new room _ h = tt
