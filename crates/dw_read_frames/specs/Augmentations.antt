-- What augmentations of CIEs say, with the reason where one can't be read (Linux Standard Base Core 5.0, 10.6.1.1).
use Rattle.std.specs.Prelude.{ℕ, ◌-◌, ◌==◌, Bool, true, false, List, [], ◌∷◌, length, Option, Some, None, Ok, Err, if◌then◌else◌}
use Rattle.dw_base.specs.declared.constants.DwEhPe.{DwEhPe}
use Rattle.dw_read.specs.Reading.{Read}
use Rattle.dw_read.specs.Reasons.{◌=>>◌, bytes_read, number_read, uleb_read}
use Rattle.dw_read.specs.declared.error.ReadError.TheVariants.{UnknownAugmentation}
use Rattle.dw_read_frames.specs.Pointers.{pointer_read}
use Rattle.dw_read_frames.specs.declared.augmentation.Augmentation.{Augmentation}

-- the place of bytes that go on to an end
abbrev pub standing : ℕ → List ℕ → ℕ
standing end bytes = end - length bytes

-- before the first letter
abbrev pub no_letters : Augmentation
no_letters = record { lsda = None; personality = None; fde_address_encoding = None; is_signal_trampoline = false }

-- an encoding
abbrev pub encoding_of : ℕ → DwEhPe
encoding_of n = record { 0 = n }

-- the data of a letter after those of others, where the data of all letters go on to an end: `L` is the encoding of pointers to an
-- FDE's data, `P` the pointer to the personality routine behind its encoding, `R` the encoding of an FDE's addresses, and `S` says
-- that the functions are trampolines of signals
unfoldable pub letter_read : Bool → ℕ → ℕ → ℕ → Augmentation → Read Augmentation
letter_read big size end letter a bytes =
    if letter == 0x4c then (number_read big 1 bytes =>> λ e. Ok (record a { lsda = Some (encoding_of e.0) }, e.1))
    else if letter == 0x50 then (number_read big 1 bytes =>> λ e. pointer_read big size (encoding_of e.0) (standing end e.1) e.1 =>> λ p.
    Ok (record a { personality = Some (encoding_of e.0, p.0) }, p.1))
    else if letter == 0x52 then (number_read big 1 bytes =>> λ e. Ok (record a { fde_address_encoding = Some (encoding_of e.0) }, e.1))
    else if letter == 0x53 then Ok (record a { is_signal_trampoline = true }, bytes)
    else Err UnknownAugmentation

-- the data of letters in turn
unfoldable pub letters_read : Bool → ℕ → ℕ → List ℕ → Augmentation → Read Augmentation
letters_read big size end [] a bytes = Ok (a, bytes)
letters_read big size end (letter ∷ letters) a bytes = letter_read big size end letter a bytes =>> λ b. letters_read big size end letters b.0 b.1

-- An augmentation, in an entry that goes on to an end: a text that is empty, or `z` and letters whose data stand behind their
-- length. Data that no letter has are passed.
unfoldable pub augmentation_read : Bool → ℕ → ℕ → List ℕ → Read (Option Augmentation)
augmentation_read big size end [] bytes = Ok (None, bytes)
augmentation_read big size end (z ∷ letters) bytes =
    if z == 0x7a then (uleb_read bytes =>> λ n. bytes_read n.0 n.1 =>> λ part. letters_read big size (standing end part.1) letters no_letters part.0 =>> λ a. Ok (Some a.0, part.1))
    else Err UnknownAugmentation

-- what a CIE says, where it has an augmentation
abbrev pub said : {A : Type 0} → (Augmentation → Option A) → Option Augmentation → Option A
said f None = None
said f (Some a) = f a

abbrev pub is_trampoline : Option Augmentation → Bool
is_trampoline None = false
is_trampoline (Some a) = a.is_signal_trampoline
