-- What expressions are written with: the places of entries in their unit, and a list of fixups, where they are given.
use Rattle.std.specs.Prelude.{◌≡◌, ℕ, Bool, List, [], Option, Some, None, Result, Ok, Err, IsTrue, IsFalse}
use Rattle.std.proofs.Common.{inl, inr, ◌⊎◌}
use Rattle.std.specs.Borrow.{Bor, MutBor}
use Rattle.dw_base.specs.declared.error.Error.{Error}
use Rattle.dw_base.specs.declared.error.Error.TheVariants as errors
use Rattle.dw_writer.specs.Meaning.{Meaning}
use Rattle.dw_writer.specs.Causes.{HasRisen}
use Rattle.dw_writer.specs.declared.fixup.DebugInfoFixup.{DebugInfoFixup}
use Rattle.dw_writer.specs.declared.fixup.FixupList.{FixupList}

-- the place of an entry
abbrev pub place_by : Option (ℕ → Option ℕ) → ℕ → Option ℕ
place_by None i = None
place_by (Some place) i = place i

-- what the places that are given say
abbrev pub known_by : {P : Type 0} → (P → ℕ → Option ℕ) → Option (Bor P) → Option (ℕ → Option ℕ)
known_by places None = None
known_by places (Some p) = Some (places p.now)

-- a list of fixups before a call and after it; one that isn't given is empty
abbrev pub given : Option (MutBor FixupList) → List DebugInfoFixup
given None = []
given (Some l) = l.now

abbrev pub kept : Unit {0} ⊎ ((MutBor FixupList × Unit {0}) ⊎ ⊥) → List DebugInfoFixup
kept (inl u) = []
kept (inr (inl l)) = l.0.now
kept (inr (inr e)) = absurd e

-- a size is refused for a cause of its own, and its parts for want of memory too
abbrev pub Sized : Result ℕ Error → ℕ → (Error → Bool) → Type 0
Sized (Ok n) size fails = (n ≡ size) × ((err : Error) → IsFalse (fails err))
Sized (Err err) size fails = IsTrue (fails err)

abbrev pub MemoryOr : (Error → Bool) → Error → Type 0
MemoryOr fails errors.NoMemory = Unit {0}
MemoryOr fails err = IsTrue (fails err)

-- a write is refused for want of memory, by a fault of the writer, or for a cause of its own
abbrev pub Refused : Meaning → Meaning → (Error → Bool) → Error → Type 0
Refused old new fails errors.NoMemory = Unit {0}
Refused old new fails errors.WriteFault = HasRisen old new
Refused old new fails err = IsTrue (fails err)
