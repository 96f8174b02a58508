-- Writers that are made of others.
use Rattle.std.specs.Prelude.{◌≡◌, ℕ, true, false, List, [], ◌∷◌, ◌++◌, Option, None, ℤ}
use Rattle.dw_base.specs.declared.constants.DwEhPe.{DwEhPe}
use Rattle.dw_writer.specs.Contents.{Meaning}
use Rattle.dw_writer.specs.declared.relocate.Relocation.{Relocation}
use Rattle.dw_writer.specs.declared.relocate.RelocationTarget.{RelocationTarget}

-- a writer of the same bytes with these records beside them
abbrev pub relocating : Meaning → List Relocation → Meaning
relocating m rs = record m { is_plain = false; records = m.records ++ rs }

-- the record of a number at a place, which may be a pointer
abbrev pub record_by : Option DwEhPe → ℕ → ℕ → RelocationTarget → ℤ → List Relocation
record_by encoding place w target addend = record { offset = place; size = w; target = target; addend = addend; eh_pe = encoding } ∷ []

-- the record of a number at a place, which is no pointer
abbrev pub record_at : ℕ → ℕ → RelocationTarget → ℤ → List Relocation
record_at place w target addend = record_by None place w target addend

-- a writer of the same bytes with another count of faults
abbrev pub with_faults : Meaning → ℕ → Meaning
with_faults m n = record m { faults = n }

-- such a writer isn't plain
pub never_plain : {A : Type 0} → false ≡ true → A
never_plain e = cc
