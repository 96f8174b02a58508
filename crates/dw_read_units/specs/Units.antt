-- Units with the sections of their file.
use Rattle.std.specs.Prelude.{ℕ}
use Rattle.dw_base.specs.Numbers.{word_of}
use Rattle.dw_read_units.specs.declared.unit_ref.UnitRef.{UnitRef}

-- the bytes of a unit's words and addresses
abbrev pub word_in : {R E : Type 0} → UnitRef R E → ℕ
word_in u = word_of u.unit.now.header.fields.encoding.format

abbrev pub address_in : {R E : Type 0} → UnitRef R E → ℕ
address_in u = u.unit.now.header.fields.encoding.address_size
