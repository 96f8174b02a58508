-- What a split unit takes over from its skeleton.
use Rattle.std.specs.Prelude.{nat_lt, if◌then◌else◌}
use Rattle.dw_read_units.specs.declared.dwarf.Unit.{Unit as ReadUnit}

-- the address of the lists' offsets and the base of indexed addresses, and below version 5 that of range lists
abbrev pub relocated_as : {R E : Type 0} → ReadUnit R E → ReadUnit R E → ReadUnit R E
relocated_as skeleton u = record u {
  low_pc = skeleton.low_pc;
  addr_base = skeleton.addr_base;
  rnglists_base = (if nat_lt u.header.fields.encoding.version 5 then skeleton.rnglists_base else u.rnglists_base);
}
