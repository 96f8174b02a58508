use Rattle.std.proofs.Common.{refl}
use Rattle.dw_dwarf.proofs.convert.convert_unit.ConvertUnit.add_entry.Goals as goal

pub returns-clause-err : goal.returns-clause-err
returns-clause-err g c = tt

pub returns-clause-kept : goal.returns-clause-kept
returns-clause-kept g c = tt

pub returns-in_default-clause-id : goal.returns-in_default-clause-id
returns-in_default-clause-id g c = tt

pub returns-in_default-clause-ok : goal.returns-in_default-clause-ok
returns-in_default-clause-ok g c = tt

pub returns-in_default-clause-err : goal.returns-in_default-clause-err
returns-in_default-clause-err g c = refl

pub returns-in_default-clause-same_unit : goal.returns-in_default-clause-same_unit
returns-in_default-clause-same_unit g c = refl

pub returns-in_default-clause-others : goal.returns-in_default-clause-others
returns-in_default-clause-others g c = refl

pub add_under-requires-clause-reserved : goal.add_under-requires-clause-reserved
add_under-requires-clause-reserved g c = c.requires.reserved

pub add_under-requires-clause-room : goal.add_under-requires-clause-room
add_under-requires-clause-room g c = c.requires.room

pub add_under-requires-clause-tagged : goal.add_under-requires-clause-tagged
add_under-requires-clause-tagged g c = c.requires.tagged
