use Rattle.std.proofs.Common.{arith}
use Rattle.dw_dwarf.proofs.SplitSteps.{still_there}
use Rattle.dw_dwarf.proofs.convert.convert_unit.ConvertUnit.put_back.Goals as goal

pub of-requires-clause-free : goal.of-requires-clause-free
of-requires-clause-free g c =
    let sound = c.count.ensures.sound in
    omega (arith, sound.arena.within, c.reserved-2.ensures, sound.kept.rooted (still_there _ _ sound.kept.written c.requires.unwritten))

pub reserve_ids-requires-clause-not_freed : goal.reserve_ids-requires-clause-not_freed
reserve_ids-requires-clause-not_freed g c = still_there _ _ c.count.ensures.sound.kept.written c.requires.unwritten
