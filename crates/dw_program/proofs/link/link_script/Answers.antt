use Rattle.dw_build.specs.SetsValue.{sets_in}
use Rattle.dw_build.proofs.SetUnits.{sets_open}
use Rattle.dw_program.proofs.link.link_script.Goals as goal

pub link_sets-requires : goal.link_sets-requires
link_sets-requires c = sets_open c.args.bytes.now (sets_in c.in-Ok.sets) c.in-Ok.ensures.ok
