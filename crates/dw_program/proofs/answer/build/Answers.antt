use Rattle.dw_build.specs.ScriptValue.{script_in}
use Rattle.dw_build.proofs.ScriptUnits.{script_open}
use Rattle.dw_program.proofs.answer.build.Goals as goal

pub answer_dwarf-requires : goal.answer_dwarf-requires
answer_dwarf-requires c = let open_units = script_open c.args.bytes.now (script_in c.in-Ok.script) c.in-Ok.ensures.ok in λ k u inside. (open_units k u inside).0
