-- A writer that fails at chosen calls.
use Rattle.dw_base.specs.Faults.{Plan}
use Rattle.dw_writer.specs.Contents.{Meaning}
use Rattle.dw_writer.specs.Relocating.{with_faults}
use Rattle.dw_writer.specs.declared.endian_vec.EndianVec.{EndianVec}
use Rattle.dw_writer.specs.declared.fault_vec.FaultVec.{FaultVec}

-- which calls of `write` and `write_at` are to fail, and how many there were and failed
abbrev pub fault_plan : {E : Type 0} → FaultVec E → Plan
fault_plan w = w.plan

-- the writer's bytes, with the count of its faults
abbrev pub faulty : {E : Type 0} → (EndianVec E → Meaning) → FaultVec E → Meaning
faulty meaning w = with_faults (meaning w.vec) w.plan.faults
