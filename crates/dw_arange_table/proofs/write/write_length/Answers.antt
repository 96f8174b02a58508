use Rattle.dw_base.specs.Numbers.{escape_of}
use Rattle.dw_base.specs.declared.common.Format.TheVariants.{Dwarf64}
use Rattle.dw_writer.proofs.Outcomes.{OnOk-map}
use Rattle.dw_arange_table.proofs.WriteSteps.{number_after}
use Rattle.dw_arange_table.proofs.write.write_length.Goals as goal

pub returns-in_ok-write-in-Dwarf64-clause-ok : goal.returns-in_ok-write-in-Dwarf64-clause-ok
returns-in_ok-write-in-Dwarf64-clause-ok g c =
    rw c.in-Dwarf64.is (OnOk-map c.write_u64.result c.write_u64.ensures.ok (λ number. number_after (escape_of Dwarf64) 8 c.args.length c.in_ok-write-in-Dwarf64.ensures.ok number))
