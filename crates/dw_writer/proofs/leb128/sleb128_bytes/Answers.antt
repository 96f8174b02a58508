use Rattle.std.proofs.Common.{ap, refl, ◌∙◌, ◌+◌, w64}
use Rattle.std.proofs.lemmas.Int.{to_z-of_z}
use Rattle.dw_base.specs.Leb128.{sleb}
use Rattle.dw_writer.proofs.Leb.{SlebPart-none, SlebPart-more, SlebPart-last}
use Rattle.dw_writer.proofs.leb128.sleb128_bytes.Goals as goal

pub groups-init : goal.groups-init
groups-init c = SlebPart-none _ _ _ _ refl c.distance-rest.ensures.small c.distance-rest.ensures.value

pub groups-preserved : goal.groups-preserved
groups-preserved c = SlebPart-more _ _ _ _ _ _ c.groups.invariant c.groups-test.true (ap (λ n. 128 + n) c.low_group.ensures.group)

pub returns : goal.returns
returns c =
    SlebPart-last _ _ _ _ _ _ c.groups.invariant c.groups-test.false c.low_group-2.ensures.group ∙ ap sleb (to_z-of_z w64 c.args.val c.ranges.val)
