use Rattle.std.specs.Prelude.{pos}
use Rattle.std.proofs.Common.{refl}
use Rattle.dw_base.proofs.Sizes.{CountsSignedGroups-none, CountsSignedGroups-more, CountsSignedGroups-last}
use Rattle.dw_base.proofs.leb128.sleb128_size_of.Goals as goal

pub groups-init : goal.groups-init
groups-init c = CountsSignedGroups-none (pos c.args.magnitude) c.args.magnitude refl c.requires

pub groups-preserved : goal.groups-preserved
groups-preserved c =
    CountsSignedGroups-more (pos c.args.magnitude) c.groups.size c.groups.rest c.groups.invariant c.groups-test.true

pub returns : goal.returns
returns c = CountsSignedGroups-last (pos c.args.magnitude) c.groups.size c.groups.rest c.groups.invariant c.groups-test.false
