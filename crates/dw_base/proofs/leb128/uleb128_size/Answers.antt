use Rattle.std.proofs.Common.{sym, subst, ◌≤◌, length, arith}
use Rattle.dw_base.proofs.Sizes.{CountsGroups-none, CountsGroups-more, CountsGroups-last}
use Rattle.dw_base.proofs.Leb128Laws.{uleb-shortest}
use Rattle.dw_base.proofs.leb128.uleb128_size.Goals as goal

pub groups-init : goal.groups-init
groups-init c = CountsGroups-none c.args.value (omega arith)

pub groups-preserved : goal.groups-preserved
groups-preserved c =
    CountsGroups-more c.args.value c.groups.size c.groups.rest c.groups.invariant c.groups-test.true

pub returns : goal.returns
returns c =
    let size = CountsGroups-last c.args.value c.groups.size c.groups.rest c.groups.invariant c.groups-test.false in
    record {
      size = size;
      shortest = λ bytes each read. subst (λ n. n ≤ length bytes) (sym size) (uleb-shortest c.args.value bytes each read);
    }
