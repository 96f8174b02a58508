use Rattle.std.proofs.Common.{rules, tests}
use Rattle.std.proofs.lemmas.Iterator.{YieldsList-from_slice}
use Rattle.std.proofs.lemmas.Iterator.Search.{any_from_yields_List}
use Rattle.dw_entry_ranges.specs.Live.{meets}
use Rattle.dw_entry_ranges.proofs.live.LiveRanges.meets_any.Goals as goal

pub returns : goal.returns
returns c = λ live made. any_from_yields_List (meets live) _ _ _ c.any.ensures.ran (YieldsList-from_slice c.args.ranges.now cc) (λ x b q k. search (rules, tests, made))
