use Rattle.std.proofs.Common.{sym, ap}
use Rattle.dw_writer.specs.Sections.{section_of}
use Rattle.dw_writer.proofs.sections.Sections.get.Goals as goal

pub returns-in-DebugAbbrev : goal.returns-in-DebugAbbrev
returns-in-DebugAbbrev g c = ap (section_of c.args.self.now) (sym c.in-DebugAbbrev.is)

pub returns-in-DebugStr : goal.returns-in-DebugStr
returns-in-DebugStr g c = ap (section_of c.args.self.now) (sym c.in-DebugStr.is)

pub returns-in-DebugLineStr : goal.returns-in-DebugLineStr
returns-in-DebugLineStr g c = ap (section_of c.args.self.now) (sym c.in-DebugLineStr.is)

pub returns-in-DebugLine : goal.returns-in-DebugLine
returns-in-DebugLine g c = ap (section_of c.args.self.now) (sym c.in-DebugLine.is)

pub returns-in-DebugRanges : goal.returns-in-DebugRanges
returns-in-DebugRanges g c = ap (section_of c.args.self.now) (sym c.in-DebugRanges.is)

pub returns-in-DebugRngLists : goal.returns-in-DebugRngLists
returns-in-DebugRngLists g c = ap (section_of c.args.self.now) (sym c.in-DebugRngLists.is)

pub returns-in-DebugLoc : goal.returns-in-DebugLoc
returns-in-DebugLoc g c = ap (section_of c.args.self.now) (sym c.in-DebugLoc.is)

pub returns-in-DebugLocLists : goal.returns-in-DebugLocLists
returns-in-DebugLocLists g c = ap (section_of c.args.self.now) (sym c.in-DebugLocLists.is)

pub returns-in-DebugInfo : goal.returns-in-DebugInfo
returns-in-DebugInfo g c = ap (section_of c.args.self.now) (sym c.in-DebugInfo.is)

pub returns-in-DebugFrame : goal.returns-in-DebugFrame
returns-in-DebugFrame g c = ap (section_of c.args.self.now) (sym c.in-DebugFrame.is)

pub returns-in-EhFrame : goal.returns-in-EhFrame
returns-in-EhFrame g c = ap (section_of c.args.self.now) (sym c.in-EhFrame.is)
