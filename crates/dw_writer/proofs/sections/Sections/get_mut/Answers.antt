use Rattle.std.proofs.Common.{◌∙◌, Some, sym, ap, inl}
use Rattle.dw_writer.specs.Sections.{section_of, with_section}
use Rattle.dw_writer.proofs.sections.Sections.get_mut.Goals as goal

pub returns-in-DebugAbbrev : goal.returns-in-DebugAbbrev
returns-in-DebugAbbrev g c = (
  ap (λ id. inl (c.section_mut.result.ghost_name, with_section c.args.self.now id)) (sym c.in-DebugAbbrev.is),
  record { lends = tt; value = ap Some c.section_mut.ensures.value ∙ ap (section_of c.args.self.now) (sym c.in-DebugAbbrev.is) },
)

pub returns-in-DebugStr : goal.returns-in-DebugStr
returns-in-DebugStr g c = (
  ap (λ id. inl (c.section_mut-in-DebugStr.result.ghost_name, with_section c.args.self.now id)) (sym c.in-DebugStr.is),
  record { lends = tt; value = ap Some c.section_mut-in-DebugStr.ensures.value ∙ ap (section_of c.args.self.now) (sym c.in-DebugStr.is) },
)

pub returns-in-DebugLineStr : goal.returns-in-DebugLineStr
returns-in-DebugLineStr g c = (
  ap (λ id. inl (c.section_mut-in-DebugLineStr.result.ghost_name, with_section c.args.self.now id)) (sym c.in-DebugLineStr.is),
  record { lends = tt; value = ap Some c.section_mut-in-DebugLineStr.ensures.value ∙ ap (section_of c.args.self.now) (sym c.in-DebugLineStr.is) },
)

pub returns-in-DebugLine : goal.returns-in-DebugLine
returns-in-DebugLine g c = (
  ap (λ id. inl (c.section_mut-in-DebugLine.result.ghost_name, with_section c.args.self.now id)) (sym c.in-DebugLine.is),
  record { lends = tt; value = ap Some c.section_mut-in-DebugLine.ensures.value ∙ ap (section_of c.args.self.now) (sym c.in-DebugLine.is) },
)

pub returns-in-DebugRanges : goal.returns-in-DebugRanges
returns-in-DebugRanges g c = (
  ap (λ id. inl (c.section_mut-in-DebugRanges.result.ghost_name, with_section c.args.self.now id)) (sym c.in-DebugRanges.is),
  record { lends = tt; value = ap Some c.section_mut-in-DebugRanges.ensures.value ∙ ap (section_of c.args.self.now) (sym c.in-DebugRanges.is) },
)

pub returns-in-DebugRngLists : goal.returns-in-DebugRngLists
returns-in-DebugRngLists g c = (
  ap (λ id. inl (c.section_mut-in-DebugRngLists.result.ghost_name, with_section c.args.self.now id)) (sym c.in-DebugRngLists.is),
  record { lends = tt; value = ap Some c.section_mut-in-DebugRngLists.ensures.value ∙ ap (section_of c.args.self.now) (sym c.in-DebugRngLists.is) },
)

pub returns-in-DebugLoc : goal.returns-in-DebugLoc
returns-in-DebugLoc g c = (
  ap (λ id. inl (c.section_mut-in-DebugLoc.result.ghost_name, with_section c.args.self.now id)) (sym c.in-DebugLoc.is),
  record { lends = tt; value = ap Some c.section_mut-in-DebugLoc.ensures.value ∙ ap (section_of c.args.self.now) (sym c.in-DebugLoc.is) },
)

pub returns-in-DebugLocLists : goal.returns-in-DebugLocLists
returns-in-DebugLocLists g c = (
  ap (λ id. inl (c.section_mut-in-DebugLocLists.result.ghost_name, with_section c.args.self.now id)) (sym c.in-DebugLocLists.is),
  record { lends = tt; value = ap Some c.section_mut-in-DebugLocLists.ensures.value ∙ ap (section_of c.args.self.now) (sym c.in-DebugLocLists.is) },
)

pub returns-in-DebugInfo : goal.returns-in-DebugInfo
returns-in-DebugInfo g c = (
  ap (λ id. inl (c.section_mut-in-DebugInfo.result.ghost_name, with_section c.args.self.now id)) (sym c.in-DebugInfo.is),
  record { lends = tt; value = ap Some c.section_mut-in-DebugInfo.ensures.value ∙ ap (section_of c.args.self.now) (sym c.in-DebugInfo.is) },
)

pub returns-in-DebugFrame : goal.returns-in-DebugFrame
returns-in-DebugFrame g c = (
  ap (λ id. inl (c.section_mut-in-DebugFrame.result.ghost_name, with_section c.args.self.now id)) (sym c.in-DebugFrame.is),
  record { lends = tt; value = ap Some c.section_mut-in-DebugFrame.ensures.value ∙ ap (section_of c.args.self.now) (sym c.in-DebugFrame.is) },
)

pub returns-in-EhFrame : goal.returns-in-EhFrame
returns-in-EhFrame g c = (
  ap (λ id. inl (c.section_mut-in-EhFrame.result.ghost_name, with_section c.args.self.now id)) (sym c.in-EhFrame.is),
  record { lends = tt; value = ap Some c.section_mut-in-EhFrame.ensures.value ∙ ap (section_of c.args.self.now) (sym c.in-EhFrame.is) },
)
