use Rattle.dw_convert.specs.Tables.{tables}
use Rattle.dw_convert.proofs.Converting.{AreSoFar}
use Rattle.dw_convert.proofs.attributes.convert_attributes.Given as goal

abbrev pub invariant-attributes : goal.invariant-attributes
invariant-attributes g l = AreSoFar _ _ g.R.Reader.reading (goal.F-post g l.convert_address) (g.C.ConvertDebugInfoRef.entries l.refs) (g.C.ConvertDebugInfoRef.infos l.refs) l.unit l.files l.attributes l.attribute-index (tables l.initial.strings l.initial.line_strings l.initial.ranges l.initial.locations) l.converted.items (tables l.strings l.line_strings l.ranges l.locations)
