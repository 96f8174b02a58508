use Rattle.std.specs.List.{AllWithin}
use Rattle.std.proofs.Common.{◌≤◌}
use Rattle.dw_base.specs.declared.constants.DwLnct.{DwLnct}
use Rattle.dw_read_lines.specs.FileEntryFormatIters.{OfParts}
use Rattle.dw_convert_lines.specs.FormatLists.{times_told, known_contents}
use Rattle.dw_convert_lines.proofs.format_list.tells_each_once.Given as goal

abbrev pub invariant-contents : goal.invariant-contents
invariant-contents g l = OfParts g.R.Reader.reading l.entries (λ parts. AllWithin (λ (content : DwLnct). times_told content parts ≤ 1) known_contents 0 l.content-index)
