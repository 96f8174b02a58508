use Rattle.std.proofs.Common.{◌∙◌, ap, sym, length}
use Rattle.dw_base.specs.Leb128.{uleb}
use Rattle.dw_entries.specs.ContentView.{number_or_past}
use Rattle.dw_entries.proofs.ContentLaws.{long-past}
use Rattle.dw_entries.proofs.value.file_size.Goals as goal

pub returns-in-None : goal.returns-in-None
returns-in-None c = long-past ∙ ap (λ n. length (uleb (number_or_past n))) (sym c.in-None.is)
