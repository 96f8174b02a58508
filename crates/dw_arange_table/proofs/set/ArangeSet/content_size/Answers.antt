use Rattle.std.proofs.Common.{◌≡◌, ◌∙◌, sym, length}
use Rattle.dw_arange_table.proofs.WriteSteps.{length-content}
use Rattle.dw_arange_table.proofs.set.ArangeSet.content_size.Goals as goal

pub returns : goal.returns
returns c = λ big.
    let count : c.len.result ≡ length c.self.inside.ranges.items = c.len.ensures ∙ c.self.inside.ranges.ok.0 in
    rw (c.word_size.ensures, c.padding-padding.ensures.is, count, ← c.self.view_is) (sym (length-content big _))
