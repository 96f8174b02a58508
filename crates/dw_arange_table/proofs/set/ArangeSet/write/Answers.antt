use Rattle.std.specs.Prelude.{false}
use Rattle.std.proofs.lemmas.Result.{err_from_is_err_and}
use Rattle.dw_writer.proofs.Steps.{IsSameWriter-trans}
use Rattle.dw_arange_table.specs.Causes.{set_fails}
use Rattle.dw_arange_table.proofs.TextSteps.{length_refused, place_refused, bytes_refused, set_writes}
use Rattle.dw_arange_table.proofs.set.ArangeSet.write.Goals as goal

pub returns-in_err-write_length-clause-text : goal.returns-in_err-write_length-clause-text
returns-in_err-write_length-clause-text g c =
    let p = err_from_is_err_and c.from_residual.result c.from_residual.ensures.1 in
    let size = rw (← c.self.view_is) at (c.content_size.ensures false) in
    rw (← c.self.view_is, p.1, p.2) (length_refused (g.W.Writer.meaning c.args.w.now) (g.W.Writer.meaning c.write_length.new.w) (g.W.Writer.meaning c.args.w.now).is_plain _ c.content_size.result _ size c.in_err-write_length.ensures.err)

pub returns-in_err-write_u16-clause-text : goal.returns-in_err-write_u16-clause-text
returns-in_err-write_u16-clause-text g c =
    let a = g.W.Writer.meaning c.args.w.now in
    let p = err_from_is_err_and c.from_residual-in_err-write_u16.result c.from_residual-in_err-write_u16.ensures.1 in
    rw (p.1, p.2) (bytes_refused a (g.W.Writer.meaning c.write_length.new.w) (g.W.Writer.meaning c.write_u16.new.self) (set_fails a.is_plain c.args.self.now) _ c.in_ok-write_length.ensures.ok.same c.in_err-write_u16.ensures.err)

pub returns-in_err-write_offset-clause-text : goal.returns-in_err-write_offset-clause-text
returns-in_err-write_offset-clause-text g c =
    let same = IsSameWriter-trans c.in_ok-write_length.ensures.ok.same c.in_ok-write_u16.ensures.ok.same in
    let why = rw c.word_size.ensures at c.in_err-write_offset.ensures.err in
    let p = err_from_is_err_and c.from_residual-in_err-write_offset.result c.from_residual-in_err-write_offset.ensures.1 in
    rw (← c.self.view_is, p.1, p.2) (place_refused (g.W.Writer.meaning c.args.w.now) (g.W.Writer.meaning c.write_u16.new.self) (g.W.Writer.meaning c.write_offset.new.self) _ _ same why)

pub returns-clause-text : goal.returns-clause-text
returns-clause-text g c =
    let offset = rw c.word_size.ensures at c.in_ok-write_offset.ensures.ok in
    let fits = rw c.word_size.ensures at c.in_ok-write_offset.ensures.fits in
    let size = rw (← c.self.view_is) at (c.content_size.ensures false) in
    rw (← c.self.view_is)
    (set_writes c.write_rest.result _ _ _ _ _ _ c.content_size.result size c.in_ok-write_length.ensures.ok c.in_ok-write_length.ensures.fits c.in_ok-write_u16.ensures.ok offset fits.1 (rw (← c.self.view_is) at c.write_rest.ensures.ok) c.write_rest.ensures.err)
