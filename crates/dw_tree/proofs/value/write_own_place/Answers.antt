use Rattle.dw_writer.proofs.Outcomes.{OnOk-map, IfErr-map}
use Rattle.dw_tree.proofs.ValueRefusals.{offset_sound, number_because}
use Rattle.std.proofs.Common.{ap, not, sym, ◌∙◌}
use Rattle.dw_base.specs.Numbers.{word_of}
use Rattle.dw_writer.specs.Causes.{offset_fits}
use Rattle.dw_entries.specs.Content.{offset_fails}
use Rattle.dw_tree.proofs.Drafted.{width-word}
use Rattle.dw_tree.proofs.value.write_own_place.Goals as goal

pub returns-clause-sound : goal.returns-clause-sound
returns-clause-sound g c =
    let plain = (g.W.Writer.meaning c.args.w.now).is_plain in
    let is = sym c.own_place.ensures ∙ c.in-Some.is in
    let fits = rw c.word_size.ensures at c.write_offset.ensures.fits in
    rw is
    (OnOk-map c.write_offset.result fits (λ h. offset_sound (word_of c.args.format) plain c.in-Some.place h.1))

pub returns-clause-err : goal.returns-clause-err
returns-clause-err g c =
    let plain = (g.W.Writer.meaning c.args.w.now).is_plain in
    let w = word_of c.args.format in
    let is = sym c.own_place.ensures ∙ c.in-Some.is in
    let refused = rw c.word_size.ensures at c.write_offset.ensures.err in
    rw is
    (IfErr-map c.write_offset.result refused (number_because (g.W.Writer.meaning c.args.w.now) (g.W.Writer.meaning c.write_offset.new.self) w (offset_fits plain w c.in-Some.place) (offset_fails w plain c.in-Some.place) (width-word c.args.format) (λ k. ap not k)))
