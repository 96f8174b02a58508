use Rattle.std.proofs.Common.{◌∙◌, sym, refl}
use Rattle.std.proofs.lemmas.Bool.{eqb-true, eqb-false}
use Rattle.dw_convert_lines.proofs.FormatWalks.{plain_first, plain_end, plain_more, not_plain}
use Rattle.dw_convert_lines.proofs.format_list.has_no_constants.Goals as goal

pub formats-init : goal.formats-init
formats-init g c = λ parts has. plain_first g.R.Reader.reading c.formats-formats.result _ (c.formats-formats.ensures.parts parts has)

pub formats-preserved : goal.formats-preserved
formats-preserved g c = λ parts has.
    let w = c.formats.invariant parts has in
    plain_more g.R.Reader.reading c.formats.formats _ c.next.new.self c.in-Some.format w (c.in-Some.ensures.part w.more w.left) (eqb-false _ _ (sym c.eq.ensures ∙ c.if-eq.false))

pub returns-then-eq : goal.returns-then-eq
returns-then-eq g c = λ parts has.
    let w = c.formats.invariant parts has in
    (λ t. absurd (cc), λ a. absurd (not_plain g.R.Reader.reading c.formats.formats _ c.next.new.self c.in-Some.format w (c.in-Some.ensures.part w.more w.left) (eqb-true _ _ (sym c.eq.ensures ∙ c.if-eq.true)) a))

pub returns : goal.returns
returns g c = λ parts has.
    let w = c.formats.invariant parts has in
    (λ t. plain_end g.R.Reader.reading c.formats.formats _ w (c.in_default.ensures.end w.more w.left), λ a. refl)
