use Rattle.std.proofs.Common.{ap, sym}
use Rattle.dw_writer.proofs.Outcomes.{OnOk-map}
use Rattle.dw_writer.proofs.WriteLaws.{Drafts-is, Drafts-reference}
use Rattle.dw_tree.specs.UnitText.{info_draft}
use Rattle.dw_tree.proofs.value.write_info_reference.Goals as goal

pub returns-clause-ok : goal.returns-clause-ok
returns-clause-ok g c =
    OnOk-map c.push.result c.push.ensures.ok
    (λ pushed. Drafts-is (Drafts-reference c.args.size c.len-offset.result c.in-Entry.unit c.in-Entry.entry c.in_ok-write_udata.ensures.ok c.in_ok-write_udata.ensures.fits.0 c.in_ok-write_udata.ensures.fits.1 c.len-offset.ensures pushed)
    (ap (info_draft c.args.size) (sym c.in-Entry.is)))

pub returns-clause-same : goal.returns-clause-same
returns-clause-same g c = c.in_ok-write_udata.ensures.same
