use Rattle.std.proofs.Common.{Ok, refl}
use Rattle.dw_writer.proofs.VisitSteps.{Goes-on, Goes-ends}
use Rattle.dw_writer.proofs.sections.Sections.for_each_mut.Goals as goal

pub returns : goal.returns
returns g c = (
  c.call_after.new.f,
  Goes-on _ _ c.args.f c.call_after-done.new.f _ _ _ _ (Ok tt) c.call_after-done.result _ refl c.call_after-done.ensures.called c.call_after-done.ensures.failed
      (Goes-on _ _ c.call_after-done.new.f c.call_after-done-2.new.f _ _ _ _ c.call_after-done.result c.call_after-done-2.result _ refl c.call_after-done-2.ensures.called c.call_after-done-2.ensures.failed
      (Goes-on _ _ c.call_after-done-2.new.f c.call_after-done-3.new.f _ _ _ _ c.call_after-done-2.result c.call_after-done-3.result _ refl c.call_after-done-3.ensures.called c.call_after-done-3.ensures.failed
      (Goes-on _ _ c.call_after-done-3.new.f c.call_after-done-4.new.f _ _ _ _ c.call_after-done-3.result c.call_after-done-4.result _ refl c.call_after-done-4.ensures.called c.call_after-done-4.ensures.failed
      (Goes-on _ _ c.call_after-done-4.new.f c.call_after-done-5.new.f _ _ _ _ c.call_after-done-4.result c.call_after-done-5.result _ refl c.call_after-done-5.ensures.called c.call_after-done-5.ensures.failed
      (Goes-on _ _ c.call_after-done-5.new.f c.call_after-done-6.new.f _ _ _ _ c.call_after-done-5.result c.call_after-done-6.result _ refl c.call_after-done-6.ensures.called c.call_after-done-6.ensures.failed
      (Goes-on _ _ c.call_after-done-6.new.f c.call_after-done-7.new.f _ _ _ _ c.call_after-done-6.result c.call_after-done-7.result _ refl c.call_after-done-7.ensures.called c.call_after-done-7.ensures.failed
      (Goes-on _ _ c.call_after-done-7.new.f c.call_after-done-8.new.f _ _ _ _ c.call_after-done-7.result c.call_after-done-8.result _ refl c.call_after-done-8.ensures.called c.call_after-done-8.ensures.failed
      (Goes-on _ _ c.call_after-done-8.new.f c.call_after-done-9.new.f _ _ _ _ c.call_after-done-8.result c.call_after-done-9.result _ refl c.call_after-done-9.ensures.called c.call_after-done-9.ensures.failed
      (Goes-on _ _ c.call_after-done-9.new.f c.call_after-done-10.new.f _ _ _ _ c.call_after-done-9.result c.call_after-done-10.result _ refl c.call_after-done-10.ensures.called c.call_after-done-10.ensures.failed
      (Goes-on _ _ c.call_after-done-10.new.f c.call_after.new.f _ _ _ _ c.call_after-done-10.result c.call_after.result _ refl c.call_after.ensures.called c.call_after.ensures.failed
      (Goes-ends _ _ c.call_after.new.f c.call_after.result))))))))))),
)
