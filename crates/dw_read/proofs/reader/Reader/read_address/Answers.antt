use Rattle.std.proofs.Common.{◌∙◌, sym, refl}
use Rattle.std.proofs.lemmas.Result.{IfOk-weaker, IfErr-weaker}
use Rattle.dw_read.proofs.Reasoned.{address_refused, refuses_address, reads_address}
use Rattle.dw_read.proofs.reader.Reader.read_address.Goals as goal

pub returns-then-not-is_address_size-clause-err : goal.returns-then-not-is_address_size-clause-err
returns-then-not-is_address_size-clause-err g c = address_refused (g.Self.Reader.reading c.args.self.now).is_big c.args.size _ (sym c.is_address_size.ensures ∙ c.if-not-is_address_size.true)

pub returns-clause-ok : goal.returns-clause-ok
returns-clause-ok g c =
    IfOk-weaker c.read_uint.result _ _ (λ x h. reads_address (g.Self.Reader.reading c.args.self.now).is_big c.args.size _ _ x (sym c.is_address_size.ensures ∙ c.if-not-is_address_size.false) h) c.read_uint.ensures.ok

pub returns-clause-err : goal.returns-clause-err
returns-clause-err g c =
    IfErr-weaker c.read_uint.result _ _ (λ e h. refuses_address (g.Self.Reader.reading c.args.self.now).is_big c.args.size _ e (sym c.is_address_size.ensures ∙ c.if-not-is_address_size.false) h) c.read_uint.ensures.err

pub returns-then-not-is_address_size-clause-ok : goal.returns-then-not-is_address_size-clause-ok
returns-then-not-is_address_size-clause-ok g c = tt

pub returns-then-not-is_address_size-clause-kept : goal.returns-then-not-is_address_size-clause-kept
returns-then-not-is_address_size-clause-kept g c = refl

pub returns-clause-kept : goal.returns-clause-kept
returns-clause-kept g c = c.read_uint.ensures.kept
