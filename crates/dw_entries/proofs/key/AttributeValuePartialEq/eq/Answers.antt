use Rattle.std.proofs.Common.{◌≡◌, ◌∙◌, sym, ap, subst, IsTrue}
use Rattle.dw_entries.specs.Keys.{key_eq, value_key}
use Rattle.dw_entries.specs.Equality.{key_in, value_eq, value_decides}
use Rattle.dw_entries.proofs.key.AttributeValuePartialEq.eq.Goals as goal

pub returns-clause-value : goal.returns-clause-value
returns-clause-value c =
    let v = c.args.self.now in
    let w = c.args.other.now in
    let is : c.is.result ≡ value_eq v w = c.is.ensures ∙ ap (λ k. key_eq k (key_in c.key-2.result)) c.key.ensures ∙ ap (key_eq (value_key v)) c.key-2.ensures in
    subst (λ b. (IsTrue b → v ≡ w) × (v ≡ w → IsTrue b)) (sym is) (value_decides v w)
