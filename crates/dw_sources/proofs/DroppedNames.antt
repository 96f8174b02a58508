-- Names that are dropped.
use Rattle.std.proofs.Common.{◌≡◌, ◌∙◌, sym, ap, ℕ, Bool}
use Rattle.dw_read.specs.Values.{is_among}
use Rattle.dw_sources.specs.Dropped.{dropped_names, is_dropped}

pub dropped_is : (name k : ℕ) (b : Bool) → name ≡ k → is_among k dropped_names ≡ b → b ≡ is_dropped name
unfolding is_dropped
dropped_is name k b h q = sym (ap (λ (n : ℕ). is_among n dropped_names) h ∙ q)
