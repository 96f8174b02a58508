-- What is kept, as a set.
use Rattle.std.proofs.Common.{zero, suc, ℕ, IsTrue, ◌↔◌}
use Rattle.dw_base.specs.declared.offsets.UnitSectionOffset.{UnitSectionOffset}
use Rattle.dw_filter.specs.Kept.{Walk, IsKept, IsClosed, IsLeastClosed}

module _ (known known' : UnitSectionOffset → Type 0) (edge edge' : UnitSectionOffset → UnitSectionOffset → Type 0) (required required' : UnitSectionOffset → Type 0) where
  -- where more is known, required and led to, the same walk is there
  pub walk_along : ((q : UnitSectionOffset) → known q → known' q) → ((p q : UnitSectionOffset) → edge p q → edge' p q) → ((q : UnitSectionOffset) → required q → required' q)
      → (n : ℕ) (q : UnitSectionOffset) → Walk known edge required n q → Walk known' edge' required' n q
  walk_along k e r zero q w = (r q w.0, k q w.1)
  walk_along k e r (suc n) q w = (w.0, walk_along k e r n w.0 w.1, e w.0 q w.2, k q w.3)

-- what is kept hangs on nothing but which entries are known and required, and where they lead
pub kept_alike : (known known' : UnitSectionOffset → Type 0) (edge edge' : UnitSectionOffset → UnitSectionOffset → Type 0) (required required' : UnitSectionOffset → Type 0)
    → ((q : UnitSectionOffset) → known q ↔ known' q) → ((p q : UnitSectionOffset) → edge p q ↔ edge' p q) → ((q : UnitSectionOffset) → required q ↔ required' q)
    → (q : UnitSectionOffset) → IsKept known edge required q ↔ IsKept known' edge' required' q
kept_alike known known' edge edge' required required' k e r q = (
  λ w. (w.0, walk_along known known' edge edge' required required' (λ q. (k q).0) (λ p q. (e p q).0) (λ q. (r q).0) w.0 q w.1),
  λ w. (w.0, walk_along known' known edge' edge required' required (λ q. (k q).1) (λ p q. (e p q).1) (λ q. (r q).1) w.0 q w.1),
)

module _ (known : UnitSectionOffset → Type 0) (edge : UnitSectionOffset → UnitSectionOffset → Type 0) (required : UnitSectionOffset → Type 0) where
  -- a walk stays in each closed set
  pub walk_within : (set : UnitSectionOffset → Type 0) → IsClosed known edge required set → (n : ℕ) (q : UnitSectionOffset) → Walk known edge required n q → set q
  walk_within set c zero q w = c.first q w.0 w.1
  walk_within set c (suc n) q w = c.next w.0 q (walk_within set c n w.0 w.1) w.2 w.3

  -- the kept entries are the least closed set
  pub kept_least : (set : UnitSectionOffset → Type 0) → ((q : UnitSectionOffset) → set q ↔ IsKept known edge required q) → IsLeastClosed known edge required set
  kept_least set is = record {
    closed = record {
      first = λ q r k. (is q).1 (0, (r, k));
      next = λ p q s e k. let w = (is p).0 s in (is q).1 (suc w.0, (p, w.1, e, k));
    };
    least = λ other c q s. let w = (is q).0 s in walk_within (λ q. IsTrue (other q)) c w.0 q w.1;
  }
