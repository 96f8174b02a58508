-- Which entries are kept, of those that are known: those that are required, and those to which a kept one leads.
use Rattle.std.specs.Prelude.{ℕ, zero, suc, Bool, IsTrue}
use Rattle.dw_base.specs.declared.offsets.UnitSectionOffset.{UnitSectionOffset}

module _ (known : UnitSectionOffset → Type 0) (edge : UnitSectionOffset → UnitSectionOffset → Type 0) (required : UnitSectionOffset → Type 0) where
  -- a walk of n edges leads from a required entry to q, and all its entries are known
  abbrev pub Walk : ℕ → UnitSectionOffset → Type 0
  Walk zero q = required q × known q
  Walk (suc n) q = (p : UnitSectionOffset) × Walk n p × edge p q × known q

  abbrev pub IsKept : UnitSectionOffset → Type 0
  IsKept q = (n : ℕ) × Walk n q

  -- a set has the required entries that are known, and with an entry the known ones to which it leads
  pub record IsClosed (set : UnitSectionOffset → Type 0) : Type 0 where
    pub first : (q : UnitSectionOffset) → required q → known q → set q
    pub next : (p q : UnitSectionOffset) → set p → edge p q → known q → set q

  -- it is such a set, and each other one, told by a test, has all that it has
  pub record IsLeastClosed (set : UnitSectionOffset → Type 0) : Type 0 where
    pub closed : IsClosed set
    pub least : (other : UnitSectionOffset → Bool) → IsClosed (λ q. IsTrue (other q)) → (q : UnitSectionOffset) → set q → IsTrue (other q)
