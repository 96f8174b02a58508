-- The known entries of a file, where they lead, and those that are required.
use Rattle.std.specs.Prelude.{◌≡◌, ℕ, List, Option, Some, IsSome, map, nat_eq}
use Rattle.std.specs.Option.{option_map}
use Rattle.std.specs.List.{Contains}
use Rattle.std.specs.Map.{lookup}
use Rattle.std.specs.declared.alloc.Global.{Global}
use Rattle.std.specs.declared.vec.Vec.{Vec}
use Rattle.dw_base.specs.declared.offsets.UnitSectionOffset.{UnitSectionOffset}
use Rattle.dw_filter.specs.Kept.{IsKept, IsLeastClosed}

-- where entries lead, by their places; None where no entry is known
abbrev pub Targets : Type 0
Targets = ℕ → Option (List UnitSectionOffset)

-- the known entries, each once, with the entries that it leads to, and the required entries
pub record Dependencies : Type 0 where
  pub known : List (ℕ × List UnitSectionOffset)
  pub required : List UnitSectionOffset

abbrev pub targets : Dependencies → Targets
targets d place = lookup (nat_eq place) d.known

-- q is known
abbrev pub Known : Targets → UnitSectionOffset → Type 0
Known t q = IsSome (t q.0)

-- p is known, and leads to q
abbrev pub Leads : Targets → UnitSectionOffset → UnitSectionOffset → Type 0
Leads t p q = (leads : List UnitSectionOffset) × (t p.0 ≡ Some leads) × Contains leads q

-- q is kept, where entries lead so and these are required
abbrev pub KeptAmong : Targets → List UnitSectionOffset → UnitSectionOffset → Type 0
KeptAmong t required = IsKept (Known t) (Leads t) (Contains required)

abbrev pub Kept : Dependencies → UnitSectionOffset → Type 0
Kept d = KeptAmong (targets d) d.required

-- these entries are the least set with the required known ones that is closed along edges to known ones
abbrev pub IsLeastKept : Dependencies → List UnitSectionOffset → Type 0
IsLeastKept d entries = IsLeastClosed (Known (targets d)) (Leads (targets d)) (Contains d.required) (Contains entries)

-- the entry at this place leads to these ones, and all else is as before
pub record IsPut (old new : Dependencies) (place : ℕ) (leads : List UnitSectionOffset) : Type 0 where
  pub here : targets new place ≡ Some leads
  pub elsewhere : (q : ℕ) → (q ≡ place → ⊥) → targets new q ≡ targets old q
  pub required : new.required ≡ old.required

-- the known entries of a map, with plain lists
abbrev pub known_of : List (ℕ × Vec UnitSectionOffset Global) → List (ℕ × List UnitSectionOffset)
known_of entries = map (λ e. (e.0, e.1.items)) entries

-- where the entries of a map lead
abbrev pub targets_at : List (ℕ × Vec UnitSectionOffset Global) → Targets
targets_at entries place = option_map (λ v. v.items) (lookup (nat_eq place) entries)
