-- Rows that compute: the entries of a unit with their places, and what is kept of them.
use Rattle.std.proofs.Common.{◌≡◌, ◌∙◌, sym, ap, subst, ℕ, zero, suc, ◌+◌, ◌≤◌, Bool, true, false, List, [], ◌∷◌, slice_get, Some, ◌⊎◌, inl, inr, refl, arith}
use Rattle.std.proofs.lemmas.Bool.{false≢true}
use Rattle.std.proofs.lemmas.Option.{same_Some}
use Rattle.dw_base.specs.Entries.{Null, Open, ReadEntry, Row}
use Rattle.dw_base.specs.declared.offsets.UnitSectionOffset.{UnitSectionOffset}
use Rattle.dw_entry_ids.specs.Plans.{plans_of}
use Rattle.dw_filter.specs.Kept.{IsKept, Walk}
use Rattle.dw_filter.specs.Children.{leads_to_child}
use Rattle.dw_filter.specs.UnitGraph.{AddsEdge, HasEdge, IsKnown, IsRead, Placed, placed_in, tag_of}
use Rattle.dw_filter.proofs.Kept.{walk_within}

abbrev entry : ℕ → Bool → ReadEntry
entry tag children = record { code = 1; tag = tag; has_children = children; attributes = [] }

abbrev opens : ℕ → ℕ → ReadEntry → ℕ → Row
opens from depth x to = record { from = from; depth = depth; mark = Open x; to = to }

abbrev closes : ℕ → ℕ → Row
closes from depth = record { from = from; depth = depth; mark = Null; to = from + 1 }

-- a unit at 0x40 whose root stands at 12: a namespace with two functions, the first of which has a variable, and two base types
abbrev rows : List Row
rows =
    opens 12 0 (entry 0x11 true) 13 ∷ opens 13 1 (entry 0x39 true) 14 ∷ opens 14 2 (entry 0x2e true) 15 ∷ opens 15 3 (entry 0x34 false) 21 ∷ closes 21 3
    ∷ opens 22 2 (entry 0x2e false) 23 ∷ closes 23 2 ∷ opens 24 1 (entry 0x24 false) 25 ∷ opens 25 1 (entry 0x24 false) 26 ∷ closes 26 1 ∷ []

abbrev placed : ℕ → ℕ → ReadEntry → ℕ → Placed
placed number parent x place = (record { number = number; parent = parent; entry = x }, place)

abbrev variable : Placed
variable = placed 3 2 (entry 0x34 false) 0x4f

abbrev function : Placed
function = placed 2 1 (entry 0x2e true) 0x4e

abbrev namespace : Placed
namespace = placed 1 0 (entry 0x39 true) 0x4d

abbrev base : Placed
base = placed 5 0 (entry 0x24 false) 0x58

abbrev entries : List Placed
entries =
    placed 0 0 (entry 0x11 true) 0x4c ∷ namespace ∷ function ∷ variable ∷ placed 4 1 (entry 0x2e false) 0x56 ∷ base ∷ placed 6 0 (entry 0x24 false) 0x59 ∷ []

placed_there : placed_in 0x40 rows ≡ entries
unfolding plans_of
placed_there = refl

abbrev at : ℕ → UnitSectionOffset
at n = record { 0 = n }

-- the variable's expression names the first base type, and the variable is required
abbrev names : ReadEntry → UnitSectionOffset → Type 0
names x q = (x.tag ≡ 0x34) × (q ≡ at 0x58)

abbrev IsKeptHere : UnitSectionOffset → Type 0
IsKeptHere = IsKept (IsKnown entries 6) (HasEdge entries names 6) (λ q. q ≡ at 0x4f)

abbrev WalkHere : ℕ → UnitSectionOffset → Type 0
WalkHere = Walk (IsKnown entries 6) (HasEdge entries names 6) (λ q. q ≡ at 0x4f)

variable_walk : WalkHere 0 (at 0x4f)
variable_walk = (refl, (3, variable, record { stands = refl; behind_root = omega arith; counted = omega arith }, refl))

function_walk : WalkHere 1 (at 0x4e)
function_walk = (
  at 0x4f,
  variable_walk,
  (3, variable, record { stands = refl; behind_root = omega arith; counted = omega arith }, inl (refl, inl (function, record { stands = refl; not_root = omega arith }, refl))),
  (2, function, record { stands = refl; behind_root = omega arith; counted = omega arith }, refl),
)

abbrev known_at : (n : ℕ) (x : Placed) → slice_get entries n ≡ Some x → 1 ≤ n → n ≤ 6 → IsRead entries 6 n x
known_at n x is behind within = record { stands = is; behind_root = behind; counted = within }

-- so these are kept
namespace_kept : IsKeptHere (at 0x4d)
namespace_kept = (
  2,
  (
    at 0x4e,
    function_walk,
    (2, function, known_at 2 function refl (omega arith) (omega arith), inl (refl, inl (namespace, record { stands = refl; not_root = omega arith }, refl))),
    (1, namespace, known_at 1 namespace refl (omega arith) (omega arith), refl),
  ),
)

base_kept : IsKeptHere (at 0x58)
base_kept = (
  1,
  (
    at 0x4f,
    variable_walk,
    (3, variable, known_at 3 variable refl (omega arith) (omega arith), inl (refl, inr (refl, refl))),
    (5, base, known_at 5 base refl (omega arith) (omega arith), refl),
  ),
)

-- and no others: a namespace leads to no function, and nothing names the second base type
abbrev IsThere : UnitSectionOffset → Type 0
IsThere q = (q.0 ≡ 0x4d) ⊎ ((q.0 ≡ 0x4e) ⊎ ((q.0 ≡ 0x4f) ⊎ (q.0 ≡ 0x58)))

not_other : (q : UnitSectionOffset) → q.0 ≡ 0x56 → IsThere q → ⊥
not_other q e (inl h) = omega (arith, e, h)
not_other q e (inr (inl h)) = omega (arith, e, h)
not_other q e (inr (inr (inl h))) = omega (arith, e, h)
not_other q e (inr (inr (inr h))) = omega (arith, e, h)

abbrev Edge : Placed → UnitSectionOffset → UnitSectionOffset → Type 0
Edge = AddsEdge entries names

-- what stands under the root and names nothing leads nowhere
alone : (x : Placed) (p q : UnitSectionOffset) → x.0.parent ≡ 0 → (x.0.entry.tag ≡ 0x34 → ⊥) → Edge x p q → ⊥
alone x p q z n (inl (b, inl u)) = let l : 1 ≤ x.0.parent = u.1.not_root in omega (arith, l, z)
alone x p q z n (inl (b, inr m)) = n m.0
alone x p q z n (inr (l, b)) = let m : 1 ≤ x.0.parent = l.1.not_root in omega (arith, m, z)

from_function : (p q : UnitSectionOffset) → Edge function p q → IsThere q
from_function p q (inl (b, inl u)) = inl (sym (ap (λ (t : Placed). t.1) (same_Some namespace u.0 u.1.stands) ∙ u.2))
from_function p q (inl (b, inr n)) = absurd (let e : 0x2e ≡ 0x34 = n.0 in omega (arith, e))
from_function p q (inr (l, b)) = inr (inl (sym b))

from_variable : (p q : UnitSectionOffset) → Edge variable p q → IsThere q
from_variable p q (inl (b, inl u)) = inr (inl (sym (ap (λ (t : Placed). t.1) (same_Some function u.0 u.1.stands) ∙ u.2)))
from_variable p q (inl (b, inr n)) = inr (inr (inr (ap (λ (u : UnitSectionOffset). u.0) n.1)))
from_variable p q (inr (l, b)) = inr (inr (inl (sym b)))

abbrev other : Placed
other = placed 4 1 (entry 0x2e false) 0x56

from_other : (p q : UnitSectionOffset) → IsThere p → Edge other p q → ⊥
from_other p q t (inl (b, h)) = not_other p (sym b) t
from_other p q t (inr (l, b)) =
    false≢true (ap (λ (t : Placed). leads_to_child (tag_of t) (entry 0x2e false)) (same_Some namespace l.0 l.1.stands) ∙ l.3)

led : (n : ℕ) (x : Placed) (p q : UnitSectionOffset) → IsRead entries 6 n x → IsThere p → Edge x p q → IsThere q
led zero x p q r t e = absurd (let l : 1 ≤ 0 = r.behind_root in omega (arith, l))
led (suc zero) x p q r t e = absurd (alone namespace p q refl (λ (h : 0x39 ≡ 0x34). omega (arith, h)) (subst (λ (y : Placed). Edge y p q) (sym (same_Some namespace x r.stands)) e))
led (suc (suc zero)) x p q r t e = from_function p q (subst (λ (y : Placed). Edge y p q) (sym (same_Some function x r.stands)) e)
led (suc (suc (suc zero))) x p q r t e = from_variable p q (subst (λ (y : Placed). Edge y p q) (sym (same_Some variable x r.stands)) e)
led (suc (suc (suc (suc zero)))) x p q r t e = absurd (from_other p q t (subst (λ (y : Placed). Edge y p q) (sym (same_Some other x r.stands)) e))
led (suc (suc (suc (suc (suc zero))))) x p q r t e = absurd (alone base p q refl (λ (h : 0x24 ≡ 0x34). omega (arith, h)) (subst (λ (y : Placed). Edge y p q) (sym (same_Some base x r.stands)) e))
led (suc (suc (suc (suc (suc (suc zero)))))) x p q r t e =
    absurd (alone (placed 6 0 (entry 0x24 false) 0x59) p q refl (λ (h : 0x24 ≡ 0x34). omega (arith, h)) (subst (λ (y : Placed). Edge y p q) (sym (same_Some (placed 6 0 (entry 0x24 false) 0x59) x r.stands)) e))
led (suc (suc (suc (suc (suc (suc (suc n))))))) x p q r t e = absurd (let l : suc (suc (suc (suc (suc (suc (suc n)))))) ≤ 6 = r.counted in omega (arith, l))

others_not : (q : UnitSectionOffset) → IsKeptHere q → IsThere q
others_not q kept =
    walk_within (IsKnown entries 6) (HasEdge entries names 6) (λ q. q ≡ at 0x4f) IsThere
    (record { first = λ q r k. inr (inr (inl (ap (λ (u : UnitSectionOffset). u.0) r))); next = λ p q t e k. led e.0 e.1 p q e.2 t e.3 }) kept.0 q kept.1
