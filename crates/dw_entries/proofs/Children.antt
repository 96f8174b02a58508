-- What the links say of a child.
use Rattle.std.proofs.Common.{◌≡◌, ◌≢◌, ◌∙◌, sym, ℕ, zero, suc, ◌<◌, List, [], ◌∷◌, Some, None, length, arith}
use Rattle.std.proofs.lemmas.Option.{same_Some}
use Rattle.dw_entries.specs.Entries.{EntryValue, entry_at}
use Rattle.dw_entries.specs.Arena.{AreLinked, HasChild}

-- an entry that has a parent is there
pub parent_within : (es : List EntryValue) (c p : ℕ) → (entry_at es c).parent ≡ Some p → c < length es
parent_within [] c p h = absurd cc
parent_within (e ∷ es) zero p h = omega arith
parent_within (e ∷ es) (suc c) p h = omega (arith, parent_within es c p h)

pub child_within : (es : List EntryValue) → AreLinked es → (p c : ℕ) → HasChild (entry_at es p).children c → c < length es
child_within es links p c h = parent_within es c p (links.own p c h)

-- a child was added
pub child_added : (es : List EntryValue) → AreLinked es → (p c : ℕ) → HasChild (entry_at es p).children c → (entry_at es c).tag ≢ 0
child_added es links p c h blank =
    let lost : None ≡ Some p = sym (links.unadded c blank) ∙ links.own p c h in absurd cc

-- no entry stands in two lists of children
pub one_parent : (es : List EntryValue) → AreLinked es → (p q c : ℕ) → HasChild (entry_at es p).children c → HasChild (entry_at es q).children c → p ≡ q
one_parent es links p q c h k = same_Some p q (sym (links.own p c h) ∙ links.own q c k)

-- the root is no child
pub root_apart : (es : List EntryValue) → AreLinked es → (p : ℕ) → HasChild (entry_at es p).children 0 → ⊥
root_apart es links p h =
    let lost : None ≡ Some p = sym links.root ∙ links.own p 0 h in absurd cc
