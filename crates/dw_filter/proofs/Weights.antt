-- What a step of the search leaves to be done.
use Rattle.std.proofs.Common.{◌≡◌, ◌∙◌, sym, ap, subst, ℕ, ◌+◌, ◌<◌, false, List, [], ◌∷◌, ◌++◌, Option, Some, length, refl, arith, length-append}
use Rattle.std.specs.List.{sum_by}
use Rattle.std.specs.Map.{lookup, values_of, remove_entry}
use Rattle.std.specs.Option.{option_map, unwrap_or}
use Rattle.std.specs.Prelude.{nat_eq}
use Rattle.std.specs.List.Sorted.{IsPermutation}
use Rattle.std.specs.declared.alloc.Global.{Global}
use Rattle.std.specs.declared.vec.Vec.{Vec}
use Rattle.std.proofs.lemmas.Bool.Decides.{nat_tests}
use Rattle.std.proofs.lemmas.Map.Entries.{sum_by-remove_entry, sum_by_values_permutation}
use Rattle.dw_base.specs.declared.offsets.UnitSectionOffset.{UnitSectionOffset}

pub nat_eq-apart : (k q : ℕ) → (q ≡ k → ⊥) → nat_eq k q ≡ false
nat_eq-apart k q apart = grind (arith, nat_tests)

pub nil_from_length : {X : Type 0} (xs : List X) → length xs ≡ 0 → xs ≡ []
nil_from_length [] h = refl
nil_from_length (x ∷ xs) h = absurd (omega (arith, h))

-- each entry that is left counts, and so does each edge from one
abbrev pub weight : List (ℕ × Vec UnitSectionOffset Global) → ℕ
weight entries = sum_by (λ leads. length leads.items + 1) (values_of entries)

-- where an entry is reached, its edges are pending, and it is no longer left
pub smaller : (entries entries' : List (ℕ × Vec UnitSectionOffset Global)) (place : ℕ) (leads : Vec UnitSectionOffset Global) (pending rest after : List UnitSectionOffset) (x : UnitSectionOffset)
    → IsPermutation (remove_entry (nat_eq place) entries) entries' → Some leads ≡ lookup (nat_eq place) entries
    → pending ≡ rest ++ x ∷ [] → after ≡ rest ++ leads.items
    → weight entries' + length after < weight entries + length pending
smaller entries entries' place leads pending rest after x e found p a =
    let f : Vec UnitSectionOffset Global → ℕ = λ leads. length leads.items + 1 in
    let total = sum_by-remove_entry f (nat_eq place) entries in
    let total' : weight entries' + (length leads.items + 1) ≡ weight entries =
    ap (λ (n : ℕ). n + (length leads.items + 1)) (sum_by_values_permutation f (remove_entry (nat_eq place) entries) entries' e)
    ∙ subst (λ (o : Option (Vec UnitSectionOffset Global)). weight (remove_entry (nat_eq place) entries) + unwrap_or (option_map f o) 0 ≡ weight entries) (sym found) total in
    let p' : length pending ≡ length (rest ++ x ∷ []) = ap length p in
    let a' : length after ≡ length (rest ++ leads.items) = ap length a in
    omega (arith, length-append {A = UnitSectionOffset})
