-- The look-ups of a map, in its entries with plain lists.
use Rattle.std.proofs.Common.{◌≡◌, ◌∙◌, sym, ap, ℕ, Bool, true, false, cond, List, [], ◌∷◌, Some, refl}
use Rattle.std.specs.Option.{option_map}
use Rattle.std.specs.Prelude.{nat_eq}
use Rattle.std.specs.Map.{lookup, set_value}
use Rattle.std.specs.declared.alloc.Global.{Global}
use Rattle.std.specs.declared.vec.Vec.{Vec}
use Rattle.std.proofs.lemmas.Option.{same_Some}
use Rattle.std.proofs.lemmas.Map.Made.{lookup-map_values}
use Rattle.dw_base.specs.declared.offsets.UnitSectionOffset.{UnitSectionOffset}
use Rattle.dw_filter.specs.Dependencies.{known_of}

pub lookup_plain : (entries : List (ℕ × Vec UnitSectionOffset Global)) (place : ℕ)
    → lookup (nat_eq place) (known_of entries) ≡ option_map (λ (v : Vec UnitSectionOffset Global). v.items) (lookup (nat_eq place) entries)
lookup_plain entries place = lookup-map_values (λ (v : Vec UnitSectionOffset Global). v.items) (nat_eq place) entries

-- a value that is written back with the same items changes none of them
pub entries_same : (test : ℕ → Bool) (entries : List (ℕ × Vec UnitSectionOffset Global)) (v w : Vec UnitSectionOffset Global)
    → lookup test entries ≡ Some v → w.items ≡ v.items → known_of (set_value test entries w) ≡ known_of entries
entries_same test [] v w found same = refl
entries_same test (x ∷ es) v w found same =
    let P : Bool → Type 0 = λ b. cond b (Some x.1) (lookup test es) ≡ Some v → known_of (cond b ((x.0, w) ∷ es) (x ∷ set_value test es w)) ≡ known_of (x ∷ es) in
    let all : (b : Bool) → P b = λ b. elim b as P [
      | true ↦ λ l. (let e : w.items ≡ x.1.items = same ∙ ap (λ (u : Vec UnitSectionOffset Global). u.items) (sym (same_Some x.1 v l)) in ap (λ (items : List UnitSectionOffset). let pair : ℕ × List UnitSectionOffset = (x.0, items) in pair ∷ known_of es) e)
      | false ↦ λ l. (let pair : ℕ × List UnitSectionOffset = (x.0, x.1.items) in ap (λ (r : List (ℕ × List UnitSectionOffset)). pair ∷ r) (entries_same test es v w l same))
    ] in
    all (test x.0) found
