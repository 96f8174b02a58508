-- Which locations and location lists are equal, and what a hasher is fed of one: their ranges and expressions.
use Rattle.std.specs.Prelude.{◌≡◌, ◌&&◌, ◌++◌, Bool, true, List, [], Option, Some, None, refl}
use Rattle.std.specs.Bool.{Decides}
use Rattle.std.specs.Option.{option_eq}
use Rattle.std.specs.Cmp.{IsEquivalence, IsPartialEquivalence, partial_equiv_from_equiv, decided}
use Rattle.std.specs.Cmp.Lexicographic.{pointwise, pointwise_decides}
use Rattle.std.specs.Hash as fed
use Rattle.std.proofs.Common.{sym, ◌∙◌, ap}
use Rattle.std.proofs.lemmas.Bool.Decides.{Decides-like, Decides-and}
use Rattle.dw_expr.specs.Trees.{Node}
use Rattle.dw_expr.specs.Equality.{nodes_eq, nodes_hash, nodes_decides}
use Rattle.dw_lists.specs.declared.range.Range.{Range}
use Rattle.dw_lists.specs.declared.range.Range.TheVariants as built
use Rattle.dw_lists.specs.declared.location.Location.{Location}
use Rattle.dw_lists.specs.declared.location.Location.TheVariants as located
use Rattle.dw_lists.specs.Equal.{range_eq, range_fed, range_Decides}
use Rattle.dw_lists.specs.Parts.{Part, location_part}

-- the same range and the same expression
abbrev pub part_eq : Part → Part → Bool
part_eq p q = option_eq range_eq p.range q.range && option_eq nodes_eq p.expression q.expression

abbrev pub location_eq : Location → Location → Bool
location_eq a b = part_eq (location_part a) (location_part b)

-- the same items in the same order
abbrev pub locations_eq : List Location → List Location → Bool
locations_eq a b = pointwise location_eq a b

abbrev pub part_fed : Part → fed.HashWrites
part_fed p = fed.option range_fed p.range ++ fed.option nodes_hash p.expression

abbrev pub location_fed : Location → fed.HashWrites
location_fed a = part_fed (location_part a)

abbrev pub locations_fed : List Location → fed.HashWrites
locations_fed list = fed.slice location_fed list

-- the location of a part
location_by : Option Range → Option (List Node) → Location
location_by (Some (built.BaseAddress a)) x = located.BaseAddress a
location_by (Some (built.OffsetPair m n)) (Some x) = located.OffsetPair m n x
location_by (Some (built.StartEnd a b)) (Some x) = located.StartEnd a b x
location_by (Some (built.StartLength a k)) (Some x) = located.StartLength a k x
location_by None (Some x) = located.DefaultLocation x
location_by r None = located.DefaultLocation []

by_part : (a : Location) → location_by (location_part a).range (location_part a).expression ≡ a
unfolding location_by
by_part (located.BaseAddress a) = refl
by_part (located.OffsetPair m n x) = refl
by_part (located.StartEnd a b x) = refl
by_part (located.StartLength a k x) = refl
by_part (located.DefaultLocation x) = refl

option_Decides : {A : Type 0} (eq : A → A → Bool) → ((a b : A) → Decides (eq a b) (a ≡ b)) → (p q : Option A) → Decides (option_eq eq p q) (p ≡ q)
option_Decides eq d None None = (λ e. refl, λ e. refl)
option_Decides eq d None (Some b) = (λ e. cc, λ e. cc)
option_Decides eq d (Some a) None = (λ e. cc, λ e. cc)
option_Decides eq d (Some a) (Some b) = Decides-like (eq a b) (λ e. ap Some e) (λ e. cc) (d a b)

pub location_Decides : (a b : Location) → Decides (location_eq a b) (a ≡ b)
location_Decides a b =
    let p = location_part a in
    let q = location_part b in
    Decides-like (part_eq p q) (λ e. sym (by_part a) ∙ (λ i. location_by (e.0 i) (e.1 i)) ∙ by_part b)
    (λ e. (ap (λ c. (location_part c).range) e, ap (λ c. (location_part c).expression) e))
    (Decides-and (option_eq range_eq p.range q.range) (option_eq nodes_eq p.expression q.expression)
    (option_Decides range_eq range_Decides p.range q.range) (option_Decides nodes_eq nodes_decides p.expression q.expression))

pub locations_Decides : (a b : List Location) → Decides (locations_eq a b) (a ≡ b)
locations_Decides a b = pointwise_decides location_Decides a b

pub location_equiv : IsEquivalence location_eq
location_equiv = decided location_eq location_Decides

pub location_per : IsPartialEquivalence location_eq
location_per = partial_equiv_from_equiv location_equiv

pub locations_equiv : IsEquivalence locations_eq
locations_equiv = decided locations_eq locations_Decides

pub locations_per : IsPartialEquivalence locations_eq
locations_per = partial_equiv_from_equiv locations_equiv

-- what is equal is fed alike
pub location-fed : (a b : Location) → location_eq a b ≡ true → location_fed a ≡ location_fed b
location-fed a b e = ap location_fed ((location_Decides a b).0 e)

pub locations-fed : (a b : List Location) → locations_eq a b ≡ true → locations_fed a ≡ locations_fed b
locations-fed a b e = ap locations_fed ((locations_Decides a b).0 e)
