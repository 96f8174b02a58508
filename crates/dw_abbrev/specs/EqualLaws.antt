-- The tests of equality decide it.
use Rattle.std.specs.Prelude.{◌≡◌, ◌==◌, ◌&&◌, true, Option, None, Some, ℤ, refl}
use Rattle.std.specs.Bool.{Decides, beq}
use Rattle.std.specs.Ordering.{int_eq}
use Rattle.std.specs.Option.{option_eq}
use Rattle.std.specs.Cmp.{IsEquivalence, IsPartialEquivalence, partial_equiv_from_equiv, decided, booleans_Decides, signed_Decides, unsigned_Decides}
use Rattle.std.specs.Cmp.Lexicographic.{pointwise, pointwise_decides}
use Rattle.std.proofs.Common.{ap}
use Rattle.std.proofs.lemmas.Bool.Decides.{Decides-like, Decides-and}
use Rattle.dw_base.specs.Abbreviations.{Specification, Shape}
use Rattle.dw_abbrev.specs.Equal.{specification_eq, shape_eq, shape_fed}

constant_Decides : (a b : Option ℤ) → Decides (option_eq int_eq a b) (a ≡ b)
constant_Decides None None = (λ e. refl, λ e. refl)
constant_Decides None (Some y) = (λ e. cc, λ e. cc)
constant_Decides (Some x) None = (λ e. cc, λ e. cc)
constant_Decides (Some x) (Some y) = Decides-like (int_eq x y) (λ e. ap Some e) (λ e. cc) (signed_Decides x y)

pub specification_Decides : (a b : Specification) → Decides (specification_eq a b) (a ≡ b)
specification_Decides a b =
    Decides-like (specification_eq a b)
    (λ h. λ i. record { name = h.0.0 i; form = h.0.1 i; constant = h.1 i })
    (λ e. ((ap (λ s. s.name) e, ap (λ s. s.form) e), ap (λ s. s.constant) e))
    (Decides-and (a.name == b.name && a.form == b.form) (option_eq int_eq a.constant b.constant)
    (Decides-and (a.name == b.name) (a.form == b.form) (unsigned_Decides a.name b.name) (unsigned_Decides a.form b.form))
    (constant_Decides a.constant b.constant))

pub shape_Decides : (a b : Shape) → Decides (shape_eq a b) (a ≡ b)
shape_Decides a b =
    Decides-like (shape_eq a b)
    (λ h. λ i. record { tag = h.0.0 i; has_children = h.0.1 i; attributes = h.1 i })
    (λ e. ((ap (λ s. s.tag) e, ap (λ s. s.has_children) e), ap (λ s. s.attributes) e))
    (Decides-and (a.tag == b.tag && beq a.has_children b.has_children) (pointwise specification_eq a.attributes b.attributes)
    (Decides-and (a.tag == b.tag) (beq a.has_children b.has_children) (unsigned_Decides a.tag b.tag) (booleans_Decides a.has_children b.has_children))
    (pointwise_decides specification_Decides a.attributes b.attributes))

pub shape_equiv : IsEquivalence shape_eq
shape_equiv = decided shape_eq shape_Decides

pub shape_per : IsPartialEquivalence shape_eq
shape_per = partial_equiv_from_equiv shape_equiv

-- equal shapes are fed alike
pub shape-fed : (a b : Shape) → shape_eq a b ≡ true → shape_fed a ≡ shape_fed b
shape-fed a b e = ap shape_fed ((shape_Decides a b).0 e)
