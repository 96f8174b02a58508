-- The attributes of an entry, one after the other.
use Rattle.std.proofs.Common.{◌≡◌, sym, subst, ℕ, ◌<◌, List, length, get_or, Bool}
use Rattle.std.proofs.lemmas.List.Elements.{All-get_or}
use Rattle.dw_read.specs.Reading.{Reading}
use Rattle.dw_read.specs.Orders.{attribute_order, IsInOrder}
use Rattle.dw_read.specs.declared.attribute.Attribute.{Attribute}
use Rattle.dw_entry_ranges.specs.Attributes.{AreInOrder}

pub one_in_order : (R E : Type 0) (reading : R → Reading) (big : Bool) (attrs : List (Attribute R E)) (i : ℕ) (a : Attribute R E) → i < length attrs → a ≡ get_or attrs i a → AreInOrder reading big attrs → IsInOrder big (attribute_order reading a)
one_in_order R E reading big attrs i a l is h =
    subst (λ (x : Attribute R E). IsInOrder big (attribute_order reading x)) (sym is) (All-get_or (λ (x : Attribute R E). IsInOrder big (attribute_order reading x)) attrs i a l h)
