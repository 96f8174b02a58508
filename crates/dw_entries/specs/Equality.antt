-- Equality of values, by their keys, and of attributes.
use Rattle.std.specs.Prelude.{◌≡◌, ◌==◌, Bool, true, false, ◌&&◌, List, Option, Some, None, refl}
use Rattle.std.proofs.Common.{sym, ◌∙◌, ap}
use Rattle.std.specs.Bool.{Decides}
use Rattle.std.specs.Cmp.{IsEquivalence, decided, unsigned_Decides, signed_Decides}
use Rattle.std.specs.Cmp.Lexicographic.{pointwise_decides}
use Rattle.std.specs.Ordering.{int_eq}
use Rattle.std.specs.Option.{option_eq, option_copied}
use Rattle.std.specs.Borrow.{Bor}
use Rattle.dw_expr.specs.Trees.{Node}
use Rattle.dw_expr.specs.Equality.{nodes_eq, nodes_decides}
use Rattle.dw_entries.specs.Keys.{Key, key_eq, value_key, value_by, value_by-key}
use Rattle.dw_entries.specs.declared.key.Key.{Key as Fields}
use Rattle.dw_entries.specs.declared.value.AttributeValue.{AttributeValue}
use Rattle.dw_entries.specs.declared.attribute.Attribute.{Attribute}

-- an expression that is lent, if there is one
abbrev pub expression_in : Option (Bor (List Node)) → Option (List Node)
expression_in x = option_copied x

-- the key that fields are
abbrev pub key_in : Fields → Key
key_in k = record { kind = k.kind; number = k.number; unit = k.unit; signed = k.signed; bytes = k.bytes.now; expression = expression_in k.expression }

abbrev pub value_eq : AttributeValue → AttributeValue → Bool
value_eq v w = key_eq (value_key v) (value_key w)

abbrev pub attribute_eq : Attribute → Attribute → Bool
attribute_eq a b = (a.name.0 == b.name.0) && value_eq a.value b.value

-- Tests decide equality.

both : {A B : Type 0} (a b : Bool) → Decides a A → Decides b B → Decides (a && b) (A × B)
both true b p q = (λ e. (p.0 refl, q.0 e), λ h. q.1 h.1)
both false b p q = (λ e. absurd (let k : false ≡ true = e in cc), λ h. p.1 h.0)

same_test : {A B : Type 0} (a : Bool) → (A → B) → (B → A) → Decides a A → Decides a B
same_test a f g d = (λ e. f (d.0 e), λ h. d.1 (g h))

option_decides : {A : Type 0} (eq : A → A → Bool) → ((a b : A) → Decides (eq a b) (a ≡ b)) → (p q : Option A) → Decides (option_eq eq p q) (p ≡ q)
option_decides eq d None None = (λ e. refl, λ e. refl)
option_decides eq d None (Some b) = (λ e. cc, λ e. cc)
option_decides eq d (Some a) None = (λ e. cc, λ e. cc)
option_decides eq d (Some a) (Some b) = same_test (eq a b) (λ e. ap Some e) (λ e. cc) (d a b)

abbrev AreParts : Key → Key → Type 0
AreParts j k =
    (j.kind ≡ k.kind) × ((j.number ≡ k.number) × ((j.unit ≡ k.unit) × ((j.signed ≡ k.signed) × ((j.expression ≡ k.expression) × (j.bytes ≡ k.bytes)))))

key_is : (j k : Key) → AreParts j k → j ≡ k
key_is j k h = λ i. record { kind = h.0 i; number = h.1.0 i; unit = h.1.1.0 i; signed = h.1.1.1.0 i; bytes = h.1.1.1.1.1 i; expression = h.1.1.1.1.0 i }

key_parts : (j k : Key) → j ≡ k → AreParts j k
key_parts j k h = (ap (λ x. x.kind) h, (ap (λ x. x.number) h, (ap (λ x. x.unit) h, (ap (λ x. x.signed) h, (ap (λ x. x.expression) h, ap (λ x. x.bytes) h)))))

pub key_decides : (j k : Key) → Decides (key_eq j k) (j ≡ k)
key_decides j k =
    same_test (key_eq j k) (key_is j k) (key_parts j k)
    (both (j.kind == k.kind) _ (unsigned_Decides j.kind k.kind)
    (both (j.number == k.number) _ (unsigned_Decides j.number k.number)
    (both (j.unit == k.unit) _ (unsigned_Decides j.unit k.unit)
    (both (int_eq j.signed k.signed) _ (signed_Decides j.signed k.signed)
    (both (option_eq nodes_eq j.expression k.expression) _ (option_decides nodes_eq nodes_decides j.expression k.expression)
    (pointwise_decides unsigned_Decides j.bytes k.bytes))))))

pub value_decides : (v w : AttributeValue) → Decides (value_eq v w) (v ≡ w)
value_decides v w =
    same_test (value_eq v w) (λ e. sym (value_by-key v) ∙ ap value_by e ∙ value_by-key w) (λ e. ap value_key e) (key_decides (value_key v) (value_key w))

pub value_equiv : IsEquivalence value_eq
value_equiv = decided value_eq value_decides

attribute_is : (a b : Attribute) → (a.name.0 ≡ b.name.0) × (a.value ≡ b.value) → a ≡ b
attribute_is a b h = λ i. record { name = record { 0 = h.0 i }; value = h.1 i }

pub attribute_decides : (a b : Attribute) → Decides (attribute_eq a b) (a ≡ b)
attribute_decides a b =
    same_test (attribute_eq a b) (attribute_is a b) (λ e. (ap (λ x. x.name.0) e, ap (λ x. x.value) e)) (both (a.name.0 == b.name.0) _ (unsigned_Decides a.name.0 b.name.0) (value_decides a.value b.value))
