-- The attributes of a row that is read, as the conversion sees them.
use Rattle.std.proofs.Common.{◌≡◌, ◌∙◌, ap, suc, List, [], ◌∷◌, map, All, Option, Some, Bool, refl, arith}
use Rattle.dw_base.specs.declared.common.Encoding.{Encoding}
use Rattle.dw_read.specs.Attributes.{attribute_of}
use Rattle.dw_read.specs.Operands.{operand_of}
use Rattle.dw_read.specs.Orders.{attribute_order, operand_order, IsInOrder}
use Rattle.dw_read.specs.Reading.{Reading}
use Rattle.dw_read.specs.declared.attribute.Attribute.{Attribute}
use Rattle.dw_read.specs.declared.operand.Operand.{Operand}
use Rattle.dw_read.specs.declared.operand.Operand.TheVariants as held
use Rattle.dw_convert.specs.Attributes.{Seen, seen}
use Rattle.dw_dwarf.specs.ConvertedEntries.{order_in, seen_in}

-- the byte order of an operand's bytes is that of the section
order_seen : {R E : Type 0} (reading : R → Reading) (big : Bool) (o : Operand R E) → IsInOrder big (operand_order reading o) → operand_order reading o ≡ order_in big (operand_of reading o)
order_seen reading big held.Absent h = refl
order_seen reading big (held.Number n) h = refl
order_seen reading big (held.Signed z) h = refl
order_seen reading big (held.Bytes r) h = ap Some h
order_seen reading big (held.Text r) h = ap Some h

-- the attributes of an entry that is read
pub attributes_seen : {R E : Type 0} (reading : R → Reading) (big : Bool) (e : Encoding) (xs : List (Attribute R E)) → All (λ (a : Attribute R E). a.encoding ≡ e) xs → All (λ (a : Attribute R E). IsInOrder big (attribute_order reading a)) xs → map (seen reading) xs ≡ map (seen_in big e) (map (attribute_of reading) xs)
attributes_seen reading big e [] h o = refl
attributes_seen reading big e (x ∷ xs) h o =
    let a : seen reading x ≡ seen_in big e (attribute_of reading x) = ap (λ (y : Encoding). (y, attribute_of reading x, attribute_order reading x)) (h 0 x (omega arith)) ∙ ap (λ (y : Option Bool). (e, attribute_of reading x, y)) (order_seen reading big x.operand (o 0 x (omega arith))) in
    ap (λ (y : Seen). y ∷ map (seen reading) xs) a ∙ ap (λ (ys : List Seen). seen_in big e (attribute_of reading x) ∷ ys) (attributes_seen reading big e xs (λ k d l. h (suc k) d (omega (arith, l))) (λ k d l. o (suc k) d (omega (arith, l))))
