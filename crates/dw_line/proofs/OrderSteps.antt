-- One more row, and the offset of the last one.
use Rattle.std.proofs.Common.{◌≡◌, ◌∙◌, ap, ℕ, suc, ◌-◌, ◌%◌, ◌<◌, ◌≤◌, true, ◌&&◌, ◌==◌, nat_le, nat_lt, List, [], ◌∷◌, ◌++◌, length, Some, slice_get, refl, arith, IsTrue}
use Rattle.std.proofs.lemmas.Bool.{and_parts, and_from}
use Rattle.std.proofs.lemmas.Bool.Decides.{nat_tests}
use Rattle.std.proofs.lemmas.Option.{none-some}
use Rattle.dw_line.specs.LineRows.{are_in_order, last_offset}
use Rattle.dw_line.specs.declared.row.LineRow.{LineRow}

le_test : (a b : ℕ) → a ≤ b → nat_le a b ≡ true
le_test a b h = grind (arith, nat_tests)

lt_test : (a b : ℕ) → a < b → nat_lt a b ≡ true
lt_test a b h = grind (arith, nat_tests)

eq_test : (a b : ℕ) → a ≡ b → a == b ≡ true
eq_test a b h = grind (arith, nat_tests)

pub order_more : (m from : ℕ) (rows : List LineRow) (r : LineRow) → IsTrue (are_in_order m from rows) → last_offset from rows ≤ r.address_offset → r.address_offset % m ≡ 0 → r.file.0 < 0xffff_ffff_ffff_ffff → IsTrue (are_in_order m from (rows ++ r ∷ []))
order_more m from [] r h le multiple small =
    and_from _ _ (and_from _ _ (and_from _ _ (le_test from r.address_offset le) (eq_test (r.address_offset % m) 0 multiple)) (lt_test r.file.0 0xffff_ffff_ffff_ffff small)) refl
order_more m from (x ∷ xs) r h le multiple small =
    let p = and_parts (nat_le from x.address_offset && (x.address_offset % m == 0) && nat_lt x.file.0 0xffff_ffff_ffff_ffff) (are_in_order m x.address_offset xs) h in
    and_from _ _ p.0 (order_more m x.address_offset xs r p.1 le multiple small)

pub last_offset_is : (from : ℕ) (rows : List LineRow) (r : LineRow) → slice_get rows (length rows - 1) ≡ Some r → last_offset from rows ≡ r.address_offset
last_offset_is from [] r h = absurd (none-some r h)
last_offset_is from (x ∷ []) r h = let same : x ≡ r = cc in ap (λ y. y.address_offset) same
last_offset_is from (x ∷ y ∷ ys) r h =
    let at : suc (length (y ∷ ys) - 1) ≡ length (x ∷ y ∷ ys) - 1 = omega arith in
    last_offset_is x.address_offset (y ∷ ys) r (ap (slice_get (x ∷ y ∷ ys)) at ∙ h)
