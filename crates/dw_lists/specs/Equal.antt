-- Which ranges and range lists are equal, and what a hasher is fed of one.
use Rattle.std.specs.Prelude.{◌≡◌, ◌==◌, ◌&&◌, ◌++◌, Bool, true, false, List, pos}
use Rattle.std.specs.Bool.{Decides}
use Rattle.std.specs.Ordering.{int_eq}
use Rattle.std.specs.Cmp.{IsEquivalence, IsPartialEquivalence, partial_equiv_from_equiv, decided, unsigned_Decides, signed_Decides}
use Rattle.std.specs.Cmp.Lexicographic.{pointwise, pointwise_decides}
use Rattle.std.specs.Hash as fed
use Rattle.std.proofs.Common.{ap}
use Rattle.std.proofs.lemmas.Bool.Decides.{Decides-like, Decides-and}
use Rattle.dw_base.specs.declared.address.Address.{Address}
use Rattle.dw_base.specs.declared.address.Address.TheVariants.{Constant, Symbol}
use Rattle.dw_lists.specs.declared.range.Range.{Range}
use Rattle.dw_lists.specs.declared.range.Range.TheVariants.{BaseAddress, OffsetPair, StartEnd, StartLength}

-- the same constant, or the same symbol with the same addend: no constant is a symbol
abbrev pub address_eq : Address → Address → Bool
address_eq (Constant m) (Constant n) = m == n
address_eq (Symbol s a) (Symbol t b) = s == t && int_eq a b
address_eq _ _ = false

-- the same variant with the same parts
abbrev pub range_eq : Range → Range → Bool
range_eq (BaseAddress a) (BaseAddress b) = address_eq a b
range_eq (OffsetPair a b) (OffsetPair c d) = a == c && b == d
range_eq (StartEnd a b) (StartEnd c d) = address_eq a c && address_eq b d
range_eq (StartLength a b) (StartLength c d) = address_eq a c && b == d
range_eq _ _ = false

-- the same items in the same order
abbrev pub list_eq : List Range → List Range → Bool
list_eq a b = pointwise range_eq a b

-- the number of a variant, and then its parts
abbrev pub address_fed : Address → fed.HashWrites
address_fed (Constant n) = fed.isize (pos 0) ++ fed.u64 n
address_fed (Symbol s a) = fed.isize (pos 1) ++ fed.usize s ++ fed.i64 a

abbrev pub range_fed : Range → fed.HashWrites
range_fed (BaseAddress a) = fed.u8 0 ++ address_fed a
range_fed (OffsetPair a b) = fed.u8 1 ++ fed.u64 a ++ fed.u64 b
range_fed (StartEnd a b) = fed.u8 2 ++ address_fed a ++ address_fed b
range_fed (StartLength a b) = fed.u8 3 ++ address_fed a ++ fed.u64 b

abbrev pub list_fed : List Range → fed.HashWrites
list_fed list = fed.slice range_fed list

pub address_Decides : (a b : Address) → Decides (address_eq a b) (a ≡ b)
address_Decides (Constant m) (Constant n) = Decides-like (m == n) (λ e. ap Constant e) (λ e. cc) (unsigned_Decides m n)
address_Decides (Symbol s a) (Symbol t b) =
    Decides-like (s == t && int_eq a b) (λ e. λ i. Symbol (e.0 i) (e.1 i)) (λ e. (cc, cc))
    (Decides-and (s == t) (int_eq a b) (unsigned_Decides s t) (signed_Decides a b))
address_Decides (Constant m) (Symbol t b) = (λ e. cc, λ e. cc)
address_Decides (Symbol s a) (Constant n) = (λ e. cc, λ e. cc)

pub range_Decides : (a b : Range) → Decides (range_eq a b) (a ≡ b)
range_Decides (BaseAddress a) (BaseAddress b) = Decides-like (address_eq a b) (λ e. ap BaseAddress e) (λ e. cc) (address_Decides a b)
range_Decides (OffsetPair a b) (OffsetPair c d) =
    Decides-like (a == c && b == d) (λ e. λ i. OffsetPair (e.0 i) (e.1 i)) (λ e. (cc, cc))
    (Decides-and (a == c) (b == d) (unsigned_Decides a c) (unsigned_Decides b d))
range_Decides (StartEnd a b) (StartEnd c d) =
    Decides-like (address_eq a c && address_eq b d) (λ e. λ i. StartEnd (e.0 i) (e.1 i)) (λ e. (cc, cc))
    (Decides-and (address_eq a c) (address_eq b d) (address_Decides a c) (address_Decides b d))
range_Decides (StartLength a b) (StartLength c d) =
    Decides-like (address_eq a c && b == d) (λ e. λ i. StartLength (e.0 i) (e.1 i)) (λ e. (cc, cc))
    (Decides-and (address_eq a c) (b == d) (address_Decides a c) (unsigned_Decides b d))
range_Decides (BaseAddress a) (OffsetPair c d) = (λ e. cc, λ e. cc)
range_Decides (BaseAddress a) (StartEnd c d) = (λ e. cc, λ e. cc)
range_Decides (BaseAddress a) (StartLength c d) = (λ e. cc, λ e. cc)
range_Decides (OffsetPair a b) (BaseAddress c) = (λ e. cc, λ e. cc)
range_Decides (OffsetPair a b) (StartEnd c d) = (λ e. cc, λ e. cc)
range_Decides (OffsetPair a b) (StartLength c d) = (λ e. cc, λ e. cc)
range_Decides (StartEnd a b) (BaseAddress c) = (λ e. cc, λ e. cc)
range_Decides (StartEnd a b) (OffsetPair c d) = (λ e. cc, λ e. cc)
range_Decides (StartEnd a b) (StartLength c d) = (λ e. cc, λ e. cc)
range_Decides (StartLength a b) (BaseAddress c) = (λ e. cc, λ e. cc)
range_Decides (StartLength a b) (OffsetPair c d) = (λ e. cc, λ e. cc)
range_Decides (StartLength a b) (StartEnd c d) = (λ e. cc, λ e. cc)

pub list_Decides : (a b : List Range) → Decides (list_eq a b) (a ≡ b)
list_Decides a b = pointwise_decides range_Decides a b

pub range_equiv : IsEquivalence range_eq
range_equiv = decided range_eq range_Decides

pub range_per : IsPartialEquivalence range_eq
range_per = partial_equiv_from_equiv range_equiv

pub list_equiv : IsEquivalence list_eq
list_equiv = decided list_eq list_Decides

pub list_per : IsPartialEquivalence list_eq
list_per = partial_equiv_from_equiv list_equiv

-- what is equal is fed alike
pub range-fed : (a b : Range) → range_eq a b ≡ true → range_fed a ≡ range_fed b
range-fed a b e = ap range_fed ((range_Decides a b).0 e)

pub list-fed : (a b : List Range) → list_eq a b ≡ true → list_fed a ≡ list_fed b
list-fed a b e = ap list_fed ((list_Decides a b).0 e)
