-- How a ghost variable stores a location: by a number for its variant, two addresses, two numbers and an expression.
use Rattle.std.specs.Prelude.{◌≡◌, ℕ, zero, suc, List, [], ℤ, pos, refl}
use Rattle.std.proofs.Common.{ap, ap₂}
use Rattle.std.specs.Coded.{Coded, code_by, coded×, coded_ℕ, coded_ℤ, coded_list}
use Rattle.dw_base.specs.declared.address.Address.{Address}
use Rattle.dw_base.specs.declared.address.Address.TheVariants.{Constant, Symbol}
use Rattle.dw_expr.specs.Trees.{Node}
use Rattle.dw_expr.specs.Codes.{expression_code}
use Rattle.dw_lists.specs.declared.location.Location.{Location}
use Rattle.dw_lists.specs.declared.location.Location.TheVariants.{BaseAddress, OffsetPair, StartEnd, StartLength, DefaultLocation}

abbrev pub AddressFields : Type 0
AddressFields = ℕ × (ℕ × ℤ)

abbrev pub address_fields : Address → AddressFields
address_fields (Constant n) = (0, (n, pos 0))
address_fields (Symbol s a) = (1, (s, a))

abbrev pub address_from : ℕ → ℕ → ℤ → Address
address_from zero n a = Constant n
address_from (suc k) n a = Symbol n a

abbrev pub address_of : AddressFields → Address
address_of f = address_from f.0 f.1.0 f.1.1

pub address_again : (a : Address) → address_of (address_fields a) ≡ a
address_again (Constant n) = refl
address_again (Symbol s a) = refl

abbrev pub Fields : Type 0
Fields = ℕ × (AddressFields × (AddressFields × (ℕ × (ℕ × List Node))))

abbrev pub no_address : AddressFields
no_address = (0, (0, pos 0))

abbrev pub fields : Location → Fields
fields (BaseAddress a) = (0, (address_fields a, (no_address, (0, (0, [])))))
fields (OffsetPair m n x) = (1, (no_address, (no_address, (m, (n, x)))))
fields (StartEnd a b x) = (2, (address_fields a, (address_fields b, (0, (0, x)))))
fields (StartLength a n x) = (3, (address_fields a, (no_address, (n, (0, x)))))
fields (DefaultLocation x) = (4, (no_address, (no_address, (0, (0, x)))))

abbrev pub location_from : ℕ → Address → Address → ℕ → ℕ → List Node → Location
location_from zero a b m n x = BaseAddress a
location_from (suc zero) a b m n x = OffsetPair m n x
location_from (suc (suc zero)) a b m n x = StartEnd a b x
location_from (suc (suc (suc zero))) a b m n x = StartLength a m x
location_from (suc (suc (suc (suc k)))) a b m n x = DefaultLocation x

abbrev pub location_of : Fields → Location
location_of f = location_from f.0 (address_of f.1.0) (address_of f.1.1.0) f.1.1.1.0 f.1.1.1.1.0 f.1.1.1.1.1

pub location_again : (a : Location) → location_of (fields a) ≡ a
location_again (BaseAddress a) = ap BaseAddress (address_again a)
location_again (OffsetPair m n x) = refl
location_again (StartEnd a b x) = ap₂ (λ c d. StartEnd c d x) (address_again a) (address_again b)
location_again (StartLength a n x) = ap (λ c. StartLength c n x) (address_again a)
location_again (DefaultLocation x) = refl

abbrev pub address_code : Coded AddressFields
address_code = coded× coded_ℕ (coded× coded_ℕ coded_ℤ)

abbrev pub location_code : Coded Location
location_code =
    code_by Fields (coded× coded_ℕ (coded× address_code (coded× address_code (coded× coded_ℕ (coded× coded_ℕ expression_code))))) fields location_of location_again

abbrev pub list_code : Coded (List Location)
list_code = coded_list location_code

abbrev pub table_code : Coded (List (List Location))
table_code = coded_list list_code
