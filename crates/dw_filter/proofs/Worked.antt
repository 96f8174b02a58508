-- Rows that compute: bytes of expressions and lists, and the places that they name; entries and edges, and what is kept of them.
use Rattle.std.proofs.Common.{◌≡◌, ◌∙◌, sym, ap, subst, ℕ, zero, suc, ◌<◌, List, [], ◌∷◌, get_or, Some, None, true, false, ◌⊎◌, inl, inr, refl, arith}
use Rattle.std.specs.Option.{is_some}
use Rattle.std.specs.List.{Contains}
use Rattle.dw_base.specs.Numbers.{bytes_at, number_at}
use Rattle.dw_base.specs.Leb128.{groups_at, signed_groups_at}
use Rattle.dw_base.specs.declared.common.Encoding.{Encoding}
use Rattle.dw_base.specs.declared.common.Format.TheVariants.{Dwarf32}
use Rattle.dw_base.specs.declared.offsets.UnitSectionOffset.{UnitSectionOffset}
use Rattle.dw_read.specs.Reasons.{bytes_read, number_read, uleb_read, uleb16_read, sleb_read, address_read}
use Rattle.dw_read.specs.declared.error.ReadError.TheVariants.{UnexpectedEof, UnknownLocListsEntry}
use Rattle.dw_sources.specs.Operands.{base_read, block_read, short_block_read, info_place_read}
use Rattle.dw_sources.specs.OperationTable.{is_simple, plain_of, literals, stack_operations, entry_operations, typed_operations, location_rows, locations, behind, operation_read, operation_at}
use Rattle.dw_sources.specs.RawLists.{pair_read, location_row, location_behind, location_span_read, expression_read, location_read}
use Rattle.dw_filter.specs.Dependencies.{Dependencies, Kept, Known, Leads, targets}
use Rattle.dw_filter.specs.Places.{UnitBounds, expression_places, places_up_to, list_up_to, list_at}
use Rattle.dw_filter.proofs.Kept.{walk_within}

-- a unit at 0x40, with a header of 12 bytes and 48 bytes behind it
abbrev unit : UnitBounds
unit = record { start = 0x40; header = 12; body = 48 }

abbrev five : Encoding
five = record { address_size = 4; format = Dwarf32; version = 5 }

abbrev four : Encoding
four = record { address_size = 2; format = Dwarf32; version = 4 }

abbrev at : ℕ → UnitSectionOffset
at n = record { 0 = n }

-- each operation that names an entry of its unit, with the older codes of the same
of_unit : expression_places unit false five (
    0xa4 ∷ 12 ∷ 1 ∷ 0xaa ∷ 0xf4 ∷ 13 ∷ 1 ∷ 0xaa ∷ 0xa5 ∷ 5 ∷ 14 ∷ 0xf5 ∷ 5 ∷ 15 ∷ 0xa6 ∷ 4 ∷ 16 ∷ 0xf6 ∷ 4 ∷ 17 ∷ 0xa7 ∷ 4 ∷ 18
    ∷ 0xa8 ∷ 19 ∷ 0xf7 ∷ 20 ∷ 0xa9 ∷ 21 ∷ 0xf9 ∷ 22 ∷ 0x98 ∷ 23 ∷ 0 ∷ 0x99 ∷ 24 ∷ 0 ∷ 0 ∷ 0 ∷ 0xfa ∷ 25 ∷ 0 ∷ 0 ∷ 0 ∷ [])
    ≡ at 76 ∷ at 77 ∷ at 78 ∷ at 79 ∷ at 80 ∷ at 81 ∷ at 82 ∷ at 83 ∷ at 84 ∷ at 85 ∷ at 86 ∷ at 87 ∷ at 88 ∷ at 89 ∷ []
unfolding places_up_to operation_at operation_read behind plain_of is_simple literals stack_operations entry_operations typed_operations base_read short_block_read uleb16_read uleb_read groups_at bytes_read number_read number_at bytes_at
of_unit = refl

-- and each that names one of the section
of_section : expression_places unit false five (
    0x9a ∷ 5 ∷ 0 ∷ 0 ∷ 0 ∷ 0xa0 ∷ 6 ∷ 0 ∷ 0 ∷ 0 ∷ 0x7f ∷ 0xf2 ∷ 7 ∷ 0 ∷ 0 ∷ 0 ∷ 0x7f ∷ 0xfd ∷ 8 ∷ 0 ∷ 0 ∷ 0 ∷ [])
    ≡ at 5 ∷ at 6 ∷ at 7 ∷ at 8 ∷ []
unfolding places_up_to operation_at operation_read behind plain_of is_simple literals stack_operations entry_operations info_place_read sleb_read signed_groups_at number_read number_at bytes_at
of_section = refl

-- the generic type has no entry
generic : expression_places unit false five (0xa8 ∷ 0 ∷ 0xa9 ∷ 0 ∷ []) ≡ []
unfolding places_up_to operation_at operation_read behind plain_of is_simple literals stack_operations entry_operations typed_operations base_read uleb_read groups_at number_read number_at bytes_at
generic = refl

-- the last byte of the header, the first behind it, the last of the unit and the first behind that
inside : expression_places unit false five (0x98 ∷ 11 ∷ 0 ∷ 0x98 ∷ 12 ∷ 0 ∷ 0x98 ∷ 59 ∷ 0 ∷ 0x98 ∷ 60 ∷ 0 ∷ []) ≡ at 76 ∷ at 123 ∷ []
unfolding places_up_to operation_at operation_read behind plain_of is_simple literals stack_operations entry_operations number_read number_at bytes_at
inside = refl

-- a constant of a base type that isn't given, which stands at 0
untyped : expression_places unit false five (0xa4 ∷ 0x00 ∷ 0x01 ∷ 0xaa ∷ []) ≡ []
unfolding places_up_to operation_at operation_read behind plain_of is_simple literals stack_operations entry_operations typed_operations short_block_read uleb_read groups_at bytes_read number_read number_at bytes_at
untyped = refl

-- what an expression within an operation names stands before what follows the operation
nested : expression_places unit false five (0xa3 ∷ 0x05 ∷ 0x99 ∷ 0x2a ∷ 0 ∷ 0 ∷ 0 ∷ 0x9a ∷ 0x05 ∷ 0 ∷ 0 ∷ 0 ∷ []) ≡ at 0x6a ∷ at 5 ∷ []
unfolding places_up_to operation_at operation_read behind plain_of is_simple literals stack_operations entry_operations typed_operations locations location_rows block_read uleb_read groups_at bytes_read number_read number_at bytes_at
nested = refl

-- no operation has the code 0xff: nothing behind it counts, but what follows an expression that it stands in does
faulty : expression_places unit false five (0xf3 ∷ 0x04 ∷ 0x98 ∷ 0x2a ∷ 0 ∷ 0xff ∷ 0x98 ∷ 0x0c ∷ 0 ∷ 0xff ∷ 0x98 ∷ 0x0d ∷ 0 ∷ []) ≡ at 0x6a ∷ at 0x4c ∷ []
unfolding places_up_to operation_at operation_read behind plain_of is_simple literals stack_operations entry_operations typed_operations locations location_rows block_read uleb_read groups_at bytes_read number_read number_at bytes_at
faulty = refl

-- the expression of the default location, and the close
listed : list_at unit false five 1 (0xee ∷ 5 ∷ 3 ∷ 0x98 ∷ 0x2a ∷ 0 ∷ 0 ∷ []) ≡ record { places = at 0x6a ∷ []; fault = None }
unfolding list_up_to location_read location_span_read location_behind location_row expression_read places_up_to operation_at operation_read behind plain_of is_simple literals stack_operations entry_operations block_read uleb_read groups_at bytes_read number_read number_at bytes_at
listed = refl

-- a pair up to version 4, and a base, which has no expression
older : list_at unit false four 0 (1 ∷ 0 ∷ 2 ∷ 0 ∷ 3 ∷ 0 ∷ 0x98 ∷ 0x2a ∷ 0 ∷ 0xff ∷ 0xff ∷ 0 ∷ 0x10 ∷ 0 ∷ 0 ∷ 0 ∷ 0 ∷ []) ≡ record { places = at 0x6a ∷ []; fault = None }
unfolding list_up_to location_read location_span_read pair_read expression_read address_read places_up_to operation_at operation_read behind plain_of is_simple literals stack_operations entry_operations bytes_read number_read number_at bytes_at
older = refl

-- an item of an unknown kind behind a good one, a list without a close, and an offset past the section's end
unknown : list_at unit false five 0 (5 ∷ 3 ∷ 0x98 ∷ 0x2a ∷ 0 ∷ 9 ∷ []) ≡ record { places = at 0x6a ∷ []; fault = Some (UnknownLocListsEntry 9) }
unfolding list_up_to location_read location_span_read location_behind location_row expression_read places_up_to operation_at operation_read behind plain_of is_simple literals stack_operations entry_operations block_read uleb_read groups_at bytes_read number_read number_at bytes_at
unknown = refl

open_list : list_at unit false five 0 (5 ∷ 0 ∷ []) ≡ record { places = []; fault = Some UnexpectedEof }
unfolding list_up_to location_read location_span_read location_behind location_row expression_read places_up_to block_read uleb_read groups_at bytes_read number_read number_at bytes_at
open_list = refl

no_offset : list_at unit false five 3 (0 ∷ 0 ∷ []) ≡ record { places = []; fault = Some UnexpectedEof }
unfolding bytes_read bytes_at
no_offset = refl

-- four entries, of which one leads to another and that to one that isn't known; the first and the third are required
abbrev graph : Dependencies
graph = record { known = (1, at 2 ∷ []) ∷ (2, at 9 ∷ []) ∷ (3, []) ∷ (4, []) ∷ []; required = at 3 ∷ at 1 ∷ at 1 ∷ [] }

-- so these are kept
first_kept : Kept graph (at 1)
first_kept = (0, ((1, omega arith, refl), refl))

second_kept : Kept graph (at 2)
second_kept = (1, (at 1, ((1, omega arith, refl), refl), (at 2 ∷ [], refl, (0, omega arith, refl)), refl))

third_kept : Kept graph (at 3)
third_kept = (0, ((0, omega arith, refl), refl))

-- and no others
abbrev IsKeptThere : UnitSectionOffset → Type 0
IsKeptThere q = (q.0 ≡ 1) ⊎ ((q.0 ≡ 2) ⊎ (q.0 ≡ 3))

alone : (x q : UnitSectionOffset) (i : ℕ) → i < 1 → get_or (x ∷ []) i q ≡ q → q.0 ≡ x.0
alone x q zero l h = ap (λ (u : UnitSectionOffset). u.0) (sym h)
alone x q (suc i) l h = absurd (omega (arith, l))

required_there : (q : UnitSectionOffset) (i : ℕ) → i < 3 → get_or (at 3 ∷ at 1 ∷ at 1 ∷ []) i q ≡ q → IsKeptThere q
required_there q zero l h = inr (inr (ap (λ (u : UnitSectionOffset). u.0) (sym h)))
required_there q (suc zero) l h = inl (ap (λ (u : UnitSectionOffset). u.0) (sym h))
required_there q (suc (suc zero)) l h = inl (ap (λ (u : UnitSectionOffset). u.0) (sym h))
required_there q (suc (suc (suc i))) l h = absurd (omega (arith, l))

led_there : (p q : UnitSectionOffset) → IsKeptThere p → Leads (targets graph) p q → Known (targets graph) q → IsKeptThere q
led_there p q (inl one) l k =
    let t : Some (at 2 ∷ []) ≡ Some l.0 = sym (ap (targets graph) one) ∙ l.1 in
    let e : l.0 ≡ at 2 ∷ [] = cc in
    let c : Contains (at 2 ∷ []) q = subst (λ (xs : List UnitSectionOffset). Contains xs q) e l.2 in
    inr (inl (alone (at 2) q c.0 c.1 c.2))
led_there p q (inr (inl two)) l k =
    let t : Some (at 9 ∷ []) ≡ Some l.0 = sym (ap (targets graph) two) ∙ l.1 in
    let e : l.0 ≡ at 9 ∷ [] = cc in
    let c : Contains (at 9 ∷ []) q = subst (λ (xs : List UnitSectionOffset). Contains xs q) e l.2 in
    let nine : is_some (targets graph 9) ≡ true = ap (λ (n : ℕ). is_some (targets graph n)) (sym (alone (at 9) q c.0 c.1 c.2)) ∙ k in
    absurd (cc nine)
led_there p q (inr (inr three)) l k =
    let t : Some [] ≡ Some l.0 = sym (ap (targets graph) three) ∙ l.1 in
    let e : l.0 ≡ [] = cc in
    let c : Contains [] q = subst (λ (xs : List UnitSectionOffset). Contains xs q) e l.2 in
    absurd (omega (arith, c.1))

others_not : (q : UnitSectionOffset) → Kept graph q → IsKeptThere q
others_not q kept =
    walk_within (Known (targets graph)) (Leads (targets graph)) (Contains graph.required) IsKeptThere
    (record { first = λ q r k. required_there q r.0 r.1 r.2; next = led_there }) kept.0 q kept.1
