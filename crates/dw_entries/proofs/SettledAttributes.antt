-- Attributes that are settled: no name comes twice into them, and what they say is said once.
use Rattle.std.proofs.Common.{◌≡◌, ◌≢◌, ◌∙◌, sym, ap, subst, ℕ, ◌<◌, List, [], ◌∷◌, Bool, true, false, Option, Some, None, refl, arith, Result, Ok, Err}
use Rattle.std.specs.Prelude.{not, if◌then◌else◌, OnOk, OnErr}
use Rattle.std.proofs.lemmas.Bool.{eqb-true}
use Rattle.std.proofs.lemmas.Option.{same_Some}
use Rattle.dw_entries.specs.declared.attribute.Attribute.{Attribute}
use Rattle.dw_entries.specs.declared.own_parts.OwnLists.{OwnLists}
use Rattle.dw_entries.specs.declared.own_parts.OwnParts.{OwnParts}
use Rattle.dw_entries.specs.declared.value.AttributeValue.{AttributeValue}
use Rattle.dw_entries.specs.declared.value.AttributeValue.TheVariants as values
use Rattle.dw_entries.specs.Attributes.{is_named, named, get_named, set_named, without_name, HaveDistinctNames}
use Rattle.dw_entries.specs.Settled.{stmt_list_name, rnglists_base_name, loclists_base_name, with_part, with_lists, settled_attributes}
use Rattle.dw_entries.proofs.Named.{get_named-set_named, get_named-set_other, get_named-without, get_named-without_other, HaveDistinctNames-set_named, HaveDistinctNames-without}

-- No name comes twice into them.

distinct_part : (n : ℕ) (v : AttributeValue) (b : Bool) (xs : List Attribute) → 1 < n → HaveDistinctNames xs → HaveDistinctNames (with_part n v b xs)
distinct_part n v true xs some h = HaveDistinctNames-set_named n v xs some h
distinct_part n v false xs some h = HaveDistinctNames-without n xs h

distinct_lists : (lists : Option OwnLists) (xs : List Attribute) → HaveDistinctNames xs → HaveDistinctNames (with_lists lists xs)
distinct_lists None xs h = h
distinct_lists (Some lists) xs h =
    distinct_part loclists_base_name values.LocationListsBase lists.locations _ (omega arith) (distinct_part rnglists_base_name values.RangeListsBase lists.ranges xs (omega arith) h)

distinct_settled : (parts : OwnParts) (xs : List Attribute) → HaveDistinctNames xs → HaveDistinctNames (settled_attributes parts xs)
distinct_settled parts xs h =
    distinct_lists parts.lists _ (distinct_part stmt_list_name values.LineProgramRef parts.line_program xs (omega arith) h)

-- in both cases of an answer
pub distinct_either : {E : Type 0} (r : Result (Unit {0}) E) (parts : OwnParts) (xs ys : List Attribute) → HaveDistinctNames xs → OnOk r (ys ≡ settled_attributes parts xs) → OnErr r (ys ≡ xs) → HaveDistinctNames ys
distinct_either (Ok x) parts xs ys h ok kept = subst HaveDistinctNames (sym ok) (distinct_settled parts xs h)
distinct_either (Err e) parts xs ys h ok kept = subst HaveDistinctNames (sym kept) h

-- What stands under the name of a part, if the unit has it.

abbrev part_value : AttributeValue → Bool → Option AttributeValue
part_value v true = Some v
part_value v false = None

get_part : (n : ℕ) (v : AttributeValue) (b : Bool) (xs : List Attribute) → get_named n (with_part n v b xs) ≡ part_value v b
get_part n v true xs = get_named-set_named n v xs
get_part n v false xs = get_named-without n xs

get_part_other : (n m : ℕ) (v : AttributeValue) (b : Bool) (xs : List Attribute) → m ≢ n → get_named m (with_part n v b xs) ≡ get_named m xs
get_part_other n m v true xs ne = get_named-set_other n m v xs ne
get_part_other n m v false xs ne = get_named-without_other n m xs ne

-- What stands there already changes nothing.

named_again : (n : ℕ) (a : Attribute) (v : AttributeValue) → a.name.0 ≡ n → a.value ≡ v → named n v ≡ a
named_again n a v name value =
    let same : a ≡ named n v = λ i. record { name = record { 0 = name i }; value = value i } in sym same

set_same : (n : ℕ) (v : AttributeValue) (xs : List Attribute) → get_named n xs ≡ Some v → set_named n v xs ≡ xs
set_same n v [] h = absurd (let k : ◌≡◌ {A = Option AttributeValue} None (Some v) = h in cc)
set_same n v (a ∷ xs) h = go (is_named n a) refl (set_same n v xs) h
  where
    go : (b : Bool) → is_named n a ≡ b → (get_named n xs ≡ Some v → set_named n v xs ≡ xs) → (if b then Some a.value else get_named n xs) ≡ Some v → (if b then named n v ∷ xs else a ∷ set_named n v xs) ≡ a ∷ xs
    go true e rest k = ap (λ x. x ∷ xs) (named_again n a v (eqb-true _ n e) (same_Some a.value v k))
    go false e rest k = ap (λ t. a ∷ t) (rest k)

without_same : (n : ℕ) (xs : List Attribute) → get_named n xs ≡ None → without_name n xs ≡ xs
without_same n [] h = refl
without_same n (a ∷ xs) h = go (is_named n a) (without_same n xs) h
  where
    go : (b : Bool) → (get_named n xs ≡ None → without_name n xs ≡ xs) → (if b then Some a.value else get_named n xs) ≡ None → (if not b then a ∷ without_name n xs else without_name n xs) ≡ a ∷ xs
    go true rest k = absurd (let clash : Some a.value ≡ None = k in cc)
    go false rest k = ap (λ t. a ∷ t) (rest k)

part_same : (n : ℕ) (v : AttributeValue) (b : Bool) (xs : List Attribute) → get_named n xs ≡ part_value v b → with_part n v b xs ≡ xs
part_same n v true xs h = set_same n v xs h
part_same n v false xs h = without_same n xs h

-- Settling twice is settling once.

lists_again : (b : Bool) (lists : Option OwnLists) (xs : List Attribute) →
    with_lists lists (with_part stmt_list_name values.LineProgramRef b (with_lists lists (with_part stmt_list_name values.LineProgramRef b xs))) ≡ with_lists lists (with_part stmt_list_name values.LineProgramRef b xs)
lists_again b None xs =
    part_same stmt_list_name values.LineProgramRef b _ (get_part stmt_list_name values.LineProgramRef b xs)
lists_again b (Some lists) xs =
    let line : List Attribute → List Attribute = with_part stmt_list_name values.LineProgramRef b in
    let ranges : List Attribute → List Attribute = with_part rnglists_base_name values.RangeListsBase lists.ranges in
    let locations : List Attribute → List Attribute = with_part loclists_base_name values.LocationListsBase lists.locations in
    let all = locations (ranges (line xs)) in
    let line_is : get_named stmt_list_name all ≡ part_value values.LineProgramRef b =
    get_part_other loclists_base_name stmt_list_name values.LocationListsBase lists.locations (ranges (line xs)) (λ e. omega (arith, e))
    ∙ get_part_other rnglists_base_name stmt_list_name values.RangeListsBase lists.ranges (line xs) (λ e. omega (arith, e))
    ∙ get_part stmt_list_name values.LineProgramRef b xs in
    let ranges_is : get_named rnglists_base_name all ≡ part_value values.RangeListsBase lists.ranges =
    get_part_other loclists_base_name rnglists_base_name values.LocationListsBase lists.locations (ranges (line xs)) (λ e. omega (arith, e))
    ∙ get_part rnglists_base_name values.RangeListsBase lists.ranges (line xs) in
    let locations_is : get_named loclists_base_name all ≡ part_value values.LocationListsBase lists.locations = get_part loclists_base_name values.LocationListsBase lists.locations (ranges (line xs)) in
    ap (λ ys. locations (ranges ys)) (part_same stmt_list_name values.LineProgramRef b all line_is)
    ∙ ap locations (part_same rnglists_base_name values.RangeListsBase lists.ranges all ranges_is)
    ∙ part_same loclists_base_name values.LocationListsBase lists.locations all locations_is

pub attributes_again : (parts : OwnParts) (xs : List Attribute) → settled_attributes parts (settled_attributes parts xs) ≡ settled_attributes parts xs
attributes_again parts xs = lists_again parts.line_program parts.lists xs
