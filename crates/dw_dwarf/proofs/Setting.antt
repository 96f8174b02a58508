-- The attributes of an entry, set one after the other.
use Rattle.std.proofs.Common.{◌≡◌, ◌∙◌, sym, ap, ℕ, subst, zero, suc, ◌<◌, List, [], ◌∷◌, ◌++◌, length, map, take, get_or, Result, Ok, Err, Some, None, Bool, true, false, refl, arith}
use Rattle.std.specs.Prelude.{◌==◌, if◌then◌else◌, OnOk, IfOk, IfErr, IsErr}
use Rattle.std.specs.Result.{result_and, IsErrAnd}
use Rattle.std.proofs.lemmas.Bool.{eq-eqb, ne_eqb, false≢true}
use Rattle.std.proofs.lemmas.List.{map-append}
use Rattle.dw_base.specs.declared.constants.DwAt.{DwAt}
use Rattle.dw_entries.proofs.Changed.{length-with_changed, seen_changed}
use Rattle.dw_entries.proofs.Named.{set_named-absent}
use Rattle.dw_entries.specs.Attributes.{get_named, set_named, HaveDistinctNames}
use Rattle.dw_entries.specs.Entries.{EntryValue, with_changed, with_attribute, with_attributes, with_sibling, entry_at}
use Rattle.dw_entries.specs.declared.attribute.Attribute.{Attribute}
use Rattle.dw_entries.specs.declared.value.AttributeValue.{AttributeValue}
use Rattle.dw_tree.specs.UnitValue.{UnitValue, with_entry, value_in}
use Rattle.dw_unit.specs.declared.entry_mut.EntryMut.{EntryMut}
use Rattle.dw_dwarf.specs.ConvertedEntries.{Values, attribute_of}
use Rattle.dw_dwarf.specs.Placed.{with_contents}

-- a `?` hands on a reason
pub is_err : {A E : Type 0} (r : Result A E) (e : E) → IsErr r × IsErrAnd r (λ x. x ≡ e) → r ≡ Err e
is_err (Ok x) e h = absurd h.1
is_err (Err x) e h = ap Err h.1

-- what is told of what was changed is told of the answer, which hands it out
module _ {T U E : Type 0} (x : U) where
  pub and_ok : {P : Type 0} (Q : U → Type 0) (r : Result T E) → OnOk r P → (P → Q x) → IfOk (result_and r (Ok x)) Q
  and_ok Q (Ok y) p f = f p
  and_ok Q (Err e) p f = tt

  pub and_err : {P Q : E → Type 0} (r : Result T E) → IfErr r P → ((e : E) → P e → Q e) → IfErr (result_and r (Ok x)) Q
  and_err (Ok y) p f = tt
  and_err (Err e) p f = f e p

-- two changes of one entry
pub changed_twice : (i : ℕ) (f g : EntryValue → EntryValue) (es : List EntryValue) → with_changed i g (with_changed i f es) ≡ with_changed i (λ e. g (f e)) es
changed_twice i f g [] = refl
changed_twice zero f g (e ∷ es) = refl
changed_twice (suc i) f g (e ∷ es) = ap (λ t. e ∷ t) (changed_twice i f g es)

-- no attributes in place of none
none_set : (i : ℕ) (es : List EntryValue) → (entry_at es i).attributes ≡ [] → with_changed i (with_attributes []) es ≡ es
none_set i [] h = refl
none_set zero (e ∷ es) h = ap (λ xs. with_attributes xs e ∷ es) (sym h)
none_set (suc i) (e ∷ es) h = ap (λ t. e ∷ t) (none_set i es h)

pub unit_none_set : (u : UnitValue) (i : ℕ) → (entry_at u.entries i).attributes ≡ [] → u ≡ with_entry u i (with_attributes [])
unit_none_set u i h = ap (λ es. record u { entries = es }) (sym (none_set i u.entries h))

pub unit_more_set : (u v w : UnitValue) (i : ℕ) (xs : Values) (x : DwAt × AttributeValue) → v ≡ with_entry u i (with_attributes (map attribute_of xs)) → w ≡ with_entry v i (with_attribute x.0.0 x.1) → get_named x.0.0 (map attribute_of xs) ≡ None → w ≡ with_entry u i (with_attributes (map attribute_of (xs ++ x ∷ [])))
unit_more_set u v w i xs x p q h =
    let one : set_named x.0.0 x.1 (map attribute_of xs) ≡ map attribute_of (xs ++ x ∷ []) = set_named-absent x.0.0 x.1 (map attribute_of xs) h ∙ sym (map-append attribute_of xs (x ∷ [])) in
    q
    ∙ ap (λ (y : UnitValue). with_entry y i (with_attribute x.0.0 x.1)) p
    ∙ ap (λ es. record u { entries = es }) (changed_twice i (with_attributes (map attribute_of xs)) (with_attribute x.0.0 x.1) u.entries)
    ∙ ap (λ ys. with_entry u i (with_attributes ys)) one

-- what has a name that isn't among others is none of these
other_name : (n : ℕ) (all : Values) (k : ℕ) (x : DwAt × AttributeValue) → k < length all → x ≡ get_or all k x → get_named n (map attribute_of all) ≡ None → (n == x.0.0) ≡ false
other_name n [] k x l e h = absurd (omega (arith, l))
other_name n (a ∷ all) zero x l e h = ne_eqb n x.0.0 (λ (same : n ≡ x.0.0). go (a.0.0 == n) (eq-eqb a.0.0 n (sym (same ∙ ap (λ (y : DwAt × AttributeValue). y.0.0) e))) h)
  where
    go : (b : Bool) → b ≡ true → (if b then Some a.1 else get_named n (map attribute_of all)) ≡ None → ⊥
    go true e k = let clash : Some a.1 ≡ None = k in cc
    go false e k = false≢true e
other_name n (a ∷ all) (suc k) x l e h = go (a.0.0 == n) h (other_name n all k x (omega (arith, l)) e)
  where
    go : (b : Bool) → (if b then Some a.1 else get_named n (map attribute_of all)) ≡ None → (get_named n (map attribute_of all) ≡ None → (n == x.0.0) ≡ false) → (n == x.0.0) ≡ false
    go true h rest = let clash : Some a.1 ≡ None = h in absurd cc
    go false h rest = rest h

-- each value is under a name of its own, which those before it don't have
pub fresh_name : (all xs : Values) (x : DwAt × AttributeValue) → xs ≡ take (length xs) all → length xs < length all → x ≡ get_or all (length xs) x → HaveDistinctNames (map attribute_of all) → (1 < x.0.0) × (get_named x.0.0 (map attribute_of xs) ≡ None)
fresh_name [] xs x p l e h = absurd (omega (arith, l))
fresh_name (a ∷ all) [] x p l e h = (subst (λ (y : DwAt × AttributeValue). 1 < y.0.0) (sym e) h.0, refl)
fresh_name (a ∷ all) (y ∷ xs) x p l e h =
    let within : length xs < length all = omega (arith, l) in
    let rest = fresh_name all xs x (tails p) within e h.2 in
    let head : y ≡ a = cc in
    let other : (y.0.0 == x.0.0) ≡ false = ap (λ (z : DwAt × AttributeValue). z.0.0 == x.0.0) head ∙ other_name a.0.0 all (length xs) x within e h.1 in
    (rest.0, ap (λ (b : Bool). if b then Some y.1 else get_named x.0.0 (map attribute_of xs)) other ∙ rest.1)
  where
    tails : y ∷ xs ≡ a ∷ take (length xs) all → xs ≡ take (length xs) all
    tails q = cc

-- so many are set
pub record AreSet (old new : EntryMut) (xs : Values) : Type 0 where
  pub same_unit : new.unit.ghost_name ≡ old.unit.ghost_name
  pub index : new.index ≡ old.index
  pub is : new.unit.now ≡ with_entry old.unit.now old.index (with_attributes (map attribute_of xs))

pub set_count : (old new : EntryMut) (xs : Values) → AreSet old new xs → length new.unit.now.entries ≡ length old.unit.now.entries
set_count old new xs s = ap (λ (u : UnitValue). length u.entries) s.is ∙ length-with_changed old.index (with_attributes (map attribute_of xs)) old.unit.now.entries

-- no value stands under a name that none of those that are set has
pub absent_so_far : (old new : EntryMut) (xs : Values) (n : ℕ) → AreSet old new xs → get_named n (map attribute_of xs) ≡ None → value_in new.unit.now new.index n ≡ None
absent_so_far old new xs n s h =
    let values = map attribute_of xs in
    ap (λ (k : ℕ). value_in new.unit.now k n) s.index
    ∙ ap (λ (u : UnitValue). value_in u old.index n) s.is
    ∙ ap (get_named n) (seen_changed (λ e. e.attributes) old.index (with_attributes values) old.unit.now.entries (λ ys. values) (λ e. refl) old.within)
    ∙ h

-- what an answer says of a value that is another one
pub ok_moved : {A E U : Type 0} (r : Result A E) (x y z : U) → x ≡ y → OnOk r (y ≡ z) → OnOk r (x ≡ z)
ok_moved (Ok a) x y z e h = e ∙ h
ok_moved (Err a) x y z e h = h

-- a flag and attributes, one after the other
pub contents_set : {A E : Type 0} (r : Result A E) (u v w : UnitValue) (i j : ℕ) (sibling : Bool) (xs : List Attribute) → i ≡ j → v ≡ with_entry u j (with_sibling sibling) → OnOk r (w ≡ with_entry v i (with_attributes xs)) → OnOk r (w ≡ with_entry u j (with_contents sibling xs))
contents_set (Ok a) u v w i j sibling xs k f h =
    h
    ∙ ap (λ (n : ℕ). with_entry v n (with_attributes xs)) k
    ∙ ap (λ (y : UnitValue). with_entry y j (with_attributes xs)) f
    ∙ ap (λ es. record u { entries = es }) (changed_twice j (with_sibling sibling) (with_attributes xs) u.entries)
contents_set (Err a) u v w i j sibling xs k f h = h
