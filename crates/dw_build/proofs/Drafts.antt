-- A generated unit while its variables are added.
use Rattle.std.proofs.Common.{◌≡◌, ◌∙◌, sym, ap, subst, refl, arith, ℕ, zero, suc, ◌+◌, ◌≤◌, Bool, true, false, List, [], ◌∷◌, ◌++◌, Some, length}
use Rattle.std.specs.Prelude.{◌%◌, ◌==◌, if◌then◌else◌, nat_lt}
use Rattle.std.proofs.lemmas.Bool.{lt-ltb}
use Rattle.std.proofs.lemmas.List.{length-append}
use Rattle.dw_base.specs.declared.constants.TheConstants.{DW_TAG_variable, DW_TAG_base_type, DW_AT_byte_size, DW_AT_type, DW_AT_specification}
use Rattle.dw_entries.specs.declared.value.AttributeValue.TheVariants.{Data1, Udata, UnitRef}
use Rattle.dw_entries.specs.Attributes.{named}
use Rattle.dw_entries.specs.Entries.{EntryValue, blank_entry, new_root, filled_up, with_changed, with_child, placed_under, with_attribute, with_added, entry_at}
use Rattle.dw_entries.proofs.Filled.{filled_up-push, filled_up-same, seen_filled}
use Rattle.dw_line.specs.LinePrograms.{no_line_program}
use Rattle.dw_tree.specs.UnitValue.{UnitValue, new_unit, with_entry, IsReserved}
use Rattle.dw_build.specs.Drafted.{with_bare_variable, with_base_type, with_described, with_variable}
use Rattle.dw_build.specs.Generated.{generated_encoding, generated_unit, first_root, base_type_id, variable, variables, variable_ids}

-- what the entries come to, once the base type has a blank one
abbrev pub drafted_entries : ℕ → ℕ → List EntryValue
drafted_entries from n = record new_root { children = variable_ids n } ∷ blank_entry 1 ∷ variables from n

pub length-variables : (from n : ℕ) → length (variables from n) ≡ n
length-variables from zero = refl
length-variables from (suc n) = omega (arith, length-append (variables from n) (variable (2 + n) (from + n) ∷ []), length-variables from n)

-- the last entry changed
changed_last : (n : ℕ) (f : EntryValue → EntryValue) (es : List EntryValue) (e : EntryValue) → length es ≡ n → with_changed n f (es ++ e ∷ []) ≡ es ++ f e ∷ []
changed_last n f [] e h = let z : n ≡ 0 = omega arith in rw z refl
changed_last zero f (x ∷ es) e h = absurd (omega arith)
changed_last (suc n) f (x ∷ es) e h = ap (λ t. x ∷ t) (changed_last n f es e (omega arith))

-- So many variables were added: the entries are filled up once more is added.
pub record IsDraft (from n : ℕ) (u : UnitValue) : Type 0 where
  pub filled : filled_up (2 + n) u.entries ≡ drafted_entries from n
  pub within : length u.entries ≤ 2 + n
  pub is : u ≡ record (new_unit generated_encoding no_line_program) { entries = u.entries; reserved = 2 + n }

pub none_drafted : (from : ℕ) → IsDraft from 0 (record (new_unit generated_encoding no_line_program) { reserved = 2 })
none_drafted from = record { filled = refl; within = omega arith; is = refl }

-- its last entry changed
changed_end : (x y : EntryValue) (n : ℕ) (f : EntryValue → EntryValue) (es : List EntryValue) (e : EntryValue) → length es ≡ n → with_changed (2 + n) f (x ∷ y ∷ (es ++ e ∷ [])) ≡ x ∷ y ∷ (es ++ f e ∷ [])
changed_end x y n f es e h =
    let two : 2 + n ≡ suc (suc n) = omega arith in
    rw two (ap (λ t. x ∷ y ∷ t) (changed_last n f es e h))

-- a variable that names the first root or not
abbrev pub variable_that : Bool → ℕ → ℕ → EntryValue
variable_that b id i = record (blank_entry id) {
  parent = Some 0;
  tag = DW_TAG_variable.0;
  attributes = named DW_AT_byte_size.0 (Udata i) ∷ named DW_AT_type.0 (UnitRef (record { 0 = base_type_id })) ∷ (if b then named DW_AT_specification.0 first_root ∷ [] else []);
}

module _ (from n i : ℕ) (es : List EntryValue) (filled : filled_up (2 + n) es ≡ drafted_entries from n) (within : length es ≤ 2 + n) where
  abbrev so_far : UnitValue
  so_far = record (new_unit generated_encoding no_line_program) { entries = es; reserved = 2 + n }

  abbrev with_entries : List EntryValue → UnitValue
  with_entries t = record (new_unit generated_encoding no_line_program) { entries = t; reserved = 2 + n + 1 }

  -- the entries with an entry behind the variables
  abbrev ended_by : EntryValue → List EntryValue
  ended_by e = record new_root { children = variable_ids (suc n) } ∷ blank_entry 1 ∷ (variables from n ++ e ∷ [])

  abbrev bare : EntryValue
  bare = placed_under 0 DW_TAG_variable.0 (blank_entry (2 + n))

  abbrev with_size : EntryValue → EntryValue
  with_size = with_attribute DW_AT_byte_size.0 (Udata i)

  abbrev with_type : EntryValue → EntryValue
  with_type = with_attribute DW_AT_type.0 (UnitRef (record { 0 = base_type_id }))

  abbrev with_specification : EntryValue → EntryValue
  with_specification = with_attribute DW_AT_specification.0 first_root

  ended : (f : EntryValue → EntryValue) (e : EntryValue) → with_changed (2 + n) f (ended_by e) ≡ ended_by (f e)
  ended f e = changed_end (record new_root { children = variable_ids (suc n) }) (blank_entry 1) n f (variables from n) e (length-variables from n)

  added : with_added (2 + n + 1) (2 + n) 0 DW_TAG_variable.0 es ≡ ended_by bare
  added =
      ap (λ t. with_changed (2 + n) (placed_under 0 DW_TAG_variable.0) (with_changed 0 (with_child (2 + n)) t)) (sym (filled_up-push (2 + n) es within) ∙ ap (λ t. t ++ blank_entry (2 + n) ∷ []) filled)
      ∙ ended (placed_under 0 DW_TAG_variable.0) (blank_entry (2 + n))

  described : with_described (2 + n) base_type_id i (with_bare_variable so_far) ≡ with_entries (ended_by (with_type (with_size bare)))
  described =
      ap (λ t. with_entries (with_changed (2 + n) with_type (with_changed (2 + n) with_size t))) added
      ∙ ap (λ t. with_entries (with_changed (2 + n) with_type t)) (ended with_size bare)
      ∙ ap with_entries (ended with_type (with_size bare))

  -- with all its attributes
  whole : (b : Bool) → (if b then with_entry (with_described (2 + n) base_type_id i (with_bare_variable so_far)) (2 + n) with_specification else with_described (2 + n) base_type_id i (with_bare_variable so_far)) ≡ with_entries (ended_by (variable_that b (2 + n) i))
  whole true = ap (λ u. with_entry u (2 + n) with_specification) described ∙ ap with_entries (ended with_specification (with_type (with_size bare)))
  whole false = described

  pub variable_added : with_variable base_type_id i so_far ≡ with_entries (ended_by (variable (2 + n) i))
  variable_added = whole ((i % 100) == 0)

-- one variable more
pub one_drafted : (from n : ℕ) (u : UnitValue) → IsDraft from n u → IsDraft from (suc n) (with_variable base_type_id (from + n) u)
one_drafted from n u h =
    let now = ap (with_variable base_type_id (from + n)) h.is ∙ variable_added from n (from + n) u.entries h.filled h.within in
    let long : 2 + suc n ≡ length (drafted_entries from (suc n)) = omega (arith, length-variables from (suc n)) in
    let done : IsDraft from (suc n) (record (new_unit generated_encoding no_line_program) { entries = drafted_entries from (suc n); reserved = 2 + n + 1 }) = record {
      filled = filled_up-same (2 + suc n) (drafted_entries from (suc n)) long;
      within = omega (arith, long);
      is = ap (λ (k : ℕ). record (new_unit generated_encoding no_line_program) { entries = drafted_entries from (suc n); reserved = k }) (omega arith);
    } in
    subst (IsDraft from (suc n)) (sym now) done

-- the base type's id waits for its entry
pub base_reserved : (from n : ℕ) (u : UnitValue) → IsDraft from n u → IsReserved u base_type_id
base_reserved from n u h =
    let blank : (entry_at u.entries 1).tag ≡ 0 = sym (seen_filled (λ e. e.tag) (λ i. refl) (2 + n) u.entries 1) ∙ ap (λ t. (entry_at t 1).tag) h.filled in
    let reserved : u.reserved ≡ 2 + n = ap (λ v. v.reserved) h.is in
    let out : nat_lt 1 u.reserved ≡ true = lt-ltb 1 u.reserved (omega (arith, reserved)) in
    rw (blank, out) refl

-- the base type behind the variables makes the unit whole
pub base_added : (from n : ℕ) (u : UnitValue) → IsDraft from n u → with_base_type base_type_id u ≡ generated_unit from n
base_added from n u h =
    ap (with_base_type base_type_id) h.is
    ∙ ap (λ t. with_entry (record (new_unit generated_encoding no_line_program) { entries = with_changed base_type_id (placed_under 0 DW_TAG_base_type.0) (with_changed 0 (with_child base_type_id) t); reserved = 2 + n }) base_type_id (with_attribute DW_AT_byte_size.0 (Data1 4))) h.filled
