-- A unit that is the only one of its file. References name no entry by its place in .debug_info.
use Rattle.std.specs.Prelude.{◌≡◌, ◌⊎◌, ℕ, Bool, true, false, ◌||◌, List, [], ◌∷◌, Option, Some, None, IsTrue}
use Rattle.std.specs.List.{list_any}
use Rattle.std.specs.Option.{option_map}
use Rattle.dw_base.specs.Entries.{Mark, Open, Null}
use Rattle.dw_base.specs.declared.address.DebugInfoRef.TheVariants as refs
use Rattle.dw_base.specs.declared.error.Error.{Error}
use Rattle.dw_base.specs.declared.error.Error.TheVariants as errors
use Rattle.dw_writer.specs.Drafts.{Info}
use Rattle.dw_expr.specs.References.{nodes_refer}
use Rattle.dw_expr.specs.Trees.{Node}
use Rattle.dw_writer.specs.Meaning.{Meaning}
use Rattle.dw_writer.specs.Sections.{SomeHasRisen}
use Rattle.dw_writer.specs.declared.sections.Sections.{Sections}
use Rattle.dw_entries.specs.declared.attribute.Attribute.{Attribute}
use Rattle.dw_entries.specs.declared.value.AttributeValue.{AttributeValue}
use Rattle.dw_entries.specs.declared.value.AttributeValue.TheVariants as values
use Rattle.dw_entries.specs.Entries.{EntryValue, entry_at}
use Rattle.dw_entries.specs.Targets.{Tables}
use Rattle.dw_tree.specs.Elsewhere.{Elsewhere}
use Rattle.dw_entries.specs.Tree.{preorder}
use Rattle.dw_tree.specs.Built.{Numbered}
use Rattle.dw_tree.specs.Causes.{Because, UnitFails}
use Rattle.dw_lists.specs.Parts.{Part}
use Rattle.dw_lists.specs.Tables.{locations_in}
use Rattle.dw_tree.specs.Pending.{Kept, kept_offsets, units_draft, locations_draft}
use Rattle.dw_tree.specs.Places.{OffsetsValue, offsets_in}
use Rattle.dw_tree.specs.UnitValue.{UnitValue}
use Rattle.dw_tree.specs.Whole.{settled}
use Rattle.dw_tree.specs.Written.{AppendsUnits}

-- a value names an entry by its place in .debug_info, alone or in an expression
abbrev pub is_info_reference : AttributeValue → Bool
is_info_reference (values.DebugInfoRef (refs.Entry u i)) = true
is_info_reference (values.Exprloc x) = nodes_refer x
is_info_reference v = false

-- some value of these attributes does
abbrev pub some_info_reference : List Attribute → Bool
some_info_reference xs = list_any (λ a. is_info_reference a.value) xs

abbrev pub mark_refers : List EntryValue → Mark ℕ → Bool
mark_refers es (Open i) = some_info_reference (entry_at es i).attributes
mark_refers es Null = false

-- some value in the tree does
abbrev pub tree_refers : List EntryValue → Bool
tree_refers es = list_any (mark_refers es) (preorder es)

-- the expression of an item of a list does
abbrev pub part_refers : Part → Bool
part_refers p = any_refers p.expression
  where
    any_refers : Option (List Node) → Bool
    any_refers None = false
    any_refers (Some x) = nodes_refer x

abbrev pub list_refers : List Part → Bool
list_refers ps = list_any part_refers ps

abbrev pub lists_refer : List (List Part) → Bool
lists_refer xs = list_any list_refers xs

-- some value in the tree of a unit, as it is written, does, or some location list
abbrev pub has_info_reference : UnitValue → Bool
has_info_reference u = tree_refers (settled u).entries || lists_refer (locations_in u.locations)

-- a unit as the only one of its file
abbrev pub only_unit : Tables → UnitValue → List Numbered
only_unit t u = record { id = 0; unit = u; tables = t } ∷ []

-- The unit stands at the end of .debug_info, and its table at the end of .debug_abbrev. It keeps where its entries stand. No
-- place in it is open, so it is the same wherever entries stand.
pub record AppendsAlone {W : Type 0} (meaning : W → Meaning) (old new : Sections W) (u : UnitValue) (t : Tables) (offsets : Option OffsetsValue) : Type 0 where
  pub kept : Kept
  pub appends : (info : Info) → AppendsUnits meaning old new info (only_unit t u) (kept ∷ [])
  pub closed : (units_draft (only_unit t u) (kept ∷ [])).holes ≡ []
  pub lists_closed : (five : Bool) → (locations_draft (only_unit t u) five).holes ≡ []
  pub offsets_are : option_map offsets_in offsets ≡ Some (kept_offsets kept)

-- a unit fails by itself, or names an entry by its place in .debug_info
abbrev pub AloneFails : UnitValue → Elsewhere → ℕ → Bool → Error → Type 0
AloneFails u t table is_plain err = UnitFails u t table is_plain err ⊎ ((err ≡ errors.InvalidReference) × IsTrue (has_info_reference u))

-- why a unit alone is refused
abbrev pub AloneRefused : {W : Type 0} → (W → Meaning) → Sections W → Sections W → UnitValue → Elsewhere → Error → Type 0
AloneRefused meaning old new u t err =
    Because (SomeHasRisen meaning old new) (AloneFails u t (meaning old.debug_abbrev.0).size (meaning old.debug_info.0).is_plain) err
