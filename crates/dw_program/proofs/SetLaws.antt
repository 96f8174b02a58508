-- Sets that hold what Dwarfs leave: where their parts start, and what they are joined to.
use Rattle.std.specs.Prelude.{◌≡◌, ℕ, zero, suc, ◌+◌, Bool, List, [], ◌∷◌, ◌++◌, length, take, map, Option, Some, None, refl}
use Rattle.std.proofs.Common.{sym, ◌∙◌, ap, ap₂, arith, length-append}
use Rattle.dw_base.specs.Numbers.{◌>>=◌}
use Rattle.dw_base.specs.declared.section_id.SectionId.{SectionId}
use Rattle.dw_base.specs.declared.section_id.SectionId.TheVariants.{DebugInfo}
use Rattle.dw_writer.specs.Layout.{Layout}
use Rattle.dw_writer.specs.Meaning.{Meaning}
use Rattle.dw_writer.specs.Resolved.{resolved}
use Rattle.dw_writer.specs.Texts.{followed}
use Rattle.dw_writer.specs.Visits.{written_ids}
use Rattle.dw_tree.specs.Built.{File}
use Rattle.dw_dwarf.specs.DwarfValue.{DwarfValue}
use Rattle.dw_dwarf.specs.Left.{units_of}
use Rattle.dw_link.specs.Linked.{files_from}
use Rattle.dw_link.specs.Sets.{Parts, bytes_of, concatenated, start_in, layout_in, linked_part, linked_from, linked_parts}
use Rattle.dw_program.specs.SetParts.{Part, Placed, part_of, size_in, section_size, set_layout, text_in, section_from, section_text, files_behind, ArePlaced, IsHeld, IsSet, AreSets}

-- each set holds what its Dwarf leaves
abbrev pub HoldSets : Bool → List Parts → List Placed → Type 0
HoldSets big [] [] = Unit {0}
HoldSets big [] (p ∷ ps) = ⊥
HoldSets big (set ∷ sets) [] = ⊥
HoldSets big (set ∷ sets) (p ∷ ps) = ((s : SectionId) → IsHeld (set s) big (part_of p s)) × HoldSets big sets ps

-- sets with the places of their units
pub record PlacedSets (big : Bool) (sets : List Parts) (ds : List DwarfValue) : Type 0 where
  pub placed : List Placed
  pub are : ArePlaced ds placed
  pub hold : HoldSets big sets placed

pub placed_sets : (big : Bool) (sets : List Parts) (ds : List DwarfValue) → AreSets big sets ds → PlacedSets big sets ds
placed_sets big [] [] h = record { placed = []; are = tt; hold = tt }
placed_sets big [] (d ∷ ds) h = absurd h
placed_sets big (set ∷ sets) [] h = absurd h
placed_sets big (set ∷ sets) (d ∷ ds) h =
    let more = placed_sets big sets ds h.1 in
    record {
      placed = record { dwarf = d; kept = h.0.kept } ∷ more.placed;
      are = (refl, h.0.in_row, more.are);
      hold = (h.0.parts, more.hold);
    }

-- Where parts start

held_size : (o : Option Meaning) (big : Bool) (q : Option Part) → IsHeld o big q → length (bytes_of o) ≡ size_in q
held_size None big None h = refl
held_size None big (Some q) h = absurd h
held_size (Some m) big None h = absurd h
held_size (Some m) big (Some q) h = h.long

pub start_same : (big : Bool) (sets : List Parts) (ps : List Placed) → HoldSets big sets ps → (n : ℕ) (s : SectionId) → start_in sets n s ≡ section_size (take n ps) s
start_same big sets ps h zero s = refl
start_same big [] [] h (suc n) s = refl
start_same big [] (p ∷ ps) h (suc n) s = absurd h
start_same big (set ∷ sets) [] h (suc n) s = absurd h
start_same big (set ∷ sets) (p ∷ ps) h (suc n) s =
    omega (arith, length-append (bytes_of (set s)) (concatenated s (take n sets)), held_size (set s) big (part_of p s) (h.0 s), start_same big sets ps h.1 n s)

-- a layout in which sections start there
laid_out : List ℕ → (SectionId → ℕ) → SectionId → Layout
laid_out symbols f s = record { starts = map f written_ids; own_start = f s; symbols = symbols }

pub layout_same : (big : Bool) (sets : List Parts) (ps : List Placed) → HoldSets big sets ps → (symbols : List ℕ) (n : ℕ) (s : SectionId) → layout_in sets symbols n s ≡ set_layout ps symbols n s
unfolding laid_out
layout_same big sets ps h symbols n s =
    let starts : start_in sets n ≡ section_size (take n ps) = λ k. λ t. start_same big sets ps h n t k in
    ap (λ f. laid_out symbols f s) starts

-- so are all layouts
pub layouts_same : (big : Bool) (sets : List Parts) (ps : List Placed) → HoldSets big sets ps → (symbols : List ℕ) → layout_in sets symbols ≡ set_layout ps symbols
layouts_same big sets ps h symbols = λ k. λ n s. layout_same big sets ps h symbols n s k

-- What they are joined to

held_text : (o : Option Meaning) (big : Bool) (q : Option Part) (l : Layout) → IsHeld o big q → (o >>= resolved l) ≡ text_in q big l
held_text None big None l h = refl
held_text None big (Some q) l h = absurd h
held_text (Some m) big None l h = absurd h
held_text (Some m) big (Some q) l h = h.resolves l

module _ (big : Bool) (sets : List Parts) (ps : List Placed) (all : HoldSets big sets ps) (symbols : List ℕ) (s : SectionId) where
  from_same : (n : ℕ) (more : List Parts) (qs : List Placed) → HoldSets big more qs → linked_from sets symbols s n more ≡ section_from ps symbols big s n qs
  from_same n [] [] h = refl
  from_same n [] (q ∷ qs) h = absurd h
  from_same n (set ∷ more) [] h = absurd h
  from_same n (set ∷ more) (q ∷ qs) h =
      let part : linked_part sets symbols s n set ≡ text_in (part_of q s) big (set_layout ps symbols n s) =
      held_text (set s) big (part_of q s) (layout_in sets symbols n s) (h.0 s) ∙ ap (text_in (part_of q s) big) (layout_same big sets ps all symbols n s)
      in
      ap₂ followed part (from_same (n + 1) more qs h.1)

  pub joined_same : linked_parts sets symbols s ≡ section_text ps symbols big s
  unfolding linked_parts section_text
  joined_same = from_same 0 sets ps all

-- their units, where their parts stand
module _ (big : Bool) (sets : List Parts) (ps : List Placed) (all : HoldSets big sets ps) (symbols : List ℕ) where
  files_same : (n : ℕ) (ds : List DwarfValue) (qs : List Placed) → ArePlaced ds qs → files_from sets symbols n ds ≡ files_behind ps symbols n qs
  files_same n [] [] h = refl
  files_same n [] (q ∷ qs) h = absurd h
  files_same n (d ∷ ds) [] h = absurd h
  files_same n (d ∷ ds) (q ∷ qs) h =
      let file : DwarfValue → Layout → File = λ e l. record { units = units_of e; layout = l } in
      ap₂ (λ f fs. f ∷ fs) (ap (λ e. file e (layout_in sets symbols n DebugInfo)) (sym h.0) ∙ ap (file q.dwarf) (layout_same big sets ps all symbols n DebugInfo)) (files_same (n + 1) ds qs h.2)

  pub files_are : (ds : List DwarfValue) → ArePlaced ds ps → files_from sets symbols 0 ds ≡ files_behind ps symbols 0 ps
  files_are ds h = files_same 0 ds ps h

-- one set more
pub AreSets-more : (big : Bool) (sets : List Parts) (ds : List DwarfValue) (set : Parts) (d : DwarfValue) → AreSets big sets ds → IsSet big set d → AreSets big (sets ++ set ∷ []) (ds ++ d ∷ [])
AreSets-more big [] [] set d h is = (is, tt)
AreSets-more big [] (e ∷ ds) set d h is = absurd h
AreSets-more big (x ∷ sets) [] set d h is = absurd h
AreSets-more big (x ∷ sets) (e ∷ ds) set d h is = (h.0, AreSets-more big sets ds set d h.1 is)
