-- Sets that are valid where they are joined have all their texts there.
use Rattle.std.specs.Prelude.{◌≡◌, ℕ, zero, suc, Bool, true, false, List, [], ◌∷◌, All, take, Option, Some, None, refl, IsTrue, slice_get}
use Rattle.std.proofs.Common.{sym, ap, subst}
use Rattle.std.proofs.lemmas.Option.{slice_get_within, get_or_from_slice_get}
use Rattle.dw_base.specs.declared.section_id.SectionId.{SectionId}
use Rattle.dw_base.specs.declared.section_id.SectionId.TheVariants.{DebugAbbrev, DebugStr, DebugLineStr, DebugLine, DebugRanges, DebugRngLists, DebugLoc, DebugLocLists, DebugInfo, DebugFrame, EhFrame}
use Rattle.dw_writer.specs.Layout.{Layout, start_of}
use Rattle.dw_tree.specs.Built.{at_begin}
use Rattle.dw_tree.specs.Pending.{AreInRow, IsThere}
use Rattle.dw_dwarf.specs.DwarfValue.{DwarfValue}
use Rattle.dw_dwarf.specs.Left.{units_of}
use Rattle.dw_dwarf.specs.Valid.{AreUnwritten}
use Rattle.dw_link.specs.Steps.{is_below}
use Rattle.dw_dwarf_laws.specs.Dwarfs.{numbered_dwarf}
use Rattle.dw_dwarf_laws.specs.Joined.{IsValidBehind}
use Rattle.dw_dwarf_laws.specs.Starts.{StartsAt}
use Rattle.dw_dwarf_laws.proofs.Dwarfs.{AllThere, numbered_there}
use Rattle.dw_build.specs.SetsValue.{SetsValue}
use Rattle.dw_program.specs.Linked.{AreValidJoined}
use Rattle.dw_program.specs.SetParts.{Part, Placed, ArePlaced, part_of, section_size}

-- A layout in which the joined sections start where the parts of set n do. Another one may start anywhere: a text that is there in
-- all of these counts from none of them.
pub record StartsAs (ps : List Placed) (symbols : List ℕ) (n : ℕ) (s : SectionId) (l : Layout) : Type 0 where
  pub own : l.own_start ≡ section_size (take n ps) s
  pub values : l.symbols ≡ symbols
  pub starts : (t : SectionId) → IsTrue (is_below 11 t) → start_of l t ≡ section_size (take n ps) t

-- every text of every set is there in its place
abbrev pub AllFit : List Placed → List ℕ → Bool → Type 0
AllFit ps symbols big =
    (n : ℕ) (p : Placed) (s : SectionId) (q : Part) (l : Layout) → slice_get ps n ≡ Some p → part_of p s ≡ Some q → StartsAs ps symbols n s l → IsThere (q.text big l)

-- one of placed Dwarfs, whose units stand in a row
record IsOne (ds : List DwarfValue) (n : ℕ) (p : Placed) : Type 0 where
  at : slice_get ds n ≡ Some p.dwarf
  row : AreInRow at_begin (units_of p.dwarf) p.kept

one_placed : (ds : List DwarfValue) (ps : List Placed) (n : ℕ) (p : Placed) → ArePlaced ds ps → slice_get ps n ≡ Some p → IsOne ds n p
one_placed [] [] n p h at = cc
one_placed [] (q ∷ ps) n p h at = absurd h
one_placed (d ∷ ds) [] n p h at = absurd h
one_placed (d ∷ ds) (q ∷ ps) zero p h at =
    let same : q ≡ p = cc in
    let own : IsOne (d ∷ ds) 0 q = record { at = ap Some (sym h.0); row = subst (λ e. AreInRow at_begin (units_of e) q.kept) (sym h.0) h.1 } in
    subst (IsOne (d ∷ ds) 0) same own
one_placed (d ∷ ds) (q ∷ ps) (suc n) p h at = let more = one_placed ds ps n p h.2 at in record { at = more.at; row = more.row }

-- what is true of each is true of one
pub of_one : (P : DwarfValue → Type 0) (ds : List DwarfValue) (n : ℕ) (d : DwarfValue) → All P ds → slice_get ds n ≡ Some d → P d
of_one P ds n d all at = subst P (get_or_from_slice_get ds n d d at) (all n d (slice_get_within ds n d at))

-- the sections that places count from are joined
starts_at : (ps : List Placed) (symbols : List ℕ) (n : ℕ) (s : SectionId) (l : Layout) → StartsAs ps symbols n s l → StartsAt (section_size (take n ps)) l
starts_at ps symbols n s l h = record {
  abbrevs = h.starts DebugAbbrev refl;
  strings = h.starts DebugStr refl;
  line_strings = h.starts DebugLineStr refl;
  lines = h.starts DebugLine refl;
  ranges = h.starts DebugRanges refl;
  range_lists = h.starts DebugRngLists refl;
  locations = h.starts DebugLoc refl;
  location_lists = h.starts DebugLocLists refl;
  info = h.starts DebugInfo refl;
}

-- the text of a part that is told
text_of : (o : Option Part) (p q : Part) (big : Bool) (l : Layout) → o ≡ Some p → o ≡ Some q → IsThere (p.text big l) → IsThere (q.text big l)
text_of None p q big l is own there = cc
text_of (Some x) p q big l is own there =
    let same : x ≡ p = cc in
    let other : x ≡ q = cc in
    subst (λ y. IsThere (y.text big l)) other (subst (λ y. IsThere (y.text big l)) (sym same) there)

-- the parts of a set, where the texts of its units are there
parts_there : (p : Placed) (s : SectionId) (q : Part) (big : Bool) (l : Layout) → AllThere p.dwarf p.kept big l → part_of p s ≡ Some q → IsThere (q.text big l)
parts_there p DebugInfo q big l h is = text_of (part_of p DebugInfo) _ q big l refl is h.info
parts_there p DebugLine q big l h is = text_of (part_of p DebugLine) _ q big l refl is h.lines
parts_there p DebugRanges q big l h is = text_of (part_of p DebugRanges) _ q big l refl is (h.ranges false)
parts_there p DebugRngLists q big l h is = text_of (part_of p DebugRngLists) _ q big l refl is (h.ranges true)
parts_there p DebugLoc q big l h is = text_of (part_of p DebugLoc) _ q big l refl is (h.locations false)
parts_there p DebugLocLists q big l h is = text_of (part_of p DebugLocLists) _ q big l refl is (h.locations true)
parts_there p DebugAbbrev q big l h is = text_of (part_of p DebugAbbrev) _ q big l refl is (_, refl)
parts_there p DebugStr q big l h is = text_of (part_of p DebugStr) _ q big l refl is (_, refl)
parts_there p DebugLineStr q big l h is = text_of (part_of p DebugLineStr) _ q big l refl is (_, refl)
parts_there p DebugFrame q big l h is = text_of (part_of p DebugFrame) _ q big l refl is (_, refl)
parts_there p EhFrame q big l h is = text_of (part_of p EhFrame) _ q big l refl is (_, refl)
parts_there p s q big l h is = cc

pub joined_fit : (s : SetsValue) → AreValidJoined s → All AreUnwritten s.dwarfs → (placed : List Placed) → ArePlaced s.dwarfs placed → (big : Bool) → AllFit placed s.symbols big
joined_fit s valid unwritten placed are big n p section q l at part starts =
    let one = one_placed s.dwarfs placed n p are at in
    let own = subst (λ symbols. IsValidBehind (section_size (take n placed)) (numbered_dwarf symbols p.dwarf)) (sym starts.values) (valid placed are n p at) in
    let there = numbered_there (section_size (take n placed)) p.dwarf l own (of_one AreUnwritten s.dwarfs n p.dwarf unwritten one.at) p.kept one.row big (starts_at placed s.symbols n section l starts) in
    parts_there p section q big l there part
