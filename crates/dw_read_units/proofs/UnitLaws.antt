-- A unit's root and its fields.
use Rattle.std.proofs.Common.{◌≡◌, ◌∙◌, ap, subst, ℕ, List, [], ◌∷◌, map, All, Some, refl}
use Rattle.std.proofs.lemmas.List.Elements.{All-head, All-tail}
use Rattle.dw_base.specs.Abbreviations.{Declaration}
use Rattle.dw_base.specs.Entries.{ReadEntry, Mark, mark_at}
use Rattle.dw_base.specs.declared.common.Encoding.{Encoding}
use Rattle.dw_read.specs.Reading.{Reading, left}
use Rattle.dw_read.specs.Attributes.{attribute_of}
use Rattle.dw_read.specs.Values.{Value}
use Rattle.dw_read.specs.declared.fields.Fields.{Fields}
use Rattle.dw_read.specs.declared.attribute.Attribute.{Attribute}
use Rattle.dw_base.specs.declared.constants.TheConstants.{DW_AT_low_pc}
use Rattle.dw_read.specs.declared.unit_header.UnitHeader.{UnitHeader}
use Rattle.dw_read.specs.declared.error.ReadError.{ReadError}
use Rattle.dw_read_units.specs.Roots.{named_of, named_in, last_value}
use Rattle.dw_read_units.specs.RootFields.{bases_of, MissesLowPc}
use Rattle.dw_read_units.specs.UnitReads.{HasFields}
use Rattle.dw_read_units.specs.declared.root.Bases.{Bases}
use Rattle.dw_read_units.specs.declared.dwarf.Dwarf.{Dwarf}
use Rattle.dw_read_units.specs.declared.dwarf.Unit.{Unit as ReadUnit}

pub root_row : (r body : Reading) (f h : Fields) (t table : List Declaration) (m : Mark ReadEntry) (rest : List ℕ) → r ≡ body → f ≡ h → t ≡ table → mark_at r.is_big f.encoding t (left r) ≡ Some (m, rest) → mark_at body.is_big h.encoding table (left body) ≡ Some (m, rest)
root_row r body f h t table m rest p q s v =
    subst (λ (x : Reading). mark_at x.is_big h.encoding table (left x) ≡ Some (m, rest)) p
    (subst (λ (x : Fields). mark_at r.is_big x.encoding table (left r) ≡ Some (m, rest)) q
    (subst (λ (x : List Declaration). mark_at r.is_big f.encoding x (left r) ≡ Some (m, rest)) s v))

pub root_encoded : {R E : Type 0} (f h : Fields) (attrs : List (Attribute R E)) → f ≡ h → All (λ a. a.encoding ≡ f.encoding) attrs → All (λ a. a.encoding ≡ h.encoding) attrs
root_encoded f h attrs q v = subst (λ (x : Fields). All (λ a. a.encoding ≡ x.encoding) attrs) q v

-- the names and values of attributes are those of what was read
pub named_are : {R E : Type 0} (reading : R → Reading) (e : Encoding) (attrs : List (Attribute R E)) → All (λ a. a.encoding ≡ e) attrs → map (named_in reading) attrs ≡ map (named_of e) (map (attribute_of reading) attrs)
named_are reading e [] h = refl
named_are reading e (a ∷ attrs) h =
    let q : a.encoding ≡ e = All-head (λ a. a.encoding ≡ e) a attrs h in
    ap (λ (x : Encoding). named_of x (attribute_of reading a) ∷ map (named_in reading) attrs) q
    ∙ ap (λ (xs : List (ℕ × Value)). named_of e (attribute_of reading a) ∷ xs) (named_are reading e attrs (All-tail (λ a. a.encoding ≡ e) a attrs h))

-- the root's names and values as they were read
pub low_pc_missed : {R E : Type 0} (section : Reading) (h : UnitHeader R E) (xs ys : List (ℕ × Value)) (b : Bases) (e : Encoding) (y : ReadError) → xs ≡ ys → b ≡ bases_of h xs → e ≡ h.fields.encoding → MissesLowPc section b.addr e.address_size (last_value DW_AT_low_pc.0 DW_AT_low_pc.0 xs) y
    → MissesLowPc section (bases_of h ys).addr h.fields.encoding.address_size (last_value DW_AT_low_pc.0 DW_AT_low_pc.0 ys) y
low_pc_missed section h xs ys b e y q p r m =
    subst (λ (l : List (ℕ × Value)). MissesLowPc section (bases_of h l).addr h.fields.encoding.address_size (last_value DW_AT_low_pc.0 DW_AT_low_pc.0 l) y) q
    (subst (λ (x : Bases). MissesLowPc section x.addr h.fields.encoding.address_size (last_value DW_AT_low_pc.0 DW_AT_low_pc.0 xs) y) p
    (subst (λ (x : Encoding). MissesLowPc section b.addr x.address_size (last_value DW_AT_low_pc.0 DW_AT_low_pc.0 xs) y) r m))

pub fields_moved : {R E : Type 0} (reading : R → Reading) (d : Dwarf R E) (h : UnitHeader R E) (u : ReadUnit R E) (xs ys : List (ℕ × Value)) → xs ≡ ys → HasFields reading d h xs u → HasFields reading d h ys u
fields_moved reading d h u xs ys q f = subst (λ (l : List (ℕ × Value)). HasFields reading d h l u) q f
