-- What callers know of a unit whose entries they convert.
use Rattle.std.proofs.Common.{◌≡◌, ◌≢◌, ◌∙◌, sym, ap, subst, ℕ, zero, suc, ◌≤◌, List, [], ◌∷◌, length, All, Option, Some, None, Bool, true, false, not, refl, arith}
use Rattle.std.specs.Prelude.{◌==◌, if◌then◌else◌}
use Rattle.std.proofs.lemmas.Bool.{eq-eqb, false≢true}
use Rattle.std.proofs.lemmas.List.Elements.{All-nil, All-cons}
use Rattle.dw_base.proofs.NumberLaws.{bind_parts, when_same}
use Rattle.dw_base.specs.Abbreviations.{Declaration, Shape, children_at, declarations_at, is_new_code, shape_at, specifications_at, table_at}
use Rattle.dw_base.specs.Info.{ReadUnit}
use Rattle.dw_base.specs.Leb128.{uleb_at, uleb16_at}
use Rattle.dw_base.specs.Numbers.{◌>>=◌, when}
use Rattle.dw_entries.specs.Entries.{new_root}
use Rattle.dw_entry_ids.specs.Ids.{entry_count}
use Rattle.dw_entry_ids.specs.KeptRows.{IsClosed, kept_rows}
use Rattle.dw_entry_ids.specs.Units.{IsNumbered}
use Rattle.dw_entry_ids.specs.declared.units.NumberedUnit.{NumberedUnit}
use Rattle.dw_read.specs.Reading.{Reading}
use Rattle.dw_read_units.specs.Passes.{rows_reading}
use Rattle.dw_read_units.specs.declared.dwarf.Dwarf.{Dwarf}
use Rattle.dw_read_units.specs.declared.dwarf.Unit.{Unit as UnitFields}
use Rattle.dw_read_units.specs.declared.unit_ref.UnitRef.{UnitRef}
use Rattle.dw_tree.specs.UnitValue.{UnitValue}
use Rattle.dw_dwarf.specs.ConvertSteps.{CanConvert}

abbrev HasTag : Declaration → Type 0
HasTag d = d.shape.tag ≢ 0

-- the shape behind a tag, part by part
abbrev with_shape : ℕ → Bool × List ℕ → Option (Shape × List ℕ)
with_shape tag children = specifications_at (length children.1) children.1 >>= λ attributes. Some (record { tag = tag; has_children = children.0; attributes = attributes.0 }, attributes.1)

abbrev with_tag : ℕ × List ℕ → Option (Shape × List ℕ)
with_tag tag = when (not (tag.0 == 0)) (children_at tag.1 >>= with_shape tag.0)

abbrev tag_in : Option (Shape × List ℕ) → ℕ
tag_in None = 0
tag_in (Some x) = x.0.tag

-- no shape that is read has the tag zero
shape_tagged : (bytes rest : List ℕ) (s : Shape) → shape_at bytes ≡ Some (s, rest) → s.tag ≢ 0
unfolding shape_at
shape_tagged bytes rest s h =
    let a = bind_parts (uleb16_at bytes) with_tag (s, rest) h in
    go a.0 (a.0.0 == 0) refl a.2
  where
    go : (tag : ℕ × List ℕ) (b : Bool) → (tag.0 == 0) ≡ b → when (not b) (children_at tag.1 >>= with_shape tag.0) ≡ Some (s, rest) → s.tag ≢ 0
    go tag true e k = let clash : ◌≡◌ {A = Option (Shape × List ℕ)} None (Some (s, rest)) = k in absurd cc
    go tag false e k =
        let c = bind_parts (children_at tag.1) (with_shape tag.0) (s, rest) k in
        let p = bind_parts (specifications_at (length c.0.1) c.0.1) (λ attributes. Some (record { tag = tag.0; has_children = c.0.0; attributes = attributes.0 }, attributes.1)) (s, rest) c.2 in
        let same : tag.0 ≡ s.tag = ap tag_in p.2 in
        λ z. false≢true (sym e ∙ eq-eqb tag.0 0 (same ∙ z))

-- the table behind a code, part by part
abbrev with_more : ℕ → Shape → List Declaration × List ℕ → Option (List Declaration × List ℕ)
with_more code s more = when (is_new_code code more.0) (Some (record { code = code; shape = s } ∷ more.0, more.1))

abbrev with_first : ℕ → ℕ → Shape × List ℕ → Option (List Declaration × List ℕ)
with_first fuel code s = declarations_at fuel s.1 >>= with_more code s.0

abbrev with_code : ℕ → ℕ × List ℕ → Option (List Declaration × List ℕ)
with_code fuel code = if code.0 == 0 then Some ([], code.1) else (shape_at code.1 >>= with_first fuel code.0)

abbrev table_in : Option (List Declaration × List ℕ) → List Declaration
table_in None = []
table_in (Some x) = x.0

declarations_tagged : (fuel : ℕ) (bytes rest : List ℕ) (table : List Declaration) → declarations_at fuel bytes ≡ Some (table, rest) → All HasTag table
unfolding declarations_at
declarations_tagged zero bytes rest table h = let clash : ◌≡◌ {A = Option (List Declaration × List ℕ)} None (Some (table, rest)) = h in absurd cc
declarations_tagged (suc fuel) bytes rest table h =
    let a = bind_parts (uleb_at bytes) (with_code fuel) (table, rest) h in
    go a.0 (a.0.0 == 0) a.2 (declarations_tagged fuel)
  where
    go : (code : ℕ × List ℕ) (b : Bool) → (if b then Some ([], code.1) else (shape_at code.1 >>= with_first fuel code.0)) ≡ Some (table, rest) → ((bs r : List ℕ) (t : List Declaration) → declarations_at fuel bs ≡ Some (t, r) → All HasTag t) → All HasTag table
    go code true k less = let none : [] ≡ table = ap table_in k in subst (λ (t : List Declaration). All HasTag t) none (All-nil HasTag)
    go code false k less =
        let s = bind_parts (shape_at code.1) (with_first fuel code.0) (table, rest) k in
        let m = bind_parts (declarations_at fuel s.0.1) (with_more code.0 s.0.0) (table, rest) s.2 in
        let is : record { code = code.0; shape = s.0.0 } ∷ m.0.0 ≡ table = ap table_in (when_same (is_new_code code.0 m.0.0) (Some (record { code = code.0; shape = s.0.0 } ∷ m.0.0, m.0.1)) (table, rest) m.2) in
        subst (λ (t : List Declaration). All HasTag t) is (All-cons HasTag _ _ (shape_tagged code.1 s.0.1 s.0.0 s.1) (less s.0.1 m.0.1 m.0.0 m.1))

-- no declaration of a table that is read has the tag zero
pub table_tagged : (bytes rest : List ℕ) (table : List Declaration) → table_at bytes ≡ Some (table, rest) → All (λ (d : Declaration). d.shape.tag ≢ 0) table
unfolding table_at
table_tagged bytes rest table h = declarations_tagged (length bytes) bytes rest table h

-- a unit whose entries are numbered can be converted into one that has its root alone and as many ids
pub can_convert : {R E : Type 0} (keep : ℕ → Bool) (reading : R → Reading) (d : Dwarf R E) (held : NumberedUnit R E) (r : ReadUnit) (u : UnitRef R E) (w : UnitValue) → IsNumbered keep reading d held r → IsClosed keep r.from r.rows → u.unit.now ≡ held.unit → w.reserved ≡ held.entries → w.entries ≡ new_root ∷ [] → w.is_freed ≡ false → CanConvert None keep reading u w
can_convert {R} {E} keep reading d held r u w n closed same reserved alone kept = record {
  rows = r.rows;
  are = ap (λ (x : UnitFields R E). rows_reading reading x.header x.abbreviations) same ∙ n.rows;
  behind = subst (λ (x : UnitFields R E). x.header.offset.0 ≤ (reading x.header.body).place) (sym same) n.behind;
  tagged = subst (λ (x : UnitFields R E). All (λ (t : Declaration). t.shape.tag ≢ 0) x.abbreviations) (sym same) (table_tagged _ _ held.unit.abbreviations n.unit.table.is);
  closed = subst (λ (x : UnitFields R E). IsClosed keep x.header.offset.0 r.rows) (sym same) (subst (λ (m : ℕ). IsClosed keep m r.rows) n.from closed);
  free = omega arith;
  reserved = reserved ∙ n.count ∙ ap (λ (m : ℕ). entry_count (kept_rows keep m r.rows)) n.from ∙ ap (λ (x : UnitFields R E). entry_count (kept_rows keep x.header.offset.0 r.rows)) (sym same);
  entries = alone;
  kept = kept;
}
