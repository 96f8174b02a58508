-- A row that is read, as the walk over rows sees it.
use Rattle.std.proofs.Common.{◌≡◌, ◌≢◌, ◌∙◌, ap, ℕ, suc, List, [], ◌∷◌, All, Option, Some, None, Bool, true, false, arith}
use Rattle.std.specs.Prelude.{◌==◌, if◌then◌else◌}
use Rattle.std.proofs.lemmas.Bool.{false≢true}
use Rattle.dw_base.proofs.NumberLaws.{bind_parts}
use Rattle.dw_base.specs.Abbreviations.{Declaration, Shape, shape_of_code}
use Rattle.dw_base.specs.Entries.{ReadAttribute, ReadEntry, Mark, Open, Null, attributes_at, mark_at}
use Rattle.dw_base.specs.Leb128.{uleb_at}
use Rattle.dw_base.specs.Numbers.{◌>>=◌}
use Rattle.dw_base.specs.declared.common.Encoding.{Encoding}
use Rattle.dw_read.proofs.Chain.{took_of}
use Rattle.dw_read.proofs.FormLaws.{mark_law}
use Rattle.dw_read.specs.Reading.{Reading, left}
use Rattle.dw_read.specs.Rows.{PassesEntry, PassesNull, entry_of, row_at, row_read}
use Rattle.dw_read.specs.declared.entries.EntriesRaw.{EntriesRaw}
use Rattle.dw_read.specs.declared.entry.DebuggingInformationEntry.{DebuggingInformationEntry}
use Rattle.dw_read_units.specs.Passes.{PassesRow}

-- a shape that is found is that of a declaration
found_tagged : (table : List Declaration) (code : ℕ) (s : Shape) → All (λ (d : Declaration). d.shape.tag ≢ 0) table → shape_of_code table code ≡ Some s → s.tag ≢ 0
unfolding shape_of_code
found_tagged [] code s t h = let clash : None ≡ Some s = h in absurd cc
found_tagged (d ∷ table) code s t h = go (d.code == code) h (found_tagged table code s (λ k e l. t (suc k) e (omega (arith, l))))
  where
    go : (b : Bool) → (if b then Some d.shape else shape_of_code table code) ≡ Some s → (shape_of_code table code ≡ Some s → s.tag ≢ 0) → s.tag ≢ 0
    go true e less = let same : d.shape ≡ s = cc in λ z. t 0 d (omega arith) (ap (λ (x : Shape). x.tag) same ∙ z)
    go false e less = less e

-- the row of a code, part by part
abbrev Part : Type 0
Part = Option (Mark ReadEntry × List ℕ)

abbrev with_attributes : ℕ × List ℕ → Shape → List ReadAttribute × List ℕ → Part
with_attributes code shape y = Some (Open (record { code = code.0; tag = shape.tag; has_children = shape.has_children; attributes = y.0 }), y.1)

abbrev with_shape : Bool → Encoding → ℕ × List ℕ → Shape → Part
with_shape big e code shape = attributes_at big e shape.attributes code.1 >>= with_attributes code shape

abbrev with_code : Bool → Encoding → List Declaration → ℕ × List ℕ → Part
with_code big e table code = if code.0 == 0 then Some (Null, code.1) else (shape_of_code table code.0 >>= with_shape big e code)

abbrev opens_in : Part → Bool
opens_in None = false
opens_in (Some (Null, rest)) = false
opens_in (Some (Open x, rest)) = true

abbrev tag_in : Part → ℕ
tag_in None = 0
tag_in (Some (Null, rest)) = 0
tag_in (Some (Open x, rest)) = x.tag

-- no entry of a table without zero tags has the tag zero
entry_tagged : (big : Bool) (e : Encoding) (table : List Declaration) (bytes rest : List ℕ) (x : ReadEntry) → All (λ (d : Declaration). d.shape.tag ≢ 0) table → mark_at big e table bytes ≡ Some (Open x, rest) → x.tag ≢ 0
unfolding mark_at
entry_tagged big e table bytes rest x t h =
    let a = bind_parts (uleb_at bytes) (with_code big e table) (Open x, rest) h in
    go a.0 (a.0.0 == 0) a.2
  where
    go : (code : ℕ × List ℕ) (b : Bool) → (if b then Some (Null, code.1) else (shape_of_code table code.0 >>= with_shape big e code)) ≡ Some (Open x, rest) → x.tag ≢ 0
    go code true k = absurd (false≢true (ap opens_in k))
    go code false k =
        let s = bind_parts (shape_of_code table code.0) (with_shape big e code) (Open x, rest) k in
        let y = bind_parts (attributes_at big e s.0.attributes code.1) (with_attributes code s.0) (Open x, rest) s.2 in
        let same : s.0.tag ≡ x.tag = ap tag_in y.2 in
        λ z. found_tagged table code.0 s.0 t s.1 (same ∙ z)

module _ {R E : Type 0} (reading : R → Reading) (old new : EntriesRaw R E) where
  pub null_passes : PassesNull reading old new → PassesRow reading old new Null
  null_passes e = record {
    unit = e.unit;
    took = took_of (Mark ReadEntry) (row_at reading old new) (row_read reading old new) (reading old.input) (reading new.input) Null (mark_law (reading old.input).is_big old.fields.now.encoding old.abbreviations.now) e.row;
    lists = e.lists;
  }

  module _ (before after : DebuggingInformationEntry R E) (e : PassesEntry reading old new before after) where
    pub entry_passes : PassesRow reading old new (Open (entry_of reading e.code after))
    entry_passes = record {
      unit = e.unit;
      took = took_of (Mark ReadEntry) (row_at reading old new) (row_read reading old new) (reading old.input) (reading new.input) (Open (entry_of reading e.code after)) (mark_law (reading old.input).is_big old.fields.now.encoding old.abbreviations.now) e.row;
      lists = e.lists;
    }

    pub tag_passes : All (λ (d : Declaration). d.shape.tag ≢ 0) old.abbreviations.now → after.tag.0 ≢ 0
    tag_passes t = entry_tagged (reading old.input).is_big old.fields.now.encoding old.abbreviations.now (left (reading old.input)) (left (reading new.input)) (entry_of reading e.code after) t e.row.value
