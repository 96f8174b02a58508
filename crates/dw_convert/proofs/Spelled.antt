-- Expressions that stay as they are spelled, and those that don't.
use Rattle.std.proofs.Common.{◌≡◌, ◌∙◌, sym, ap, subst, ℕ, Bool, true, false, List, [], ◌∷◌, Option, Result, Ok}
use Rattle.dw_base.specs.declared.address.Address.{Address}
use Rattle.dw_base.specs.declared.address.DebugInfoRef.{DebugInfoRef}
use Rattle.dw_base.specs.declared.common.Encoding.{Encoding}
use Rattle.dw_base.specs.declared.ids.UnitEntryId.{UnitEntryId}
use Rattle.dw_expr.specs.Trees.{Node, plain, Raw}
use Rattle.dw_read.specs.Reading.{Reading}
use Rattle.dw_read_units.specs.declared.unit_ref.UnitRef.{UnitRef}
use Rattle.dw_sources.specs.RawListIters.{encoding_in}
use Rattle.dw_sources.specs.declared.convert_error.ConvertError.{ConvertError}
use Rattle.dw_convert.specs.Expressions.{ExpressionOutcome}
use Rattle.dw_convert.specs.Lookups.{address_of}
use Rattle.dw_convert.specs.Exprlocs.{is_index, SpelledOr, ExprlocOutcome}

pub unspelled : (R E : Type 0) (reading : R → Reading) (answers : ℕ → Option Address → Type 0) (entries : ℕ → Option UnitEntryId) (infos : ℕ → Option DebugInfoRef) (u : UnitRef R E) (big : Bool) (name : ℕ) (bytes slice : List ℕ) (b : Bool) (e : Encoding) (r : Result (List Node) ConvertError)
    → slice ≡ bytes → b ≡ is_index name slice → b ≡ false → e ≡ encoding_in u
    → ExpressionOutcome answers (address_of reading u) entries infos big e bytes r → ExprlocOutcome reading answers entries infos u big name bytes r
unspelled R E reading answers entries infos u big name bytes slice b e r s i f n h =
    let not_index : is_index name bytes ≡ false = sym (ap (λ (xs : List ℕ). is_index name xs) s) ∙ sym i ∙ f in
    subst (λ (c : Bool). SpelledOr reading answers entries infos u big c bytes r) (sym not_index)
    (subst (λ (y : Encoding). ExpressionOutcome answers (address_of reading u) entries infos big y bytes r) n h)

pub spelled : (R E : Type 0) (reading : R → Reading) (answers : ℕ → Option Address → Type 0) (entries : ℕ → Option UnitEntryId) (infos : ℕ → Option DebugInfoRef) (u : UnitRef R E) (big : Bool) (name : ℕ) (bytes slice : List ℕ) (b : Bool) (nodes : List Node)
    → slice ≡ bytes → b ≡ is_index name slice → b ≡ true → nodes ≡ plain (Raw bytes) ∷ [] → ExprlocOutcome reading answers entries infos u big name bytes (Ok nodes)
spelled R E reading answers entries infos u big name bytes slice b nodes s i t h =
    let index : is_index name bytes ≡ true = sym (ap (λ (xs : List ℕ). is_index name xs) s) ∙ sym i ∙ t in
    subst (λ (c : Bool). SpelledOr reading answers entries infos u big c bytes (Ok nodes)) (sym index) (ap Ok h)
