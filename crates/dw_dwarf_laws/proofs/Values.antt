-- Values have the forms, the sizes and the texts of those in which symbols have values.
use Rattle.std.specs.Prelude.{◌≡◌, ◌⊎◌, ℕ, ◌+ℤ◌, pos, List, length, Some, refl}
use Rattle.std.proofs.Common.{sym, ◌∙◌, ap, ap₂, inl, inr}
use Rattle.dw_base.specs.Numbers.{◌>>=◌}
use Rattle.dw_base.specs.Forms.{kind_of}
use Rattle.dw_base.specs.Leb128.{uleb}
use Rattle.dw_base.specs.Spelling.{operand_bytes}
use Rattle.dw_base.specs.declared.address.Address.{Address}
use Rattle.dw_base.specs.declared.address.Address.TheVariants.{Constant, Symbol}
use Rattle.dw_base.specs.declared.common.Encoding.{Encoding}
use Rattle.dw_writer.specs.Drafts.{shifted}
use Rattle.dw_writer.specs.Layout.{Layout}
use Rattle.dw_entries.specs.Content.{natural, address_in, number_in, bytes_in}
use Rattle.dw_entries.specs.Content as contents
use Rattle.dw_entries.specs.Targets.{Targets, UnitTargets, targets_in}
use Rattle.dw_entries.specs.Values.{form_of, constant_of, value_draft}
use Rattle.dw_entries.specs.declared.value.AttributeValue.{AttributeValue}
use Rattle.dw_entries.specs.declared.value.AttributeValue.TheVariants as values
use Rattle.dw_dwarf_laws.specs.Addresses.{numbered_address}
use Rattle.dw_dwarf_laws.specs.Entries.{numbered_value}
use Rattle.dw_dwarf_laws.proofs.Addresses.{IsValued, symbol_cases}
use Rattle.dw_dwarf_laws.proofs.Drafts.{IsSameDraft, draft_itself}
use Rattle.dw_dwarf_laws.proofs.Expressions.{expression_same}

pub form_same : (symbols : List ℕ) (e : Encoding) (v : AttributeValue) → form_of e (numbered_value symbols v) ≡ form_of e v
form_same symbols e (values.Address a) = refl
form_same symbols e v = refl

pub constant_same : (symbols : List ℕ) (e : Encoding) (v : AttributeValue) → constant_of e (numbered_value symbols v) ≡ constant_of e v
constant_same symbols e (values.Address a) = refl
constant_same symbols e v = refl

address_same : (t : Targets) (a : Address) → address_in t a ≡ address_in t (numbered_address t.layout.symbols a)
address_same t (Constant n) = refl
address_same t (Symbol s addend) = by (symbol_cases t.layout.symbols s addend)
  where
    by : (numbered_address t.layout.symbols (Symbol s addend) ≡ Symbol s addend) ⊎ IsValued t.layout.symbols s addend → address_in t (Symbol s addend) ≡ address_in t (numbered_address t.layout.symbols (Symbol s addend))
    by (inl h) = ap (address_in t) (sym h)
    by (inr h) = ap (λ o. o >>= λ v. natural (addend +ℤ pos v)) h.at ∙ ap natural h.sum ∙ ap (address_in t) (sym h.is)

-- a value and the one in which symbols have values
pub value_same : (l : Layout) (e : Encoding) (u : UnitTargets) (v : AttributeValue) → IsSameDraft l (value_draft e u v) (value_draft e u (numbered_value l.symbols v))
value_same l e u (values.Address a) = record {
  size = refl;
  holes = refl;
  text = λ info big. ap (λ o. (o >>= number_in e.address_size) >>= λ x. Some (operand_bytes big (kind_of e (form_of e (values.Address a))) x)) (address_same (targets_in u l info) a);
}
value_same l e u (values.Exprloc x) =
    let own = expression_same l e u.place x in
    record {
      size = ap contents.counted own.size;
      holes = ap₂ (λ n hs. shifted (length (uleb n)) hs) own.size own.holes;
      text = λ info big. ap (λ o. (o >>= bytes_in) >>= λ y. Some (operand_bytes big (kind_of e (form_of e (values.Exprloc x))) y)) (own.text info big);
    }
value_same l e u v = draft_itself l _
