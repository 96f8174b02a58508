-- The size of a value, from the content that the code keeps for it.
use Rattle.std.specs.Prelude.{◌≡◌, ℕ, Option, IsFalse}
use Rattle.std.proofs.Common.{◌∙◌, ap, sym}
use Rattle.dw_base.specs.declared.common.Encoding.{Encoding}
use Rattle.dw_base.specs.declared.error.Error.{Error}
use Rattle.dw_entries.specs.Content.{content_size, content_unplaced}
use Rattle.dw_entries.specs.ContentView.{content_in}
use Rattle.dw_entries.specs.Values.{content_of, operand_size, value_unplaced}
use Rattle.dw_entries.specs.declared.content.Content.{Content as Kept}
use Rattle.dw_entries.specs.declared.value.AttributeValue.{AttributeValue}

module _ (e : Encoding) (v : AttributeValue) (kept k : Kept) (is : kept ≡ k) (said : content_in kept ≡ content_of e v) where
  pub size_by : (place : ℕ → Option ℕ) (n : ℕ) → n ≡ content_size e place (content_in k) → n ≡ operand_size e place v
  size_by place n h = h ∙ ap (λ c. content_size e place (content_in c)) (sym is) ∙ ap (content_size e place) said

  pub placed_by : (known : ℕ → Option ℕ) → ((err : Error) → IsFalse (content_unplaced e known (content_in k) err)) → (err : Error) → IsFalse (value_unplaced e known v err)
  placed_by known h err =
      ap (λ c. content_unplaced e known c err) (sym said) ∙ ap (λ c. content_unplaced e known (content_in c) err) is ∙ h err
