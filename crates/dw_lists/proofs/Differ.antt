-- The lists of a table differ.
use Rattle.std.specs.Prelude.{◌≡◌, ◌≢◌, Bool, false, List, [], ◌∷◌}
use Rattle.std.specs.Bool.{Decides}
use Rattle.std.specs.List.{IsDistinct}
use Rattle.std.proofs.Common.{sym, ◌∙◌, arith, true≢false}
use Rattle.std.proofs.lemmas.List.Elements.{All-from_recursion, All-weaker}
use Rattle.std.proofs.lemmas.List.Kept.{AllPairs-cons}
use Rattle.dw_lists.specs.Lists.{AllDiffer}

-- the keys of an ordered set differ
pub distinct_differ : {A : Type 0} (eq : A → A → Bool) → ((a b : A) → Decides (eq a b) (a ≡ b)) → (lists : List A) → IsDistinct eq lists → AllDiffer lists
unfolding IsDistinct
distinct_differ eq d [] h = λ i j e before within. absurd (omega arith)
distinct_differ {A} eq d (x ∷ xs) h =
    let apart = λ (y : A) (e : eq x y ≡ false) (same : x ≡ y). true≢false (sym ((d x y).1 same) ∙ e) in
    AllPairs-cons (λ a b. a ≢ b) x xs
    (All-weaker (λ y. eq x y ≡ false) (λ y. x ≢ y) apart xs (All-from_recursion (λ y. eq x y ≡ false) xs h.0))
    (distinct_differ eq d xs h.1)
