-- What is true of all items or attributes at one of them.
use Rattle.std.proofs.Common.{◌≡◌, ◌∙◌, sym, ap, ℕ, zero, suc, ◌+◌, ◌<◌, ◌≤◌, List, [], ◌∷◌, length, drop, get_or, arith}
use Rattle.std.proofs.lemmas.List.{drop_more, drop_all, get_or-map, length-map}
use Rattle.dw_entries.specs.declared.tree.Item.{Item}
use Rattle.dw_entries.specs.declared.attribute.Attribute.{Attribute}
use Rattle.dw_entries.specs.Attributes.{HaveDistinctNames}
use Rattle.dw_entries.specs.Entries.{EntryValue}
use Rattle.dw_entries.specs.Tree.{IsIn, AreIn, mark_of, marks, IsTagged, AreTagged}

pub within_at : (n : ℕ) (items : List Item) (k : ℕ) (d : Item) → AreIn n (marks items) → k < length items → IsIn n (mark_of (get_or items k d))
within_at n [] k d h below = absurd (omega arith)
within_at n (x ∷ items) zero d h below = h.0
within_at n (x ∷ items) (suc k) d h below = within_at n items k d h.1 (omega arith)

pub tagged_at : (es : List EntryValue) (items : List Item) (k : ℕ) (d : Item) → AreTagged es (marks items) → k < length items → IsTagged es (mark_of (get_or items k d))
tagged_at es [] k d h below = absurd (omega arith)
tagged_at es (x ∷ items) zero d h below = h.0
tagged_at es (x ∷ items) (suc k) d h below = tagged_at es items k d h.1 (omega arith)

pub named_at : (xs : List Attribute) (k : ℕ) (d : Attribute) → HaveDistinctNames xs → k < length xs → 1 < (get_or xs k d).name.0
named_at [] k d h below = absurd (omega arith)
named_at (x ∷ xs) zero d h below = h.0
named_at (x ∷ xs) (suc k) d h below = named_at xs k d h.2 (omega arith)

pub marks_more : (items : List Item) (k : ℕ) (d : Item) → k < length items → drop k (marks items) ≡ mark_of (get_or items k d) ∷ drop (k + 1) (marks items)
marks_more items k d below =
    drop_more (marks items) k (mark_of d) (omega (arith, length-map items mark_of))
    ∙ ap (λ m. m ∷ drop (k + 1) (marks items)) (get_or-map mark_of items k d (mark_of d) below)

pub marks_done : (items : List Item) (k : ℕ) → length items ≤ k → drop k (marks items) ≡ []
marks_done items k past = drop_all k (marks items) (omega (arith, length-map items mark_of))

pub marks-below : (items : List Item) (k : ℕ) → k < length items → k < length (marks items)
marks-below items k below = omega (arith, length-map items mark_of)

pub mark_at : (items : List Item) (k : ℕ) (d : Item) → k < length items → mark_of (get_or items k d) ≡ get_or (marks items) k (mark_of (get_or items k d))
mark_at items k d below = sym (get_or-map mark_of items k d (mark_of (get_or items k d)) below)
