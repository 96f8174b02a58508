-- Drafts that have one text in a layout.
use Rattle.std.specs.Prelude.{◌≡◌, ℕ, ◌+◌, Bool, List, [], ◌∷◌, ◌++◌, map, refl}
use Rattle.std.proofs.Common.{ap₂}
use Rattle.dw_writer.specs.Texts.{followed}
use Rattle.dw_writer.specs.Meaning.{Layout, Model}
use Rattle.dw_writer.specs.Drafts.{Info, Draft, shifted, no_draft, whole, then_draft, all_drafts}
use Rattle.dw_writer.specs.declared.fixup.DebugInfoFixup.{DebugInfoFixup}

-- two drafts are as long, leave the same references open, and have one text in a layout
pub record IsSameDraft (l : Layout) (d f : Draft) : Type 0 where
  pub size : d.size ≡ f.size
  pub holes : d.holes ≡ f.holes
  pub text : (info : Info) (big : Bool) → d.text info big l ≡ f.text info big l

module _ (l : Layout) where
  pub draft_itself : (d : Draft) → IsSameDraft l d d
  draft_itself d = record { size = refl; holes = refl; text = λ info big. refl }

  pub whole_same : (n : ℕ) (s t : Model) → ((big : Bool) → s big l ≡ t big l) → IsSameDraft l (whole n s) (whole n t)
  whole_same n s t h = record { size = refl; holes = refl; text = λ info big. h big }

  pub then_same : (c d e f : Draft) → IsSameDraft l c d → IsSameDraft l e f → IsSameDraft l (then_draft c e) (then_draft d f)
  unfolding then_draft
  then_same c d e f p q = record {
    size = ap₂ (λ m n. m + n) p.size q.size;
    holes = ap₂ (λ (hs ks : List DebugInfoFixup). hs ++ ks) p.holes (ap₂ shifted p.size q.holes);
    text = λ info big. ap₂ followed (p.text info big) (q.text info big);
  }

  -- one behind another, each with another in its place
  pub all_same : {A B : Type 0} (f : A → Draft) (g : B → Draft) (h : A → B) (xs : List A) → ((x : A) → IsSameDraft l (f x) (g (h x))) → IsSameDraft l (all_drafts (map f xs)) (all_drafts (map g (map h xs)))
  all_same f g h [] same = draft_itself no_draft
  all_same f g h (x ∷ xs) same = then_same (f x) (g (h x)) (all_drafts (map f xs)) (all_drafts (map g (map h xs))) (same x) (all_same f g h xs same)
