-- One entry changed, and what is seen of the others.
use Rattle.std.proofs.Common.{◌≡◌, ◌≢◌, ◌∙◌, sym, ap, ℕ, zero, suc, ◌<◌, List, [], ◌∷◌, Option, Some, None, refl, arith, length}
use Rattle.std.specs.Prelude.{slice_get, slice_set}
use Rattle.std.proofs.Math.ListN.{get_or, length-set}
use Rattle.std.proofs.lemmas.Option.{slice_get_read}
use Rattle.std.proofs.lemmas.List.{set-get_or}
use Rattle.dw_entries.specs.Entries.{EntryValue, with_changed, with_child, placed_under, with_new_child, entry_at}
use Rattle.dw_entries.specs.Arena.{AreNumbered}

set_is_changed : (i : ℕ) (f : EntryValue → EntryValue) (es : List EntryValue) (e : EntryValue) → slice_get es i ≡ Some e → slice_set es i (f e) ≡ with_changed i f es
set_is_changed i f [] e h = refl
set_is_changed zero f (x ∷ es) e h = ap (λ o. f o ∷ es) cc
set_is_changed (suc i) f (x ∷ es) e h = ap (λ t. x ∷ t) (set_is_changed i f es e h)

-- what a method makes of the entry that was indexed, as a change of the entries
pub changed_at : (i n : ℕ) (f : EntryValue → EntryValue) (es : List EntryValue) (e new : EntryValue) → new ≡ f e → n ≡ length es → i < n → e ≡ get_or es i e → slice_set es i new ≡ with_changed i f es
changed_at i n f es e new h len within read =
    ap (slice_set es i) h ∙ set_is_changed i f es e (slice_get_read es n i e len within read)

-- an entry that ends as it was
pub same_at : (i : ℕ) (es : List EntryValue) (e new : EntryValue) → new ≡ e → e ≡ get_or es i e → slice_set es i new ≡ es
same_at i es e new h read = ap (slice_set es i) (h ∙ read) ∙ set-get_or es i e

-- two entries changed, one after the other
pub linked_at : (child parent tag i j n : ℕ) (es : List EntryValue) (a b above entry : EntryValue) → i ≡ parent → j ≡ child → above ≡ with_child child a → entry ≡ placed_under parent tag b → n ≡ length es → parent < n → child < n → a ≡ get_or es i a → b ≡ get_or (slice_set es i above) j b → slice_set (slice_set es i above) j entry ≡ with_new_child child parent tag es
linked_at child parent tag i j n es a b above entry at_parent at_child f g len parent_in child_in read read_2 =
    let first : slice_set es i above ≡ with_changed i (with_child child) es = changed_at i n (with_child child) es a above f len (omega arith) read in
    let second = changed_at j n (placed_under parent tag) (slice_set es i above) b entry g (len ∙ sym (length-set es i above)) (omega arith) read_2 in
    second ∙ ap (with_changed j (placed_under parent tag)) first ∙ ap (λ k. with_changed k (placed_under parent tag) (with_changed i (with_child child) es)) at_child ∙ ap (λ k. with_changed child (placed_under parent tag) (with_changed k (with_child child) es)) at_parent

-- a change leaves the number of entries
pub length-with_changed : (i : ℕ) (f : EntryValue → EntryValue) (es : List EntryValue) → length (with_changed i f es) ≡ length es
length-with_changed i f [] = refl
length-with_changed zero f (e ∷ es) = refl
length-with_changed (suc i) f (e ∷ es) = ap suc (length-with_changed i f es)

-- what is seen of an entry
module _ {X : Type 0} (see : EntryValue → X) where
  pub seen_kept : (i : ℕ) (f : EntryValue → EntryValue) (es : List EntryValue) → ((e : EntryValue) → see (f e) ≡ see e) → (k : ℕ) → see (entry_at (with_changed i f es) k) ≡ see (entry_at es k)
  seen_kept i f [] keeps k = refl
  seen_kept zero f (e ∷ es) keeps zero = keeps e
  seen_kept zero f (e ∷ es) keeps (suc k) = refl
  seen_kept (suc i) f (e ∷ es) keeps zero = refl
  seen_kept (suc i) f (e ∷ es) keeps (suc k) = seen_kept i f es keeps k

  pub seen_other : (i : ℕ) (f : EntryValue → EntryValue) (es : List EntryValue) (k : ℕ) → k ≢ i → see (entry_at (with_changed i f es) k) ≡ see (entry_at es k)
  seen_other i f [] k ne = refl
  seen_other zero f (e ∷ es) zero ne = absurd (ne refl)
  seen_other zero f (e ∷ es) (suc k) ne = refl
  seen_other (suc i) f (e ∷ es) zero ne = refl
  seen_other (suc i) f (e ∷ es) (suc k) ne = seen_other i f es k (λ h. ne (ap suc h))

  pub seen_changed : (i : ℕ) (f : EntryValue → EntryValue) (es : List EntryValue) (g : X → X) → ((e : EntryValue) → see (f e) ≡ g (see e)) → i < length es → see (entry_at (with_changed i f es) i) ≡ g (see (entry_at es i))
  seen_changed i f [] g makes within = absurd (omega arith)
  seen_changed zero f (e ∷ es) g makes within = makes e
  seen_changed (suc i) f (e ∷ es) g makes within = seen_changed i f es g makes (omega arith)

-- the id of an entry that is there
abbrev id_if_any : Option EntryValue → Option ℕ
id_if_any None = None
id_if_any (Some e) = Some e.id

ids_kept : (i : ℕ) (f : EntryValue → EntryValue) (es : List EntryValue) → ((e : EntryValue) → (f e).id ≡ e.id) → (k : ℕ) → id_if_any (slice_get (with_changed i f es) k) ≡ id_if_any (slice_get es k)
ids_kept i f [] ids k = refl
ids_kept zero f (e ∷ es) ids zero = ap Some (ids e)
ids_kept zero f (e ∷ es) ids (suc k) = refl
ids_kept (suc i) f (e ∷ es) ids zero = refl
ids_kept (suc i) f (e ∷ es) ids (suc k) = ids_kept i f es ids k

-- a change that keeps the entry's id
pub numbered_changed : (i : ℕ) (f : EntryValue → EntryValue) (es : List EntryValue) → ((e : EntryValue) → (f e).id ≡ e.id) → AreNumbered es → AreNumbered (with_changed i f es)
numbered_changed i f es ids numbers k e h =
    go (slice_get es k) refl (sym (ap id_if_any h) ∙ ids_kept i f es ids k)
  where
    go : (o : Option EntryValue) → slice_get es k ≡ o → Some e.id ≡ id_if_any o → e.id ≡ k
    go None at same = absurd cc
    go (Some x) at same = let was : x.id ≡ k = numbers k x at in cc

-- a child added under its parent
pub numbered_new_child : (child parent tag : ℕ) (es : List EntryValue) → AreNumbered es → AreNumbered (with_new_child child parent tag es)
numbered_new_child child parent tag es numbers =
    numbered_changed child (placed_under parent tag) (with_changed parent (with_child child) es) (λ e. refl) (numbered_changed parent (with_child child) es (λ e. refl) numbers)
