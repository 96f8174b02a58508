-- Entries with a settled root are linked as before.
use Rattle.std.proofs.Common.{◌≡◌, ◌∙◌, sym, ap, subst, ℕ, zero, suc, List, [], ◌∷◌, ◌++◌, Bool, true, false, refl, arith, length, Result, Ok, Err}
use Rattle.std.specs.Prelude.{◌==◌, ◌||◌, not, if◌then◌else◌, OnOk, OnErr}
use Rattle.std.specs.List.{list_any, IsDistinct, filter}
use Rattle.std.proofs.lemmas.Bool.{false≢true}
use Rattle.std.proofs.lemmas.List.{append-nil}
use Rattle.std.proofs.lemmas.List.Elements.{filter-append}
use Rattle.std.proofs.lemmas.List.Folds.{list_any-append}
use Rattle.dw_entries.specs.declared.own_parts.OwnParts.{OwnParts}
use Rattle.dw_entries.specs.Entries.{EntryValue, entry_at, with_attributes}
use Rattle.dw_entries.specs.Arena.{AreLinked, HasChild, IsArena}
use Rattle.dw_entries.specs.Settled.{with_children, base_type_tag, is_base, base_children, other_children, bases_first, with_own_parts, settled_root, settled_entries}
use Rattle.dw_entries.proofs.Changed.{length-with_changed, seen_kept, numbered_changed}
use Rattle.dw_entries.proofs.Filtered.{kept, distinct_filter, distinct_append}
use Rattle.dw_entries.proofs.SettledAttributes.{attributes_again}

pub has-bases_first : (es : List EntryValue) (cs : List ℕ) (c : ℕ) → HasChild (bases_first es cs) c → HasChild cs c
has-bases_first es cs c h =
    go _ _ refl refl (sym (list_any-append (λ x. c == x) (base_children es cs) (other_children es cs)) ∙ h)
  where
    go : (a b : Bool) → list_any (λ x. c == x) (base_children es cs) ≡ a → list_any (λ x. c == x) (other_children es cs) ≡ b → (a || b) ≡ true → HasChild cs c
    go true b p q h = (kept (is_base es) c cs p).0
    go false true p q h = (kept (λ i. not (is_base es i)) c cs q).0
    go false false p q h = absurd (false≢true h)

pub distinct-bases_first : (es : List EntryValue) (cs : List ℕ) → IsDistinct ◌==◌ cs → IsDistinct ◌==◌ (bases_first es cs)
distinct-bases_first es cs h =
    distinct_append (base_children es cs) (other_children es cs) (distinct_filter (is_base es) cs h) (distinct_filter (λ i. not (is_base es i)) cs h) apart
  where
    apart : (x : ℕ) → HasChild (base_children es cs) x → HasChild (other_children es cs) x → ⊥
    apart x h k =
        let a = (kept (is_base es) x cs h).1 in
        let b = (kept (λ i. not (is_base es i)) x cs k).1 in
        false≢true (ap not (sym a) ∙ b)

module _ (parts : OwnParts) where
  pub parent_of-settled : (es : List EntryValue) (i : ℕ) → (entry_at (settled_entries parts es) i).parent ≡ (entry_at es i).parent
  parent_of-settled es i = seen_kept (λ e. e.parent) 0 (settled_root parts es) es (λ e. refl) i

  pub tag_of-settled : (es : List EntryValue) (i : ℕ) → (entry_at (settled_entries parts es) i).tag ≡ (entry_at es i).tag
  tag_of-settled es i = seen_kept (λ e. e.tag) 0 (settled_root parts es) es (λ e. refl) i

  pub children_of-settled : (es : List EntryValue) → (entry_at (settled_entries parts es) 0).children ≡ bases_first es (entry_at es 0).children
  children_of-settled [] = refl
  children_of-settled (e ∷ es) = refl

  pub children_of-settled_other : (es : List EntryValue) (i : ℕ) → (entry_at (settled_entries parts es) (suc i)).children ≡ (entry_at es (suc i)).children
  children_of-settled_other [] i = refl
  children_of-settled_other (e ∷ es) i = refl

  -- settling keeps the entries linked
  pub linked_settled : (es : List EntryValue) → AreLinked es → AreLinked (settled_entries parts es)
  linked_settled es links = record {
    own = λ p c h. parent_of-settled es c ∙ links.own p c (was p c h);
    once = once;
    root = parent_of-settled es 0 ∙ links.root;
    unadded = λ i h. parent_of-settled es i ∙ links.unadded i (sym (tag_of-settled es i) ∙ h);
  }
    where
      was : (p c : ℕ) → HasChild (entry_at (settled_entries parts es) p).children c → HasChild (entry_at es p).children c
      was zero c h =
          has-bases_first es (entry_at es 0).children c (ap (list_any (λ x. c == x)) (sym (children_of-settled es)) ∙ h)
      was (suc p) c h = ap (list_any (λ x. c == x)) (sym (children_of-settled_other es p)) ∙ h

      once : (p : ℕ) → IsDistinct ◌==◌ (entry_at (settled_entries parts es) p).children
      once zero =
          subst (IsDistinct ◌==◌) (sym (children_of-settled es)) (distinct-bases_first es (entry_at es 0).children (links.once 0))
      once (suc p) = subst (IsDistinct ◌==◌) (sym (children_of-settled_other es p)) (links.once (suc p))

  -- settling keeps what is true of all entries
  pub arena_settled : (es : List EntryValue) (reserved : ℕ) → IsArena es reserved → IsArena (settled_entries parts es) reserved
  arena_settled es reserved s =
      let len = length-with_changed 0 (settled_root parts es) es in record {
        linked = linked_settled es s.linked;
        numbered = numbered_changed 0 (settled_root parts es) es (λ e. refl) s.numbered;
        within = omega (arith, s.within, len);
        tagged = λ some none. s.tagged (omega (arith, some, len)) (sym (tag_of-settled es 0) ∙ none);
      }

-- so does a call that may fail
module _ {E : Type 0} (r : Result (Unit {0}) E) (parts : OwnParts) (es new : List EntryValue) where
  pub arena_settled_either : (reserved : ℕ) → OnOk r (new ≡ settled_entries parts es) → OnErr r (new ≡ es) → IsArena es reserved → IsArena new reserved
  arena_settled_either reserved ok kept s = go r ok kept
    where
      go : (r : Result (Unit {0}) E) → OnOk r (new ≡ settled_entries parts es) → OnErr r (new ≡ es) → IsArena new reserved
      go (Ok x) ok kept = subst (λ xs. IsArena xs reserved) (sym ok) (arena_settled parts es reserved s)
      go (Err x) ok kept = subst (λ xs. IsArena xs reserved) (sym kept) s

  pub length_settled_either : OnOk r (new ≡ settled_entries parts es) → OnErr r (new ≡ es) → length new ≡ length es
  length_settled_either ok kept = go r ok kept
    where
      go : (r : Result (Unit {0}) E) → OnOk r (new ≡ settled_entries parts es) → OnErr r (new ≡ es) → length new ≡ length es
      go (Ok x) ok kept = ap length ok ∙ length-with_changed 0 (settled_root parts es) es
      go (Err x) ok kept = ap length kept

-- Twice is once.

filter_same : (p q : ℕ → Bool) (cs : List ℕ) → ((i : ℕ) → p i ≡ q i) → filter p cs ≡ filter q cs
filter_same p q [] h = refl
filter_same p q (c ∷ cs) h = ap (λ b. if b then c ∷ filter p cs else filter p cs) (h c) ∙ ap (λ t. if q c then c ∷ t else t) (filter_same p q cs h)

-- all pass
filter_again : {A : Type 0} (p : A → Bool) (xs : List A) → filter p (filter p xs) ≡ filter p xs
filter_again p [] = refl
filter_again p (x ∷ xs) = go (p x) refl (filter_again p xs)
  where
    go : (b : Bool) → p x ≡ b → filter p (filter p xs) ≡ filter p xs → filter p (if b then x ∷ filter p xs else filter p xs) ≡ (if b then x ∷ filter p xs else filter p xs)
    go true h e = ap (λ b. if b then x ∷ filter p (filter p xs) else filter p (filter p xs)) h ∙ ap (λ t. x ∷ t) e
    go false h e = e

-- none pass
filter_none : (p q : ℕ → Bool) (xs : List ℕ) → ((i : ℕ) → p i ≡ true → q i ≡ false) → filter q (filter p xs) ≡ []
filter_none p q [] h = refl
filter_none p q (x ∷ xs) h = go (p x) refl (filter_none p q xs h)
  where
    go : (b : Bool) → p x ≡ b → filter q (filter p xs) ≡ [] → filter q (if b then x ∷ filter p xs else filter p xs) ≡ []
    go true k e = ap (λ b. if b then x ∷ filter q (filter p xs) else filter q (filter p xs)) (h x k) ∙ e
    go false k e = e

pub bases_first-again : (es : List EntryValue) (cs : List ℕ) → bases_first es (bases_first es cs) ≡ bases_first es cs
bases_first-again es cs =
    let p : ℕ → Bool = is_base es in
    let q : ℕ → Bool = λ c. not (is_base es c) in
    let bases : filter p (filter p cs ++ filter q cs) ≡ filter p cs = filter-append p (filter p cs) (filter q cs) ∙ ap (λ t. t ++ filter p (filter q cs)) (filter_again p cs) ∙ ap (λ t. filter p cs ++ t) (filter_none q p cs (λ i. off (is_base es i))) ∙ append-nil (filter p cs) in
    let rest : filter q (filter p cs ++ filter q cs) ≡ filter q cs = filter-append q (filter p cs) (filter q cs) ∙ ap (λ t. t ++ filter q (filter q cs)) (filter_none p q cs (λ i h. ap not h)) ∙ filter_again q cs in
    ap (λ t. t ++ filter q (bases_first es cs)) bases ∙ ap (λ t. filter p cs ++ t) rest
  where
    off : (b : Bool) → not b ≡ true → b ≡ false
    off true h = absurd (false≢true h)
    off false h = refl

bases_first-same : (es new : List EntryValue) (cs : List ℕ) → ((i : ℕ) → (entry_at new i).tag ≡ (entry_at es i).tag) → bases_first new cs ≡ bases_first es cs
bases_first-same es new cs h =
    ap (λ t. t ++ filter (λ c. not (is_base new c)) cs) (filter_same (is_base new) (is_base es) cs (λ i. ap (λ t. t == base_type_tag) (h i)))
    ∙ ap (λ t. base_children es cs ++ t) (filter_same (λ c. not (is_base new c)) (λ c. not (is_base es c)) cs (λ i. ap (λ t. not (t == base_type_tag)) (h i)))

-- settling twice is settling once
pub settled-settled : (parts : OwnParts) (es : List EntryValue) → settled_entries parts (settled_entries parts es) ≡ settled_entries parts es
settled-settled parts [] = refl
settled-settled parts (e ∷ es) =
    let first = bases_first (e ∷ es) e.children in
    ap (λ cs. with_children cs (with_own_parts parts (with_own_parts parts e)) ∷ es) (bases_first-same (e ∷ es) (settled_entries parts (e ∷ es)) first (tag_of-settled parts (e ∷ es)) ∙ bases_first-again (e ∷ es) e.children)
    ∙ ap (λ xs. with_children first (with_attributes xs e) ∷ es) (attributes_again parts e.attributes)
