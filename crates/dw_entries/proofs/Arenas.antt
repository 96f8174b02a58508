-- What a changed entry makes of all entries.
use Rattle.std.proofs.Common.{◌≡◌, ◌≢◌, ◌∙◌, sym, ap, subst, ℕ, ◌+◌, ◌<◌, ◌≤◌, zero, suc, List, [], ◌∷◌, true, false, Option, Some, None, refl, arith, length, Result, Ok, Err}
use Rattle.std.specs.Prelude.{slice_set, OnOk, OnErr, IsTrue, ◌==◌, ◌&&◌, nat_lt}
use Rattle.std.specs.List.{list_any, IsDistinct}
use Rattle.std.proofs.lemmas.Bool.{and_parts, false≢true, eqb-true}
use Rattle.std.proofs.lemmas.Bool.Decides.{nat_tests}
use Rattle.std.proofs.Math.ListN.{get_or}
use Rattle.dw_entries.specs.Entries.{EntryValue, with_changed, filled_up, with_child, placed_under, with_new_child, without_child, entry_at}
use Rattle.dw_entries.specs.Arena.{AreLinked, AreNumbered, HasChild, EntriesValue, IsArena, IsSound, is_reserved}
use Rattle.dw_entries.proofs.Changed.{length-with_changed, changed_at, same_at, seen_kept, seen_other, numbered_changed, numbered_new_child}
use Rattle.dw_entries.proofs.Filled.{length-filled_up, seen_filled, numbered_filled}
use Rattle.dw_entries.proofs.ChildReads.{indexed}
use Rattle.dw_entries.proofs.Linked.{linked_changed, linked_without, linked_filled, linked_new_child}

pub sound_changed : (i : ℕ) (f : EntryValue → EntryValue) (u : EntriesValue) → ((e : EntryValue) → (f e).id ≡ e.id) → ((e : EntryValue) → (f e).tag ≡ e.tag) → AreLinked (with_changed i f u.entries) → IsSound u → IsSound (record u { entries = with_changed i f u.entries })
sound_changed i f u ids tags links s =
    let len = length-with_changed i f u.entries in
    let root : (entry_at (with_changed i f u.entries) 0).tag ≡ (entry_at u.entries 0).tag = seen_kept (λ e. e.tag) i f u.entries tags 0 in
    record { linked = links; numbered = numbered_changed i f u.entries ids s.numbered; within = omega (arith, s.within, len); tagged = λ some none. s.tagged (omega (arith, some, len)) (sym root ∙ none) }

-- ids, parents, tags and children stay
pub record IsInner (f : EntryValue → EntryValue) : Type 0 where
  pub id : (e : EntryValue) → (f e).id ≡ e.id
  pub parent : (e : EntryValue) → (f e).parent ≡ e.parent
  pub tag : (e : EntryValue) → (f e).tag ≡ e.tag
  pub children : (e : EntryValue) → (f e).children ≡ e.children

pub sound_inner : (i : ℕ) (f : EntryValue → EntryValue) (u : EntriesValue) → IsInner f → IsSound u → IsSound (record u { entries = with_changed i f u.entries })
sound_inner i f u inner s =
    sound_changed i f u inner.id inner.tag (linked_changed i f u.entries inner.parent inner.tag inner.children s.linked) s

pub sound_without : (i c : ℕ) (u : EntriesValue) → IsSound u → IsSound (record u { entries = with_changed i (without_child c) u.entries })
sound_without i c u s =
    sound_changed i (without_child c) u (λ e. refl) (λ e. refl) (linked_without c i u.entries s.linked) s

-- The entry at an index was changed: `u` is the unit as its fields were, and `v` its value.
module _ (i n : ℕ) (u v : EntriesValue) (e new : EntryValue) (is : u ≡ v) (len : n ≡ length u.entries) (within : i < length v.entries) (read : e ≡ get_or u.entries i e) where
  within_fields : i < n
  within_fields = omega (arith, ap (λ w. length w.entries) is)

  pub entries_at : (f : EntryValue → EntryValue) → new ≡ f e → slice_set u.entries i new ≡ with_changed i f u.entries
  entries_at f h = changed_at i n f u.entries e new h len within_fields read

  pub unit_at : (f : EntryValue → EntryValue) → new ≡ f e → record u { entries = slice_set u.entries i new } ≡ record v { entries = with_changed i f v.entries }
  unit_at f h =
      let fill : List EntryValue → EntriesValue = λ es. record u { entries = es } in
      let change : EntriesValue → EntriesValue = λ w. record w { entries = with_changed i f w.entries } in
      ap fill (entries_at f h) ∙ ap change is

  pub unit_same : new ≡ e → record u { entries = slice_set u.entries i new } ≡ v
  unit_same h =
      let fill : List EntryValue → EntriesValue = λ es. record u { entries = es } in
      ap fill (same_at i u.entries e new h read) ∙ is

  pub sound_at : (f : EntryValue → EntryValue) → new ≡ f e → IsSound (record u { entries = with_changed i f u.entries }) → IsSound (record u { entries = slice_set u.entries i new })
  sound_at f h s =
      let sound : List EntryValue → Type 0 = λ es. IsSound (record u { entries = es }) in
      subst sound (sym (entries_at f h)) s

  pub sound_same : new ≡ e → IsSound u → IsSound (record u { entries = slice_set u.entries i new })
  sound_same h s =
      let sound : List EntryValue → Type 0 = λ es. IsSound (record u { entries = es }) in
      subst sound (sym (same_at i u.entries e new h read)) s

  pub sound_either : {E : Type 0} (r : Result (Unit {0}) E) (f : EntryValue → EntryValue) → IsInner f → OnOk r (new ≡ f e) → OnErr r (new ≡ e) → IsSound u → IsSound (record u { entries = slice_set u.entries i new })
  sound_either (Ok x) f inner ok kept s = sound_at f ok (sound_inner i f u inner s)
  sound_either (Err x) f inner ok kept s = sound_same kept s

  pub sound_inner_at : (f : EntryValue → EntryValue) → IsInner f → new ≡ f e → IsSound u → IsSound (record u { entries = slice_set u.entries i new })
  sound_inner_at f inner h s = sound_at f h (sound_inner i f u inner s)

  pub sound_without_at : (c : ℕ) → new ≡ without_child c e → IsSound u → IsSound (record u { entries = slice_set u.entries i new })
  sound_without_at c h s = sound_at (without_child c) h (sound_without i c u s)

  -- the attributes of the entry that was read
  pub attributes_read : (entry_at v.entries i).attributes ≡ e.attributes
  attributes_read =
      ap (λ w. (entry_at w.entries i).attributes) (sym is) ∙ ap (λ x. x.attributes) (sym (indexed u.entries i e (omega (arith, len, within_fields)) read))

pub length-with_new_child : (child parent tag count : ℕ) (es : List EntryValue) → length es ≤ count → length (with_new_child child parent tag (filled_up count es)) ≡ count
length-with_new_child child parent tag count es more =
    length-with_changed child (placed_under parent tag) (with_changed parent (with_child child) (filled_up count es)) ∙ length-with_changed parent (with_child child) (filled_up count es) ∙ length-filled_up count es more

-- an entry was added
pub arena_added : (es : List EntryValue) (reserved count child parent tag : ℕ) → IsArena es reserved → reserved ≤ count → (entry_at es child).tag ≡ 0 → 0 < child → child < count → parent < count → tag ≢ 0 → 0 < length es → IsArena (with_new_child child parent tag (filled_up count es)) count
arena_added es reserved count child parent tag s more fresh some child_in parent_in tagged there =
    let filled = filled_up count es in
    let len : length filled ≡ count = length-filled_up count es (omega (arith, s.within)) in
    let all : length (with_new_child child parent tag filled) ≡ count = length-with_new_child child parent tag count es (omega (arith, s.within)) in
    let above = with_changed parent (with_child child) filled in
    let root : (entry_at (with_new_child child parent tag filled) 0).tag ≡ (entry_at es 0).tag =
    seen_other (λ e. e.tag) child (placed_under parent tag) above 0 (λ same. omega (arith, same)) ∙ seen_kept (λ e. e.tag) parent (with_child child) filled (λ e. refl) 0 ∙ seen_filled (λ e. e.tag) (λ i. refl) count es 0 in
    record {
      linked = linked_new_child filled child parent tag (omega arith) (omega arith) (linked_filled count es s.linked) (seen_filled (λ e. e.tag) (λ i. refl) count es child ∙ fresh) some tagged;
      numbered = numbered_new_child child parent tag filled (numbered_filled count es s.numbered);
      within = omega arith;
      tagged = λ any none. s.tagged there (sym root ∙ none);
    }

pub arena_added_reserved : {E : Type 0} (r : Result (Unit {0}) E) (u v : EntriesValue) (new : List EntryValue) (child parent tag : ℕ) → u ≡ v → IsTrue (is_reserved v child) → parent < v.reserved → tag ≢ 0 → 0 < length v.entries → OnOk r (new ≡ with_new_child child parent tag (filled_up u.reserved u.entries)) → OnErr r (new ≡ u.entries) → IsSound u → IsArena new u.reserved
arena_added_reserved (Ok x) u v new child parent tag is free parent_in tagged some ok kept s =
    let there : u.reserved ≡ v.reserved = ap (λ w. w.reserved) is in
    let all : length u.entries ≡ length v.entries = ap (λ w. length w.entries) is in
    let other = nat_lt 0 child in
    let given = nat_lt child v.reserved in
    let parts = and_parts (other && given) ((entry_at v.entries child).tag == 0) free in
    let first = and_parts other given parts.0 in
    let not_root : 0 < child = grind (arith, nat_tests, first.0) in
    let handed_out : child < v.reserved = grind (arith, nat_tests, first.1) in
    let not_added : (entry_at v.entries child).tag ≡ 0 = eqb-true (entry_at v.entries child).tag 0 parts.1 in
    subst (λ es. IsArena es u.reserved) (sym ok) (arena_added u.entries u.reserved u.reserved child parent tag s (omega arith) (ap (λ w. (entry_at w.entries child).tag) is ∙ not_added) not_root (omega (arith, handed_out)) (omega arith) tagged (omega (arith, all)))
arena_added_reserved (Err x) u v new child parent tag is free parent_in tagged some ok kept s =
    subst (λ es. IsArena es u.reserved) (sym kept) s

-- past the entries no tag stands
tag_past : (es : List EntryValue) (i : ℕ) → length es ≤ i → (entry_at es i).tag ≡ 0
tag_past [] i h = refl
tag_past (e ∷ es) zero h = absurd (omega arith)
tag_past (e ∷ es) (suc i) h = tag_past es i (omega arith)

pub arena_added_next : (u v : EntriesValue) (new : List EntryValue) (child parent tag : ℕ) → u ≡ v → child ≡ u.reserved → parent < v.reserved → tag ≢ 0 → 0 < length v.entries → new ≡ with_new_child child parent tag (filled_up (u.reserved + 1) u.entries) → IsSound u → IsArena new (u.reserved + 1)
arena_added_next u v new child parent tag is next parent_in tagged some ok s =
    let there : u.reserved ≡ v.reserved = ap (λ w. w.reserved) is in
    let rooted : 0 < length u.entries = omega (arith, ap (λ w. length w.entries) is) in
    subst (λ es. IsArena es (u.reserved + 1)) (sym ok) (arena_added u.entries u.reserved (u.reserved + 1) child parent tag s (omega arith) (tag_past u.entries child (omega (arith, s.within))) (omega (arith, s.within)) (omega arith) (omega arith) tagged rooted)

-- the root alone
pub arena_new : (e : EntryValue) (es : List EntryValue) → es ≡ e ∷ [] → e.id ≡ 0 → e.parent ≡ None → e.tag ≢ 0 → e.children ≡ [] → IsArena es 1
unfolding IsDistinct
arena_new e es is id parent tag children = subst (λ xs. IsArena xs 1) (sym is) (record { linked = record { own = own; once = once; root = parent; unadded = unadded }; numbered = numbered; within = omega arith; tagged = λ h. tag })
  where
    numbered : AreNumbered (e ∷ [])
    numbered zero x h = let same : x ≡ e = cc in ap (λ y. y.id) same ∙ id
    numbered (suc i) x h = absurd cc

    unadded : (i : ℕ) → (entry_at (e ∷ []) i).tag ≡ 0 → (entry_at (e ∷ []) i).parent ≡ None
    unadded zero h = parent
    unadded (suc i) h = refl

    own : (p c : ℕ) → HasChild (entry_at (e ∷ []) p).children c → (entry_at (e ∷ []) c).parent ≡ Some p
    own zero c h = absurd (false≢true (ap (list_any (λ x. c == x)) (sym children) ∙ h))
    own (suc p) c h = absurd (false≢true h)

    once : (p : ℕ) → IsDistinct ◌==◌ (entry_at (e ∷ []) p).children
    once zero = subst (IsDistinct ◌==◌) (sym children) tt
    once (suc p) = tt

-- no entries
pub nothing-sound : (n : ℕ) → IsArena [] n
unfolding IsDistinct
nothing-sound n = record {
  linked = record { own = λ p c h. absurd (let x : false ≡ true = h in cc); once = λ p. tt; root = refl; unadded = λ i h. refl };
  numbered = λ i e h. absurd (let x : ◌≡◌ {A = Option EntryValue} None (Some e) = h in cc);
  within = omega arith;
  tagged = λ h. absurd (omega (arith, h));
}
