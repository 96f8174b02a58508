-- Sets that are added one after another.
use Rattle.std.specs.Prelude.{◌≡◌, ℕ, suc, zero, ◌+◌, ◌<◌, ◌≤◌, ◌⊎◌, Bool, true, false, ◌&&◌, not, List, [], ◌∷◌, ◌++◌, length, take, drop, map, Option, Some, None, slice_get, IsTrue, IsFalse, if◌then◌else◌, refl}
use Rattle.std.specs.Option.{option_map}
use Rattle.std.proofs.Common.{sym, ◌∙◌, ap, subst, inl, inr, arith, get_or, add-one, length-append, append_assoc}
use Rattle.std.proofs.lemmas.List.{append-nil}
use Rattle.dw_base.specs.Numbers.{◌>>=◌}
use Rattle.dw_base.specs.declared.section_id.SectionId.{SectionId}
use Rattle.dw_base.specs.declared.section_id.SectionId.TheVariants.{DebugAbbrev, DebugStr, DebugLineStr, DebugLine, DebugRanges, DebugRngLists, DebugLoc, DebugLocLists, DebugInfo, DebugFrame, EhFrame, DebugAddr, DebugStrOffsets, DebugMacinfo, DebugMacro, DebugAranges}
use Rattle.dw_writer.specs.Texts.{Text, followed}
use Rattle.dw_writer.specs.Layout.{Layout, is_at_zero}
use Rattle.dw_writer.specs.Resolved.{put_records, resolved}
use Rattle.dw_writer.specs.Meaning.{Meaning, spelled_text}
use Rattle.dw_writer.specs.Sections.{section_of}
use Rattle.dw_writer.specs.Visits.{written_ids}
use Rattle.dw_writer.specs.declared.sections.Sections.{Sections}
use Rattle.dw_writer.specs.declared.endian_vec.EndianVec.{EndianVec}
use Rattle.dw_writer.specs.declared.reloc_vec.RelocVec.{RelocVec}
use Rattle.dw_writer.proofs.Laws.{followed_assoc, put_records-wide}
use Rattle.dw_link.specs.declared.error.LinkError.{LinkError}
use Rattle.dw_link.specs.Sets.{Parts, parts_of, bytes_of, concatenated, start_in, layout_in, linked_part, linked_from, linked_parts}
use Rattle.dw_link.specs.Outcome.{part_fault, fault_at, IsBefore}
use Rattle.dw_link.specs.Steps.{layout_at, bytes_at, HaveSameOrders, length_of, lengths_of, layout_behind, section_fault, is_below, AddsThese, SetRefused, AddsSets, SetsRefused}
use Rattle.dw_link.proofs.Held.{held, held_beside}
use Rattle.dw_link.proofs.PartSteps.{slice_get-is}
use Rattle.dw_link.proofs.SectionSteps.{number_same}

-- What vectors are as parts

-- a set has only the sections that are joined
pub parts_of-none : {W : Type 0} (meaning : W → Meaning) (sections : Sections W) (s : SectionId) → IsFalse (is_below 11 s) → parts_of meaning sections s ≡ None
parts_of-none meaning sections DebugAbbrev h = cc
parts_of-none meaning sections DebugStr h = cc
parts_of-none meaning sections DebugLineStr h = cc
parts_of-none meaning sections DebugLine h = cc
parts_of-none meaning sections DebugRanges h = cc
parts_of-none meaning sections DebugRngLists h = cc
parts_of-none meaning sections DebugLoc h = cc
parts_of-none meaning sections DebugLocLists h = cc
parts_of-none meaning sections DebugInfo h = cc
parts_of-none meaning sections DebugFrame h = cc
parts_of-none meaning sections EhFrame h = cc
parts_of-none meaning sections DebugAddr h = refl
parts_of-none meaning sections DebugStrOffsets h = refl
parts_of-none meaning sections DebugMacinfo h = refl
parts_of-none meaning sections DebugMacro h = refl
parts_of-none meaning sections DebugAranges h = refl

-- the bytes of a joined section are told
pub bytes_at-held : {E : Type 0} (is_big : E → Bool) (joined : Sections (EndianVec E)) (s : SectionId) → IsTrue (is_below 11 s) →
    bytes_at (parts_of (held is_big) joined) s ≡ Some (spelled_text (bytes_at (parts_of (held is_big) joined) s))
bytes_at-held is_big joined DebugAbbrev h = refl
bytes_at-held is_big joined DebugStr h = refl
bytes_at-held is_big joined DebugLineStr h = refl
bytes_at-held is_big joined DebugLine h = refl
bytes_at-held is_big joined DebugRanges h = refl
bytes_at-held is_big joined DebugRngLists h = refl
bytes_at-held is_big joined DebugLoc h = refl
bytes_at-held is_big joined DebugLocLists h = refl
bytes_at-held is_big joined DebugInfo h = refl
bytes_at-held is_big joined DebugFrame h = refl
bytes_at-held is_big joined EhFrame h = refl
bytes_at-held is_big joined DebugAddr h = cc
bytes_at-held is_big joined DebugStrOffsets h = cc
bytes_at-held is_big joined DebugMacinfo h = cc
bytes_at-held is_big joined DebugMacro h = cc
bytes_at-held is_big joined DebugAranges h = cc

sized : {E : Type 0} (is_big : E → Bool) (o : Option (EndianVec E)) → length_of (option_map (held is_big) o) ≡ length (spelled_text (option_map (held is_big) o >>= λ m. m.bytes))
sized is_big None = refl
sized is_big (Some w) = w.bytes.ok.0

pub length_of-held : {E : Type 0} (is_big : E → Bool) (joined : Sections (EndianVec E)) (s : SectionId) →
    length_of (parts_of (held is_big) joined s) ≡ length (spelled_text (bytes_at (parts_of (held is_big) joined) s))
length_of-held is_big joined s = sized is_big (section_of joined s)

told : {E : Type 0} (is_big : E → Bool) (o : Option (RelocVec E)) (m : Meaning) → option_map (held_beside is_big) o ≡ Some m → (m.bytes ≡ Some (spelled_text m.bytes)) × (m.is_plain ≡ false)
told is_big None m e = cc
told is_big (Some w) m e = let f : held_beside is_big w ≡ m = cc in subst (λ k. (k.bytes ≡ Some (spelled_text k.bytes)) × (k.is_plain ≡ false)) f (refl, refl)

pub told_of : {E : Type 0} (is_big : E → Bool) (set : Sections (RelocVec E)) (s : SectionId) (m : Meaning) → parts_of (held_beside is_big) set s ≡ Some m →
    (m.bytes ≡ Some (spelled_text m.bytes)) × (m.is_plain ≡ false)
told_of is_big set s m e = told is_big (section_of set s) m e

-- Where sets start

concatenated-append : (s : SectionId) (xs ys : List Parts) → concatenated s (xs ++ ys) ≡ concatenated s xs ++ concatenated s ys
concatenated-append s [] ys = refl
concatenated-append s (x ∷ xs) ys = ap (λ k. bytes_of (x s) ++ k) (concatenated-append s xs ys) ∙ sym (append_assoc (bytes_of (x s)) (concatenated s xs) (concatenated s ys))

pub start_in-next : (sets : List Parts) (n : ℕ) (set : Parts) (s : SectionId) → slice_get sets n ≡ Some set → start_in sets (n + 1) s ≡ start_in sets n s + length (bytes_of (set s))
start_in-next sets n set s e =
    ap (λ xs. length (concatenated s xs)) (slice_get-is sets n set e)
    ∙ ap length (concatenated-append s (take n sets) (set ∷ []))
    ∙ length-append (concatenated s (take n sets)) (bytes_of (set s) ++ [])
    ∙ ap (λ xs. start_in sets n s + length xs) (append-nil (bytes_of (set s)))

AllBelow : List SectionId → Type 0
AllBelow [] = Unit {0}
AllBelow (s ∷ ss) = IsTrue (is_below 11 s) × AllBelow ss

map_same : (f h : SectionId → ℕ) (ss : List SectionId) → AllBelow ss → ((s : SectionId) → IsTrue (is_below 11 s) → f s ≡ h s) → map f ss ≡ map h ss
unfolding AllBelow
map_same f h [] all e = refl
map_same f h (s ∷ ss) all e = ap (λ n. n ∷ map f ss) (e s all.0) ∙ ap (λ ns. h s ∷ ns) (map_same f h ss all.1 e)

all_below : AllBelow written_ids
unfolding AllBelow
all_below = (refl, (refl, (refl, (refl, (refl, (refl, (refl, (refl, (refl, (refl, (refl, tt)))))))))))

layout-same : (sets : List Parts) (symbols : List ℕ) (n : ℕ) (cur : Parts) → ((s : SectionId) → IsTrue (is_below 11 s) → length_of (cur s) ≡ start_in sets n s) →
    (s : SectionId) → IsTrue (is_below 11 s) → layout_behind (lengths_of cur) symbols cur s ≡ layout_in sets symbols n s
layout-same sets symbols n cur e s h =
    ap (λ starts. layout_at starts symbols (length_of (cur s))) (map_same (λ t. length_of (cur t)) (start_in sets n) written_ids all_below e)
    ∙ ap (layout_at (map (start_in sets n) written_ids) symbols) (e s h)

-- Sets, one after another

-- the parts of the first n sets were added, and no relocation of them has a fault
pub record ReachedSets (sets : List Parts) (symbols : List ℕ) (old cur : Parts) (n : ℕ) : Type 0 where
  pub bytes : (s : SectionId) → IsTrue (is_below 11 s) →
      followed (bytes_at cur s) (linked_from sets symbols s n (drop n sets)) ≡ followed (bytes_at old s) (linked_parts sets symbols s)
  pub starts : (s : SectionId) → IsTrue (is_below 11 s) → length_of (cur s) ≡ start_in sets n s
  pub faultless : (m : ℕ) (s : SectionId) (k : ℕ) → m < n → fault_at sets symbols m s k ≡ None
  pub orders : HaveSameOrders cur old

pub ReachedSets-first : (sets : List Parts) (symbols : List ℕ) (old : Parts) → ((s : SectionId) → length_of (old s) ≡ 0) → ReachedSets sets symbols old old 0
unfolding linked_parts
ReachedSets-first sets symbols old empty = record {
  bytes = λ s h. refl;
  starts = λ s h. empty s;
  faultless = λ m s k lt. absurd (omega arith);
  orders = λ s. refl;
}

drop_at : {X : Type 0} (xs : List X) (n : ℕ) (x : X) → slice_get xs n ≡ Some x → drop n xs ≡ x ∷ drop (n + 1) xs
drop_at [] n x e = cc
drop_at (y ∷ xs) zero x e = let f : y ≡ x = cc in ap (λ z. z ∷ xs) f
drop_at (y ∷ xs) (suc n) x e = drop_at xs n x e ∙ ap (λ k. x ∷ k) (ap (λ k. drop k xs) (add-one n) ∙ sym (ap (λ k. drop k (y ∷ xs)) (add-one (suc n))))

at_fault : (l : Layout) (o : Option Meaning) (k : ℕ) → (o >>= λ m. part_fault l m k) ≡ section_fault l o k
at_fault l None k = refl
at_fault l (Some m) k = refl

fault_at-is : (sets : List Parts) (symbols : List ℕ) (n : ℕ) (set : Parts) (s : SectionId) (k : ℕ) → slice_get sets n ≡ Some set →
    fault_at sets symbols n s k ≡ section_fault (layout_in sets symbols n s) (set s) k
unfolding fault_at
fault_at-is sets symbols n set s k e =
    ap (λ o. o >>= λ set. set s >>= λ m. part_fault (layout_in sets symbols n s) m k) e ∙ at_fault (layout_in sets symbols n s) (set s) k

below : (s : SectionId) → IsTrue (is_below 11 s) ⊎ IsFalse (is_below 11 s)
below s = cases (is_below 11 s)
  where
    cases : (b : Bool) → IsTrue b ⊎ IsFalse b
    cases true = inl refl
    cases false = inr refl

fault-none : (sets : List Parts) (symbols : List ℕ) (n : ℕ) (cur new set : Parts) → slice_get sets n ≡ Some set → ((s : SectionId) → IsFalse (is_below 11 s) → set s ≡ None) →
    ((s : SectionId) → IsTrue (is_below 11 s) → length_of (cur s) ≡ start_in sets n s) → AddsThese (is_below 11) cur new set (layout_behind (lengths_of cur) symbols cur) →
    (s : SectionId) (k : ℕ) → fault_at sets symbols n s k ≡ None
fault-none sets symbols n cur new set e closed starts added s k = elim (below s) [
  | inl h ↦
      fault_at-is sets symbols n set s k e
      ∙ ap (λ l. section_fault l (set s) k) (sym (layout-same sets symbols n cur starts s h)) ∙ added.faultless s h k
  | inr h ↦ fault_at-is sets symbols n set s k e ∙ ap (λ o. section_fault (layout_in sets symbols n s) o k) (closed s h)
]

if_else_some : (b : Bool) (x : Text) (zs : List ℕ) → (if b then None else x) ≡ Some zs → x ≡ Some zs
if_else_some true x zs e = cc
if_else_some false x zs e = e

resolved-length : (l : Layout) (m : Meaning) (bs zs : List ℕ) → m.bytes ≡ Some bs → resolved l m ≡ Some zs → length zs ≡ length bs
unfolding resolved
resolved-length l m bs zs e h =
    put_records-wide m.is_big l m.records (length bs) m.bytes (λ xs f. let same : bs ≡ xs = cc in sym (ap length same)) zs
    (if_else_some (m.is_plain && not (is_at_zero l)) (put_records m.is_big l m.records m.bytes) zs h)

-- the length of what is added is that of the set's part
added-length : (l : Layout) (o : Option Meaning) (ns : List ℕ) (t : Text) → ((m : Meaning) → o ≡ Some m → m.bytes ≡ Some (spelled_text m.bytes)) →
    Some ns ≡ followed t (o >>= resolved l) → length ns ≡ length (spelled_text t) + length (bytes_of o)
unfolding followed
added-length l o ns None told e = cc
added-length l None ns (Some cs) told e = cc
added-length l (Some m) ns (Some cs) told e = pick (resolved l m) e (λ zs f. resolved-length l m (spelled_text m.bytes) zs (told m refl) f)
  where
    pick : (t : Text) → Some ns ≡ followed (Some cs) t → ((zs : List ℕ) → t ≡ Some zs → length zs ≡ length (spelled_text m.bytes)) →
        length ns ≡ length cs + length (spelled_text m.bytes)
    pick None e w = cc
    pick (Some zs) e w = let f : ns ≡ cs ++ zs = cc in ap length f ∙ length-append cs zs ∙ ap (λ k. length cs + k) (w zs refl)

pub ReachedSets-next : (sets : List Parts) (symbols : List ℕ) (old cur new : Parts) (n : ℕ) (set : Parts) → slice_get sets n ≡ Some set →
    ((s : SectionId) → IsFalse (is_below 11 s) → set s ≡ None) → ((s : SectionId) (m : Meaning) → set s ≡ Some m → m.bytes ≡ Some (spelled_text m.bytes)) →
    ((s : SectionId) → IsTrue (is_below 11 s) → bytes_at new s ≡ Some (spelled_text (bytes_at new s))) →
    ((s : SectionId) → length_of (cur s) ≡ length (spelled_text (bytes_at cur s))) → ((s : SectionId) → length_of (new s) ≡ length (spelled_text (bytes_at new s))) →
    ReachedSets sets symbols old cur n → AddsThese (is_below 11) cur new set (layout_behind (lengths_of cur) symbols cur) → ReachedSets sets symbols old new (n + 1)
ReachedSets-next sets symbols old cur new n set e closed told shown cur_sized new_sized reached added = record {
  bytes = λ s h.
      ap (λ t. followed t (linked_from sets symbols s (n + 1) (drop (n + 1) sets)))
      (added.bytes s h ∙ ap (λ l. followed (bytes_at cur s) (set s >>= resolved l)) (layout-same sets symbols n cur reached.starts s h))
      ∙ followed_assoc (bytes_at cur s) (linked_part sets symbols s n set) (linked_from sets symbols s (n + 1) (drop (n + 1) sets))
      ∙ ap (λ k. followed (bytes_at cur s) (linked_from sets symbols s n k)) (sym (drop_at sets n set e))
      ∙ reached.bytes s h;
  starts = λ s h.
      new_sized s
      ∙ added-length (layout_behind (lengths_of cur) symbols cur s) (set s) (spelled_text (bytes_at new s)) (bytes_at cur s) (told s) (sym (shown s h) ∙ added.bytes s h)
      ∙ ap (λ k. k + length (bytes_of (set s))) (sym (cur_sized s) ∙ reached.starts s h)
      ∙ sym (start_in-next sets n set s e);
  faultless = λ m s k lt. elim (same_or n m lt) [
    | inl same ↦ ap (λ i. fault_at sets symbols i s k) same ∙ fault-none sets symbols n cur new set e closed reached.starts added s k
    | inr less ↦ reached.faultless m s k less
  ];
  orders = λ s. added.orders s ∙ reached.orders s;
}
  where
    same_or : (k j : ℕ) → j < k + 1 → (j ≡ k) ⊎ (j < k)
    same_or zero zero h = inl refl
    same_or zero (suc j) h = absurd (omega arith)
    same_or (suc k) zero h = inr (omega arith)
    same_or (suc k) (suc j) h = elim (same_or k j (omega arith)) [ inl e ↦ inl (ap suc e) | inr less ↦ inr (omega arith) ]

pub SetsRefused-at : (sets : List Parts) (symbols : List ℕ) (old cur : Parts) (n : ℕ) (set : Parts) (e : LinkError) → slice_get sets n ≡ Some set →
    ((s : SectionId) → IsFalse (is_below 11 s) → set s ≡ None) → ReachedSets sets symbols old cur n → SetRefused set (layout_behind (lengths_of cur) symbols cur) n e → SetsRefused sets symbols e
SetsRefused-at sets symbols old cur n set e at closed reached (inl memory) = inl memory
SetsRefused-at sets symbols old cur n set e at closed reached (inr fault) = inr (record {
  set = n;
  section = fault.section;
  index = fault.here.index;
  fault = fault.here.fault;
  is = fault.here.is;
  stands = as_part fault.section fault.here.index ∙ fault.here.stands;
  first = λ m t j. before m t j;
})
  where
    as_part : (s : SectionId) (k : ℕ) → fault_at sets symbols n s k ≡ section_fault (layout_behind (lengths_of cur) symbols cur s) (set s) k
    as_part s k = elim (below s) [
      | inl h ↦ fault_at-is sets symbols n set s k at ∙ ap (λ l. section_fault l (set s) k) (sym (layout-same sets symbols n cur reached.starts s h))
      | inr h ↦
          fault_at-is sets symbols n set s k at ∙ ap (λ o. section_fault (layout_in sets symbols n s) o k) (closed s h)
          ∙ sym (ap (λ o. section_fault (layout_behind (lengths_of cur) symbols cur s) o k) (closed s h))
    ]

    before : (m : ℕ) (t : SectionId) (j : ℕ) → IsBefore m t j n fault.section fault.here.index → fault_at sets symbols m t j ≡ None
    before m t j (inl lt) = reached.faultless m t j lt
    before m t j (inr (same, inl lt)) = ap (λ i. fault_at sets symbols i t j) same ∙ as_part t j ∙ fault.before t lt j
    before m t j (inr (same, inr (number, lt))) =
        ap (λ i. fault_at sets symbols i t j) same ∙ as_part t j
        ∙ ap (λ u. section_fault (layout_behind (lengths_of cur) symbols cur u) (set u) j) (number_same t fault.section number) ∙ fault.here.first j lt

past_end : {X : Type 0} (xs : List X) (k : ℕ) → length xs ≤ k → (slice_get xs k ≡ None) × (drop k xs ≡ [])
past_end [] zero h = (refl, refl)
past_end [] (suc k) h = (refl, refl)
past_end (x ∷ xs) zero h = absurd (omega arith)
past_end (x ∷ xs) (suc k) h = past_end xs k (omega arith)

below_or : (k n : ℕ) → (k < n) ⊎ (n ≤ k)
below_or k zero = inr (omega arith)
below_or zero (suc n) = inl (omega arith)
below_or (suc k) (suc n) = elim (below_or k n) [ inl h ↦ inl (omega arith) | inr h ↦ inr (omega arith) ]

nothing : (xs : List ℕ) → followed (Some xs) (Some []) ≡ Some xs
unfolding followed
nothing xs = ap Some (append-nil xs)

pub AddsSets-last : (sets : List Parts) (symbols : List ℕ) (old cur : Parts) (n : ℕ) → length sets ≤ n →
    ((s : SectionId) → IsTrue (is_below 11 s) → bytes_at cur s ≡ Some (spelled_text (bytes_at cur s))) → ReachedSets sets symbols old cur n → AddsSets old cur sets symbols
unfolding fault_at
AddsSets-last sets symbols old cur n end shown reached = record {
  faultless = λ m s k. elim (below_or m n) [
    | inl lt ↦ reached.faultless m s k lt
    | inr le ↦ ap (λ o. o >>= λ set. set s >>= λ p. part_fault (layout_in sets symbols m s) p k) (past_end sets m (omega arith)).0
  ];
  bytes = λ s h.
      shown s h ∙ sym (nothing (spelled_text (bytes_at cur s))) ∙ ap (λ t. followed t (Some [])) (sym (shown s h))
      ∙ ap (λ k. followed (bytes_at cur s) (linked_from sets symbols s n k)) (sym (past_end sets n end).1)
      ∙ reached.bytes s h;
  orders = reached.orders;
}

pub slice_get-map : {X Y : Type 0} (f : X → Y) (xs : List X) (k : ℕ) (x : X) → k < length xs → x ≡ get_or xs k x → slice_get (map f xs) k ≡ Some (f x)
slice_get-map f [] k x h e = absurd (omega arith)
slice_get-map f (y ∷ xs) zero x h e = ap (λ z. Some (f z)) (sym e)
slice_get-map f (y ∷ xs) (suc k) x h e = slice_get-map f xs k x (omega arith) e

pub length-map : {X Y : Type 0} (f : X → Y) (xs : List X) → length (map f xs) ≡ length xs
length-map f [] = refl
length-map f (x ∷ xs) = ap suc (length-map f xs)
