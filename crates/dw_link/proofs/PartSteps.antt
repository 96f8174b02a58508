-- A part that is added to a joined section, one relocation after another.
use Rattle.std.specs.Prelude.{◌≡◌, ℕ, suc, zero, ◌+◌, ◌<◌, ◌≤◌, ◌⊎◌, Bool, false, ◌&&◌, not, List, [], ◌∷◌, ◌++◌, length, take, drop, Some, None, slice_get, if◌then◌else◌, refl}
use Rattle.std.proofs.Common.{sym, ◌∙◌, ap, subst, inl, inr, arith, add-one, get_or}
use Rattle.std.proofs.lemmas.List.{take-append-drop}
use Rattle.std.proofs.Math.Seq.{take-append_seam}
use Rattle.dw_base.specs.Numbers.{◌>>=◌}
use Rattle.dw_writer.specs.Texts.{Text, followed}
use Rattle.dw_writer.specs.Layout.{Layout, is_at_zero}
use Rattle.dw_writer.specs.Resolved.{put_record, put_records, resolved}
use Rattle.dw_writer.specs.Meaning.{Meaning, spelled_text}
use Rattle.dw_writer.specs.declared.relocate.Relocation.{Relocation}
use Rattle.dw_writer.proofs.Laws.{put_records-more}
use Rattle.dw_link.specs.declared.fault.Fault.{Fault}
use Rattle.dw_link.specs.Faults.{fault_of, error_at}
use Rattle.dw_link.specs.declared.error.LinkError.{LinkError}
use Rattle.dw_base.specs.declared.section_id.SectionId.{SectionId}
use Rattle.dw_link.specs.Outcome.{part_fault}
use Rattle.dw_link.specs.Steps.{layout_at, Relocates, AddsPart, PartRefused}

-- the first k relocations of the part m were put into the bytes from `start` on, behind the old ones
pub record Reached (m : Meaning) (l : Layout) (old : List ℕ) (start k : ℕ) (cur : List ℕ) : Type 0 where
  pub put : put_records m.is_big l (take k m.records) m.bytes ≡ Some (drop start cur)
  pub front : take start cur ≡ old
  pub faultless : (j : ℕ) → j < k → part_fault l m j ≡ None

drop_seam : (xs ys : List ℕ) → drop (length xs) (xs ++ ys) ≡ ys
drop_seam [] ys = refl
drop_seam (x ∷ xs) ys = drop_seam xs ys

pub Reached-first : (m : Meaning) (l : Layout) (old bs cur : List ℕ) (start : ℕ) → m.bytes ≡ Some bs → ◌≡◌ {A = Text} (Some cur) (followed (Some old) (Some bs)) → length old ≡ start → Reached m l old start 0 cur
unfolding followed
Reached-first m l old bs cur start told e h =
    let f : cur ≡ old ++ bs = cc in
    record {
      put = told ∙ ap Some (sym (drop_seam old bs) ∙ ap (λ n. drop n (old ++ bs)) h ∙ ap (drop start) (sym f));
      front = ap (take start) f ∙ ap (λ n. take n (old ++ bs)) (sym h) ∙ take-append_seam old bs;
      faultless = λ j k. absurd (omega arith);
    }

pub slice_get-is : {X : Type 0} (xs : List X) (k : ℕ) (x : X) → slice_get xs k ≡ Some x → take (k + 1) xs ≡ take k xs ++ x ∷ []
slice_get-is [] k x e = cc
slice_get-is (y ∷ xs) zero x e = let f : y ≡ x = cc in ap (λ z. z ∷ []) f
slice_get-is (y ∷ xs) (suc k) x e = ap (λ n. take n (y ∷ xs)) (add-one (suc k)) ∙ ap (λ zs. y ∷ zs) (sym (ap (λ n. take n xs) (add-one k)) ∙ slice_get-is xs k x e)

pub Reached-fault : {m : Meaning} {l : Layout} {old : List ℕ} {start k : ℕ} {cur : List ℕ} (r : Relocation) → Reached m l old start k cur → slice_get m.records k ≡ Some r →
    part_fault l m k ≡ fault_of m.is_big l (drop start cur) r
Reached-fault {m} {l} {old} {start} {k} {cur} r reached e =
    ap (λ o. o >>= λ r. put_records m.is_big l (take k m.records) m.bytes >>= λ bytes. fault_of m.is_big l bytes r) e
    ∙ ap (λ o. o >>= λ bytes. fault_of m.is_big l bytes r) reached.put

split : (xs ns : List ℕ) (t : Text) → ◌≡◌ {A = Text} (Some ns) (followed (Some xs) t) → (t ≡ Some (drop (length xs) ns)) × (take (length xs) ns ≡ xs)
unfolding followed
split xs ns None e = cc
split xs ns (Some ys) e =
    let f : ns ≡ xs ++ ys = cc in
    (ap Some (sym (drop_seam xs ys) ∙ ap (drop (length xs)) (sym f)), ap (take (length xs)) f ∙ take-append_seam xs ys)

below_next : {P : ℕ → Type 0} (k j : ℕ) → ((i : ℕ) → i < k → P i) → P k → j < k + 1 → P j
below_next {P} k j h p lt = elim (same_or k j lt) [ inl e ↦ subst P (sym e) p | inr less ↦ h j less ]
  where
    same_or : (k j : ℕ) → j < k + 1 → (j ≡ k) ⊎ (j < k)
    same_or zero zero h = inl refl
    same_or zero (suc j) h = absurd (omega arith)
    same_or (suc k) zero h = inr (omega arith)
    same_or (suc k) (suc j) h = elim (same_or k j (omega arith)) [ inl e ↦ inl (ap suc e) | inr less ↦ inr (omega arith) ]

pub Reached-next : {m : Meaning} {l : Layout} {old : List ℕ} {start k : ℕ} {cur ns : List ℕ} (r : Relocation) (a b : Meaning) → Reached m l old start k cur → slice_get m.records k ≡ Some r →
    Relocates a b start l r → a.bytes ≡ Some cur → b.bytes ≡ Some ns → a.is_big ≡ m.is_big → length old ≡ start → Reached m l old start (k + 1) ns
Reached-next {m} {l} {old} {start} {k} {cur} {ns} r a b reached e did at_a at_b order h =
    let told : ◌≡◌ {A = Text} (Some ns) (followed (Some old) (put_record m.is_big l r (Some (drop start cur)))) =
    sym at_b ∙ did.bytes ∙ ap (λ t. followed (Some (take start (spelled_text t))) (put_record a.is_big l r (Some (drop start (spelled_text t))))) at_a
    ∙ ap (λ big. followed (Some (take start cur)) (put_record big l r (Some (drop start cur)))) order
    ∙ ap (λ xs. followed (Some xs) (put_record m.is_big l r (Some (drop start cur)))) reached.front in
    let parts = split old ns (put_record m.is_big l r (Some (drop start cur))) told in
    let none : fault_of m.is_big l (drop start cur) r ≡ None =
    ap (λ big. fault_of big l (drop start cur) r) (sym order) ∙ ap (λ t. fault_of a.is_big l (drop start (spelled_text t)) r) (sym at_a) ∙ did.faultless in
    record {
      put =
          ap (λ rs. put_records m.is_big l rs m.bytes) (slice_get-is m.records k r e)
          ∙ put_records-more m.is_big l (take k m.records) (r ∷ []) m.bytes
          ∙ ap (put_record m.is_big l r) reached.put
          ∙ parts.0 ∙ ap (λ n. Some (drop n ns)) h;
      front = ap (λ n. take n ns) (sym h) ∙ parts.1;
      faultless = λ j lt. below_next {P = λ i. part_fault l m i ≡ None} k j reached.faultless (Reached-fault r reached e ∙ none) lt;
    }

past_end : {X : Type 0} (xs : List X) (k : ℕ) → length xs ≤ k → slice_get xs k ≡ None
past_end [] k h = refl
past_end (x ∷ xs) zero h = absurd (omega arith)
past_end (x ∷ xs) (suc k) h = past_end xs k (omega arith)

below_or : (k n : ℕ) → (k < n) ⊎ (n ≤ k)
below_or k zero = inr (omega arith)
below_or zero (suc n) = inl (omega arith)
below_or (suc k) (suc n) = elim (below_or k n) [ inl h ↦ inl (omega arith) | inr h ↦ inr (omega arith) ]

pub not_plain : (m : Meaning) (l : Layout) → m.is_plain ≡ false → resolved l m ≡ put_records m.is_big l m.records m.bytes
unfolding resolved
not_plain m l e = ap (λ b. if b && not (is_at_zero l) then None else put_records m.is_big l m.records m.bytes) e

take-past : {X : Type 0} (xs : List X) (k : ℕ) → length xs ≤ k → take k xs ≡ xs
take-past [] zero h = refl
take-past [] (suc k) h = refl
take-past (x ∷ xs) zero h = absurd (omega arith)
take-past (x ∷ xs) (suc k) h = ap (λ ys. x ∷ ys) (take-past xs k (omega arith))

pub Reached-last : {m : Meaning} {l : Layout} {old : List ℕ} {start k : ℕ} {cur : List ℕ} (a b : Meaning) → Reached m l old start k cur → length m.records ≤ k → m.is_plain ≡ false →
    a.bytes ≡ Some old → b.bytes ≡ Some cur → b.is_big ≡ a.is_big → AddsPart a b m l
unfolding followed
Reached-last {m} {l} {old} {start} {k} {cur} a b reached h kind at_a at_b order = record {
  faultless = λ j. elim (below_or j k) [
    | inl lt ↦ reached.faultless j lt
    | inr le ↦ ap (λ o. o >>= λ r. put_records m.is_big l (take j m.records) m.bytes >>= λ bytes. fault_of m.is_big l bytes r) (past_end m.records j (omega arith))
  ];
  bytes =
      at_b ∙ ap Some (sym (take-append-drop start cur) ∙ ap (λ xs. xs ++ drop start cur) reached.front)
      ∙ ap (followed (Some old)) (sym reached.put ∙ ap (λ rs. put_records m.is_big l rs m.bytes) (take-past m.records k h) ∙ sym (not_plain m l kind))
      ∙ ap (λ t. followed t (resolved l m)) (sym at_a);
  order = order;
}

pub slice_get-in : {X : Type 0} (xs : List X) (k : ℕ) (d : X) → k < length xs → slice_get xs k ≡ Some (get_or xs k d)
slice_get-in [] k d h = absurd (omega arith)
slice_get-in (x ∷ xs) zero d h = refl
slice_get-in (x ∷ xs) (suc k) d h = slice_get-in xs k d (omega arith)

-- the element of one list is that of an equal one
pub slice_get-of : {X : Type 0} (xs ys : List X) (k : ℕ) (d : X) → ys ≡ xs → k < length xs → slice_get ys k ≡ Some (get_or xs k d)
slice_get-of xs ys k d e h = ap (λ zs. slice_get zs k) e ∙ slice_get-in xs k d h

-- a relocation is faulty where those before it are not
pub PartRefused-at : (m : Meaning) (starts symbols old cur : List ℕ) (start size k n : ℕ) (big : Bool) (s : SectionId) (r : Relocation) (f : Fault) (e : LinkError) →
    start ≡ size → Reached m (layout_at starts symbols start) old start k cur → slice_get m.records k ≡ Some r → big ≡ m.is_big →
    fault_of big (layout_at starts symbols start) (drop start cur) r ≡ Some f → e ≡ error_at f n s k → PartRefused (Some m) (layout_at starts symbols size) n s e
PartRefused-at m starts symbols old cur start size k n big s r f e same reached at order stands is =
    let here : part_fault (layout_at starts symbols start) m k ≡ Some f =
    Reached-fault r reached at ∙ ap (λ b. fault_of b (layout_at starts symbols start) (drop start cur) r) (sym order) ∙ stands in
    subst (λ p. PartRefused (Some m) (layout_at starts symbols p) n s e) same
    (inr (record { index = k; fault = f; is = is; stands = here; first = reached.faultless }))

pub AddsPart-last : (m a b : Meaning) (starts symbols old cur : List ℕ) (start size k : ℕ) → start ≡ size → Reached m (layout_at starts symbols start) old start k cur →
    length m.records ≤ k → m.is_plain ≡ false → a.bytes ≡ Some old → b.bytes ≡ Some cur → b.is_big ≡ a.is_big → AddsPart a b m (layout_at starts symbols size)
AddsPart-last m a b starts symbols old cur start size k same reached end kind at_a at_b order =
    subst (λ p. AddsPart a b m (layout_at starts symbols p)) same (Reached-last a b reached end kind at_a at_b order)
