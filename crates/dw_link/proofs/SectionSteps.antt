-- Sections that are added one after another.
use Rattle.std.specs.Prelude.{◌≡◌, ℕ, suc, zero, ◌+◌, ◌<◌, ◌≤◌, ◌==◌, ◌⊎◌, Bool, true, false, List, [], ◌∷◌, Option, Some, None, nat_lt, IsTrue, IsFalse, refl}
use Rattle.std.specs.Option.{option_copied}
use Rattle.std.proofs.Common.{sym, ◌∙◌, ap, subst, inl, inr, arith, get_or, Bor}
use Rattle.std.proofs.lemmas.Bool.Decides.{nat_tests}
use Rattle.dw_base.specs.Numbers.{◌>>=◌}
use Rattle.dw_base.specs.declared.section_id.SectionId.{SectionId}
use Rattle.dw_base.specs.declared.section_id.SectionId.TheVariants.{DebugAbbrev, DebugStr, DebugLineStr, DebugLine, DebugRanges, DebugRngLists, DebugLoc, DebugLocLists, DebugInfo, DebugFrame, EhFrame, DebugAddr, DebugStrOffsets, DebugMacinfo, DebugMacro, DebugAranges}
use Rattle.dw_writer.specs.Texts.{followed}
use Rattle.dw_writer.specs.Layout.{Layout, section_number}
use Rattle.dw_writer.specs.Resolved.{resolved}
use Rattle.dw_writer.specs.Sections.{section_of}
use Rattle.dw_writer.specs.Visits.{written_ids}
use Rattle.dw_writer.specs.declared.sections.Sections.{Sections}
use Rattle.dw_link.specs.declared.error.LinkError.{LinkError}
use Rattle.dw_link.specs.Sets.{Parts}
use Rattle.dw_link.specs.Steps.{bytes_at, section_fault, AddsThese, is_section, is_below, IsPartFault, PartRefused, SetRefused}

-- Sections are told apart by their numbers

ids : List SectionId
ids =
    DebugAbbrev ∷ DebugStr ∷ DebugLineStr ∷ DebugLine ∷ DebugRanges ∷ DebugRngLists ∷ DebugLoc ∷ DebugLocLists ∷ DebugInfo ∷ DebugFrame ∷ EhFrame
    ∷ DebugAddr ∷ DebugStrOffsets ∷ DebugMacinfo ∷ DebugMacro ∷ DebugAranges ∷ []

id_of : (s : SectionId) → get_or ids (section_number s) DebugAbbrev ≡ s
unfolding ids
id_of DebugAbbrev = refl
id_of DebugStr = refl
id_of DebugLineStr = refl
id_of DebugLine = refl
id_of DebugRanges = refl
id_of DebugRngLists = refl
id_of DebugLoc = refl
id_of DebugLocLists = refl
id_of DebugInfo = refl
id_of DebugFrame = refl
id_of EhFrame = refl
id_of DebugAddr = refl
id_of DebugStrOffsets = refl
id_of DebugMacinfo = refl
id_of DebugMacro = refl
id_of DebugAranges = refl

pub number_same : (s t : SectionId) → section_number s ≡ section_number t → s ≡ t
number_same s t e = sym (id_of s) ∙ ap (λ n. get_or ids n DebugAbbrev) e ∙ id_of t

test_is : (m n : ℕ) → IsTrue (m == n) → m ≡ n
test_is m n h = grind (arith, nat_tests)

pub is_section-same : (s t : SectionId) → IsTrue (is_section s t) → t ≡ s
is_section-same s t h = number_same t s (test_is (section_number t) (section_number s) h)

-- a section that isn't there gets nothing
pub AddsThese-nothing : (s : SectionId) (old set : Parts) (layout : SectionId → Layout) → old s ≡ None → set s ≡ None → AddsThese (is_section s) old old set layout
unfolding followed
AddsThese-nothing s old set layout e f = record {
  faultless = λ t h k. ap (λ o. section_fault (layout t) o k) (ap set (is_section-same s t h) ∙ f);
  bytes = λ t h.
      let none : bytes_at old t ≡ None = ap (λ o. o >>= λ m. m.bytes) (ap old (is_section-same s t h) ∙ e) in
      none ∙ sym (ap (λ x. followed x (set t >>= resolved (layout t))) none);
  kept = λ t h. refl;
  orders = λ t. refl;
}

is_false : (b : Bool) → (IsTrue b → ⊥) → IsFalse b
is_false true h = absurd (h refl)
is_false false h = refl

is_it : (s : SectionId) (n : ℕ) → section_number s ≡ n → (t : SectionId) → section_number t ≡ n → t ≡ s
is_it s n e t f = number_same t s (f ∙ sym e)

here : (s t : SectionId) → t ≡ s → IsTrue (is_section s t)
here s t e = ap (λ u. section_number u == section_number s) e ∙ same (section_number s)
  where
    same : (n : ℕ) → (n == n) ≡ true
    same n = let h : n ≡ n = refl in grind (arith, nat_tests)

elsewhere : (s t : SectionId) → (section_number t ≡ section_number s → ⊥) → IsFalse (is_section s t)
elsewhere s t h = is_false (is_section s t) (λ k. h (test_is (section_number t) (section_number s) k))

below_or_at : (k n : ℕ) → IsTrue (nat_lt n (k + 1)) → (n < k) ⊎ (n ≡ k)
below_or_at k n h = let lt : n < k + 1 = grind (arith, nat_tests) in split k n lt
  where
    split : (k n : ℕ) → n < k + 1 → (n < k) ⊎ (n ≡ k)
    split zero zero h = inr refl
    split zero (suc n) h = absurd (omega arith)
    split (suc k) zero h = inl (omega arith)
    split (suc k) (suc n) h = elim (split k n (omega arith)) [ inl lt ↦ inl (omega arith) | inr e ↦ inr (ap suc e) ]

below_true : (k n : ℕ) → n < k → IsTrue (nat_lt n k)
below_true k n h = grind (arith, nat_tests)

below_false : (k n : ℕ) → k ≤ n → IsFalse (nat_lt n k)
below_false k n h = is_false (nat_lt n k) (λ t. absurd (grind (arith, nat_tests)))

not_below : (k n : ℕ) → IsFalse (nat_lt n k) → k ≤ n
not_below k n h = grind (arith, nat_tests)

-- nothing is added yet
pub AddsThese-first : (old set : Parts) (layout : SectionId → Layout) → AddsThese (is_below 0) old old set layout
AddsThese-first old set layout = record {
  faultless = λ s h k. absurd (no (section_number s) h);
  bytes = λ s h. absurd (no (section_number s) h);
  kept = λ s h. refl;
  orders = λ s. refl;
}
  where
    no : (n : ℕ) → IsTrue (nat_lt n 0) → ⊥
    no n h = grind (arith, nat_tests)

-- the section behind those that were added
pub AddsThese-next : (k : ℕ) (s : SectionId) (old cur new set : Parts) (layout later : SectionId → Layout) → section_number s ≡ k → (cur s ≡ old s → later s ≡ layout s) →
    AddsThese (is_below k) old cur set layout → AddsThese (is_section s) cur new set later → AddsThese (is_below (k + 1)) old new set layout
AddsThese-next k s old cur new set layout later at same before one =
    let unchanged : cur s ≡ old s = before.kept s (below_false k (section_number s) (omega arith)) in
    let placed : later s ≡ layout s = same unchanged in
    record {
      faultless = λ t h j. elim (below_or_at k (section_number t) h) [
        | inl lt ↦ before.faultless t (below_true k (section_number t) lt) j
        | inr e ↦
            let it : t ≡ s = is_it s k at t e in
            subst (λ u. section_fault (layout u) (set u) j ≡ None) (sym it) (ap (λ l. section_fault l (set s) j) (sym placed) ∙ one.faultless s (here s s refl) j)
      ];
      bytes = λ t h. elim (below_or_at k (section_number t) h) [
        | inl lt ↦ ap (λ o. o >>= λ m. m.bytes) (one.kept t (elsewhere s t (λ e. omega (arith, e)))) ∙ before.bytes t (below_true k (section_number t) lt)
        | inr e ↦
            let it : t ≡ s = is_it s k at t e in
            subst (λ u. bytes_at new u ≡ followed (bytes_at old u) (set u >>= resolved (layout u))) (sym it)
            (one.bytes s (here s s refl) ∙ ap (λ o. followed (o >>= λ m. m.bytes) (set s >>= resolved (later s))) unchanged
            ∙ ap (λ l. followed (bytes_at old s) (set s >>= resolved l)) placed)
      ];
      kept = λ t h.
          let past : k + 1 ≤ section_number t = not_below (k + 1) (section_number t) h in
          one.kept t (elsewhere s t (λ e. omega (arith, e))) ∙ before.kept t (below_false k (section_number t) (omega arith));
      orders = λ t. one.orders t ∙ before.orders t;
    }

-- a section's refusal is that of its set, where those before it have no fault
pub SetRefused-at : (k n : ℕ) (s : SectionId) (old cur set : Parts) (layout later : SectionId → Layout) (e : LinkError) → section_number s ≡ k → (cur s ≡ old s → later s ≡ layout s) →
    AddsThese (is_below k) old cur set layout → PartRefused (set s) (later s) n s e → SetRefused set layout n e
SetRefused-at k n s old cur set layout later e at same before (inl memory) = inl memory
SetRefused-at k n s old cur set layout later e at same before (inr fault) =
    let placed : later s ≡ layout s = same (before.kept s (below_false k (section_number s) (omega arith))) in
    inr (record {
      section = s;
      here = subst (λ l. IsPartFault (set s) l n s e) placed fault;
      before = λ t lt j. before.faultless t (below_true k (section_number t) (omega arith)) j;
    })

pub number_at : (k : ℕ) (d : SectionId) → k < 11 → section_number (get_or written_ids k d) ≡ k
number_at zero d h = refl
number_at (suc zero) d h = refl
number_at (suc (suc zero)) d h = refl
number_at (suc (suc (suc zero))) d h = refl
number_at (suc (suc (suc (suc zero)))) d h = refl
number_at (suc (suc (suc (suc (suc zero))))) d h = refl
number_at (suc (suc (suc (suc (suc (suc zero)))))) d h = refl
number_at (suc (suc (suc (suc (suc (suc (suc zero))))))) d h = refl
number_at (suc (suc (suc (suc (suc (suc (suc (suc zero)))))))) d h = refl
number_at (suc (suc (suc (suc (suc (suc (suc (suc (suc zero))))))))) d h = refl
number_at (suc (suc (suc (suc (suc (suc (suc (suc (suc (suc zero)))))))))) d h = refl
number_at (suc (suc (suc (suc (suc (suc (suc (suc (suc (suc (suc k))))))))))) d h = absurd (omega arith)

-- every set of sections has the same ones
pub none_of : {V W : Type 0} (a : Sections V) (b : Sections W) (s : SectionId) → section_of a s ≡ None → section_of b s ≡ None
none_of a b DebugAbbrev e = cc
none_of a b DebugStr e = cc
none_of a b DebugLineStr e = cc
none_of a b DebugLine e = cc
none_of a b DebugRanges e = cc
none_of a b DebugRngLists e = cc
none_of a b DebugLoc e = cc
none_of a b DebugLocLists e = cc
none_of a b DebugInfo e = cc
none_of a b DebugFrame e = cc
none_of a b EhFrame e = cc
none_of a b DebugAddr e = refl
none_of a b DebugStrOffsets e = refl
none_of a b DebugMacinfo e = refl
none_of a b DebugMacro e = refl
none_of a b DebugAranges e = refl

pub no_value : {X : Type 0} (o : Option (Bor X)) → ((x : Bor X) → o ≡ Some x → ⊥) → option_copied o ≡ None
no_value None h = refl
no_value (Some x) h = absurd (h x refl)
