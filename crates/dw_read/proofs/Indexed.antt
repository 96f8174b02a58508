-- Where declarations stand by their codes.
use Rattle.std.proofs.Common.{◌≡◌, ◌≢◌, ◌∙◌, sym, ap, subst, ℕ, zero, suc, ◌+◌, ◌%◌, ◌^◌, ◌<◌, List, [], ◌∷◌, ◌++◌, length, map, get_or, Option, Some, None, IfNone, is_some, Bool, true, false, refl, arith, ⊎_elim, ◌⊎◌, inl, inr, length-append, nat_eq, if◌then◌else◌}
use Rattle.std.specs.Ordering.{nat_cmp, is_eq}
use Rattle.std.specs.declared.cmp.Ordering.TheVariants.{Less, Greater}
use Rattle.std.specs.Cmp.{nat_cmp_is}
use Rattle.std.specs.BTreeMap.{BTreeMap, get, is_at, Updates}
use Rattle.std.proofs.lemmas.List.{get_or-map, length-map, map-append, get_or_append_left, get_or_push}
use Rattle.std.proofs.lemmas.Bool.{cases_lt}
use borrow.Author.Tests.{ne_eqb, eq-eqb}
use Rattle.dw_base.specs.Abbreviations.{Declaration, Shape, shape_of_code}
use Rattle.std.specs.Borrow.{Bor}
use Rattle.dw_read.specs.Tables.{Finds}
use Rattle.dw_read.specs.Index.{code_at, StandsAt, IsIndexed}

pub code_at_is : (ds : List Declaration) (i : ℕ) (x : Declaration) → i < length ds → x ≡ get_or ds i x → code_at ds i ≡ x.code
code_at_is ds i x h e = get_or-map (λ (d : Declaration). d.code) ds i x 0 h ∙ ap (λ (d : Declaration). d.code) (sym e)

pub shape_found : (ds : List Declaration) (i code : ℕ) (x : Declaration) → i < length ds → x ≡ get_or ds i x → x.code ≡ code → ((j : ℕ) → j < i → code_at ds j ≢ code) → shape_of_code ds code ≡ Some x.shape
unfolding shape_of_code
shape_found [] i code x h e c n = absurd (omega arith)
shape_found (d ∷ ds) zero code x h e c n =
    let same : d.code ≡ code = ap (λ (y : Declaration). y.code) (sym e) ∙ c in
    rw (eq-eqb d.code code same) (ap (λ (y : Declaration). Some y.shape) (sym e))
shape_found (d ∷ ds) (suc i) code x h e c n = rw (ne_eqb d.code code (n 0 (omega arith))) (shape_found ds i code x (omega arith) e c (λ j l. n (suc j) (omega arith)))

pub shape_none : (ds : List Declaration) (code : ℕ) → ((i : ℕ) → StandsAt ds code i → ⊥) → shape_of_code ds code ≡ None
unfolding shape_of_code
shape_none [] code n = refl
shape_none (d ∷ ds) code n = rw (ne_eqb d.code code (λ e. n 0 (omega arith, e))) (shape_none ds code (λ i s. let l : i < length ds = s.0 in n (suc i) (omega arith, s.1)))

pub finds : (items args : List Declaration) (others : BTreeMap ℕ ℕ) (place code : ℕ) (x : Declaration) → items ≡ args → IsIndexed items others → StandsAt args code place → x ≡ get_or items place x
    → (x.code ≡ code) × (shape_of_code args code ≡ Some x.shape)
finds items args others place code x q is s e =
    let in_args : place < length args = s.0 in
    let e' : x ≡ get_or args place x = subst (λ (l : List Declaration). x ≡ get_or l place x) q e in
    let same : x.code ≡ code = sym (code_at_is args place x in_args e') ∙ s.1 in
    let apart : (j : ℕ) → j < place → code_at args j ≢ code = subst (λ (l : List Declaration). (j : ℕ) → j < place → code_at l j ≢ code) q (λ j l d. is.differ j place l (subst (λ (l : List Declaration). place < length l) (sym q) in_args) (d ∙ sym (subst (λ (l : List Declaration). code_at l place ≡ code) (sym q) s.1))) in
    (same, shape_found args place code x in_args e' same apart)

-- the place of a code that isn't its own is in the map
pub no_place : (items args : List Declaration) (others : BTreeMap ℕ ℕ) (code own : ℕ) (r : Option ℕ) → items ≡ args → IsIndexed items others → r ≡ get nat_cmp others code → (StandsAt args code own → ⊥)
    → code < 2 ^ 64 → own ≡ (code + 18446744073709551615) % 18446744073709551616 → IfNone r ((i : ℕ) → StandsAt args code i → ⊥)
no_place items args others code own (Some x) q is e n small o = tt
no_place items args others code own None q is e n small o = λ i s.
    let s' : StandsAt items code i = subst (λ (l : List Declaration). StandsAt l code i) (sym q) s in
    let not_own : code ≡ i + 1 → ⊥ = λ p. let z : own ≡ i = omega arith in n (subst (StandsAt args code) (sym z) s) in
    let there : get nat_cmp others (code_at items i) ≡ Some i = is.listed i s'.0 (λ p. not_own (sym s'.1 ∙ p)) in
    let found : get nat_cmp others code ≡ Some i = subst (λ (k : ℕ). get nat_cmp others k ≡ Some i) s'.1 there in
    cc

stands_found_later : (t : Bool) (x y : Option Shape) → (if t then x else y) ≡ None → (y ≡ None → ⊥) → (x ≡ None → ⊥) → ⊥
stands_found_later true x y h k l = l h
stands_found_later false x y h k l = k h

-- what stands in the table is found
stands_found : (ds : List Declaration) (code i : ℕ) → StandsAt ds code i → shape_of_code ds code ≡ None → ⊥
unfolding shape_of_code
stands_found [] code i s none = let l : i < 0 = s.0 in omega arith
stands_found (d ∷ ds) code zero s none = let h = rw (eq-eqb d.code code s.1) at none in cc
stands_found (d ∷ ds) code (suc i) s none = stands_found_later (nat_eq d.code code) (Some d.shape) (shape_of_code ds code) none (λ h. let l : suc i < suc (length ds) = s.0 in stands_found ds code i (omega arith, s.1) h) (λ h. cc)

pub not_there : (ds : List Declaration) (code i : ℕ) → shape_of_code ds code ≡ None → StandsAt ds code i → ⊥
not_there ds code i none s = stands_found ds code i s none

-- one declaration more
front_code : (ds : List Declaration) (a : Declaration) (i : ℕ) → i < length ds → code_at (ds ++ a ∷ []) i ≡ code_at ds i
front_code ds a i h = ap (λ (l : List ℕ). get_or l i 0) (map-append (λ (d : Declaration). d.code) ds (a ∷ [])) ∙ get_or_append_left (map (λ (d : Declaration). d.code) ds) (a.code ∷ []) 0 i (omega (arith, length-map ds (λ (d : Declaration). d.code)))

last_code : (ds : List Declaration) (a : Declaration) → code_at (ds ++ a ∷ []) (length ds) ≡ a.code
last_code ds a = ap (λ (l : List ℕ). get_or l (length ds) 0) (map-append (λ (d : Declaration). d.code) ds (a ∷ [])) ∙ get_or_push (map (λ (d : Declaration). d.code) ds) a.code 0 (length ds) (length-map ds (λ (d : Declaration). d.code))

-- a place among those and the last
data_last : (ds : List Declaration) (a : Declaration) (i : ℕ) → i < length (ds ++ a ∷ []) → (i < length ds) ⊎ (i ≡ length ds)
data_last ds a i h = ⊎_elim (λ l. inl l) (λ g. inr (omega (arith, length-append ds (a ∷ [])))) (cases_lt i (length ds))

still_differ : (ds : List Declaration) (a : Declaration) → ((i j : ℕ) → i < j → j < length ds → code_at ds i ≢ code_at ds j) → ((i : ℕ) → StandsAt ds a.code i → ⊥) → (i j : ℕ) → i < j → j < length (ds ++ a ∷ []) → code_at (ds ++ a ∷ []) i ≢ code_at (ds ++ a ∷ []) j
still_differ ds a d n i j l h e =
    ⊎_elim
    (λ (m : j < length ds). d i j l m (sym (front_code ds a i (omega arith)) ∙ e ∙ front_code ds a j m))
    (λ (m : j ≡ length ds).
    let k : i < length ds = omega arith in
    n i (k, sym (front_code ds a i k) ∙ e ∙ ap (code_at (ds ++ a ∷ [])) m ∙ last_code ds a))
    (data_last ds a j h)

pub indexed_same : (ds : List Declaration) (a : Declaration) (others : BTreeMap ℕ ℕ) → IsIndexed ds others → ((i : ℕ) → StandsAt ds a.code i → ⊥) → a.code ≡ length ds + 1 → IsIndexed (ds ++ a ∷ []) others
indexed_same ds a others is n e = record {
  differ = still_differ ds a is.differ n;
  listed = λ i h o. ⊎_elim
      (λ (m : i < length ds). subst (λ (k : ℕ). get nat_cmp others k ≡ Some i) (sym (front_code ds a i m)) (is.listed i m (λ p. o (front_code ds a i m ∙ p))))
      (λ (m : i ≡ length ds). absurd (o (ap (code_at (ds ++ a ∷ [])) m ∙ last_code ds a ∙ e ∙ ap (λ (k : ℕ). k + 1) (sym m))))
      (data_last ds a i h);
  within = λ code i g. let l : i < length ds = is.within code i g in omega (arith, length-append ds (a ∷ []));
  right = λ code i g. front_code ds a i (is.within code i g) ∙ is.right code i g;
}

apart : (k q : ℕ) → (k ≡ q → ⊥) → is_at (nat_cmp k) q ≡ false
apart k q n = ⊎_elim
    (λ l. ap is_eq (sym (nat_cmp_is k q Less l)))
    (λ g. ap is_eq (sym (nat_cmp_is k q Greater (let m : k ≢ q = n in omega arith))))
    (cases_lt k q)

pub same_or_apart : (k q : ℕ) → (k ≡ q) ⊎ (k ≡ q → ⊥)
same_or_apart k q = ⊎_elim (λ l. inr (λ e. omega arith)) (λ g. ⊎_elim (λ l. inr (λ e. omega arith)) (λ m. inl (omega arith)) (cases_lt q k)) (cases_lt k q)

pub indexed_other : (ds : List Declaration) (a : Declaration) (old new : BTreeMap ℕ ℕ) → IsIndexed ds old → ((i : ℕ) → StandsAt ds a.code i → ⊥) → Updates nat_cmp old new a.code (Some (length ds)) → IsIndexed (ds ++ a ∷ []) new
indexed_other ds a old new is n u = record {
  differ = still_differ ds a is.differ n;
  listed = λ i h o. ⊎_elim
      (λ (m : i < length ds).
      let k : a.code ≡ code_at ds i → ⊥ = λ e. n i (m, sym e) in
      let was : get nat_cmp old (code_at ds i) ≡ Some i = is.listed i m (λ p. o (front_code ds a i m ∙ p)) in
      subst (λ (k : ℕ). get nat_cmp new k ≡ Some i) (sym (front_code ds a i m)) (u.2 (code_at ds i) (apart a.code (code_at ds i) k) ∙ was))
      (λ (m : i ≡ length ds). subst (λ (k : ℕ). get nat_cmp new k ≡ Some i) (sym (ap (code_at (ds ++ a ∷ [])) m ∙ last_code ds a)) (u.1 ∙ ap (λ (k : ℕ). Some k) (sym m)))
      (data_last ds a i h);
  within = λ code i g. ⊎_elim
      (λ (e : a.code ≡ code). let l : get nat_cmp new a.code ≡ Some (length ds) = u.1 in let m : get nat_cmp new a.code ≡ Some i = subst (λ (k : ℕ). get nat_cmp new k ≡ Some i) (sym e) g in let p : length ds ≡ i = cc in omega (arith, length-append ds (a ∷ [])))
      (λ (e : a.code ≡ code → ⊥). let l : i < length ds = is.within code i (sym (u.2 code (apart a.code code e)) ∙ g) in omega (arith, length-append ds (a ∷ [])))
      (same_or_apart a.code code);
  right = λ code i g. ⊎_elim
      (λ (e : a.code ≡ code). let l : get nat_cmp new a.code ≡ Some (length ds) = u.1 in let m : get nat_cmp new a.code ≡ Some i = subst (λ (k : ℕ). get nat_cmp new k ≡ Some i) (sym e) g in let p : length ds ≡ i = cc in ap (code_at (ds ++ a ∷ [])) (sym p) ∙ last_code ds a ∙ e)
      (λ (e : a.code ≡ code → ⊥). let f : get nat_cmp old code ≡ Some i = sym (u.2 code (apart a.code code e)) ∙ g in front_code ds a i (is.within code i f) ∙ is.right code i f)
      (same_or_apart a.code code);
}

pub indexed_none : (others : BTreeMap ℕ ℕ) → ((q : ℕ) → get nat_cmp others q ≡ None) → IsIndexed [] others
indexed_none others e = record {
  differ = λ i j l h. absurd (omega arith);
  listed = λ i h o. absurd (omega arith);
  within = λ code i g. let n : get nat_cmp others code ≡ None = e code in absurd (cc);
  right = λ code i g. let n : get nat_cmp others code ≡ None = e code in absurd (cc);
}

pub found_some : (ds : List Declaration) (code : ℕ) (r : Option (Bor Declaration)) → Finds ds code r → is_some r ≡ true → (t : Shape) × (shape_of_code ds code ≡ Some t)
found_some ds code None f e = absurd (cc)
found_some ds code (Some a) f e = (a.now.shape, f.1)

pub found_none : (ds : List Declaration) (code : ℕ) (r : Option (Bor Declaration)) → Finds ds code r → is_some r ≡ false → shape_of_code ds code ≡ None
found_none ds code None f e = f
found_none ds code (Some a) f e = absurd (cc)

pub pushed_same : (ds items : List Declaration) (a : Declaration) (old others : BTreeMap ℕ ℕ) (code place : ℕ) → IsIndexed ds old → ((i : ℕ) → StandsAt ds a.code i → ⊥) → code ≡ a.code → place ≡ length ds → code ≡ place + 1 → items ≡ ds ++ a ∷ [] → others ≡ old → IsIndexed items others
pushed_same ds items a old others code place is n c p e q o =
    rw (q, o) (indexed_same ds a old is n (sym c ∙ e ∙ ap (λ (k : ℕ). k + 1) p))

pub pushed_other : (ds items : List Declaration) (a : Declaration) (old new others : BTreeMap ℕ ℕ) (code place : ℕ) → IsIndexed ds old → ((i : ℕ) → StandsAt ds a.code i → ⊥) → code ≡ a.code → place ≡ length ds → Updates nat_cmp old new code (Some place) → items ≡ ds ++ a ∷ [] → others ≡ new → IsIndexed items others
pushed_other ds items a old new others code place is n c p u q o =
    rw (q, o) (indexed_other ds a old new is n (subst (λ (k : ℕ). Updates nat_cmp old new k (Some (length ds))) c (subst (λ (k : ℕ). Updates nat_cmp old new code (Some k)) p u)))
