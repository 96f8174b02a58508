-- One call after others.
use Rattle.std.proofs.Common.{◌≡◌, ℕ, ◌+◌, ◌<◌, ◌≤◌, Result, Ok, Err, None, List, [], ◌∷◌, length, get_or, drop, refl, sym, ◌∙◌, subst, arith, zero, suc, add-one, drop-cons}
use Rattle.std.specs.Prelude.{IfOk, IfErr}
use Rattle.std.specs.List.{AllByRecursion, FoldsTo}
use Rattle.std.proofs.lemmas.List.{drop_all}
use Rattle.dw_base.specs.declared.section_id.SectionId.{SectionId}
use Rattle.dw_base.specs.declared.section_id.SectionId.TheVariants.{DebugAbbrev}
use Rattle.dw_writer.specs.Sections.{section_of}
use Rattle.dw_writer.specs.declared.sections.Sections.{Sections}
use Rattle.dw_writer.specs.Visits.{Visits, ends, goes_on, fails, written_ids}

-- the id at this place
abbrev pub id_at : ℕ → SectionId
id_at k = get_or written_ids k DebugAbbrev

-- what holds of each item holds of the one at this place
at_each : {X : Type 0} (P : X → Type 0) (xs : List X) (k : ℕ) (d : X) → AllByRecursion P xs → k < length xs → P (get_or xs k d)
at_each P [] k d all h = absurd (omega arith)
at_each P (x ∷ xs) zero d all h = all.0
at_each P (x ∷ xs) (suc k) d all h = at_each P xs k d all.1 (omega arith)

-- each of these sections is there
pub section_of_id_at : {W : Type 0} (s : Sections W) (k : ℕ) → k < 11 → section_of s (id_at k) ≡ None → ⊥
section_of_id_at s k h =
    at_each (λ id. section_of s id ≡ None → ⊥) written_ids k DebugAbbrev
    (λ e. cc, (λ e. cc, (λ e. cc, (λ e. cc, (λ e. cc, (λ e. cc, (λ e. cc, (λ e. cc, (λ e. cc, (λ e. cc, (λ e. cc, tt))))))))))) h

module _ {F R E : Type 0} (shows : SectionId → R → Type 0) (step : F → SectionId → R → Result (Unit {0}) E → F → Type 0) where
  -- a call that succeeds, and then the calls at the other ids
  pub Visits-goes_on : {f g h last : F} {id : SectionId} {w : R} {ids : List SectionId} {s r : Result (Unit {0}) E}
      → shows id w → step f id w s g → s ≡ Ok tt → h ≡ g → Visits shows step h ids r last → Visits shows step f (id ∷ ids) r last
  Visits-goes_on {f} {g} {h} {last} {id} {w} {ids} {s} {r} shown called was is rest =
      goes_on shown (subst (λ k. step f id w k g) was called) (subst (λ k. Visits shows step k ids r last) is rest)

  -- a call that fails, and its error as the result
  pub Visits-fails : {f g : F} {id : SectionId} {w : R} {ids : List SectionId} {e : E} {s r : Result (Unit {0}) E}
      → shows id w → step f id w s g → s ≡ Err e → r ≡ Err e → Visits shows step f (id ∷ ids) r g
  Visits-fails {f} {g} {id} {w} {ids} shown called was is =
      subst (λ k. Visits shows step f (id ∷ ids) k g) (sym is) (fails shown (subst (λ k. step f id w k g) was called))

  -- what the calls at these ids make of the result of the calls before them
  abbrev pub Goes : F → Result (Unit {0}) E → List SectionId → Result (Unit {0}) E → F → Type 0
  Goes f (Ok u) ids r last = Visits shows step f ids r last
  Goes f (Err e) ids r last = (r ≡ Err e) × (last ≡ f)

  -- past the last id
  pub Goes-ends : (f : F) (s : Result (Unit {0}) E) → Goes f s [] s f
  Goes-ends f (Ok u) = ends
  Goes-ends f (Err e) = (refl, refl)

  -- a call unless one before it failed, and then the calls at the other ids
  pub Goes-on : (f g last : F) (id : SectionId) (w : R) (ids : List SectionId) (s t r : Result (Unit {0}) E)
      → shows id w → IfOk s (λ _. step f id w t g) → IfErr s (λ e. (t ≡ Err e) × (g ≡ f))
      → Goes g t ids r last → Goes f s (id ∷ ids) r last
  Goes-on f g last id w ids (Ok u) (Ok v) r shown called failed rest = goes_on shown called rest
  Goes-on f g last id w ids (Ok u) (Err e) r shown called failed rest =
      subst (λ k. Visits shows step f (id ∷ ids) r k) (sym rest.1) (Visits-fails shown called refl rest.0)
  Goes-on f g last id w ids (Err e) t r shown called failed rest =
      let after : (r ≡ Err e) × (last ≡ g) = subst (λ k. Goes g k ids r last) failed.0 rest in (after.0, after.1 ∙ failed.1)

  -- where no call fails, each section is called at
  pub Visits-ok : {f last : F} {ids : List SectionId} → Visits shows step f ids (Ok tt) last
      → FoldsTo (λ p id q. (w : R) × shows id w × step p id w (Ok tt) q) f ids last
  Visits-ok ends = refl
  Visits-ok (goes_on {g = g} {w = w} shown called rest) = (g, (w, shown, called), Visits-ok rest)

  -- the same as the first two at a place among the ids
  pub Visits-goes_on_at : (k : ℕ) {f g h last : F} {w : R} {s r : Result (Unit {0}) E} → k < 11
      → shows (id_at k) w → step f (id_at k) w s g → s ≡ Ok tt → h ≡ g
      → Visits shows step h (drop (k + 1) written_ids) r last → Visits shows step f (drop k written_ids) r last
  Visits-goes_on_at k below shown called was is rest =
      rw (drop-cons written_ids k DebugAbbrev below) (Visits-goes_on shown called was is (rw add-one at rest))

  pub Visits-fails_at : (k : ℕ) {f g : F} {w : R} {e : E} {s r : Result (Unit {0}) E} → k < 11
      → shows (id_at k) w → step f (id_at k) w s g → s ≡ Err e → r ≡ Err e → Visits shows step f (drop k written_ids) r g
  Visits-fails_at k below shown called was is = rw (drop-cons written_ids k DebugAbbrev below) (Visits-fails shown called was is)

  -- past the last id
  pub Visits-ends_at : (k : ℕ) (f : F) → 11 ≤ k → Visits shows step f (drop k written_ids) (Ok tt) f
  Visits-ends_at k f past = rw (drop_all k written_ids past) ends
