-- Range lists are found in the finished sections.
use Rattle.std.specs.Prelude.{◌≡◌, ◌⊎◌, ℕ, ◌<◌, ◌≤◌, Bool, true, false, not, List, [], ◌∷◌, ◌++◌, All, length, Option, Some, None, slice_get, get_or, refl, if◌then◌else◌}
use Rattle.std.proofs.Common.{sym, ◌∙◌, ap, subst, inl, inr, arith, append_assoc, length-append}
use Rattle.std.proofs.lemmas.List.Elements.{All-head, All-tail}
use Rattle.std.proofs.lemmas.Option.{slice_get_cases}
use Rattle.dw_writer.specs.Drafts.{left_open, open_text}
use Rattle.dw_writer.specs.Layout.{Layout}
use Rattle.dw_writer.specs.Texts.{Text, followed}
use Rattle.dw_lists.specs.Items.{is_five}
use Rattle.dw_lists.specs.Tables.{IsFound, AreNumbered, no_place, ranges_in}
use Rattle.dw_lists.proofs.Numbered.{table_numbered}
use Rattle.dw_lists.proofs.SameSize.{ranges-wide}
use Rattle.dw_line.specs.Parts.{texts}
use Rattle.dw_tree.specs.Built.{at_zero}
use Rattle.dw_tree.specs.Elsewhere.{Elsewhere, AreFound, has_base_address, ranges_at, range_draft, range_size, range_text, range_places_at, past_parts}
use Rattle.dw_tree.specs.Locations.{is_own_section}
use Rattle.dw_tree.specs.UnitValue.{UnitValue}
use Rattle.dw_unit.specs.WrittenUnits.{AreListsSound}
use Rattle.dw_dwarf.specs.Lists.{InOrder, FindsLists, FindAllLists}

pub some_is : {A : Type 0} (x y : A) → Some x ≡ Some y → x ≡ y
some_is x y h = cc

-- an element has what all have
pub all_at : {X : Type 0} (P : X → Type 0) (xs : List X) (i : ℕ) (x : X) → slice_get xs i ≡ Some x → All P xs → P x
all_at {X} P xs i x get all = by_case (slice_get_cases xs i).1
  where
    by_case : ((y : X) × (i < length xs) × (slice_get xs i ≡ Some y) × (get_or xs i y ≡ y)) ⊎ ((length xs ≤ i) × (slice_get xs i ≡ None)) → P x
    by_case (inl h) = subst P (h.3 ∙ some_is h.0 x (sym h.2 ∙ get)) (all i h.0 h.1)
    by_case (inr h) = absurd (let clash : ◌≡◌ {A = Option X} None (Some x) = sym h.1 ∙ get in cc)

-- two texts that are told together
pub record AreTold (t u : Text) (bytes : List ℕ) : Type 0 where
  pub first : List ℕ
  pub rest : List ℕ
  pub first_is : t ≡ Some first
  pub rest_is : u ≡ Some rest
  pub both : bytes ≡ first ++ rest

pub told_apart : (t u : Text) (bytes : List ℕ) → followed t u ≡ Some bytes → AreTold t u bytes
unfolding followed
told_apart None u bytes h = absurd (let x : ◌≡◌ {A = Text} None (Some bytes) = h in cc)
told_apart (Some xs) None bytes h = absurd (let x : ◌≡◌ {A = Text} None (Some bytes) = h in cc)
told_apart (Some xs) (Some ys) bytes h = record { first = xs; rest = ys; first_is = refl; rest_is = refl; both = sym (some_is (xs ++ ys) bytes h) }

-- the bytes of a unit's lists in one of the sections are as many as they come to
module _ (u : UnitValue) (big : Bool) (l : Layout) where
  pub part_size : (five : Bool) (xs : List ℕ) → range_text five u big l ≡ Some xs → length xs ≡ range_size five u
  part_size five xs h = by_version (is_own_section five u.encoding) h
    where
      by_version : (b : Bool) → (if b then open_text (range_draft u) big l else Some []) ≡ Some xs → length xs ≡ (if b then (range_draft u).size else 0)
      by_version true k = ranges-wide u.encoding u.ranges left_open big l xs k
      by_version false k = ap length (sym (some_is [] xs k))

  pub whole_text : (five : Bool) → is_five u.encoding ≡ five → (xs : List ℕ) → range_text five u big l ≡ Some xs → open_text (range_draft u) big l ≡ Some xs
  whole_text true is xs h = sym (ap (λ b. if b then open_text (range_draft u) big l else Some []) is) ∙ h
  whole_text false is xs h = sym (ap (λ b. if not b then open_text (range_draft u) big l else Some []) is) ∙ h

-- one unit's lists, where both sections stand before and behind them
module _ (old new : InOrder) (found : Elsewhere) (u : UnitValue) (again : AreFound u) (numbered : All AreNumbered (ranges_in u.ranges)) where
  one_found : (before xs rest : List ℕ) (section : InOrder) (five : Bool) → is_five u.encoding ≡ five → (if is_five u.encoding then new else old) ≡ section →
      section.bytes ≡ before ++ (xs ++ rest) → length before ≡ ranges_at found u → open_text (range_draft u) section.is_big at_zero ≡ Some xs → FindsLists old new found u
  one_found before xs rest section five is here bytes at told i x get =
      subst (λ (s : InOrder). IsFound false u.encoding no_place left_open s.is_big at_zero s.bytes (range_places_at (ranges_at found u) u) i x) (sym here)
      (subst (λ n. IsFound false u.encoding no_place left_open section.is_big at_zero section.bytes (range_places_at n u) i x) at
      (subst (λ b. IsFound false u.encoding no_place left_open section.is_big at_zero b (range_places_at (length before) u) i x) (sym bytes)
      (again left_open section.is_big at_zero before xs rest told i x get (inr (all_at AreNumbered (ranges_in u.ranges) i x get numbered)))))

-- all units' lists behind so many bytes of both sections
pub all_found : (old new : InOrder) (found : Elsewhere) (before more behind others : List ℕ) (us : List UnitValue) → All AreFound us → All AreListsSound us →
    old.bytes ≡ before ++ more → length before ≡ found.ends.ranges.size → texts (range_text false) us old.is_big at_zero ≡ Some more →
    new.bytes ≡ behind ++ others → length behind ≡ found.ends.range_lists.size → texts (range_text true) us new.is_big at_zero ≡ Some others → FindAllLists old new found us
all_found old new found before more behind others [] again sounds old_is old_at old_told new_is new_at new_told = tt
all_found old new found before more behind others (u ∷ us) again sounds old_is old_at old_told new_is new_at new_told =
    let o = told_apart (range_text false u old.is_big at_zero) (texts (range_text false) us old.is_big at_zero) more old_told in
    let n = told_apart (range_text true u new.is_big at_zero) (texts (range_text true) us new.is_big at_zero) others new_told in
    let old_here : old.bytes ≡ before ++ (o.first ++ o.rest) = old_is ∙ ap (λ xs. before ++ xs) o.both in
    let new_here : new.bytes ≡ behind ++ (n.first ++ n.rest) = new_is ∙ ap (λ xs. behind ++ xs) n.both in
    let numbered = table_numbered u.encoding None false (has_base_address u.entries) true (ranges_in u.ranges) (All-head AreListsSound u us sounds).ranges refl in (
      by_version o n old_here new_here numbered (is_five u.encoding) refl,
      all_found old new (past_parts found u) (before ++ o.first) o.rest (behind ++ n.first) n.rest us (All-tail AreFound u us again) (All-tail AreListsSound u us sounds)
          (old_here ∙ sym (append_assoc before o.first o.rest)) (omega (arith, length-append before o.first, old_at, part_size u old.is_big at_zero false o.first o.first_is)) o.rest_is
          (new_here ∙ sym (append_assoc behind n.first n.rest)) (omega (arith, length-append behind n.first, new_at, part_size u new.is_big at_zero true n.first n.first_is)) n.rest_is,
    )
  where
    here : AreFound u
    here = All-head AreFound u us again

    by_version : (o : AreTold (range_text false u old.is_big at_zero) (texts (range_text false) us old.is_big at_zero) more) →
        (n : AreTold (range_text true u new.is_big at_zero) (texts (range_text true) us new.is_big at_zero) others) →
        old.bytes ≡ before ++ (o.first ++ o.rest) → new.bytes ≡ behind ++ (n.first ++ n.rest) → All AreNumbered (ranges_in u.ranges) → (five : Bool) → is_five u.encoding ≡ five → FindsLists old new found u
    by_version o n old_here new_here numbered true is =
        one_found old new found u here numbered behind n.first n.rest new true is (ap (λ b. if b then new else old) is) new_here
        (new_at ∙ sym (ap (λ b. if b then found.ends.range_lists.size else found.ends.ranges.size) is)) (whole_text u new.is_big at_zero true is n.first n.first_is)
    by_version o n old_here new_here numbered false is =
        one_found old new found u here numbered before o.first o.rest old false is (ap (λ b. if b then new else old) is) old_here
        (old_at ∙ sym (ap (λ b. if b then found.ends.range_lists.size else found.ends.ranges.size) is)) (whole_text u old.is_big at_zero false is o.first o.first_is)
