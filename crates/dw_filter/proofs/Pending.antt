-- Expressions that are read side by side: one within an operation is read to its end before what follows the operation.
use Rattle.std.proofs.Common.{◌≡◌, ◌∙◌, sym, ap, subst, ℕ, zero, suc, ◌+◌, ◌<◌, ◌≤◌, List, [], ◌∷◌, ◌++◌, length, Bool, true, false, Option, Some, None, Result, Ok, Err, OnOk, ◌⊎◌, inl, inr, ⊎_elim, refl, append_assoc, append-nil, arith}
use Rattle.std.specs.List.{sum_by}
use Rattle.std.proofs.lemmas.List.Sums.{sum_by-append}
use Rattle.dw_base.specs.declared.common.Encoding.{Encoding}
use Rattle.dw_base.specs.declared.offsets.UnitSectionOffset.{UnitSectionOffset}
use Rattle.dw_read.specs.Reading.{Reading, IsReading, left}
use Rattle.dw_read.specs.declared.value.Expression.{Expression}
use Rattle.dw_read.proofs.Lefts.{same_order}
use Rattle.dw_read_units.specs.declared.unit_ref.UnitRef.{UnitRef}
use Rattle.dw_sources.specs.OperationIters.{PassesOperation, ReadsOperation, begins}
use Rattle.dw_sources.specs.OperationTable.{operation_at}
use Rattle.dw_sources.specs.OperationViews.{operation_of, HoldsParts, IsWithin}
use Rattle.dw_sources.specs.Operations.{Operation, EntryValue}
use Rattle.dw_sources.specs.RawListIters.{encoding_in}
use Rattle.dw_sources.specs.declared.convert_error.ConvertError.{ConvertError}
use Rattle.dw_sources.specs.declared.operation.Operation.{Operation as HeldOperation}
use Rattle.dw_sources.specs.declared.operation.Operation.TheVariants as held
use Rattle.dw_sources.specs.declared.operation_iter.OperationIter.{OperationIter}
use Rattle.dw_sources.proofs.Progress.{fewer_left}
use Rattle.dw_filter.specs.NextNames.{Names, IsStuck, ReadsNext, begun_in}
use Rattle.dw_filter.specs.PlaceViews.{bounds_of, held_within}
use Rattle.dw_filter.specs.Places.{UnitBounds, place_named, expression_within, if_any, places_of, places_from, places_up_to, expression_places}
use Rattle.dw_filter.specs.declared.expression_places.Named.{Named}
use Rattle.dw_filter.proofs.Within.{operation_leaves, no_operation}

nothing_left : (bytes : List ℕ) → length bytes ≡ 0 → bytes ≡ []
nothing_left [] h = refl
nothing_left (b ∷ bytes) h = absurd (omega (arith, h))

module _ (u : UnitBounds) (big : Bool) (e : Encoding) where
  -- one operation more, and none
  named_more : (n : ℕ) (bytes rest : List ℕ) (o : Operation) → operation_at big e bytes ≡ Some (o, rest)
      → places_up_to u big e (suc n) bytes ≡ if_any (place_named u o) ++ (places_of (places_up_to u big e n) (expression_within o) ++ places_up_to u big e n rest)
  unfolding places_up_to
  named_more n bytes rest o h = ap (places_from u big e (places_up_to u big e n)) h

  named_none : (n : ℕ) (bytes : List ℕ) → operation_at big e bytes ≡ None → places_up_to u big e n bytes ≡ []
  unfolding places_up_to
  named_none zero bytes h = refl
  named_none (suc n) bytes h = ap (places_from u big e (places_up_to u big e n)) h

module _ (R E : Type 0) (reading : R → Reading) (e : Encoding) where
  -- an operation has an expression within it, or none
  pub record HasWithin (old : Reading) (o : HeldOperation R E) : Type 0 where
    pub inner : Expression R E
    pub begun : begun_in e (held_within o) ≡ begins inner e ∷ []
    pub is : operation_of reading o ≡ EntryValue (left (reading inner.0))
    pub part : IsWithin old (reading inner.0)

  pub record HasNone (o : HeldOperation R E) : Type 0 where
    pub begun : begun_in e (held_within o) ≡ []
    pub is : expression_within (operation_of reading o) ≡ None

  within_of : (old : Reading) (o : HeldOperation R E) → HoldsParts reading old o → HasWithin old o ⊎ HasNone o
  within_of old (held.EntryValue x) h = inl (record { inner = x; begun = refl; is = refl; part = h })
  within_of old o h = inr (record { begun = refl; is = refl })

  -- how much is left to be read: each pending expression, and each byte of it
  abbrev pub weight : List (OperationIter R E) → ℕ
  weight pending = sum_by (λ i. length (left (reading i.input)) + 1) pending

  module _ (big : Bool) (u : UnitBounds) where
    -- an expression that was read so far has no more bytes left than a number
    pub record Stands (i : OperationIter R E) (n : ℕ) : Type 0 where
      pub working : i.has_failed ≡ false
      pub order : (reading i.input).is_big ≡ big
      pub encoding : i.encoding ≡ e
      pub enough : length (left (reading i.input)) ≤ n

    -- what it still names
    abbrev pub named : ℕ → OperationIter R E → List UnitSectionOffset
    named n i = places_up_to u big e n (left (reading i.input))

    -- what pending expressions still name, those of the last one first
    abbrev pub Owes : List (OperationIter R E) → List UnitSectionOffset → Type 0
    Owes [] owed = owed ≡ []
    Owes (i ∷ is) owed = (n : ℕ) × (later : List UnitSectionOffset) × Stands i n × Owes is later × (owed ≡ later ++ named n i)

    owes_one_more : (is : List (OperationIter R E)) (owed : List UnitSectionOffset) (i : OperationIter R E) (n : ℕ) → Stands i n → Owes is owed → Owes (is ++ i ∷ []) (named n i ++ owed)
    owes_one_more [] owed i n s h = (n, [], s, refl, ap (λ (xs : List UnitSectionOffset). named n i ++ xs) h ∙ append-nil (named n i))
    owes_one_more (j ∷ js) owed i n s h =
        (h.0, named n i ++ h.1, h.2, owes_one_more js h.1 i n s h.3, ap (λ (xs : List UnitSectionOffset). named n i ++ xs) h.4 ∙ sym (append_assoc (named n i) h.1 (named h.0 j)))

    -- the last of them, and the others
    record Last (is : List (OperationIter R E)) (i : OperationIter R E) (owed : List UnitSectionOffset) : Type 0 where
      n : ℕ
      stands : Stands i n
      others : List UnitSectionOffset
      owe : Owes is others
      are : owed ≡ named n i ++ others

    last_of : (is : List (OperationIter R E)) (i : OperationIter R E) (owed : List UnitSectionOffset) → Owes (is ++ i ∷ []) owed → Last is i owed
    last_of [] i owed h = record { n = h.0; stands = h.2; others = []; owe = refl; are = h.4 ∙ ap (λ (xs : List UnitSectionOffset). xs ++ named h.0 i) h.3 ∙ sym (append-nil (named h.0 i)) }
    last_of (j ∷ js) i owed h =
        let l = last_of js i h.1 h.3 in
        record {
          n = l.n;
          stands = l.stands;
          others = l.others ++ named h.0 j;
          owe = (h.0, l.others, h.2, l.owe, refl);
          are = h.4 ∙ ap (λ (xs : List UnitSectionOffset). xs ++ named h.0 j) l.are ∙ append_assoc (named l.n i) l.others (named h.0 j);
        }

    -- what is known while an expression is read, with all that it names
    pub record Progress (pending : List (OperationIter R E)) (before found whole : List UnitSectionOffset) : Type 0 where
      pub owed : List UnitSectionOffset
      pub owe : Owes pending owed
      pub together : found ++ owed ≡ before ++ whole

    -- before the first operation
    pub begun : (x : Expression R E) (c : Encoding) (i : OperationIter R E) (none pending : List (OperationIter R E)) (before : List UnitSectionOffset)
        → (reading x.0).is_big ≡ big → c ≡ e → i ≡ begins x c → none ≡ [] → pending ≡ none ++ i ∷ [] → Progress pending before before (expression_places u big e (left (reading x.0)))
    begun x c i none pending before o h b z k =
        let first : i ≡ begins x e = b ∙ ap (begins x) h in
        let one : pending ≡ begins x e ∷ [] = k ∙ ap (λ (xs : List (OperationIter R E)). xs ++ i ∷ []) z ∙ ap (λ (j : OperationIter R E). j ∷ []) first in
        record {
          owed = named (length (left (reading x.0))) (begins x e);
          owe = subst (λ (xs : List (OperationIter R E)). Owes xs (named (length (left (reading x.0))) (begins x e))) (sym one)
              (length (left (reading x.0)), [], record { working = refl; order = o; encoding = refl; enough = omega arith }, refl, refl);
          together = refl;
        }

    module _ (pending rest : List (OperationIter R E)) (old new : OperationIter R E) (last : pending ≡ rest ++ old ∷ []) (before found whole : List UnitSectionOffset) (p : Progress pending before found whole) where
      taken : Last rest old p.owed
      taken = last_of rest old p.owed (subst (λ (xs : List (OperationIter R E)). Owes xs p.owed) last p.owe)

      -- the last expression names nothing more
      dropped : operation_at big e (left (reading old.input)) ≡ None → Progress rest before found whole
      dropped h =
          let l = taken in
          let none : named l.n old ≡ [] = named_none u big e l.n (left (reading old.input)) h in
          record {
            owed = l.others;
            owe = l.owe;
            together = ap (λ (xs : List UnitSectionOffset). found ++ xs) (sym (l.are ∙ ap (λ (xs : List UnitSectionOffset). xs ++ l.others) none)) ∙ p.together;
          }

      -- no operation can be read
      stopped : (old.has_failed ≡ false → operation_at (reading old.input).is_big old.encoding (left (reading old.input)) ≡ None) → Progress rest before found whole
      stopped h = dropped
          (subst (λ (c : Encoding). operation_at big c (left (reading old.input)) ≡ None) taken.stands.encoding
          (subst (λ (b : Bool). operation_at b old.encoding (left (reading old.input)) ≡ None) taken.stands.order (h taken.stands.working)))

      -- an operation is read
      module _ (o : HeldOperation R E) (pass : PassesOperation reading old new o) (is : IsReading (reading old.input)) (js : IsReading (reading new.input)) where
        fewer : length (left (reading new.input)) < length (left (reading old.input))
        fewer = fewer_left Operation (operation_at (reading old.input).is_big old.encoding) (reading old.input) (reading new.input) (operation_of reading o) is js pass.operation pass.progress

        value : operation_at big e (left (reading old.input)) ≡ Some (operation_of reading o, left (reading new.input))
        value =
            subst (λ (c : Encoding). operation_at big c (left (reading old.input)) ≡ Some (operation_of reading o, left (reading new.input))) taken.stands.encoding
            (subst (λ (b : Bool). operation_at b old.encoding (left (reading old.input)) ≡ Some (operation_of reading o, left (reading new.input))) taken.stands.order pass.operation.value)

        -- an expression within it
        inner_leaves : (w : HasWithin (reading old.input) o) → length (left (reading w.inner.0)) + length (left (reading new.input)) + 1 < length (left (reading old.input))
        inner_leaves w = operation_leaves big e (left (reading old.input)) (left (reading w.inner.0)) (left (reading new.input)) (value ∙ ap (λ (x : Operation). Some (x, left (reading new.input))) w.is)

        -- less is left to be read
        lighter : (pushed pending' : List (OperationIter R E)) → pushed ≡ rest ++ new ∷ [] → pending' ≡ pushed ++ begun_in e (held_within o) → weight pending' < weight pending
        lighter pushed pending' k h =
            let f : OperationIter R E → ℕ = λ i. length (left (reading i.input)) + 1 in
            let a : weight pending ≡ weight rest + weight (old ∷ []) = ap weight last ∙ sum_by-append f rest (old ∷ []) in
            let b : weight ((rest ++ new ∷ []) ++ begun_in e (held_within o)) ≡ weight (rest ++ new ∷ []) + weight (begun_in e (held_within o)) = sum_by-append f (rest ++ new ∷ []) (begun_in e (held_within o)) in
            let c : weight (rest ++ new ∷ []) ≡ weight rest + weight (new ∷ []) = sum_by-append f rest (new ∷ []) in
            let d : weight pending' ≡ weight ((rest ++ new ∷ []) ++ begun_in e (held_within o)) = ap weight (h ∙ ap (λ (xs : List (OperationIter R E)). xs ++ begun_in e (held_within o)) k) in
            ⊎_elim
            (λ (w : HasWithin (reading old.input) o). let g : weight (begun_in e (held_within o)) ≡ weight (begins w.inner e ∷ []) = ap weight w.begun in let l = inner_leaves w in omega arith)
            (λ (w : HasNone o). let g : weight (begun_in e (held_within o)) ≡ 0 = ap weight w.begun in let l = fewer in omega arith)
            (within_of (reading old.input) o pass.parts)

        still : (m : ℕ) → length (left (reading new.input)) ≤ m → Stands new m
        still m h = record {
          working = pass.went_on.1;
          order = same_order pass.operation.count (reading old.input) (reading new.input) pass.operation.passes ∙ taken.stands.order;
          encoding = pass.encoding ∙ taken.stands.encoding;
          enough = h;
        }

        -- what is pending afterwards names the rest
        owes_after : (m : ℕ) → length (left (reading old.input)) ≤ suc m → Owes ((rest ++ new ∷ []) ++ begun_in e (held_within o)) (places_of (places_up_to u big e m) (expression_within (operation_of reading o)) ++ (named m new ++ taken.others))
        owes_after m h =
            let l = fewer in
            let outer : Owes (rest ++ new ∷ []) (named m new ++ taken.others) = owes_one_more rest taken.others new m (still m (omega arith)) taken.owe in
            ⊎_elim
            (λ (w : HasWithin (reading old.input) o).
            let k = inner_leaves w in
            let stands : Stands (begins w.inner e) m = record { working = refl; order = w.part.order ∙ taken.stands.order; encoding = refl; enough = omega arith } in
            subst (λ (xs : List (OperationIter R E)). Owes ((rest ++ new ∷ []) ++ xs) (places_of (places_up_to u big e m) (expression_within (operation_of reading o)) ++ (named m new ++ taken.others))) (sym w.begun)
            (subst (λ (x : Operation). Owes ((rest ++ new ∷ []) ++ begins w.inner e ∷ []) (places_of (places_up_to u big e m) (expression_within x) ++ (named m new ++ taken.others))) (sym w.is)
            (owes_one_more (rest ++ new ∷ []) (named m new ++ taken.others) (begins w.inner e) m stands outer)))
            (λ (w : HasNone o).
            subst (λ (xs : List (OperationIter R E)). Owes ((rest ++ new ∷ []) ++ xs) (places_of (places_up_to u big e m) (expression_within (operation_of reading o)) ++ (named m new ++ taken.others))) (sym w.begun)
            (subst (λ (x : Option (List ℕ)). Owes ((rest ++ new ∷ []) ++ []) (places_of (places_up_to u big e m) x ++ (named m new ++ taken.others))) (sym w.is)
            (subst (λ (xs : List (OperationIter R E)). Owes xs (named m new ++ taken.others)) (sym (append-nil (rest ++ new ∷ []))) outer)))
            (within_of (reading old.input) o pass.parts)

        passed : (n : ℕ) → taken.n ≡ n → (pending' : List (OperationIter R E)) (found' : List UnitSectionOffset) → pending' ≡ (rest ++ new ∷ []) ++ begun_in e (held_within o) → found' ≡ found ++ if_any (place_named u (operation_of reading o)) → Progress pending' before found' whole
        passed zero s pending' found' h k = absurd (let l = fewer in let b : length (left (reading old.input)) ≤ taken.n = taken.stands.enough in omega arith)
        passed (suc m) s pending' found' h k =
            let enough : length (left (reading old.input)) ≤ taken.n = taken.stands.enough in
            let here : List UnitSectionOffset = if_any (place_named u (operation_of reading o)) in
            let inner : List UnitSectionOffset = places_of (places_up_to u big e m) (expression_within (operation_of reading o)) in
            let all : p.owed ≡ here ++ (inner ++ (named m new ++ taken.others)) =
            taken.are
            ∙ ap (λ (n : ℕ). named n old ++ taken.others) s
            ∙ ap (λ (xs : List UnitSectionOffset). xs ++ taken.others) (named_more u big e m (left (reading old.input)) (left (reading new.input)) (operation_of reading o) value)
            ∙ append_assoc here (inner ++ named m new) taken.others
            ∙ ap (λ (xs : List UnitSectionOffset). here ++ xs) (append_assoc inner (named m new) taken.others) in
            record {
              owed = inner ++ (named m new ++ taken.others);
              owe = subst (λ (xs : List (OperationIter R E)). Owes xs (inner ++ (named m new ++ taken.others))) (sym h) (owes_after m (omega arith));
              together = ap (λ (xs : List UnitSectionOffset). xs ++ (inner ++ (named m new ++ taken.others))) k
                  ∙ append_assoc found here (inner ++ (named m new ++ taken.others))
                  ∙ ap (λ (xs : List UnitSectionOffset). found ++ xs) (sym all)
                  ∙ p.together;
            }

        went_on : (pushed pending' : List (OperationIter R E)) (found' : List UnitSectionOffset) → pushed ≡ rest ++ new ∷ [] → pending' ≡ pushed ++ begun_in e (held_within o) → found' ≡ found ++ if_any (place_named u (operation_of reading o)) → Progress pending' before found' whole
        went_on pushed pending' found' k h f = passed taken.n refl pending' found' (h ∙ ap (λ (xs : List (OperationIter R E)). xs ++ begun_in e (held_within o)) k) f

module _ (R E : Type 0) (reading : R → Reading) (unit : UnitRef R E) (big : Bool) (pending rest pending' : List (OperationIter R E)) (old : OperationIter R E) (before found found' whole : List UnitSectionOffset) where
  abbrev Known : List (OperationIter R E) → List UnitSectionOffset → Type 0
  Known xs ys = Progress R E reading (encoding_in unit) big (bounds_of reading unit) xs before ys whole

  -- what is known once the next operation was read
  pub known_next : ((r : R) → IsReading (reading r)) → pending ≡ rest ++ old ∷ [] → Known pending found → ReadsNext reading unit old rest pending' found found' → Known pending' found'
  known_next is last p (inl n) =
      went_on R E reading (encoding_in unit) big (bounds_of reading unit) pending rest old n.new last before found whole p n.o n.passes (is old.input) (is n.new.input) n.again pending' found' n.behind n.pends n.adds
  known_next is last p (inr n) =
      subst (λ (xs : List (OperationIter R E)). Known xs found') (sym n.pends)
      (subst (λ (ys : List UnitSectionOffset). Known rest ys) (sym n.adds)
      (stopped R E reading (encoding_in unit) big (bounds_of reading unit) pending rest old old last before found whole p n.none))

  -- and that less is left to be read
  pub less_next : ((r : R) → IsReading (reading r)) → pending ≡ rest ++ old ∷ [] → Known pending found → ReadsNext reading unit old rest pending' found found' → weight R E reading (encoding_in unit) pending' < weight R E reading (encoding_in unit) pending
  less_next is last p (inl n) =
      lighter R E reading (encoding_in unit) big (bounds_of reading unit) pending rest old n.new last before found whole p n.o n.passes (is old.input) (is n.new.input) n.again pending' n.behind n.pends
  less_next is last p (inr n) =
      let f : OperationIter R E → ℕ = λ i. length (left (reading i.input)) + 1 in
      omega (arith, sum_by-append f rest (old ∷ []), ap (weight R E reading (encoding_in unit)) last, ap (weight R E reading (encoding_in unit)) n.pends)

module _ (R E : Type 0) (reading : R → Reading) (unit : UnitRef R E) (old new : OperationIter R E) where
  -- what an operation names that was read
  pub names_some : (x : Option (HeldOperation R E)) (o : HeldOperation R E) (n : Named R E) → ReadsOperation reading old new (Ok x) → x ≡ Some o
      → n.place ≡ place_named (bounds_of reading unit) (operation_of reading o) → n.within ≡ held_within o → Names reading unit old new n
  names_some x o n read is place within = record { o = o; passes = subst (λ (y : Option (HeldOperation R E)). ReadsOperation reading old new (Ok y)) is read; place = place; within = within }

  -- no byte was left
  pub names_none : (x : Option (HeldOperation R E)) → ReadsOperation reading old new (Ok x) → x ≡ None → IsStuck reading unit old
  names_none x read is working =
      let over : ReadsOperation reading old new (Ok None) = subst (λ (y : Option (HeldOperation R E)). ReadsOperation reading old new (Ok y)) is read in
      ⊎_elim
      (λ (f : old.has_failed ≡ true). absurd (cc))
      (λ (z : length (left (reading old.input)) ≡ 0). ap (operation_at (reading old.input).is_big old.encoding) (nothing_left (left (reading old.input)) z) ∙ no_operation (reading old.input).is_big old.encoding)
      over.1

  -- what was read is pending and added
  pub reads_on : (r : Result (Unit {0}) ConvertError) (n : Named R E) (c : Encoding) (pending again pending' : List (OperationIter R E)) (places places' : List UnitSectionOffset)
      → Names reading unit old new n → c ≡ encoding_in unit → again ≡ pending ++ new ∷ [] → pending' ≡ again ++ begun_in c n.within
      → OnOk r (places' ≡ places ++ if_any n.place) → OnOk r (ReadsNext reading unit old pending pending' places places')
  reads_on (Ok x) n c pending again pending' places places' names k behind pends adds =
      inl (record {
        new = new;
        o = names.o;
        passes = names.passes;
        again = again;
        behind = behind;
        pends = pends ∙ ap (λ (d : Encoding). again ++ begun_in d n.within) k ∙ ap (λ (w : Option (Expression R E)). again ++ begun_in (encoding_in unit) w) names.within;
        adds = adds ∙ ap (λ (w : Option UnitSectionOffset). places ++ if_any w) names.place;
      })
  reads_on (Err x) n c pending again pending' places places' names k behind pends adds = tt
