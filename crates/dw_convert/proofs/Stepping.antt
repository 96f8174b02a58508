-- Expressions that are read, one operation after the other.
use Rattle.std.proofs.Common.{◌≡◌, ◌∙◌, sym, ap, subst, ℕ, ◌+◌, ◌-◌, List, [], ◌∷◌, ◌++◌, length, map, get_or, All, Option, Some, None, Ok, Err, Bool, true, false, refl, inr, ⊎_elim, arith}
use Rattle.std.specs.List.Sorted.{IsNonDecreasing}
use Rattle.std.proofs.lemmas.List.{map-append, get_or_push, length_push}
use Rattle.std.proofs.lemmas.List.Elements.{All-nil, All-push}
use Rattle.std.proofs.lemmas.List.Sorted.{IsNonDecreasingBy-push, IsNonDecreasingBy-short}
use Rattle.dw_base.specs.Numbers.{Parser}
use Rattle.dw_base.specs.declared.common.Encoding.{Encoding}
use Rattle.dw_read.specs.Reading.{Reading, IsReading, Passes, left}
use Rattle.dw_read.specs.declared.error.ReadError.{ReadError}
use Rattle.dw_read.specs.declared.value.Expression.{Expression}
use Rattle.dw_read.proofs.Lefts.{passes_none, passes_then, same_order, shorter}
use Rattle.dw_sources.specs.ConvertErrors.{from_read}
use Rattle.dw_sources.specs.OperationIters.{PassesOperation, RefusesOperation, ReadsOperation, IsOver}
use Rattle.dw_sources.specs.OperationIters as iter
use Rattle.dw_sources.specs.OperationTable.{operation_at, operation_read}
use Rattle.dw_sources.specs.OperationViews.{operation_of, HoldsParts}
use Rattle.dw_sources.specs.Operations.{Operation}
use Rattle.dw_sources.specs.declared.operation.Operation.{Operation as HeldOperation}
use Rattle.dw_sources.specs.declared.operation.Operation.TheVariants as held
use Rattle.dw_sources.specs.declared.operation_iter.OperationIter.{OperationIter}
use Rattle.dw_convert.specs.Expressions.{MissesOperation}
use Rattle.dw_convert.specs.Listings.{step_in, HasOrder}
use Rattle.dw_convert.specs.Lists.{First}
use Rattle.dw_convert.specs.Steps.{Step, step_of, step_at, AreSteps, begins}
use Rattle.dw_convert.specs.declared.listing.Step.{Step as HeldStep}
use Rattle.dw_convert.proofs.Growing.{first_more}

-- what the grammar reads is a step of the expression
step_passed : (grammar : Parser Operation) (size : ℕ) (bytes next : List ℕ) (o : Operation) → grammar bytes ≡ Some (o, next) → step_at grammar size bytes ≡ Some (record { operation = o; behind = size - length next }, next)
step_passed grammar size bytes next o h = ap (step_of size) h

begins_more : (steps : List Step) (s : Step) → begins (steps ++ s ∷ []) ≡ begins steps ++ s.behind ∷ []
begins_more steps s = ap (λ (xs : List ℕ). 0 ∷ xs) (map-append (λ (x : Step). x.behind) steps (s ∷ []))

nothing_left : (bytes : List ℕ) → length bytes ≡ 0 → bytes ≡ []
nothing_left [] h = refl
nothing_left (b ∷ bytes) h = absurd (let e : length (b ∷ bytes) ≡ 0 = h in cc)

-- what was pushed is the last
last_pushed : (xs : List ℕ) (x d : ℕ) → get_or (xs ++ x ∷ []) (length (xs ++ x ∷ []) - 1) d ≡ x
last_pushed xs x d = get_or_push xs x d (length (xs ++ x ∷ []) - 1) (let e : length (xs ++ x ∷ []) ≡ length xs + 1 = length_push xs x in omega arith)

module _ (R E : Type 0) (reading : R → Reading) where
  -- a part of an operation has the order of what the operation is read from
  order_held : (old : Reading) (o : HeldOperation R E) → HoldsParts reading old o → HasOrder reading old.is_big o
  order_held old (held.EntryValue x) h = h.order
  order_held old o h = tt

  module _ (old new : OperationIter R E) where
    pub passes_one : (o : Option (HeldOperation R E)) (x : HeldOperation R E) → ReadsOperation reading old new (Ok o) → o ≡ Some x → PassesOperation reading old new x
    passes_one o x h e = subst (λ p. ReadsOperation reading old new (Ok p)) e h

    pub is_over : (o : Option (HeldOperation R E)) → ReadsOperation reading old new (Ok o) → o ≡ None → IsOver reading old new
    is_over o h e = let k : ReadsOperation reading old new (Ok None) = subst (λ p. ReadsOperation reading old new (Ok p)) e h in k.1

  module _ (r : Reading) (e : Encoding) where
    -- what is known where the first operations of an expression were read
    pub record Stands (start : ℕ) (operations : OperationIter R E) (steps : List (HeldStep R E)) (places : List ℕ) : Type 0 where
      pub count : ℕ
      pub passes : Passes count r (reading operations.input)
      pub read : First (step_at (operation_at r.is_big e) (length (left r))) (left r) (map (step_in reading) steps) (left (reading operations.input))
      pub begins : places ≡ begins (map (step_in reading) steps)
      pub rising : IsNonDecreasing places
      pub last : (d : ℕ) → get_or places (length places - 1) d ≡ count
      pub order : All (λ s. HasOrder reading r.is_big s.operation) steps
      pub encoding : operations.encoding ≡ e
      pub working : operations.has_failed ≡ false
      pub begin : start ≡ r.place

    module _ (is : IsReading r) where
      -- before the first operation
      pub stands_first : (x : Expression R E) (operations : OperationIter R E) (begin : ℕ) (places : List ℕ) → reading x.0 ≡ r → operations ≡ iter.begins x e → begin ≡ (reading operations.input).place → places ≡ 0 ∷ [] → Stands begin operations [] places
      stands_first x operations begin places h i b p =
          let here : reading operations.input ≡ r = ap (λ (o : OperationIter R E). reading o.input) i ∙ h in
          record {
            count = 0;
            passes = subst (λ (q : Reading). Passes 0 r q) (sym here) (passes_none r is);
            read = ap left here;
            begins = p;
            rising = subst IsNonDecreasing (sym p) (IsNonDecreasingBy-short (λ n. n) (0 ∷ []) (omega arith));
            last = λ d. subst (λ (xs : List ℕ). get_or xs (length xs - 1) d ≡ 0) (sym p) refl;
            order = All-nil (λ s. HasOrder reading r.is_big s.operation);
            encoding = ap (λ (o : OperationIter R E). o.encoding) i;
            working = ap (λ (o : OperationIter R E). o.has_failed) i;
            begin = b ∙ ap (λ (q : Reading). q.place) here;
          }

      -- what the grammar reads at the place, by the order and the encoding of the expression
      read_here : (old : OperationIter R E) (x : Operation) (next : List ℕ) → (reading old.input).is_big ≡ r.is_big → old.encoding ≡ e → operation_at (reading old.input).is_big old.encoding (left (reading old.input)) ≡ Some (x, next) → operation_at r.is_big e (left (reading old.input)) ≡ Some (x, next)
      read_here old x next b n h = subst (λ (y : Encoding). operation_at r.is_big y (left (reading old.input)) ≡ Some (x, next)) n (subst (λ (y : Bool). operation_at y old.encoding (left (reading old.input)) ≡ Some (x, next)) b h)

      -- how many bytes stand before the next operation
      pub place_behind : (begin : ℕ) (old new : OperationIter R E) (steps : List (HeldStep R E)) (places : List ℕ) (x : HeldOperation R E) → (s : Stands begin old steps places) → (p : PassesOperation reading old new x) → (reading new.input).place ≡ begin + (s.count + p.operation.count)
      place_behind begin old new steps places x s p =
          let t : Passes (s.count + p.operation.count) r (reading new.input) = passes_then s.count p.operation.count r (reading old.input) (reading new.input) s.passes p.operation.passes in
          let a : (reading new.input).place ≡ r.place + (s.count + p.operation.count) = ap (λ (q : Reading). q.place) t.is in
          let b : begin ≡ r.place = s.begin in
          omega arith

      -- one more operation was read
      pub stands_more : (begin : ℕ) (old new : OperationIter R E) (steps : List (HeldStep R E)) (places : List ℕ) (x : HeldOperation R E) (k : ℕ) → IsReading (reading new.input) → Stands begin old steps places → PassesOperation reading old new x → k ≡ (reading new.input).place - begin → Stands begin new (steps ++ record { operation = x; behind = k } ∷ []) (places ++ k ∷ [])
      stands_more begin old new steps places x k now s p h =
          let count : ℕ = s.count + p.operation.count in
          let t : Passes count r (reading new.input) = passes_then s.count p.operation.count r (reading old.input) (reading new.input) s.passes p.operation.passes in
          let big : (reading old.input).is_big ≡ r.is_big = same_order s.count r (reading old.input) s.passes in
          let there : (reading new.input).place ≡ begin + count = place_behind begin old new steps places x s p in
          let here : k ≡ count = omega arith in
          let less : length (left (reading new.input)) + count ≡ length (left r) = shorter count r (reading new.input) is now t in
          let size : length (left r) - length (left (reading new.input)) ≡ k = omega arith in
          let one : HeldStep R E = record { operation = x; behind = k } in
          let value : step_at (operation_at r.is_big e) (length (left r)) (left (reading old.input)) ≡ Some (step_in reading one, left (reading new.input)) =
          step_passed (operation_at r.is_big e) (length (left r)) (left (reading old.input)) (left (reading new.input)) (operation_of reading x) (read_here old (operation_of reading x) (left (reading new.input)) big s.encoding p.operation.value)
          ∙ ap (λ (n : ℕ). Some (record { operation = operation_of reading x; behind = n }, left (reading new.input))) size in
          let all : map (step_in reading) (steps ++ one ∷ []) ≡ map (step_in reading) steps ++ step_in reading one ∷ [] = map-append (step_in reading) steps (one ∷ []) in
          record {
            count = count;
            passes = t;
            read = subst (λ (ss : List Step). First (step_at (operation_at r.is_big e) (length (left r))) (left r) ss (left (reading new.input))) (sym all) (first_more (step_at (operation_at r.is_big e) (length (left r))) (left r) (map (step_in reading) steps) (left (reading old.input)) (step_in reading one) (left (reading new.input)) s.read value);
            begins = ap (λ (ps : List ℕ). ps ++ k ∷ []) s.begins ∙ sym (ap begins all ∙ begins_more (map (step_in reading) steps) (step_in reading one));
            rising = IsNonDecreasingBy-push (λ n. n) places k s.rising (λ d q. let l : get_or places (length places - 1) d ≡ s.count = s.last d in omega arith);
            last = λ d. last_pushed places k d ∙ here;
            order = All-push (λ s. HasOrder reading r.is_big s.operation) steps one s.order (subst (λ (b : Bool). HasOrder reading b x) big (order_held (reading old.input) x p.parts));
            encoding = p.encoding ∙ s.encoding;
            working = p.went_on.1;
            begin = s.begin;
          }

      -- all operations were read
      pub stands_last : (begin : ℕ) (old new : OperationIter R E) (steps : List (HeldStep R E)) (places : List ℕ) → Stands begin old steps places → IsOver reading old new → AreSteps (operation_at r.is_big e) (left r) (map (step_in reading) steps)
      stands_last begin old new steps places s over =
          let none : left (reading old.input) ≡ [] = ⊎_elim (λ (f : old.has_failed ≡ true). let w : old.has_failed ≡ false = s.working in absurd (cc)) (λ (z : length (left (reading old.input)) ≡ 0). nothing_left (left (reading old.input)) z) over in
          subst (λ (bytes : List ℕ). First (step_at (operation_at r.is_big e) (length (left r))) (left r) (map (step_in reading) steps) bytes) none s.read

      -- the next operation can't be read
      pub stands_missing : (begin : ℕ) (old new : OperationIter R E) (steps : List (HeldStep R E)) (places : List ℕ) (why : ReadError) → Stands begin old steps places → RefusesOperation reading old new why → MissesOperation r.is_big e (left r) (from_read why)
      stands_missing begin old new steps places why s h =
          let big : (reading old.input).is_big ≡ r.is_big = same_order s.count r (reading old.input) s.passes in
          record {
            steps = map (step_in reading) steps;
            rest = left (reading old.input);
            read = s.read;
            more = λ z. h.not_over (inr z);
            error = why;
            refused = subst (λ (y : Encoding). operation_read r.is_big y (left (reading old.input)) ≡ Err why) s.encoding (subst (λ (y : Bool). operation_read y old.encoding (left (reading old.input)) ≡ Err why) big h.refused.reason);
            is = refl;
          }
