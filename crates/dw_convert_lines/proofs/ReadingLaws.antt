-- Sequences that were read, one instruction after another.
use Rattle.std.proofs.Common.{◌≡◌, ◌∙◌, sym, ap, subst, ℕ, zero, suc, ◌<◌, ◌≤◌, Bool, true, false, List, [], ◌∷◌, ◌++◌, map, length, Option, Some, None, refl, arith, append_assoc, append-nil}
use Rattle.std.specs.Prelude.{◌||◌, if◌then◌else◌}
use Rattle.std.specs.List.{flat_map}
use Rattle.dw_base.specs.Numbers.{◌>>=◌, when}
use Rattle.dw_base.proofs.NumberLaws.{bind_is, bind_parts, when_same}
use Rattle.dw_base.specs.Instructions.{instruction_at, instructions_at, rows_of}
use Rattle.dw_base.specs.LineMachine.{LineHeader, Registers, Instruction, EndSequence, SetAddress, Shown, Row, End, begin, changed, shows, leaves, run}
use Rattle.dw_convert_lines.specs.ReadRows.{is_narrow, stepped, walk, shows_row, any_row, set_by, set_before_rows, ReadSequence, IsSequence, AreSequences, IsNext, AreRead, shown_of}

pub read_more : (h : LineHeader) (bytes : List ℕ) (is : List Instruction) (rest : List ℕ) (i : Instruction) (next : List ℕ) → AreRead h bytes is rest → IsNext h rest i next → AreRead h bytes (is ++ i ∷ []) next
read_more h bytes [] rest i next r n = (next, subst (λ (b : List ℕ). IsNext h b i next) r n, refl)
read_more h bytes (j ∷ js) rest i next r n = (r.0, r.1, read_more h r.0 js rest i next r.2 n)

-- one more instruction of a sequence that isn't ended
pub open_more : (h : LineHeader) (is : List Instruction) (ss : List ReadSequence) (opened : List Instruction) (i : Instruction) → AreSequences h is ss opened → AreSequences h (is ++ i ∷ []) ss (opened ++ i ∷ [])
open_more h is [] opened i a = ap (λ (xs : List Instruction). xs ++ i ∷ []) a
open_more h is (s ∷ ss) opened i a =
    (a.0, a.1 ++ i ∷ [], ap (λ (xs : List Instruction). xs ++ i ∷ []) a.2 ∙ append_assoc a.0 (EndSequence ∷ a.1) (i ∷ []), a.3, open_more h a.1 ss opened i a.4)

-- its end
pub ended_more : (h : LineHeader) (is : List Instruction) (ss : List ReadSequence) (opened : List Instruction) (s : ReadSequence) → AreSequences h is ss opened → IsSequence h opened s → AreSequences h (is ++ EndSequence ∷ []) (ss ++ s ∷ []) []
ended_more h is [] opened s a q = (opened, [], ap (λ (xs : List Instruction). xs ++ EndSequence ∷ []) a, q, refl)
ended_more h is (t ∷ ss) opened s a q =
    (a.0, a.1 ++ EndSequence ∷ [], ap (λ (xs : List Instruction). xs ++ EndSequence ∷ []) a.2 ∙ append_assoc a.0 (EndSequence ∷ a.1) (EndSequence ∷ []), a.3, ended_more h a.1 ss opened s a.4 q)

-- what a step shows before what follows it
abbrev shown_then : List Shown → Option (List Shown × Registers) → Option (List Shown × Registers)
shown_then first r = r >>= λ more. Some (first ++ more.0, more.1)

abbrev shown_at : List Shown → Registers → Option (List Shown × Registers)
shown_at shown r = Some (shown, r)

same_parts : (a b : List Shown) (r s : Registers) → shown_at a r ≡ shown_at b s → (a ≡ b) × (r ≡ s)
same_parts a b r s e =
    let p : ◌≡◌ {A = List Shown × Registers} (a, r) (b, s) = cc in
    (ap (λ (x : List Shown × Registers). x.0) p, ap (λ (x : List Shown × Registers). x.1) p)

pub walk_more : (h : LineHeader) (is : List Instruction) (r : Registers) (shown : List Shown) (s : Registers) (i : Instruction) (t : Registers) → walk h is r ≡ Some (shown, s) → stepped h i s ≡ Some t → walk h (is ++ i ∷ []) r ≡ Some (shown ++ shows i t, leaves h i t)
walk_more h [] r shown s i t w e =
    let p = same_parts [] shown r s w in
    let here : stepped h i r ≡ Some t = subst (λ (x : Registers). stepped h i x ≡ Some t) (sym p.1) e in
    bind_is (stepped h i r) t (λ (x : Registers). shown_then (shows i x) (shown_at [] (leaves h i x))) here
    ∙ ap (λ (xs : List Shown). shown_at xs (leaves h i t)) (append-nil (shows i t) ∙ ap (λ (xs : List Shown). xs ++ shows i t) p.0)
walk_more h (j ∷ js) r shown s i t w e =
    let a = bind_parts (stepped h j r) (λ (x : Registers). shown_then (shows j x) (walk h js (leaves h j x))) (shown, s) w in
    let b = bind_parts (walk h js (leaves h j a.0)) (λ (more : List Shown × Registers). shown_at (shows j a.0 ++ more.0) more.1) (shown, s) a.2 in
    let p = same_parts (shows j a.0 ++ b.0.0) shown b.0.1 s b.2 in
    let rest = walk_more h js (leaves h j a.0) b.0.0 b.0.1 i t b.1 (subst (λ (x : Registers). stepped h i x ≡ Some t) (sym p.1) e) in
    bind_is (stepped h j r) a.0 (λ (x : Registers). shown_then (shows j x) (walk h (js ++ i ∷ []) (leaves h j x))) a.1
    ∙ ap (shown_then (shows j a.0)) rest
    ∙ ap (λ (xs : List Shown). shown_at xs (leaves h i t)) (sym (append_assoc (shows j a.0) b.0.0 (shows i t)) ∙ ap (λ (xs : List Shown). xs ++ shows i t) p.0)

-- what is shown first, and then more
abbrev then_shown : List Shown → Option (List Shown) → Option (List Shown)
then_shown first r = r >>= λ more. Some (first ++ more)

none_first : (r : Option (List Shown)) → r ≡ then_shown [] r
none_first None = refl
none_first (Some xs) = refl

two_shown : (a b : List Shown) (r : Option (List Shown)) → then_shown a (then_shown b r) ≡ then_shown (a ++ b) r
two_shown a b None = refl
two_shown a b (Some xs) = ap (λ (x : List Shown). Some x) (sym (append_assoc a b xs))

-- a step is one of the machine
pub changed_by : (h : LineHeader) (i : Instruction) (r s : Registers) → stepped h i r ≡ Some s → changed h i r ≡ Some s
changed_by h i r s e =
    let a = bind_parts (changed h i r) (λ (x : Registers). when (is_narrow x) (Some x)) s e in
    a.1 ∙ when_same (is_narrow a.0) (Some a.0) s a.2

ran : (h : LineHeader) (i : Instruction) (more : List Instruction) (r s : Registers) → changed h i r ≡ Some s → run h (i ∷ more) r ≡ then_shown (shows i s) (run h more (leaves h i s))
unfolding run
ran h i more r s e = bind_is (changed h i r) s (λ (x : Registers). then_shown (shows i x) (run h more (leaves h i x))) e

pub walk_runs : (h : LineHeader) (is : List Instruction) (r : Registers) (shown : List Shown) (s : Registers) (more : List Instruction) → walk h is r ≡ Some (shown, s) → run h (is ++ more) r ≡ then_shown shown (run h more s)
walk_runs h [] r shown s more w =
    let p = same_parts [] shown r s w in
    none_first (run h more r) ∙ ap (λ (x : Registers). then_shown [] (run h more x)) p.1 ∙ ap (λ (xs : List Shown). then_shown xs (run h more s)) p.0
walk_runs h (j ∷ js) r shown s more w =
    let a = bind_parts (stepped h j r) (λ (x : Registers). shown_then (shows j x) (walk h js (leaves h j x))) (shown, s) w in
    let b = bind_parts (walk h js (leaves h j a.0)) (λ (m : List Shown × Registers). shown_at (shows j a.0 ++ m.0) m.1) (shown, s) a.2 in
    let p = same_parts (shows j a.0 ++ b.0.0) shown b.0.1 s b.2 in
    ran h j (js ++ more) r a.0 (changed_by h j r a.0 a.1)
    ∙ ap (then_shown (shows j a.0)) (walk_runs h js (leaves h j a.0) b.0.0 b.0.1 more b.1)
    ∙ two_shown (shows j a.0) b.0.0 (run h more b.0.1)
    ∙ ap (λ (x : Registers). then_shown (shows j a.0 ++ b.0.0) (run h more x)) p.1
    ∙ ap (λ (xs : List Shown). then_shown xs (run h more s)) p.0

ran_to_end : (h : LineHeader) (r : Registers) (more : List Instruction) → run h (EndSequence ∷ more) r ≡ then_shown (End r.address ∷ []) (run h more (begin h))
unfolding run changed shows leaves
ran_to_end h r more = refl

ran_nothing : (h : LineHeader) (r : Registers) → run h [] r ≡ Some []
unfolding run
ran_nothing h r = refl

pub run_sequences : (h : LineHeader) (is : List Instruction) (ss : List ReadSequence) (opened : List Instruction) (last : Registers) → AreSequences h is ss opened → walk h opened (begin h) ≡ Some ([], last) → run h is (begin h) ≡ Some (flat_map shown_of ss)
run_sequences h is [] opened last a w =
    ap (λ (xs : List Instruction). run h xs (begin h)) (a ∙ sym (append-nil opened)) ∙ walk_runs h opened (begin h) [] last [] w ∙ ap (then_shown []) (ran_nothing h last)
run_sequences h is (s ∷ ss) opened last a w =
    let q = a.3 in
    ap (λ (xs : List Instruction). run h xs (begin h)) a.2
    ∙ walk_runs h a.0 (begin h) (map Row s.rows) q.last (EndSequence ∷ a.1) q.shown
    ∙ ap (then_shown (map Row s.rows)) (ran_to_end h q.last a.1)
    ∙ two_shown (map Row s.rows) (End q.last.address ∷ []) (run h a.1 (begin h))
    ∙ ap (λ (n : ℕ). then_shown (map Row s.rows ++ End n ∷ []) (run h a.1 (begin h))) (sym q.end)
    ∙ ap (then_shown (shown_of s)) (run_sequences h a.1 ss opened last a.4 w)

-- all instructions, to the end of the bytes
pub all_read : (fuel : ℕ) (h : LineHeader) (bytes : List ℕ) (is : List Instruction) → AreRead h bytes is [] → length bytes ≤ fuel → instructions_at fuel h bytes ≡ Some is
unfolding instructions_at
all_read fuel h [] [] r le = refl
all_read fuel h (b ∷ bs) [] r le = absurd (cc)
all_read fuel h [] (i ∷ is) r le = let l : length r.0 < 0 = r.1.shorter in absurd (omega arith)
all_read zero h (b ∷ bs) (i ∷ is) r le = absurd (omega arith)
all_read (suc fuel) h (b ∷ bs) (i ∷ is) r le =
    let l : length r.0 < suc (length bs) = r.1.shorter in
    bind_is (instruction_at h (b ∷ bs)) (i, r.0) (λ (x : Instruction × List ℕ). instructions_at fuel h x.1 >>= λ more. Some (x.0 ∷ more)) r.1.value
    ∙ bind_is (instructions_at fuel h r.0) is (λ (more : List Instruction). Some (i ∷ more)) (all_read fuel h r.0 is r.2 (omega arith))

pub rows_shown : (h : LineHeader) (bytes : List ℕ) (is : List Instruction) (ss : List ReadSequence) (opened : List Instruction) (last : Registers) → AreRead h bytes is [] → AreSequences h is ss opened → walk h opened (begin h) ≡ Some ([], last) → rows_of h bytes ≡ Some (flat_map shown_of ss)
unfolding rows_of
rows_shown h bytes is ss opened last r a w =
    bind_is (instructions_at (length bytes) h bytes) is (λ (xs : List Instruction). run h xs (begin h)) (all_read (length bytes) h bytes is r (omega arith)) ∙ run_sequences h is ss opened last a w

-- whether one of several instructions shows a row
pub any_more : (is : List Instruction) (i : Instruction) → any_row (is ++ i ∷ []) ≡ (any_row is || shows_row i)
any_more [] i = or_false (shows_row i) where
  or_false : (b : Bool) → (b || false) ≡ b
  or_false true = refl
  or_false false = refl
any_more (j ∷ js) i = ap (λ (b : Bool). shows_row j || b) (any_more js i) ∙ regrouped (shows_row j) (any_row js) (shows_row i) where
  regrouped : (a b c : Bool) → (a || (b || c)) ≡ ((a || b) || c)
  regrouped true b c = refl
  regrouped false b c = refl

-- an instruction that shows a row sets no address
set_by_row : (i : Instruction) (before : Option ℕ) → shows_row i ≡ true → set_by i before ≡ before
set_by_row (SetAddress w n) before h = absurd (cc)
set_by_row i before h = refl

base_one : (i : Instruction) (before : Option ℕ) (b : Bool) → shows_row i ≡ b → (if b then before else set_by i before) ≡ set_by i before
base_one i before true h = sym (set_by_row i before h)
base_one i before false h = refl

base_behind_one : (b c : Bool) (before other more : Option ℕ) (i : Instruction) → more ≡ (if c then other else set_by i other) → (if b then before else more) ≡ (if b || c then (if b then before else other) else set_by i (if b then before else other))
base_behind_one true c before other more i h = refl
base_behind_one false c before other more i h = h

pub base_more : (before : Option ℕ) (is : List Instruction) (i : Instruction) → set_before_rows before (is ++ i ∷ []) ≡ (if any_row is then set_before_rows before is else set_by i (set_before_rows before is))
base_more before [] i = base_one i before (shows_row i) refl
base_more before (j ∷ js) i = base_behind_one (shows_row j) (any_row js) before (set_before_rows (set_by j before) js) (set_before_rows (set_by j before) (js ++ i ∷ [])) i (base_more (set_by j before) js i)
