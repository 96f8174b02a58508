-- Expressions that are converted, one operation after the other.
use Rattle.std.proofs.Common.{◌≡◌, sym, ap, subst, ℕ, zero, suc, ◌+◌, ◌-◌, ◌<◌, ◌≤◌, ◌≢◌, List, [], ◌∷◌, ◌++◌, length, take, drop, map, get_or, Option, Some, Result, Ok, Err, Bool, ℤ, IfOk, IfErr, IsFalse, ◌⊎◌, ⊎_elim, inl, inr, refl, arith}
use Rattle.std.specs.Result.{MatchResult, IsOkAnd}
use Rattle.std.proofs.lemmas.List.{take_all, length-map}
use Rattle.std.proofs.lemmas.List.Elements.{All-get_or}
use Rattle.dw_base.specs.declared.address.Address.{Address}
use Rattle.dw_base.specs.declared.address.DebugInfoRef.{DebugInfoRef}
use Rattle.dw_base.specs.declared.common.Encoding.{Encoding}
use Rattle.dw_base.specs.declared.ids.UnitEntryId.{UnitEntryId}
use Rattle.dw_expr.specs.Trees as tree
use Rattle.dw_expr.specs.Trees.{Node, Plain, plain, entry_value, tree_of}
use Rattle.dw_expr.specs.Views.{node_of}
use Rattle.dw_expr.specs.declared.op.Operation.{Operation as BuiltOperation}
use Rattle.dw_read.specs.Reading.{Reading, left}
use Rattle.dw_read.specs.declared.value.Expression.{Expression}
use Rattle.dw_sources.specs.OperationViews.{operation_of}
use Rattle.dw_sources.specs.declared.convert_error.ConvertError.{ConvertError}
use Rattle.dw_sources.specs.declared.convert_error.ConvertError.TheVariants.{NoMemory}
use Rattle.dw_sources.specs.declared.operation.Operation.{Operation as HeldOperation}
use Rattle.dw_sources.specs.declared.operation.Operation.TheVariants as held
use Rattle.dw_convert.specs.Branches.{TargetOutcome}
use Rattle.dw_convert.specs.Expressions.{AreOperations, Becomes, RefusesOperation, OutcomeWithin, LevelOutcome}
use Rattle.dw_convert.specs.Listings.{IsListing, HasOrder, StepOutcome, FlatOutcome, StaysAs, as_node, leads_on, order_of, step_in, steps_in}
use Rattle.dw_convert.specs.Operations.{OperationOutcome, Of}
use Rattle.dw_convert.specs.Steps.{Step, begins}
use Rattle.dw_convert.specs.declared.listing.Listing.{Listing}
use Rattle.dw_convert.specs.declared.listing.Step.{Step as HeldStep}
use Rattle.dw_convert.proofs.Zipping.{zip_more, around, mapped_at}

module _ (R E : Type 0) (reading : R → Reading) (answers : ℕ → Option Address → Type 0) (addresses : ℕ → Result ℕ ConvertError) (entries : ℕ → Option UnitEntryId) (infos : ℕ → Option DebugInfoRef) where
  -- what expressions within others become
  abbrev pub Within : Bool → Encoding → ℕ → List ℕ → Result (List Node) ConvertError → Type 0
  Within big e depth = OutcomeWithin answers addresses entries infos big e depth

  abbrev pub Row : Encoding → Bool → ℕ → List ℕ → Step → Result Node ConvertError → Type 0
  Row e big depth places s x = OperationOutcome answers addresses entries infos e (Within big e depth) places s.behind s.operation x

  -- an expression within an operation has the order of the one around it
  reordered : (big : Bool) (e : Encoding) (depth : ℕ) (places : List ℕ) (behind : ℕ) (o : HeldOperation R E) (x : Result Node ConvertError) → HasOrder reading big o
      → OperationOutcome answers addresses entries infos e (Within (order_of reading o) e depth) places behind (operation_of reading o) x → OperationOutcome answers addresses entries infos e (Within big e depth) places behind (operation_of reading o) x
  reordered big e depth places behind (held.EntryValue y) x h k = subst (λ (b : Bool). OperationOutcome answers addresses entries infos e (Within b e depth) places behind (operation_of reading (held.EntryValue y)) x) h k
  reordered big e depth places behind o x h k = k

  -- what a loop over the operations knows
  abbrev pub AreSoFar : Reading → Encoding → List (HeldStep R E) → ℕ → ℕ → List Node → Type 0
  AreSoFar r e items depth i nodes = AreOperations answers addresses entries infos e (Within r.is_big e depth) (begins (map (step_in reading) items)) (take i (map (step_in reading) items)) nodes

  pub none_yet : (r : Reading) (e : Encoding) (items : List (HeldStep R E)) (depth : ℕ) (nodes : List Node) → nodes ≡ [] → AreSoFar r e items depth 0 nodes
  none_yet r e items depth nodes h = subst (λ (ns : List Node). AreSoFar r e items depth 0 ns) (sym h) tt

  module _ (r : Reading) (e : Encoding) (l : Listing R E) (is : IsListing reading r e l) (depth : ℕ) where
    row : (s : HeldStep R E) (x : Result Node ConvertError) → HasOrder reading r.is_big s.operation → StepOutcome reading answers addresses entries infos depth l s x → Row e r.is_big depth (begins (steps_in reading l)) (step_in reading s) x
    row s x o h =
        reordered r.is_big e depth (begins (steps_in reading l)) s.behind s.operation x o
        (subst (λ (ps : List ℕ). Row e (order_of reading s.operation) depth ps (step_in reading s) x) is.begins
        (subst (λ (y : Encoding). Row y (order_of reading s.operation) depth l.begins.items (step_in reading s) x) is.encoding h))

    module _ (items : List (HeldStep R E)) (same : items ≡ l.steps.items) (i : ℕ) (s : HeldStep R E) (nodes : List Node) (within : i < length items) (there : s ≡ get_or items i s) (far : AreSoFar r e items depth i nodes) where
      below : i < length l.steps.items
      below = subst (λ (xs : List (HeldStep R E)). i < length xs) same within

      at : s ≡ get_or l.steps.items i s
      at = subst (λ (xs : List (HeldStep R E)). s ≡ get_or xs i s) same there

      ordered : HasOrder reading r.is_big s.operation
      ordered = subst (λ (t : HeldStep R E). HasOrder reading r.is_big t.operation) (sym at) (All-get_or (λ t. HasOrder reading r.is_big t.operation) l.steps.items i s below is.order)

      so_far : AreSoFar r e l.steps.items depth i nodes
      so_far = subst (λ (xs : List (HeldStep R E)). AreSoFar r e xs depth i nodes) same far

      pub one_more : (n : Node) → StepOutcome reading answers addresses entries infos depth l s (Ok n) → AreSoFar r e items depth (i + 1) (nodes ++ n ∷ [])
      one_more n h =
          let next : AreSoFar r e l.steps.items depth (suc i) (nodes ++ n ∷ []) = zip_more (λ (t : Step) (m : Node). Row e r.is_big depth (begins (steps_in reading l)) t (Ok m)) (steps_in reading l) nodes i (step_in reading s) n (mapped_at (step_in reading) l.steps.items i s below at) so_far (row s (Ok n) ordered h) in
          let more : suc i ≡ i + 1 = omega arith in
          subst (λ (xs : List (HeldStep R E)). AreSoFar r e xs depth (i + 1) (nodes ++ n ∷ [])) (sym same) (subst (λ (k : ℕ). AreSoFar r e l.steps.items depth k (nodes ++ n ∷ [])) more next)

      pub one_refused : (why : ConvertError) → StepOutcome reading answers addresses entries infos depth l s (Err why) → RefusesOperation answers addresses entries infos e (Within r.is_big e depth) r.is_big (left r) why
      one_refused why h = record {
        steps = steps_in reading l;
        read = is.read;
        refused = record {
          front = take i (steps_in reading l);
          step = step_in reading s;
          back = drop (suc i) (steps_in reading l);
          nodes = nodes;
          is = around (steps_in reading l) i (step_in reading s) (mapped_at (step_in reading) l.steps.items i s below at);
          before = so_far;
          refused = row s (Err why) ordered h;
        };
      }

    -- all operations were converted
    pub all_done : (items : List (HeldStep R E)) (i : ℕ) (nodes : List Node) → items ≡ l.steps.items → length items ≤ i → AreSoFar r e items depth i nodes → Becomes answers addresses entries infos e (Within r.is_big e depth) r.is_big (left r) nodes
    all_done items i nodes same past far =
        let so_far : AreSoFar r e l.steps.items depth i nodes = subst (λ (xs : List (HeldStep R E)). AreSoFar r e xs depth i nodes) same far in
        let long : length (steps_in reading l) ≤ i = (let b : length items ≡ length l.steps.items = ap length same in simp length-map (omega arith)) in
        record {
          steps = steps_in reading l;
          read = is.read;
          are = subst (λ (ss : List Step). AreOperations answers addresses entries infos e (Within r.is_big e depth) (begins (steps_in reading l)) ss nodes) (take_all i (steps_in reading l) long) so_far;
        }

  module _ (l : Listing R E) (s : HeldStep R E) (depth : ℕ) where
    -- what becomes of a step, by its operation
    becomes : (o : HeldOperation R E) (x : Result Node ConvertError) → s.operation ≡ o → OperationOutcome answers addresses entries infos l.encoding (Within (order_of reading o) l.encoding depth) l.begins.items s.behind (operation_of reading o) x → StepOutcome reading answers addresses entries infos depth l s x
    becomes o x e h = subst (λ (p : HeldOperation R E). OperationOutcome answers addresses entries infos l.encoding (Within (order_of reading p) l.encoding depth) l.begins.items s.behind (operation_of reading p) x) (sym e) h

    -- a branch that leads nowhere among these places
    module _ (places : List ℕ) (same : places ≡ l.begins.items) (z y : ℤ) (is : y ≡ z) (why : ConvertError) (h : TargetOutcome places s.behind y (Err why)) where
      nowhere : TargetOutcome l.begins.items s.behind z (Err why)
      nowhere = subst (λ (x : ℤ). TargetOutcome l.begins.items s.behind x (Err why)) is (subst (λ (ps : List ℕ). TargetOutcome ps s.behind y (Err why)) same h)

      pub skip_refused : s.operation ≡ held.Skip z → StepOutcome reading answers addresses entries infos depth l s (Err why)
      skip_refused e = becomes (held.Skip z) (Err why) e (Err why, nowhere, refl)

      pub branch_refused : s.operation ≡ held.Branch z → StepOutcome reading answers addresses entries infos depth l s (Err why)
      branch_refused e = becomes (held.Branch z) (Err why) e (Err why, nowhere, refl)

    -- a branch that leads to an operation among them
    module _ (places : List ℕ) (same : places ≡ l.begins.items) (z y : ℤ) (is : y ≡ z) (i : ℕ) (h : TargetOutcome places s.behind y (Ok i)) where
      led : TargetOutcome l.begins.items s.behind z (Ok i)
      led = subst (λ (x : ℤ). TargetOutcome l.begins.items s.behind x (Ok i)) is (subst (λ (ps : List ℕ). TargetOutcome ps s.behind y (Ok i)) same h)

      pub skip_led : s.operation ≡ held.Skip z → StepOutcome reading answers addresses entries infos depth l s (Ok (plain (tree.Skip (Some i))))
      skip_led e = becomes (held.Skip z) (Ok (plain (tree.Skip (Some i)))) e (Ok i, led, refl)

      pub branch_led : s.operation ≡ held.Branch z → StepOutcome reading answers addresses entries infos depth l s (Ok (plain (tree.Branch (Some i))))
      branch_led e = becomes (held.Branch z) (Ok (plain (tree.Branch (Some i)))) e (Ok i, led, refl)

    -- an expression within the operation, which a reader has left
    module _ (x : Expression R E) (e : s.operation ≡ held.EntryValue x) (r : Reading) (same : r ≡ reading x.0) where
      moved : (y : Result (List Node) ConvertError) → Within r.is_big l.encoding depth (left r) y → Within (reading x.0).is_big l.encoding depth (left (reading x.0)) y
      moved y h = subst (λ (q : Reading). Within q.is_big l.encoding depth (left q) y) same h

      pub nested_converted : (nodes : List Node) → Within r.is_big l.encoding depth (left r) (Ok nodes) → StepOutcome reading answers addresses entries infos depth l s (Ok (entry_value (tree_of nodes)))
      nested_converted nodes h = becomes (held.EntryValue x) (Ok (entry_value (tree_of nodes))) e (Ok nodes, moved (Ok nodes) h, refl)

      pub nested_refused : (why : ConvertError) → Within r.is_big l.encoding depth (left r) (Err why) → StepOutcome reading answers addresses entries infos depth l s (Err why)
      nested_refused why h = becomes (held.EntryValue x) (Err why) e (Err why, moved (Err why) h, refl)

-- an operation that is made of what its number leads to
pub mapped : {A : Type 0} (outcome : Result A ConvertError → Type 0) (make : A → Plain) (P : A → BuiltOperation → Type 0) → ((x : A) (o : BuiltOperation) → P x o → node_of o ≡ plain (make x)) → (r : Result A ConvertError) (m : Result BuiltOperation ConvertError)
    → MatchResult r (λ x. IsOkAnd m (P x)) (λ e. m ≡ Err e) → outcome r → Of outcome make (as_node m)
mapped outcome make P f (Ok x) (Ok o) h k = (Ok x, k, ap Ok (f x o h))
mapped outcome make P f (Ok x) (Err e) h k = absurd h
mapped outcome make P f (Err e) m h k = (Err e, k, ap as_node h)

-- an operation that leads on has an arm of its own
pub record LeadsNowhere {R E : Type 0} (o : HeldOperation R E) : Type 0 where
  pub address : (x : _) → o ≡ held.Address x → ⊥
  pub indexed : (x : _) → o ≡ held.AddressIndex x → ⊥
  pub constant : (x : _) → o ≡ held.ConstantIndex x → ⊥
  pub typed : (x : _) (y : _) → o ≡ held.ConstantType x y → ⊥
  pub register : (x : _) (y : _) → o ≡ held.RegisterType x y → ⊥
  pub deref : (x : _) (y : _) (z : _) → o ≡ held.DerefType x y z → ⊥
  pub skip : (x : _) → o ≡ held.Skip x → ⊥
  pub branch : (x : _) → o ≡ held.Branch x → ⊥
  pub call : (x : _) → o ≡ held.Call x → ⊥
  pub call_ref : (x : _) → o ≡ held.CallRef x → ⊥
  pub variable : (x : _) → o ≡ held.VariableValue x → ⊥
  pub convert : (x : _) → o ≡ held.Convert x → ⊥
  pub reinterpret : (x : _) → o ≡ held.Reinterpret x → ⊥
  pub nested : (x : _) → o ≡ held.EntryValue x → ⊥
  pub implicit : (x : _) → o ≡ held.ImplicitValue x → ⊥
  pub pointer : (x : _) (y : _) → o ≡ held.ImplicitPointer x y → ⊥
  pub parameter : (x : _) → o ≡ held.ParameterRef x → ⊥

pub leads_nowhere : {R E : Type 0} (o : HeldOperation R E) → LeadsNowhere o → IsFalse (leads_on o)
leads_nowhere (held.Address x) h = absurd (h.address x refl)
leads_nowhere (held.AddressIndex x) h = absurd (h.indexed x refl)
leads_nowhere (held.ConstantIndex x) h = absurd (h.constant x refl)
leads_nowhere (held.ConstantType x y) h = absurd (h.typed x y refl)
leads_nowhere (held.RegisterType x y) h = absurd (h.register x y refl)
leads_nowhere (held.DerefType x y z) h = absurd (h.deref x y z refl)
leads_nowhere (held.Skip x) h = absurd (h.skip x refl)
leads_nowhere (held.Branch x) h = absurd (h.branch x refl)
leads_nowhere (held.Call x) h = absurd (h.call x refl)
leads_nowhere (held.CallRef x) h = absurd (h.call_ref x refl)
leads_nowhere (held.VariableValue x) h = absurd (h.variable x refl)
leads_nowhere (held.Convert x) h = absurd (h.convert x refl)
leads_nowhere (held.Reinterpret x) h = absurd (h.reinterpret x refl)
leads_nowhere (held.EntryValue x) h = absurd (h.nested x refl)
leads_nowhere (held.ImplicitValue x) h = absurd (h.implicit x refl)
leads_nowhere (held.ImplicitPointer x y) h = absurd (h.pointer x y refl)
leads_nowhere (held.ParameterRef x) h = absurd (h.parameter x refl)
leads_nowhere o h = refl

module _ (R E : Type 0) (reading : R → Reading) (answers : ℕ → Option Address → Type 0) (addresses : ℕ → Result ℕ ConvertError) (entries : ℕ → Option UnitEntryId) (infos : ℕ → Option DebugInfoRef) where
  -- what leads nowhere stays what it is, wherever it stands
  stays : (depth behind : ℕ) (e : Encoding) (places : List ℕ) (o : HeldOperation R E) (n : Node) → IsFalse (leads_on o) → StaysAs reading e o n → OperationOutcome answers addresses entries infos e (Within R E reading answers addresses entries infos (order_of reading o) e depth) places behind (operation_of reading o) (Ok n)
  stays depth behind e places (held.Address x) n f h = absurd (cc)
  stays depth behind e places (held.AddressIndex x) n f h = absurd (cc)
  stays depth behind e places (held.ConstantIndex x) n f h = absurd (cc)
  stays depth behind e places (held.ConstantType x y) n f h = absurd (cc)
  stays depth behind e places (held.RegisterType x y) n f h = absurd (cc)
  stays depth behind e places (held.DerefType x y z) n f h = absurd (cc)
  stays depth behind e places (held.Skip x) n f h = absurd (cc)
  stays depth behind e places (held.Branch x) n f h = absurd (cc)
  stays depth behind e places (held.Call x) n f h = absurd (cc)
  stays depth behind e places (held.CallRef x) n f h = absurd (cc)
  stays depth behind e places (held.VariableValue x) n f h = absurd (cc)
  stays depth behind e places (held.Convert x) n f h = absurd (cc)
  stays depth behind e places (held.Reinterpret x) n f h = absurd (cc)
  stays depth behind e places (held.EntryValue x) n f h = absurd (cc)
  stays depth behind e places (held.ImplicitValue x) n f h = absurd (cc)
  stays depth behind e places (held.ImplicitPointer x y) n f h = absurd (cc)
  stays depth behind e places (held.ParameterRef x) n f h = absurd (cc)
  stays depth behind e places o n f h = h

  -- an operation without an expression within it is the same at each depth
  deeper : (depth behind : ℕ) (e : Encoding) (places : List ℕ) (o : HeldOperation R E) (x : Result Node ConvertError) → OperationOutcome answers addresses entries infos e (Within R E reading answers addresses entries infos (order_of reading o) e 0) places behind (operation_of reading o) x → OperationOutcome answers addresses entries infos e (Within R E reading answers addresses entries infos (order_of reading o) e depth) places behind (operation_of reading o) x
  deeper depth behind e places (held.EntryValue y) x h = absurd h.1
  deeper depth behind e places o x h = h

  module _ (l : Listing R E) (s : HeldStep R E) where
    abbrev Flat : Result BuiltOperation ConvertError → Type 0
    Flat r = (r ≡ Err NoMemory) ⊎ FlatOutcome reading answers addresses entries infos l s r

    pub stays_flat : (o : BuiltOperation) → LeadsNowhere s.operation → StaysAs reading l.encoding s.operation (node_of o) → FlatOutcome reading answers addresses entries infos l s (Ok o)
    stays_flat o k h = stays 0 s.behind l.encoding l.begins.items s.operation (node_of o) (leads_nowhere s.operation k) h

    pub flat_ok : (depth : ℕ) (r : Result BuiltOperation ConvertError) → Flat r → IfOk r (λ o. StepOutcome reading answers addresses entries infos depth l s (Ok (node_of o)))
    flat_ok depth (Ok o) h = ⊎_elim (λ (e : Ok o ≡ Err NoMemory). absurd (cc)) (λ (k : FlatOutcome reading answers addresses entries infos l s (Ok o)). deeper depth s.behind l.encoding l.begins.items s.operation (Ok (node_of o)) k) h
    flat_ok depth (Err e) h = tt

    pub flat_err : (depth : ℕ) (r : Result BuiltOperation ConvertError) → Flat r → IfErr r (λ e. (e ≡ NoMemory) ⊎ StepOutcome reading answers addresses entries infos depth l s (Err e))
    flat_err depth (Ok o) h = tt
    flat_err depth (Err e) h = ⊎_elim (λ (k : Err e ≡ Err NoMemory). inl (cc)) (λ (k : FlatOutcome reading answers addresses entries infos l s (Err e)). inr (deeper depth s.behind l.encoding l.begins.items s.operation (Err e) k)) h

-- an expression around others stands one deeper
pub at_level : (answers : ℕ → Option Address → Type 0) (addresses : ℕ → Result ℕ ConvertError) (entries : ℕ → Option UnitEntryId) (infos : ℕ → Option DebugInfoRef) (big : Bool) (e : Encoding) (depth : ℕ) (bytes : List ℕ) (x : Result (List Node) ConvertError) → depth ≢ 0
    → LevelOutcome answers addresses entries infos e (OutcomeWithin answers addresses entries infos big e (depth - 1)) big bytes x → OutcomeWithin answers addresses entries infos big e depth bytes x
at_level answers addresses entries infos big e zero bytes x n h = absurd (n refl)
at_level answers addresses entries infos big e (suc depth) bytes x n h = subst (λ (d : ℕ). LevelOutcome answers addresses entries infos e (OutcomeWithin answers addresses entries infos big e d) big bytes x) (let p : suc depth - 1 ≡ depth = omega arith in p) h

-- what a result says, in weaker words
pub ok_then : {A B : Type 0} (r : Result A B) (P Q : A → Type 0) → ((x : A) → P x → Q x) → IfOk r P → IfOk r Q
ok_then (Ok x) P Q f h = f x h
ok_then (Err e) P Q f h = h

pub err_then : {A B : Type 0} (r : Result A B) (N P Q : B → Type 0) → ((e : B) → P e → Q e) → IfErr r (λ e. N e ⊎ P e) → IfErr r (λ e. N e ⊎ Q e)
err_then (Ok x) N P Q f h = h
err_then (Err e) N P Q f h = ⊎_elim (λ (n : N e). inl n) (λ (p : P e). inr (f e p)) h
