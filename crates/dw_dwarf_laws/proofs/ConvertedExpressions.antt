-- What expressions become is one thing.
use Rattle.std.proofs.Common.{◌≡◌, ◌∙◌, sym, ap, ap₂, subst, ℕ, zero, suc, ◌-◌, ◌<◌, ◌≤◌, List, [], ◌∷◌, length, map, slice_get, Bool, Option, Some, None, Result, Ok, ℤ, pos, refl, arith}
use Rattle.dw_base.specs.Numbers.{Parser}
use Rattle.dw_base.specs.declared.address.Address.{Address}
use Rattle.dw_base.specs.declared.address.DebugInfoRef.{DebugInfoRef}
use Rattle.dw_base.specs.declared.common.Encoding.{Encoding}
use Rattle.dw_base.specs.declared.ids.UnitEntryId.{UnitEntryId}
use Rattle.dw_expr.specs.Trees.{Plain, Node, plain, entry_value, tree_of}
use Rattle.dw_sources.specs.Operations.{Operation}
use Rattle.dw_sources.specs.Operations as read
use Rattle.dw_sources.specs.OperationTable.{operation_at}
use Rattle.dw_sources.specs.declared.convert_error.ConvertError.{ConvertError}
use Rattle.dw_convert.specs.Branches.{TargetOutcome}
use Rattle.dw_convert.specs.Expressions.{Becomes, AreOperations, OutcomeWithin, ExpressionOutcome}
use Rattle.dw_convert.specs.Lists.{First}
use Rattle.dw_convert.specs.Operations.{OperationOutcome, Is, Of}
use Rattle.dw_convert.specs.Outcomes.{AddressOutcome, IndexOutcome}
use Rattle.dw_convert.specs.References.{EntryOutcome, InfoOutcome, BaseOutcome}
use Rattle.dw_convert.specs.Steps.{Step, step_of, step_at, AreSteps, begins}
use Rattle.dw_dwarf_laws.proofs.Results.{same_ok, same_some, not_both, after_once, made_once}
use Rattle.dw_dwarf_laws.proofs.Shorter.{no_operation, operation_less}

-- at most one address is answered for a number
abbrev pub AnswersOnce : (ℕ → Option Address → Type 0) → Type 0
AnswersOnce answers = (n : ℕ) (a b : Option Address) → answers n a → answers n b → a ≡ b

module _ (answers : ℕ → Option Address → Type 0) (functional : AnswersOnce answers) where
  pub address_once : (n : ℕ) (a b : Address) → AddressOutcome answers n (Ok a) → AddressOutcome answers n (Ok b) → a ≡ b
  address_once n a b h k = let e : Some a ≡ Some b = functional n (Some a) (Some b) h k in cc

  pub index_once : (addresses : ℕ → Result ℕ ConvertError) (i : ℕ) (a b : Address) → IndexOutcome answers addresses i (Ok a) → IndexOutcome answers addresses i (Ok b) → a ≡ b
  index_once addresses i a b h k = after_once (AddressOutcome answers) (AddressOutcome answers) address_once (addresses i) (addresses i) refl a b h k

base_once : (entries : ℕ → Option UnitEntryId) (base : Option ℕ) (a b : Option UnitEntryId) → BaseOutcome entries base (Ok a) → BaseOutcome entries base (Ok b) → a ≡ b
base_once entries None a b h k = same_ok {X = ConvertError} (Ok None) a b (sym h) (sym k)
base_once entries (Some n) a b h k = made_once (λ (i : UnitEntryId). Some i) (EntryOutcome entries n) (EntryOutcome entries n) (λ i j f g. same_some (entries n) i j f g) a b h k

-- Operations begin at rising places, so that no two begin at one.
abbrev Rise : ℕ → List ℕ → Type 0
Rise n [] = Unit {0}
Rise n (p ∷ ps) = (n < p) × Rise p ps

rise_above : (n : ℕ) (ps : List ℕ) (i p : ℕ) → Rise n ps → slice_get ps i ≡ Some p → n < p
rise_above n [] i p h e = absurd (not_both (slice_get [] i) p refl e)
rise_above n (q ∷ ps) zero p h e = let s : q ≡ p = same_some (Some q) q p refl e in omega (arith, h.0)
rise_above n (q ∷ ps) (suc i) p h e = omega (arith, h.0, rise_above q ps i p h.1 e)

rise_once : (n : ℕ) (ps : List ℕ) (i j p : ℕ) → Rise n ps → slice_get (n ∷ ps) i ≡ Some p → slice_get (n ∷ ps) j ≡ Some p → i ≡ j
rise_once n ps zero zero p h e f = refl
rise_once n ps zero (suc j) p h e f = absurd (let s : n ≡ p = same_some (Some n) n p refl e in omega (arith, rise_above n ps j p h f))
rise_once n ps (suc i) zero p h e f = absurd (let s : n ≡ p = same_some (Some n) n p refl f in omega (arith, rise_above n ps i p h e))
rise_once n [] (suc i) (suc j) p h e f = absurd (not_both (slice_get [] i) p refl e)
rise_once n (q ∷ ps) (suc i) (suc j) p h e f = ap suc (rise_once q ps i j p h.1 e f)

-- at most one index has a place
abbrev Distinct : List ℕ → Type 0
Distinct places = (i j p : ℕ) → slice_get places i ≡ Some p → slice_get places j ≡ Some p → i ≡ j

abbrev given : Step → List ℕ → Option (Step × List ℕ)
given s rest = Some (s, rest)

same_step : (s t : Step) (m n : List ℕ) → given s m ≡ given t n → (s ≡ t) × (m ≡ n)
same_step s t m n e = let q : (s, m) ≡ (t, n) = cc in (ap (λ (x : Step × List ℕ). x.0) q, ap (λ (x : Step × List ℕ). x.1) q)

module _ (grammar : Parser Operation) (none : grammar [] ≡ None) (less : (bs : List ℕ) (x : Operation × List ℕ) → grammar bs ≡ Some x → length x.1 < length bs) (size : ℕ) where
  -- a step is read behind the one before it
  step_behind : (bs : List ℕ) (o : Option (Operation × List ℕ)) → grammar bs ≡ o → (s : Step) (next : List ℕ) → step_of size o ≡ Some (s, next) → (s.behind ≡ size - length next) × (length next < length bs)
  step_behind bs None e s next h = absurd (not_both (step_of size None) (s, next) refl h)
  step_behind bs (Some x) e s next h =
      let q = same_step (record { operation = x.0; behind = size - length x.1 }) s x.1 next h in
      let r : length x.1 < length bs = less bs x e in
      (ap (λ (t : Step). t.behind) (sym q.0) ∙ ap (λ (ys : List ℕ). size - length ys) q.1, omega (arith, r, ap length q.1))

  steps_rise : (bs : List ℕ) (steps : List Step) (rest : List ℕ) → length bs ≤ size → First (step_at grammar size) bs steps rest → Rise (size - length bs) (map (λ s. s.behind) steps)
  steps_rise bs [] rest l h = tt
  steps_rise bs (s ∷ steps) rest l h =
      let b = step_behind bs (grammar bs) refl s h.0 h.1 in
      let low : length h.0 ≤ size = omega (arith, b.1) in
      (omega (arith, b.0, b.1), subst (λ n. Rise n (map (λ t. t.behind) steps)) (sym b.0) (steps_rise h.0 steps rest low h.2))

  none_at : step_at grammar size [] ≡ None
  none_at = ap (step_of size) none

  -- the steps up to the end
  steps_once : (bs : List ℕ) (xs ys : List Step) → First (step_at grammar size) bs xs [] → First (step_at grammar size) bs ys [] → xs ≡ ys
  steps_once bs [] [] h k = refl
  steps_once bs [] (y ∷ ys) h k = absurd (not_both (step_at grammar size []) (y, k.0) none_at (ap (step_at grammar size) h ∙ k.1))
  steps_once bs (x ∷ xs) [] h k = absurd (not_both (step_at grammar size []) (x, h.0) none_at (ap (step_at grammar size) k ∙ h.1))
  steps_once bs (x ∷ xs) (y ∷ ys) h k =
      let q = same_step x y h.0 k.0 (sym h.1 ∙ k.1) in
      ap₂ (λ (a : Step) (as_ : List Step). a ∷ as_) q.0 (steps_once k.0 xs ys (subst (λ bs. First (step_at grammar size) bs xs []) q.1 h.2) k.2)

begins_distinct : (grammar : Parser Operation) → grammar [] ≡ None → ((bs : List ℕ) (x : Operation × List ℕ) → grammar bs ≡ Some x → length x.1 < length bs) → (bs : List ℕ) (steps : List Step) → AreSteps grammar bs steps → Distinct (begins steps)
begins_distinct grammar none less bs steps h =
    let r : Rise (length bs - length bs) (map (λ s. s.behind) steps) = steps_rise grammar none less (length bs) bs steps [] (omega arith) h in
    let z : length bs - length bs ≡ 0 = omega arith in
    λ i j p. rise_once 0 (map (λ s. s.behind) steps) i j p (subst (λ n. Rise n (map (λ s. s.behind) steps)) z r)

target_once : (places : List ℕ) → Distinct places → (behind : ℕ) (z : ℤ) (i j : ℕ) → TargetOutcome places behind z (Ok i) → TargetOutcome places behind z (Ok j) → i ≡ j
target_once places one behind z i j h k =
    let e : pos h.place ≡ pos k.place = sym h.is ∙ k.is in
    let s : h.place ≡ k.place = cc in
    one i j k.place (subst (λ p. slice_get places i ≡ Some p) s h.begin) k.begin

is_once : (p : Plain) (m n : Node) → Is p (Ok m) → Is p (Ok n) → m ≡ n
is_once p m n h k = same_ok {X = ConvertError} (Ok (plain p)) m n (sym h) (sym k)

of_once : {A : Type 0} (first : Result A ConvertError → Type 0) → ((a b : A) → first (Ok a) → first (Ok b) → a ≡ b) → (f : A → Plain) (m n : Node) → Of first f (Ok m) → Of first f (Ok n) → m ≡ n
of_once first once f m n h k = made_once (λ a. plain (f a)) first first once m n h k

module _ (answers : ℕ → Option Address → Type 0) (functional : AnswersOnce answers) (addresses : ℕ → Result ℕ ConvertError) (entries : ℕ → Option UnitEntryId) (infos : ℕ → Option DebugInfoRef) (e : Encoding) where
  -- expressions within operations become one thing, too
  module _ (One Other : List ℕ → Result (List Node) ConvertError → Type 0) (nested : (bytes : List ℕ) (xs ys : List Node) → One bytes (Ok xs) → Other bytes (Ok ys) → xs ≡ ys) (places : List ℕ) (distinct : Distinct places) where
    entry_at_once : (n : ℕ) (a b : UnitEntryId) → EntryOutcome entries n (Ok a) → EntryOutcome entries n (Ok b) → a ≡ b
    entry_at_once n a b h k = same_some (entries n) a b h k

    info_at_once : (n : ℕ) (a b : DebugInfoRef) → InfoOutcome infos n (Ok a) → InfoOutcome infos n (Ok b) → a ≡ b
    info_at_once n a b h k = same_some (infos n) a b h k

    operation_once : (behind : ℕ) (o : Operation) (m n : Node) → OperationOutcome answers addresses entries infos e One places behind o (Ok m) → OperationOutcome answers addresses entries infos e Other places behind o (Ok n) → m ≡ n
    operation_once behind (read.Simple code) m n h k = is_once _ m n h k
    operation_once behind (read.Address x) m n h k = of_once _ (address_once answers functional x) _ m n h k
    operation_once behind (read.AddressIndex i) m n h k = of_once _ (index_once answers functional addresses i) _ m n h k
    operation_once behind (read.ConstantIndex i) m n h k = of_once _ (λ a b f g. same_ok (addresses i) a b (sym f) (sym g)) _ m n h k
    operation_once behind (read.UnsignedConstant x) m n h k = is_once _ m n h k
    operation_once behind (read.SignedConstant z) m n h k = is_once _ m n h k
    operation_once behind (read.ConstantType base bytes) m n h k = of_once _ (entry_at_once base) _ m n h k
    operation_once behind (read.FrameOffset z) m n h k = is_once _ m n h k
    operation_once behind (read.RegisterOffset register z) m n h k = is_once _ m n h k
    operation_once behind (read.RegisterType register base) m n h k = of_once _ (entry_at_once base) _ m n h k
    operation_once behind (read.Pick x) m n h k = is_once _ m n h k
    operation_once behind (read.Deref space) m n h k = is_once _ m n h k
    operation_once behind (read.DerefSize space size) m n h k = is_once _ m n h k
    operation_once behind (read.DerefType space size base) m n h k = of_once _ (entry_at_once base) _ m n h k
    operation_once behind (read.PlusConstant x) m n h k = is_once _ m n h k
    operation_once behind (read.Skip z) m n h k = of_once _ (target_once places distinct behind z) _ m n h k
    operation_once behind (read.Branch z) m n h k = of_once _ (target_once places distinct behind z) _ m n h k
    operation_once behind (read.Call x) m n h k = of_once _ (entry_at_once x) _ m n h k
    operation_once behind (read.CallRef x) m n h k = of_once _ (info_at_once x) _ m n h k
    operation_once behind (read.VariableValue x) m n h k = of_once _ (info_at_once x) _ m n h k
    operation_once behind (read.Convert base) m n h k = of_once _ (base_once entries base) _ m n h k
    operation_once behind (read.Reinterpret base) m n h k = of_once _ (base_once entries base) _ m n h k
    operation_once behind (read.EntryValue bytes) m n h k = made_once (λ xs. entry_value (tree_of xs)) (One bytes) (Other bytes) (nested bytes) m n h k
    operation_once behind (read.Register register) m n h k = is_once _ m n h k
    operation_once behind (read.ImplicitValue bytes) m n h k = is_once _ m n h k
    operation_once behind (read.ImplicitPointer x z) m n h k = of_once _ (info_at_once x) _ m n h k
    operation_once behind (read.Piece x) m n h k = is_once _ m n h k
    operation_once behind (read.BitPiece x y) m n h k = is_once _ m n h k
    operation_once behind (read.ParameterRef x) m n h k = of_once _ (entry_at_once x) _ m n h k
    operation_once behind (read.WasmLocal x) m n h k = is_once _ m n h k
    operation_once behind (read.WasmGlobal x) m n h k = is_once _ m n h k
    operation_once behind (read.WasmStack x) m n h k = is_once _ m n h k

    operations_once : (steps : List Step) (xs ys : List Node) → AreOperations answers addresses entries infos e One places steps xs → AreOperations answers addresses entries infos e Other places steps ys → xs ≡ ys
    operations_once [] [] [] h k = refl
    operations_once [] [] (y ∷ ys) h k = absurd k
    operations_once [] (x ∷ xs) ys h k = absurd h
    operations_once (s ∷ steps) [] ys h k = absurd h
    operations_once (s ∷ steps) (x ∷ xs) [] h k = absurd k
    operations_once (s ∷ steps) (x ∷ xs) (y ∷ ys) h k = ap₂ (λ (a : Node) (more : List Node). a ∷ more) (operation_once s.behind s.operation x y h.0 k.0) (operations_once steps xs ys h.1 k.1)

  module _ (One Other : List ℕ → Result (List Node) ConvertError → Type 0) (nested : (bytes : List ℕ) (xs ys : List Node) → One bytes (Ok xs) → Other bytes (Ok ys) → xs ≡ ys) where
    level_once : (big : Bool) (bytes : List ℕ) (xs ys : List Node) → Becomes answers addresses entries infos e One big bytes xs → Becomes answers addresses entries infos e Other big bytes ys → xs ≡ ys
    level_once big bytes xs ys h k =
        let s : k.steps ≡ h.steps = steps_once (operation_at big e) (no_operation big e) (operation_less big e) (length bytes) bytes k.steps h.steps k.read h.read in
        let d : Distinct (begins h.steps) = begins_distinct (operation_at big e) (no_operation big e) (operation_less big e) bytes h.steps h.read in
        operations_once One Other nested (begins h.steps) d h.steps xs ys h.are (subst (λ ss. AreOperations answers addresses entries infos e Other (begins ss) ss ys) s k.are)

  within_once : (big : Bool) (m n : ℕ) (bytes : List ℕ) (xs ys : List Node) → OutcomeWithin answers addresses entries infos big e m bytes (Ok xs) → OutcomeWithin answers addresses entries infos big e n bytes (Ok ys) → xs ≡ ys
  within_once big zero n bytes xs ys h k = absurd h
  within_once big (suc m) zero bytes xs ys h k = absurd k
  within_once big (suc m) (suc n) bytes xs ys h k = level_once (OutcomeWithin answers addresses entries infos big e m) (OutcomeWithin answers addresses entries infos big e n) (within_once big m n) big bytes xs ys h k

  -- what an expression becomes
  pub expression_once : (big : Bool) (bytes : List ℕ) (xs ys : List Node) → ExpressionOutcome answers addresses entries infos big e bytes (Ok xs) → ExpressionOutcome answers addresses entries infos big e bytes (Ok ys) → xs ≡ ys
  expression_once big bytes xs ys h k = within_once big h.0 k.0 bytes xs ys h.1 k.1
