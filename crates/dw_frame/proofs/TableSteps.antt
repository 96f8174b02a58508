-- What writes of FDEs, one after another, come to.
use Rattle.std.specs.Prelude.{◌≡◌, ℕ, zero, suc, ◌+◌, ◌<◌, ◌≤◌, ◌==◌, ◌&&◌, Bool, true, false, nat_lt, List, [], ◌∷◌, length, get_or, Option, Some, None, IfSome, slice_get, ◌++◌, Result, Ok, Err, OnOk, OnErr, IfOk, refl, IsTrue, if◌then◌else◌}
use Rattle.std.proofs.Common.{sym, ap, subst, arith, length-append, ◌∙◌}
use Rattle.std.proofs.lemmas.Bool.{and_parts, ltb-true, lt-ltb}
use Rattle.dw_base.specs.declared.error.Error.{Error}
use Rattle.dw_base.specs.declared.ids.CieId.{CieId}
use Rattle.dw_expr.specs.Places.{Refused}
use Rattle.dw_writer.specs.Meaning.{Meaning}
use Rattle.dw_frame.specs.declared.cie.CommonInformationEntry.{CommonInformationEntry}
use Rattle.dw_frame.specs.declared.fde.FrameDescriptionEntry.{FrameDescriptionEntry}
use Rattle.dw_frame.specs.declared.kind.FrameKind.{FrameKind}
use Rattle.dw_frame.specs.ReadCies.{IsRangedCie}
use Rattle.dw_frame.specs.Reading.{at_zero, IsRanged, IsWide, IsTold}
use Rattle.dw_frame.specs.Parts.{Placed, Puts}
use Rattle.dw_frame.specs.Fdes.{fde_part}
use Rattle.dw_frame.specs.Tables.{Places, no_places, with_place, place_at, new_cie, fde_of, frame}
use Rattle.dw_frame.specs.Owners.{have_cies}
use Rattle.dw_frame.proofs.PartSteps.{Puts-then, Puts-first}
use Rattle.dw_frame.specs.Places.{AreBefore}

pub got_at : {A : Type 0} (xs : List A) (i : ℕ) (x : A) → i < length xs → x ≡ get_or xs i x → slice_get xs i ≡ Some x
got_at [] i x h e = absurd (omega (arith, h))
got_at (y ∷ ys) zero x h e = ap Some (sym e)
got_at (y ∷ ys) (suc i) x h e = got_at ys i x (omega (arith, h)) e

-- a CIE's place lies before what is written behind it
pub place_before : (o : Option ℕ) (m n : ℕ) → IfSome o (λ p. p ≤ m) → m ≤ n → place_at o m ≤ n
place_before None m n h le = le
place_before (Some p) m n h le = omega (arith, h, le)

some_before : (o : Option ℕ) (m n : ℕ) → IfSome o (λ p. p ≤ m) → m ≤ n → IfSome o (λ p. p ≤ n)
some_before None m n h le = tt
some_before (Some p) m n h le = omega (arith, h, le)

either_before : (b : Bool) (o : Option ℕ) (p m n : ℕ) → IfSome o (λ q. q ≤ m) → p ≤ n → m ≤ n → IfSome (if b then Some p else o) (λ q. q ≤ n)
either_before true o p m n h k le = k
either_before false o p m n h k le = some_before o m n h le

pub before_more : (places : Places) (i p m n : ℕ) → AreBefore places m → p ≤ n → m ≤ n → AreBefore (with_place i p places) n
before_more places i p m n h k le j = either_before (j == i) (places j) p m n (h j) k le

pub none_before : (n : ℕ) → AreBefore no_places n
none_before n i = tt

-- Writes

pub written_size : {T : Type 0} (r : Result T Error) (a b : Meaning) (p : Placed) → Puts r a b p → OnOk r (b.size ≡ a.size + (p a.size).piece.size)
written_size (Ok x) a b p h = h.0.size
written_size (Err e) a b p h = tt

module _ (kind : FrameKind) (cies : List CommonInformationEntry) (places : Places) (x : CieId × FrameDescriptionEntry) (c : CommonInformationEntry) where
  -- an FDE behind its CIE
  pub frame_puts : {T : Type 0} (r : Result T Error) (a b z : Meaning) (at : ℕ) → slice_get cies x.0.0 ≡ Some c → at ≡ place_at (places x.0.0) a.size →
      Puts {T = Unit {0}} (Ok tt) a b (new_cie kind (places x.0.0) (Some c)) → Puts r b z (fde_part kind at c x.1) → Puts r a z (frame kind cies places x)
  frame_puts r a b z at got is h k =
      let first = subst (λ o. Puts {T = Unit {0}} (Ok tt) a b (new_cie kind (places x.0.0) o)) (sym got) h in
      let second : Puts r b z (fde_of kind at (slice_get cies x.0.0) x.1) = subst (λ o. Puts r b z (fde_of kind at o x.1)) (sym got) k in
      let third = subst (λ n. Puts r b z (fde_of kind n (slice_get cies x.0.0) x.1)) is second in
      Puts-then r a b z (new_cie kind (places x.0.0) (slice_get cies x.0.0)) (fde_of kind (place_at (places x.0.0) a.size) (slice_get cies x.0.0) x.1) first third

  -- its CIE is refused
  pub frame_refused : (a b : Meaning) → slice_get cies x.0.0 ≡ Some c → (e : Error) → Refused a b ((new_cie kind (places x.0.0) (Some c) a.size).fails a.is_plain) e → Puts {T = Unit {0}} (Err e) a b (frame kind cies places x)
  frame_refused a b got e h =
      let first = subst (λ o. Puts {T = Unit {0}} (Err e) a b (new_cie kind (places x.0.0) o)) (sym got) h in
      Puts-first (Unit {0}) a b (new_cie kind (places x.0.0) (slice_get cies x.0.0)) (fde_of kind (place_at (places x.0.0) a.size) (slice_get cies x.0.0) x.1) e first

-- The table's invariant

some_more : (a b : Bool) → IsTrue a → IsTrue b → IsTrue (a && b)
some_more true true h k = refl
some_more true false h k = k
some_more false b h k = h

pub have_more : (m n : ℕ) (xs : List (CieId × FrameDescriptionEntry)) → m ≤ n → IsTrue (have_cies m xs) → IsTrue (have_cies n xs)
have_more m n [] le h = refl
have_more m n (x ∷ xs) le h =
    let p = and_parts (nat_lt x.0.0 m) (have_cies m xs) h in
    some_more (nat_lt x.0.0 n) (have_cies n xs) (lt-ltb x.0.0 n (omega (arith, ltb-true x.0.0 m p.0, le))) (have_more m n xs le p.1)

-- a table of CIEs that took one or none
pub grown : {T E : Type 0} (r : Result T E) (old new : List CommonInformationEntry) (k : CommonInformationEntry) (b : Bool) → IfOk r (λ x. new ≡ (if b then old else old ++ k ∷ [])) → OnErr r (new ≡ old) → length old ≤ length new
grown (Ok x) old new k true h e = omega (arith, ap length h)
grown (Ok x) old new k false h e = omega (arith, ap length h, length-append old (k ∷ []))
grown (Err x) old new k b h e = omega (arith, ap length e)

-- What is told beside a text

pub OnOk-always : {T E P : Type 0} (r : Result T E) → P → OnOk r P
OnOk-always (Ok x) p = p
OnOk-always (Err e) p = tt

pub frame_told : {T : Type 0} (r : Result T Error) (a b z : Meaning) (kind : FrameKind) (cies : List CommonInformationEntry) (places : Places) (x : CieId × FrameDescriptionEntry) (c : CommonInformationEntry) (at : ℕ) →
    slice_get cies x.0.0 ≡ Some c → at ≡ place_at (places x.0.0) a.size → Puts {T = Unit {0}} (Ok tt) a b (new_cie kind (places x.0.0) (Some c)) → Puts r b z (fde_part kind at c x.1) → OnOk r (IsRanged x.1) → IsRangedCie c →
    OnOk r (IsTold kind cies places x a.size)
frame_told (Ok y) a b z kind cies places x c at got is h k ranged own =
    let first = subst (λ o. Puts {T = Unit {0}} (Ok tt) a b (new_cie kind (places x.0.0) o)) (sym got) h in
    let second : Puts {T = Unit {0}} (Ok tt) b z (fde_of kind at (slice_get cies x.0.0) x.1) = subst (λ o. Puts {T = Unit {0}} (Ok tt) b z (fde_of kind at o x.1)) (sym got) k in
    let third = subst (λ n. Puts {T = Unit {0}} (Ok tt) b z (fde_of kind n (slice_get cies x.0.0) x.1)) is second in
    let behind : b.size ≡ a.size + (new_cie kind (places x.0.0) (slice_get cies x.0.0) a.size).piece.size = first.0.size in
    record {
      cie = λ big. first.0.wide big at_zero;
      fde = subst (λ n. IsWide (fde_of kind (place_at (places x.0.0) a.size) (slice_get cies x.0.0) x.1 n)) behind (λ big. third.0.wide big at_zero);
      ranged = ranged;
      own = λ d g. let same : c ≡ d = let f : Some c ≡ Some d = sym got ∙ g in cc in subst IsRangedCie same own;
    }
frame_told (Err e) a b z kind cies places x c at got is h k ranged own = tt

-- an FDE of such a list has its CIE among so many
pub has_cie : (n : ℕ) (xs : List (CieId × FrameDescriptionEntry)) (i : ℕ) (x : CieId × FrameDescriptionEntry) → IsTrue (have_cies n xs) → i < length xs → x ≡ get_or xs i x → x.0.0 < n
has_cie n [] i x h below e = absurd (omega (arith, below))
has_cie n (y ∷ ys) zero x h below e =
    let p = and_parts (nat_lt y.0.0 n) (have_cies n ys) h in
    subst (λ (z : CieId × FrameDescriptionEntry). z.0.0 < n) (sym e) (ltb-true y.0.0 n p.0)
has_cie n (y ∷ ys) (suc i) x h below e = has_cie n ys i x (and_parts (nat_lt y.0.0 n) (have_cies n ys) h).1 (omega (arith, below)) e
