-- One table of instructions after the other.
use Rattle.std.proofs.Common.{◌≡◌, ◌∙◌, sym, ap, ap₂, subst, ℕ, List, Option, Some, None, Ok, Err, Result, Bool, refl, arith, ◌+◌, ◌-◌, ◌<◌, length}
use Rattle.dw_base.specs.Numbers.{number_at}
use Rattle.dw_base.specs.declared.constants.DwEhPe.{DwEhPe}
use Rattle.dw_read.specs.Reading.{Reading, IsReading, Passes, Reads, Read, left}
use Rattle.dw_read.specs.Reasons.{◌=>>◌, number_read}
use Rattle.dw_read.specs.Took.{Took, option_of}
use Rattle.dw_read.specs.declared.error.ReadError.{ReadError}
use Rattle.dw_read.specs.declared.error.ReadError.TheVariants.{UnknownCallFrameInstruction}
use Rattle.dw_read.proofs.Laws.{IsReadOf}
use Rattle.dw_read.proofs.Chain.{Went, took, went, went_none, went_then, went_order}
use Rattle.dw_read_frames.specs.Augmentations.{standing}
use Rattle.dw_read_frames.specs.Instructions.{Instruction, place_row, coded_row, frame_row, rule_row, first_of, tried, behind_read, instruction_read, instruction_at}
use Rattle.dw_read_frames.specs.InstructionViews.{instruction_of, HoldsParts}
use Rattle.dw_read_frames.specs.declared.instruction.CallFrameInstruction.{CallFrameInstruction}
use Rattle.dw_read_frames.specs.declared.instruction.CallFrameInstruction.TheVariants as held
use Rattle.dw_read_frames.proofs.Steps.{number_took, place_stands}
use Rattle.dw_read_frames.proofs.BlockLaws.{within_after}

-- what is read behind a code from a place is what further tables read from here on
pub record Still (whole more : Read Instruction) (old now : Reading) : Type 0 where
  pub went : Went old now
  pub same : whole (left old) ≡ more (left now)

abbrev Tried : Type 0
Tried = Result (Option Instruction × List ℕ) ReadError

abbrev ok : Option Instruction → List ℕ → Tried
ok o rest = Ok (o, rest)

abbrev err : ReadError → Tried
err e = Err e

abbrev found : Result (Instruction × List ℕ) ReadError → Tried
found r = r =>> λ x. Ok (Some x.0, x.1)

same_pair : (p q : Option Instruction × List ℕ) → ok p.0 p.1 ≡ ok q.0 q.1 → p ≡ q
same_pair p q h = cc

same_option : (a b : Option Instruction) (x y : List ℕ) → ok a x ≡ ok b y → a ≡ b
same_option a b x y h = let e : (a, x) ≡ (b, y) = same_pair (a, x) (b, y) h in ap (λ (z : Option Instruction × List ℕ). z.0) e

same_rest : (a b : Option Instruction) (x y : List ℕ) → ok a x ≡ ok b y → x ≡ y
same_rest a b x y h = let e : (a, x) ≡ (b, y) = same_pair (a, x) (b, y) h in ap (λ (z : Option Instruction × List ℕ). z.1) e

not_both : (a : Option Instruction) (x : Instruction) → a ≡ None → a ≡ Some x → ⊥
not_both a x h k = absurd (cc)

not_err : (a : Option Instruction) (x : List ℕ) (e : ReadError) → ok a x ≡ err e → ⊥
not_err a x e h = absurd (cc)

none_found : (r : Result (Instruction × List ℕ) ReadError) (rest : List ℕ) → found r ≡ ok None rest → ⊥
none_found (Ok x) rest h = not_both (Some x.0) x.0 (same_option (Some x.0) None x.1 rest h) refl
none_found (Err e) rest h = not_err None rest e (sym h)

some_found : (r : Result (Instruction × List ℕ) ReadError) (x : Instruction) (rest : List ℕ) → found r ≡ ok (Some x) rest → r ≡ Ok (x, rest)
some_found (Ok y) x rest h =
    let e : Some y.0 ≡ Some x = same_option (Some y.0) (Some x) y.1 rest h in
    let d : y.0 ≡ x = cc in
    ap₂ (λ (a : Instruction) (b : List ℕ). Ok (a, b)) d (same_rest (Some y.0) (Some x) y.1 rest h)
some_found (Err e) x rest h = absurd (not_err (Some x) rest e (sym h))

none_read : (r : Result (Instruction × List ℕ) ReadError) (e : ReadError) → found r ≡ err e → r ≡ Err e
none_read (Ok y) e h = absurd (not_err (Some y.0) y.1 e h)
none_read (Err y) e h = let q : err y ≡ err e = h in let d : y ≡ e = cc in ap (λ (z : ReadError). Err z) d

-- what the first of tables reads, by what was tried of it
first_none : (o : Option (Read Instruction)) (more : Read Instruction) (bs rest : List ℕ) → tried o bs ≡ ok None rest → first_of o more bs ≡ more rest
unfolding tried
first_none None more bs rest h = ap more (same_rest None None bs rest h)
first_none (Some p) more bs rest h = absurd (none_found (p bs) rest h)

first_some : (o : Option (Read Instruction)) (more : Read Instruction) (x : Instruction) (bs rest : List ℕ) → tried o bs ≡ ok (Some x) rest → first_of o more bs ≡ Ok (x, rest)
unfolding tried
first_some None more x bs rest h = absurd (not_both None x refl (same_option None (Some x) bs rest h))
first_some (Some p) more x bs rest h = some_found (p bs) x rest h

first_err : (o : Option (Read Instruction)) (more : Read Instruction) (bs : List ℕ) (e : ReadError) → tried o bs ≡ err e → first_of o more bs ≡ Err e
unfolding tried
first_err None more bs e h = absurd (not_err None bs e h)
first_err (Some p) more bs e h = none_read (p bs) e h

module _ (table : Bool → Option (Read Instruction)) (whole more : Read Instruction) (old now : Reading) (still : Still whole (first_of (table old.is_big) more) old now) where
  -- the table in the order of the reader before
  ordered : table now.is_big ≡ table old.is_big
  ordered = ap table (went_order old now still.went)

  pub still_none : (next : Reading) → Took (Option Instruction) (tried (table now.is_big)) now next None → Still whole more old next
  still_none next h = record {
    went = went_then old now next still.went (went (Option Instruction) (tried (table now.is_big)) now next None h);
    same = still.same ∙ first_none (table old.is_big) more (left now) (left next) (ap (λ (o : Option (Read Instruction)). tried o (left now)) (sym ordered) ∙ h.value);
  }

  pub still_some : (next : Reading) (x : Instruction) → Took (Option Instruction) (tried (table now.is_big)) now next (Some x) → Took Instruction whole old next x
  still_some next x h =
      took Instruction whole old next x (went_then old now next still.went (went (Option Instruction) (tried (table now.is_big)) now next (Some x) h))
      (still.same ∙ first_some (table old.is_big) more x (left now) (left next) (ap (λ (o : Option (Read Instruction)). tried o (left now)) (sym ordered) ∙ h.value))

  pub still_err : (e : ReadError) → tried (table now.is_big) (left now) ≡ Err e → whole (left old) ≡ Err e
  still_err e h = still.same ∙ first_err (table old.is_big) more (left now) e (ap (λ (o : Option (Read Instruction)). tried o (left now)) (sym ordered) ∙ h)

-- at the first table
pub still_begun : (size : ℕ) (encoding : DwEhPe) (code : ℕ) (old : Reading) → IsReading old
    → Still (behind_read old.is_big size encoding old.place code) (first_of (place_row old.is_big size encoding old.place code) (first_of (coded_row code) (first_of (frame_row code) (first_of (rule_row code) (λ bytes. Err (UnknownCallFrameInstruction code))))))
    old old
unfolding behind_read
still_begun size encoding code old is = record { went = went_none old is; same = refl }

-- a code and what stands behind it
module _ (size : ℕ) (encoding : DwEhPe) where
  whole_is : (big : Bool) (end code : ℕ) (bs mid : List ℕ) → number_read big 1 bs ≡ Ok (code, mid) → instruction_read big size encoding end bs ≡ behind_read big size encoding (standing end mid) code mid
  unfolding instruction_read
  whole_is big end code bs mid h = rw h refl

  pub no_code : (big : Bool) (end : ℕ) (bs : List ℕ) (y : ReadError) → number_read big 1 bs ≡ Err y → instruction_read big size encoding end bs ≡ Err y
  unfolding instruction_read
  no_code big end bs y h = rw h refl

  module _ (code : ℕ) (old mid : Reading) (read : Reads ℕ (number_at old.is_big 1) old mid code) (is : IsReading mid) where
    known : Took ℕ (number_read old.is_big 1) old mid code
    known = number_took 1 code old mid read

    went_code : Went old mid
    went_code = went ℕ (number_read old.is_big 1) old mid code known

    same_behind : behind_read old.is_big size encoding (standing old.end (left mid)) code (left mid) ≡ behind_read mid.is_big size encoding mid.place code (left mid)
    same_behind = ap₂ (λ (b : Bool) (n : ℕ). behind_read b size encoding n code (left mid)) (sym (went_order old mid went_code)) (sym (place_stands old mid is went_code))

    pub instruction_took : (new : Reading) (x : Instruction) → Took Instruction (behind_read mid.is_big size encoding mid.place code) mid new x → Took Instruction (instruction_read old.is_big size encoding old.end) old new x
    instruction_took new x h =
        took Instruction (instruction_read old.is_big size encoding old.end) old new x (went_then old mid new went_code (went Instruction (behind_read mid.is_big size encoding mid.place code) mid new x h))
        (whole_is old.is_big old.end code (left old) (left mid) known.value ∙ same_behind ∙ h.value)

    pub instruction_not : (y : ReadError) → behind_read mid.is_big size encoding mid.place code (left mid) ≡ Err y → instruction_read old.is_big size encoding old.end (left old) ≡ Err y
    instruction_not y h = whole_is old.is_big old.end code (left old) (left mid) known.value ∙ same_behind ∙ h

pub holds_after : {R E : Type 0} (reading : R → Reading) (old mid : Reading) (o : CallFrameInstruction R E) → Went old mid → HoldsParts reading mid o → HoldsParts reading old o
holds_after reading old mid (held.DefCfaExpression x) w h = within_after old mid (reading x.0) w h
holds_after reading old mid (held.Expression r x) w h = within_after old mid (reading x.0) w h
holds_after reading old mid (held.ValExpression r x) w h = within_after old mid (reading x.0) w h
holds_after reading old mid o w h = tt

-- a place behind a byte that was passed
pub beyond : (n m : ℕ) (old mid new : Reading) → Passes n old mid → Passes m mid new → 0 < n → old.place < new.place
beyond n m old mid new h k l =
    let d : mid.place ≡ old.place + n = ap (λ (r : Reading). r.place) h.is in
    let e : new.place ≡ mid.place + m = ap (λ (r : Reading). r.place) k.is in
    omega arith

pub instruction_law : (big : Bool) (size : ℕ) (encoding : DwEhPe) (end : ℕ) → IsReadOf Instruction (instruction_at big size encoding end) (instruction_read big size encoding end)
unfolding instruction_at
instruction_law big size encoding end bytes = refl
