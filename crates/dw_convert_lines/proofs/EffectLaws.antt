-- What instructions show and leave, by what they do besides changing registers.
use Rattle.std.proofs.Common.{◌≡◌, ◌∙◌, sym, ap, subst, inr, ◌⊎◌, ℕ, Bool, true, false, List, [], ◌∷◌, Option, Some, None, refl, IsSome}
use Rattle.std.specs.Prelude.{if◌then◌else◌}
use Rattle.dw_base.specs.declared.address.Address.{Address}
use Rattle.dw_base.specs.declared.ids.FileId.{FileId}
use Rattle.dw_base.specs.LineMachine.{LineHeader, Registers, Instruction, Copy, Special, EndSequence, SetAddress, Shown, Row, End, begin, cleared, changed, shows, leaves}
use Rattle.dw_line.specs.LinePrograms.{LineProgramValue, is_in_sequence}
use Rattle.dw_line.specs.ProgramTexts.{ProgramValue}
use Rattle.dw_sources.specs.declared.convert_error.ConvertError.{ConvertError}
use Rattle.dw_convert_lines.specs.declared.machine.Effect.TheVariants.{Nothing, SetsAddress, ShowsRow, EndsSequence}
use Rattle.dw_convert_lines.specs.Effects.{effect_of}
use Rattle.dw_convert_lines.specs.ReadRows.{stepped, shows_row, set_by, base_behind}
use Rattle.dw_convert_lines.specs.RowOutcomes.{RefusesBegin, AddsRow, RefusesRow, AddsEnd, RefusesEnd, AddsShown, RefusesShown, Follows, RefusesInstruction, Changes, Refuses}
use Rattle.dw_convert_lines.proofs.ReadingLaws.{changed_by}
use Rattle.dw_convert_lines.proofs.SequenceLaws.{there_is}

pub record IsRow (h : LineHeader) (i : Instruction) (s : Registers) : Type 0 where
  pub shown : shows i s ≡ Row s ∷ []
  pub left : leaves h i s ≡ cleared s
  pub base : (b : Bool) (x : Option ℕ) → base_behind b i x ≡ x
  pub unset : (x : Option ℕ) → set_by i x ≡ x
  pub row : shows_row i ≡ true

pub row_by : (h : LineHeader) (i : Instruction) (s : Registers) → effect_of i ≡ ShowsRow → IsRow h i s
unfolding shows leaves
row_by h Copy s e = record { shown = refl; left = refl; base = λ b x. same b x; unset = λ x. refl; row = refl } where
  same : (b : Bool) (x : Option ℕ) → base_behind b Copy x ≡ x
  same true x = refl
  same false x = refl
row_by h (Special n) s e = record { shown = refl; left = refl; base = λ b x. same b x; unset = λ x. refl; row = refl } where
  same : (b : Bool) (x : Option ℕ) → base_behind b (Special n) x ≡ x
  same true x = refl
  same false x = refl
row_by h i s e = absurd (cc)

pub end_by : (i : Instruction) → effect_of i ≡ EndsSequence → i ≡ EndSequence
end_by EndSequence e = refl
end_by i e = absurd (cc)

pub record IsQuiet (h : LineHeader) (i : Instruction) (s : Registers) : Type 0 where
  pub shown : shows i s ≡ []
  pub left : leaves h i s ≡ s
  pub base : (b : Bool) (x : Option ℕ) → base_behind b i x ≡ (if b then x else set_by i x)
  pub none : shows_row i ≡ false

pub address_by : (i : Instruction) → effect_of i ≡ SetsAddress → (w : ℕ) × (n : ℕ) × (i ≡ SetAddress w n)
address_by (SetAddress w n) e = (w, n, refl)
address_by i e = absurd (cc)

pub quiet_address : (h : LineHeader) (w n : ℕ) (s : Registers) → IsQuiet h (SetAddress w n) s
unfolding shows leaves
quiet_address h w n s = record { shown = refl; left = refl; base = λ b x. same b x; none = refl } where
  same : (b : Bool) (x : Option ℕ) → base_behind b (SetAddress w n) x ≡ (if b then x else Some n)
  same true x = refl
  same false x = refl

same_base : (x : Option ℕ) (b : Bool) → (if b then x else x) ≡ x
same_base x true = refl
same_base x false = refl

pub record IsNothing (h : LineHeader) (i : Instruction) (s : Registers) : Type 0 where
  pub quiet : IsQuiet h i s
  pub unset : (x : Option ℕ) → set_by i x ≡ x

pub nothing_by : (h : LineHeader) (i : Instruction) (s : Registers) → effect_of i ≡ Nothing → IsNothing h i s
unfolding shows leaves
nothing_by h Copy s e = absurd (cc)
nothing_by h (Special n) s e = absurd (cc)
nothing_by h EndSequence s e = absurd (cc)
nothing_by h (SetAddress w n) s e = absurd (cc)
nothing_by h i s e = record { quiet = record { shown = refl; left = refl; base = λ b x. by b x; none = refl }; unset = λ x. refl } where
  by : (b : Bool) (x : Option ℕ) → base_behind b i x ≡ (if b then x else set_by i x)
  by true x = refl
  by false x = refl

-- what a step was for the program
module _ (h : LineHeader) (version : ℕ) (ids : List FileId) (answers : ℕ → Option Address → Type 0) (i : Instruction) (r s : Registers) (base : Option ℕ) (step : stepped h i r ≡ Some s) where
  abbrev pub FollowsTo : Registers → Option ℕ → ProgramValue → ProgramValue → Type 0
  FollowsTo left behind p q = Follows h version ids answers i r base p left behind q

  abbrev pub RefusesTo : ConvertError → ProgramValue → Type 0
  RefusesTo e p = RefusesInstruction h version ids answers i r base p e

  pub row_followed : (v w : LineProgramValue) (left : Registers) → effect_of i ≡ ShowsRow → Changes (AddsRow answers base version ids s) v w → left ≡ cleared s → Changes (FollowsTo left base) v w
  row_followed v w left e c k =
      let q = row_by h i s e in
      record {
        before = c.before;
        was = c.was;
        after = c.after;
        is = c.is;
        does = record {
          registers = s;
          step = step;
          leaves_them = k ∙ sym q.left;
          base_is = sym (q.base c.before.in_sequence base);
          adds = subst (λ (xs : List Shown). AddsShown answers base version ids c.before c.after xs) (sym q.shown) c.does;
        };
      }

  pub row_refused : (v : LineProgramValue) (e : ConvertError) → effect_of i ≡ ShowsRow → Refuses (λ (p : ProgramValue). RefusesBegin answers base p e ⊎ RefusesRow answers base version ids s p e) v → Refuses (RefusesTo e) v
  row_refused v e k c = record {
    before = c.before;
    was = c.was;
    fails = inr (record { registers = s; step = step; refused = subst (λ (xs : List Shown). RefusesShown answers base version ids c.before e xs) (sym (row_by h i s k).shown) c.fails });
  }

  -- an end leaves the registers as they are
  at_end : i ≡ EndSequence → (shows i s ≡ End s.address ∷ []) × (leaves h i s ≡ begin h)
  unfolding shows leaves
  at_end e = rw e (refl, refl)

  pub end_followed : (v w : LineProgramValue) (left : Registers) → effect_of i ≡ EndsSequence → Changes (AddsEnd answers base s.address) v w → left ≡ begin h → Changes (FollowsTo left None) v w
  end_followed v w left e c k =
      let q = at_end (end_by i e) in
      record {
        before = c.before;
        was = c.was;
        after = c.after;
        is = c.is;
        does = record {
          registers = s;
          step = step;
          leaves_them = k ∙ sym q.1;
          base_is = none_behind (end_by i e) c.before.in_sequence;
          adds = subst (λ (xs : List Shown). AddsShown answers base version ids c.before c.after xs) (sym q.0) c.does;
        };
      } where
        none_behind : i ≡ EndSequence → (b : Bool) → None ≡ base_behind b i base
        none_behind k true = rw k refl
        none_behind k false = rw k refl

  pub end_refused : (v : LineProgramValue) (e : ConvertError) → effect_of i ≡ EndsSequence → Refuses (λ (p : ProgramValue). RefusesBegin answers base p e ⊎ RefusesEnd answers base s.address p e) v → Refuses (RefusesTo e) v
  end_refused v e k c = record {
    before = c.before;
    was = c.was;
    fails = inr (record { registers = s; step = step; refused = subst (λ (xs : List Shown). RefusesShown answers base version ids c.before e xs) (sym (at_end (end_by i k)).0) c.fails });
  }

  -- one that shows nothing
  quiet_followed : (v : LineProgramValue) (behind : Option ℕ) → IsQuiet h i s → (p : ProgramValue) → v.program ≡ Some p → behind ≡ (if p.in_sequence then base else set_by i base) → Changes (FollowsTo s behind) v v
  quiet_followed v behind q p is b = record {
    before = p;
    was = is;
    after = p;
    is = is;
    does = record {
      registers = s;
      step = step;
      leaves_them = sym q.left;
      base_is = b ∙ sym (q.base p.in_sequence base);
      adds = subst (λ (xs : List Shown). AddsShown answers base version ids p p xs) (sym q.shown) refl;
    };
  }

  pub nothing_followed : (v : LineProgramValue) → effect_of i ≡ Nothing → IsSome v.program → Changes (FollowsTo s base) v v
  nothing_followed v e there =
      let q = nothing_by h i s e in
      let p = there_is v.program there in
      quiet_followed v base q.quiet p.0 p.1 (sym (ap (λ (x : Option ℕ). if p.0.in_sequence then base else x) (q.unset base) ∙ same_base base p.0.in_sequence))

  -- the address that is set
  set_to : (w n : ℕ) → i ≡ SetAddress w n → s.address ≡ n
  unfolding changed
  set_to w n e =
      let k : changed h (SetAddress w n) r ≡ Some s = subst (λ (j : Instruction). changed h j r ≡ Some s) e (changed_by h i r s step) in
      let l : record r { address = n } ≡ s = cc in
      sym (ap (λ (x : Registers). x.address) l)

  pub address_followed : (v : LineProgramValue) (behind : Option ℕ) → effect_of i ≡ SetsAddress → IsSome v.program → behind ≡ (if is_in_sequence v.program then base else Some s.address) → Changes (FollowsTo s behind) v v
  address_followed v behind e there b =
      let a = address_by i e in
      let p = there_is v.program there in
      let set : Some s.address ≡ set_by i base = ap (λ (n : ℕ). Some n) (set_to a.0 a.1 a.2) ∙ sym (ap (λ (j : Instruction). set_by j base) a.2) in
      quiet_followed v behind (subst (λ (j : Instruction). IsQuiet h j s) (sym a.2) (quiet_address h a.0 a.1 s)) p.0 p.1
      (b ∙ ap (λ (o : Option ProgramValue). if is_in_sequence o then base else Some s.address) p.1 ∙ ap (λ (x : Option ℕ). if p.0.in_sequence then base else x) set)
