-- The line machine shows a row for the instructions that are written for it.
use Rattle.std.proofs.Common.{◌≡◌, ◌∙◌, sym, ap, ap₂, ℕ, ◌+◌, ◌-◌, ◌*◌, ◌/◌, ◌<◌, Bool, true, false, not, ◌==◌, List, [], ◌∷◌, ◌++◌, Option, Some, None, pos, ◌+ℤ◌, refl, arith, append_assoc}
use Rattle.std.proofs.Math.Nat.{mul-div_cancel_left}
use Rattle.std.proofs.Math.IntN.{+ℤ_comm, -ℤ-+ℤ_cancel}
use Rattle.std.proofs.lemmas.Bool.Decides.{nat_tests}
use Rattle.std.specs.Bool.{beq}
use Rattle.dw_base.specs.Numbers.{◌>>=◌}
use Rattle.dw_base.specs.LineMachine.{LineHeader, Registers, Instruction, Copy, AdvancePc, AdvanceLine, SetFile, SetColumn, NegateStatement, SetBasicBlock, SetPrologueEnd, SetEpilogueBegin, SetIsa, SetDiscriminator, Row, cleared, put_line, changed, shows, leaves, run}
use Rattle.dw_line.specs.RawRows.{RawRow, given, line_change, advance, row_instructions, registers_of, IsReached, IsRowAfter}

bind_none_more : {A : Type 0} (x : Option A) → ◌>>=◌ {B = A} x (λ more. Some more) ≡ x
bind_none_more None = refl
bind_none_more (Some v) = refl

-- an instruction that shows nothing takes the registers from r to s
pub record IsQuiet (h : LineHeader) (i : Instruction) (r s : Registers) : Type 0 where
  pub changes : changed h i r ≡ Some s
  pub hides : shows i s ≡ []
  pub keeps : leaves h i s ≡ s

pub quiet : {h : LineHeader} {i : Instruction} {r s : Registers} (more : List Instruction) → IsQuiet h i r s → run h (i ∷ more) r ≡ run h more s
unfolding run
quiet {h} {i} {r} {s} more q =
    ap (λ x. x >>= λ t. run h more (leaves h i t) >>= λ rows. Some (shows i t ++ rows)) q.changes
    ∙ ap₂ (λ a b. run h more a >>= λ rows. Some (b ++ rows)) q.keeps q.hides
    ∙ bind_none_more (run h more s)

-- one that is given where it is needed
given_step : {h : LineHeader} {r s : Registers} (b : Bool) (i : Instruction) (more : List Instruction) → (b ≡ true → IsQuiet h i r s) → (b ≡ false → r ≡ s) → run h (given b i ++ more) r ≡ run h more s
given_step {h} {r} {s} true i more q e = quiet more (q refl)
given_step {h} {r} {s} false i more q e = ap (run h more) (e refl)

same_number : (a b : ℕ) → not (a == b) ≡ false → a ≡ b
same_number a b e = grind (arith, nat_tests)

put_discriminator : (h : LineHeader) (r : Registers) (n : ℕ) (more : List Instruction) → r.discriminator ≡ 0 → run h (given (not (n == 0)) (SetDiscriminator n) ++ more) r ≡ run h more (record r { discriminator = n })
unfolding changed shows leaves
put_discriminator h r n more e =
    given_step (not (n == 0)) (SetDiscriminator n) more (λ _. record { changes = refl; hides = refl; keeps = refl })
    (λ f. ap (λ k. record r { discriminator = k }) (e ∙ sym (same_number n 0 f)))

put_basic_block : (h : LineHeader) (r : Registers) (b : Bool) (more : List Instruction) → r.basic_block ≡ false → run h (given b SetBasicBlock ++ more) r ≡ run h more (record r { basic_block = b })
unfolding changed shows leaves
put_basic_block h r true more e = quiet more (record { changes = refl; hides = refl; keeps = refl })
put_basic_block h r false more e = ap (λ k. run h more (record r { basic_block = k })) e

put_prologue_end : (h : LineHeader) (r : Registers) (b : Bool) (more : List Instruction) → r.prologue_end ≡ false → run h (given b SetPrologueEnd ++ more) r ≡ run h more (record r { prologue_end = b })
unfolding changed shows leaves
put_prologue_end h r true more e = quiet more (record { changes = refl; hides = refl; keeps = refl })
put_prologue_end h r false more e = ap (λ k. run h more (record r { prologue_end = k })) e

put_epilogue_begin : (h : LineHeader) (r : Registers) (b : Bool) (more : List Instruction) → r.epilogue_begin ≡ false → run h (given b SetEpilogueBegin ++ more) r ≡ run h more (record r { epilogue_begin = b })
unfolding changed shows leaves
put_epilogue_begin h r true more e = quiet more (record { changes = refl; hides = refl; keeps = refl })
put_epilogue_begin h r false more e = ap (λ k. run h more (record r { epilogue_begin = k })) e

other_statement : (a b : Bool) → not (beq b a) ≡ true → not a ≡ b
other_statement true false e = refl
other_statement false true e = refl
other_statement true true e = cc
other_statement false false e = cc

same_statement : (a b : Bool) → not (beq b a) ≡ false → a ≡ b
same_statement true true e = refl
same_statement false false e = refl
same_statement true false e = cc
same_statement false true e = cc

put_statement : (h : LineHeader) (r : Registers) (b : Bool) (more : List Instruction) → run h (given (not (beq b r.is_statement)) NegateStatement ++ more) r ≡ run h more (record r { is_statement = b })
unfolding changed shows leaves
put_statement h r b more =
    given_step (not (beq b r.is_statement)) NegateStatement more
    (λ t. record { changes = ap (λ k. Some (record r { is_statement = k })) (other_statement r.is_statement b t); hides = refl; keeps = refl })
    (λ f. ap (λ k. record r { is_statement = k }) (same_statement r.is_statement b f))

put_file : (h : LineHeader) (r : Registers) (n : ℕ) (more : List Instruction) → run h (given (not (n == r.file)) (SetFile n) ++ more) r ≡ run h more (record r { file = n })
unfolding changed shows leaves
put_file h r n more =
    given_step (not (n == r.file)) (SetFile n) more (λ _. record { changes = refl; hides = refl; keeps = refl })
    (λ f. ap (λ k. record r { file = k }) (sym (same_number n r.file f)))

put_column : (h : LineHeader) (r : Registers) (n : ℕ) (more : List Instruction) → run h (given (not (n == r.column)) (SetColumn n) ++ more) r ≡ run h more (record r { column = n })
unfolding changed shows leaves
put_column h r n more =
    given_step (not (n == r.column)) (SetColumn n) more (λ _. record { changes = refl; hides = refl; keeps = refl })
    (λ f. ap (λ k. record r { column = k }) (sym (same_number n r.column f)))

put_isa : (h : LineHeader) (r : Registers) (n : ℕ) (more : List Instruction) → run h (given (not (n == r.isa)) (SetIsa n) ++ more) r ≡ run h more (record r { isa = n })
unfolding changed shows leaves
put_isa h r n more =
    given_step (not (n == r.isa)) (SetIsa n) more (λ _. record { changes = refl; hides = refl; keeps = refl })
    (λ f. ap (λ k. record r { isa = k }) (sym (same_number n r.isa f)))

line_changed : (a b : ℕ) → pos a +ℤ line_change a b ≡ pos b
line_changed a b = +ℤ_comm (pos a) (line_change a b) ∙ -ℤ-+ℤ_cancel (pos b) (pos a)

put_changed_line : (h : LineHeader) (r : Registers) (n : ℕ) (more : List Instruction) → run h (given (not (n == r.line)) (AdvanceLine (line_change r.line n)) ++ more) r ≡ run h more (record r { line = n })
unfolding changed shows leaves
put_changed_line h r n more =
    given_step (not (n == r.line)) (AdvanceLine (line_change r.line n)) more
    (λ _. record { changes = ap (put_line r) (line_changed r.line n); hides = refl; keeps = refl })
    (λ f. ap (λ k. record r { line = k }) (sym (same_number n r.line f)))

counted : (m a b k : ℕ) → 0 < m → b ≡ a + m * k → m * ((b - a) / m) ≡ b - a
counted m a b k h e =
    let d : b - a ≡ m * k = omega (arith, e) in
    let q : (b - a) / m ≡ k = ap (λ x. x / m) d ∙ mul-div_cancel_left k h in
    ap (λ x. m * x) q ∙ sym d

pub put_address : (h : LineHeader) (r : Registers) (base a b : ℕ) (more : List Instruction) → 0 < h.minimum_length → IsReached h a b → r.address ≡ base + a → run h (advance h a b ++ more) r ≡ run h more (record r { address = base + b })
unfolding changed shows leaves
put_address h r base a b more positive reached e =
    let c = counted h.minimum_length a b reached.count positive reached.is in
    given_step (not (b == a)) (AdvancePc ((b - a) / h.minimum_length)) more
    (λ _. record { changes = ap (λ k. Some (record r { address = k })) (omega (arith, c, e, reached.is)); hides = refl; keeps = refl })
    (λ f. ap (λ k. record r { address = k }) (omega (arith, e, same_number b a f)))

copied : (h : LineHeader) (r : Registers) (more : List Instruction) → run h (Copy ∷ more) r ≡ (run h more (cleared r) >>= λ rows. Some (Row r ∷ rows))
unfolding run changed shows leaves
copied h r more = refl

pub row-shown : (h : LineHeader) (base : ℕ) (old new : RawRow) (more : List Instruction) → 0 < h.minimum_length → IsRowAfter h old new →
    run h (row_instructions h old new ++ more) (cleared (registers_of base old)) ≡ (run h more (cleared (registers_of base new)) >>= λ rows. Some (Row (registers_of base new) ∷ rows))
row-shown h base old new more positive after =
    let r0 : Registers = cleared (registers_of base old) in
    let r1 : Registers = record r0 { discriminator = new.discriminator } in
    let r2 : Registers = record r1 { basic_block = new.basic_block } in
    let r3 : Registers = record r2 { prologue_end = new.prologue_end } in
    let r4 : Registers = record r3 { epilogue_begin = new.epilogue_begin } in
    let r5 : Registers = record r4 { is_statement = new.is_statement } in
    let r6 : Registers = record r5 { file = new.file } in
    let r7 : Registers = record r6 { column = new.column } in
    let r8 : Registers = record r7 { isa = new.isa } in
    let r9 : Registers = record r8 { line = new.line } in
    let regrouped : row_instructions h old new ++ more ≡
    given (not (new.discriminator == 0)) (SetDiscriminator new.discriminator)
    ++ (given new.basic_block SetBasicBlock
    ++ (given new.prologue_end SetPrologueEnd
    ++ (given new.epilogue_begin SetEpilogueBegin
    ++ (given (not (beq new.is_statement old.is_statement)) NegateStatement
    ++ (given (not (new.file == old.file)) (SetFile new.file)
    ++ (given (not (new.column == old.column)) (SetColumn new.column)
    ++ (given (not (new.isa == old.isa)) (SetIsa new.isa)
    ++ (given (not (new.line == old.line)) (AdvanceLine (line_change old.line new.line))
    ++ (advance h old.address_offset new.address_offset
    ++ Copy ∷ more))))))))) = simp append_assoc in
    ap (λ is. run h is r0) regrouped
    ∙ put_discriminator h r0 new.discriminator _ refl
    ∙ put_basic_block h r1 new.basic_block _ refl
    ∙ put_prologue_end h r2 new.prologue_end _ refl
    ∙ put_epilogue_begin h r3 new.epilogue_begin _ refl
    ∙ put_statement h r4 new.is_statement _
    ∙ put_file h r5 new.file _
    ∙ put_column h r6 new.column _
    ∙ put_isa h r7 new.isa _
    ∙ put_changed_line h r8 new.line _
    ∙ put_address h r9 base old.address_offset new.address_offset _ positive after.reached refl
    ∙ copied h (registers_of base new) more
