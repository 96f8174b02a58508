-- The line machine shows exactly the rows of the sequences whose bytes it reads.
use Rattle.std.proofs.Common.{◌≡◌, ◌∙◌, sym, ap, subst, ℕ, ◌-◌, ◌/◌, ◌<◌, ◌⊎◌, Bool, true, false, not, ◌==◌, List, [], ◌∷◌, ◌++◌, Option, Some, None, refl, arith, IsSome, All, append_assoc, append-nil, add-zero, inl, inr}
use Rattle.std.specs.List.{flat_map}
use Rattle.std.proofs.Math.Nat.{div-le_self}
use Rattle.std.proofs.lemmas.List.Elements.{All-nil, All-cons, All-append}
use Rattle.dw_base.specs.Numbers.{◌>>=◌}
use Rattle.dw_base.proofs.NumberLaws.{bind_is}
use Rattle.dw_base.specs.LineMachine.{LineHeader, Registers, Instruction, Copy, AdvancePc, AdvanceLine, SetFile, SetColumn, NegateStatement, SetBasicBlock, SetPrologueEnd, SetEpilogueBegin, SetIsa, EndSequence, SetAddress, SetDiscriminator, Shown, Row, End, begin, cleared, changed, shows, leaves, run}
use Rattle.dw_base.specs.Instructions.{IsSpellable, IsWrittenHeader, rows_of}
use Rattle.dw_line.specs.RawRows.{RawRow, Sequence, first_row, given, line_change, advance, row_instructions, rows_instructions, address_instructions, sequence_instructions, sequences_bytes, base_of, registers_of, shown_rows, shown_sequence, IsReached, IsRowAfter, AreRowsAfter, IsAddress, IsSequence, AreSequences}
use Rattle.dw_line.proofs.InstructionLaws.{program-again}
use Rattle.dw_line.proofs.RowLaws.{quiet, put_address, row-shown}

-- what is shown first, and then more
bind_shown : (x : Option (List Shown)) (one : Shown) (rows : List Shown) → (x >>= λ rest. Some (rows ++ rest)) >>= (λ more. Some (one ∷ more)) ≡ (x >>= λ rest. Some (one ∷ rows ++ rest))
bind_shown None one rows = refl
bind_shown (Some v) one rows = refl

bind_two : (x : Option (List Shown)) (a b : List Shown) → (x >>= λ rest. Some (b ++ rest)) >>= (λ more. Some (a ++ more)) ≡ (x >>= λ rest. Some ((a ++ b) ++ rest))
bind_two None a b = refl
bind_two (Some v) a b = ap Some (sym (append_assoc a b v))

ended : (h : LineHeader) (r : Registers) (more : List Instruction) → run h (EndSequence ∷ more) r ≡ (run h more (begin h) >>= λ rest. Some (End r.address ∷ rest))
unfolding run changed shows leaves
ended h r more = refl

-- an ended sequence from a row on
rows-ended : (h : LineHeader) (base : ℕ) (old : RawRow) (rows : List RawRow) (end : ℕ) (more : List Instruction) → 0 < h.minimum_length → AreRowsAfter h old rows (Some end) →
    run h (rows_instructions h old rows (Some end) ++ more) (cleared (registers_of base old)) ≡ (run h more (begin h) >>= λ rest. Some (shown_rows base rows (Some end) ++ rest))
rows-ended h base old [] end more positive after =
    ap (λ is. run h is (cleared (registers_of base old))) (append_assoc (advance h old.address_offset end) (EndSequence ∷ []) more)
    ∙ put_address h (cleared (registers_of base old)) base old.address_offset end (EndSequence ∷ more) positive after refl
    ∙ ended h _ more
rows-ended h base old (r ∷ rows) end more positive after =
    ap (λ is. run h is (cleared (registers_of base old))) (append_assoc (row_instructions h old r) (rows_instructions h r rows (Some end)) more)
    ∙ row-shown h base old r _ positive after.0
    ∙ ap (λ x. x >>= λ rest. Some (Row (registers_of base r) ∷ rest)) (rows-ended h base r rows end more positive after.1)
    ∙ bind_shown (run h more (begin h)) (Row (registers_of base r)) (shown_rows base rows (Some end))

nothing : (h : LineHeader) (r : Registers) → run h [] r ≡ Some []
unfolding run
nothing h r = refl

-- a sequence that was not ended
rows-open : (h : LineHeader) (base : ℕ) (old : RawRow) (rows : List RawRow) → 0 < h.minimum_length → AreRowsAfter h old rows None →
    run h (rows_instructions h old rows None) (cleared (registers_of base old)) ≡ Some (shown_rows base rows None)
rows-open h base old [] positive after = nothing h _
rows-open h base old (r ∷ rows) positive after =
    row-shown h base old r (rows_instructions h r rows None) positive after.0
    ∙ bind_is _ _ (λ rest. Some (Row (registers_of base r) ∷ rest)) (rows-open h base r rows positive after.1)

-- where the first row begins
address-put : (h : LineHeader) (size : ℕ) (address : Option ℕ) (more : List Instruction) → run h (address_instructions size address ++ more) (begin h) ≡ run h more (cleared (registers_of (base_of address) (first_row h)))
unfolding changed shows leaves
address-put h size None more = refl
address-put h size (Some a) more =
    quiet {s = record (begin h) { address = a }} more (record { changes = refl; hides = refl; keeps = refl })
    ∙ ap (λ k. run h more (record (begin h) { address = k })) (sym (add-zero a))

sequence-ended : (h : LineHeader) (size : ℕ) (s : Sequence) (end : ℕ) (more : List Instruction) → 0 < h.minimum_length → IsSequence h size s → s.end ≡ Some end →
    run h (sequence_instructions h size s ++ more) (begin h) ≡ (run h more (begin h) >>= λ rest. Some (shown_sequence s ++ rest))
sequence-ended h size s end more positive is e =
    ap (λ is. run h is (begin h)) (append_assoc (address_instructions size s.address) (rows_instructions h (first_row h) s.rows s.end) more)
    ∙ address-put h size s.address _
    ∙ ap (λ k. run h (rows_instructions h (first_row h) s.rows k ++ more) (cleared (registers_of (base_of s.address) (first_row h)))) e
    ∙ rows-ended h (base_of s.address) (first_row h) s.rows end more positive (subst (AreRowsAfter h (first_row h) s.rows) e is.rows)
    ∙ ap (λ k. run h more (begin h) >>= λ rest. Some (shown_rows (base_of s.address) s.rows k ++ rest)) (sym e)

sequence-open : (h : LineHeader) (size : ℕ) (s : Sequence) → 0 < h.minimum_length → IsSequence h size s → s.end ≡ None → run h (sequence_instructions h size s) (begin h) ≡ Some (shown_sequence s)
sequence-open h size s positive is e =
    address-put h size s.address _
    ∙ ap (λ k. run h (rows_instructions h (first_row h) s.rows k) (cleared (registers_of (base_of s.address) (first_row h)))) e
    ∙ rows-open h (base_of s.address) (first_row h) s.rows positive (subst (AreRowsAfter h (first_row h) s.rows) e is.rows)
    ∙ ap (λ k. Some (shown_rows (base_of s.address) s.rows k)) (sym e)

some_or_none : (x : Option ℕ) → (x ≡ None) ⊎ ((n : ℕ) × (x ≡ Some n))
some_or_none None = inl refl
some_or_none (Some n) = inr (n, refl)

not_some : (x : Option ℕ) → x ≡ None → IsSome x → ⊥
not_some None e h = cc
not_some (Some n) e h = cc

sequences-shown : (h : LineHeader) (size : ℕ) (ss : List Sequence) → 0 < h.minimum_length → AreSequences h size ss → run h (flat_map (sequence_instructions h size) ss) (begin h) ≡ Some (flat_map shown_sequence ss)
sequences-shown h size [] positive are = nothing h _
sequences-shown h size (s ∷ ss) positive are =
    elim (some_or_none s.end) [
      | inl none ↦ elim are.1 [
        | inl last ↦ ap (λ k. run h (sequence_instructions h size s ++ flat_map (sequence_instructions h size) k) (begin h)) last
            ∙ ap (λ is. run h is (begin h)) (append-nil (sequence_instructions h size s))
            ∙ sequence-open h size s positive are.0 none
            ∙ ap Some (sym (append-nil (shown_sequence s)))
            ∙ ap (λ k. Some (shown_sequence s ++ flat_map shown_sequence k)) (sym last)
        | inr some ↦ absurd (not_some s.end none some)
      ]
      | inr some ↦ sequence-ended h size s some.0 (flat_map (sequence_instructions h size) ss) positive are.0 some.1
          ∙ bind_is _ _ (λ rest. Some (shown_sequence s ++ rest)) (sequences-shown h size ss positive are.2)
    ]

-- every operand fits
record Fit (h : LineHeader) (is : List Instruction) : Type 0 where
  each : All (IsSpellable h) is

none_fit : {h : LineHeader} → Fit h []
none_fit {h} = record { each = All-nil (IsSpellable h) }

given_spellable : (h : LineHeader) (b : Bool) (i : Instruction) → IsSpellable h i → Fit h (given b i)
given_spellable h true i s = record { each = All-cons (IsSpellable h) i [] s (All-nil (IsSpellable h)) }
given_spellable h false i s = none_fit

advance_spellable : (h : LineHeader) (old new : ℕ) → IsReached h old new → Fit h (advance h old new)
advance_spellable h old new reached =
    given_spellable h (not (new == old)) (AdvancePc ((new - old) / h.minimum_length)) (omega (arith, reached.fits, div-le_self (new - old) h.minimum_length))

both : {h : LineHeader} {xs ys : List Instruction} → Fit h xs → Fit h ys → Fit h (xs ++ ys)
both {h} {xs} {ys} a b = record { each = All-append (IsSpellable h) xs ys a.each b.each }

row_spellable : (h : LineHeader) (old new : RawRow) → IsRowAfter h old new → Fit h (row_instructions h old new)
row_spellable h old new after =
    both (given_spellable h _ (SetDiscriminator new.discriminator) after.discriminator)
    (both (given_spellable h _ SetBasicBlock tt)
    (both (given_spellable h _ SetPrologueEnd tt)
    (both (given_spellable h _ SetEpilogueBegin tt)
    (both (given_spellable h _ NegateStatement tt)
    (both (given_spellable h _ (SetFile new.file) after.file)
    (both (given_spellable h _ (SetColumn new.column) after.column)
    (both (given_spellable h _ (SetIsa new.isa) after.isa)
    (both (given_spellable h _ (AdvanceLine (line_change old.line new.line)) after.line)
    (both (advance_spellable h old.address_offset new.address_offset after.reached) (given_spellable h true Copy tt))))))))))

rows_spellable : (h : LineHeader) (old : RawRow) (rows : List RawRow) (end : Option ℕ) → AreRowsAfter h old rows end → Fit h (rows_instructions h old rows end)
rows_spellable h old [] None after = none_fit
rows_spellable h old [] (Some end) after = both (advance_spellable h old.address_offset end after) (given_spellable h true EndSequence tt)
rows_spellable h old (r ∷ rows) end after = both (row_spellable h old r after.0) (rows_spellable h r rows end after.1)

address_spellable : (h : LineHeader) (size : ℕ) (address : Option ℕ) → IsAddress size address → Fit h (address_instructions size address)
address_spellable h size None is = none_fit
address_spellable h size (Some a) is = given_spellable h true (SetAddress size a) is

sequences_spellable : (h : LineHeader) (size : ℕ) (ss : List Sequence) → AreSequences h size ss → Fit h (flat_map (sequence_instructions h size) ss)
sequences_spellable h size [] are = none_fit
sequences_spellable h size (s ∷ ss) are =
    both (both (address_spellable h size s.address are.0.address) (rows_spellable h (first_row h) s.rows s.end are.0.rows)) (sequences_spellable h size ss are.2)

-- the machine shows the built rows, of the bytes of the sequences
pub rows-again : (h : LineHeader) (size : ℕ) (ss : List Sequence) → IsWrittenHeader h → AreSequences h size ss → rows_of h (sequences_bytes h size ss) ≡ Some (flat_map shown_sequence ss)
unfolding rows_of sequences_bytes
rows-again h size ss w are =
    bind_is _ _ (λ is. run h is (begin h)) (program-again h (flat_map (sequence_instructions h size) ss) w (sequences_spellable h size ss are).each)
    ∙ sequences-shown h size ss w.minimum_length are
