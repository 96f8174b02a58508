-- The units that scripts of the command `link` build.
use Rattle.std.proofs.Common.{◌≡◌, subst, ℕ, zero, suc, ◌+◌, List, [], ◌∷◌, ◌++◌, length, arith, true, false, Bool, All}
use Rattle.std.specs.Prelude.{Result, Ok, Err, IfOk, Option, Some, None, ◌==◌, if◌then◌else◌}
use Rattle.std.proofs.lemmas.List.Elements.{All-append}
use Rattle.dw_dwarf.specs.DwarfValue.{DwarfValue}
use Rattle.dw_ends.specs.declared.reason.Reason.TheVariants.{BadSymbol}
use Rattle.dw_ends.specs.Fields.{Outcome, ◌>>=◌}
use Rattle.dw_script.specs.LinkLines.{parsed_link_line}
use Rattle.dw_ends.specs.Pieces.{newline, pieces}
use Rattle.dw_script.specs.declared.link_command.LinkCommand.{LinkCommand}
use Rattle.dw_script.specs.declared.link_command.LinkCommand.TheVariants.{Next, Symbol, Script}
use Rattle.dw_build.specs.Script.{AreOpen, after_command, after_each}
use Rattle.dw_build.specs.ScriptValue.{ScriptValue}
use Rattle.dw_build.specs.Sets.{after_link_command, after_link_asked, after_link_line, ended, sets}
use Rattle.dw_build.specs.SetsValue.{SetsValue, BegunValue, empty_begun}
use Rattle.dw_build.specs.declared.script.Refusal.{Refusal}
use Rattle.dw_build.proofs.ScriptUnits.{IfBuilds, none_open, command_open}

-- its units are still built
abbrev pub IsOpenSet : DwarfValue → Type 0
IsOpenSet d = AreOpen d.units

-- those of all sets are
abbrev pub AreOpenSets : BegunValue → Type 0
AreOpenSets s = All IsOpenSet s.whole × AreOpen s.last.dwarf.units

one_set : (d : DwarfValue) → IsOpenSet d → All IsOpenSet (d ∷ [])
one_set d h zero x within = h
one_set d h (suc k) x within = absurd (omega arith)

no_set : All IsOpenSet []
no_set k x within = absurd (omega arith)

one_more : (ds : List DwarfValue) (d : DwarfValue) → All IsOpenSet ds → IsOpenSet d → All IsOpenSet (ds ++ d ∷ [])
one_more ds d all h = All-append IsOpenSet ds (d ∷ []) all (one_set d h)

symbol_open : (b : Bool) (s t : BegunValue) → AreOpenSets t → IfOk ((let r : Outcome BegunValue = if b then Ok t else Err BadSymbol in r)) AreOpenSets
symbol_open true s t h = h
symbol_open false s t h = tt

script_open : (s : BegunValue) (r : Outcome ScriptValue) → All IsOpenSet s.whole → IfBuilds r → IfOk (r >>= λ t. Ok (record s { last = t })) AreOpenSets
script_open s (Ok t) all h = (all, h)
script_open s (Err reason) all h = tt

link_command_open : (s : BegunValue) (c : LinkCommand) → AreOpenSets s → IfOk (after_link_command s c) AreOpenSets
link_command_open s Next h = (one_more s.whole s.last.dwarf h.0 h.1, none_open)
link_command_open s (Symbol number value) h = symbol_open (number == length s.symbols) s _ h
link_command_open s (Script c) h = script_open s (after_command s.last c) h.0 (command_open s.last c h.1)

link_asked_open : (s : BegunValue) (r : Outcome (Option LinkCommand)) → AreOpenSets s → IfOk (r >>= after_link_asked s) AreOpenSets
link_asked_open s (Ok None) h = h
link_asked_open s (Ok (Some c)) h = link_command_open s c h
link_asked_open s (Err reason) h = tt

open_value : {T E : Type 0} (P : T → Type 0) (r : Result T E) (s : T) → r ≡ Ok s → IfOk r P → P s
open_value {T} {E} P r s e h = let Q : Result T E → Type 0 = λ q. IfOk q P in subst Q e h

-- a line leaves the units of all sets open
pub link_line_open : (s t : BegunValue) (line : List ℕ) → after_link_line s line ≡ Ok t → AreOpenSets s → AreOpenSets t
link_line_open s t line e h = open_value AreOpenSets (after_link_line s line) t e (link_asked_open s (parsed_link_line line) h)

pub begun_open : AreOpenSets empty_begun
begun_open = (no_set, none_open)

outcome_open : (n : ℕ) (lines : List (List ℕ)) (r : Outcome BegunValue) → ((t : BegunValue) → AreOpenSets t → IfOk (after_each after_link_line (n + 1) t lines) AreOpenSets) → IfOk r AreOpenSets →
    IfOk (elim r as (λ _. Result BegunValue Refusal) [ Ok t ↦ after_each after_link_line (n + 1) t lines | Err reason ↦ Err (record { line = n; reason = reason }) ]) AreOpenSets
outcome_open n lines (Ok t) more h = more t h
outcome_open n lines (Err reason) more h = tt

lines_open : (lines : List (List ℕ)) (n : ℕ) (s : BegunValue) → AreOpenSets s → IfOk (after_each after_link_line n s lines) AreOpenSets
lines_open [] n s h = h
lines_open (line ∷ lines) n s h = outcome_open n lines (after_link_line s line) (λ t k. lines_open lines (n + 1) t k) (link_asked_open s (parsed_link_line line) h)

ended_open : (r : Result BegunValue Refusal) → IfOk r AreOpenSets → IfOk (ended r) (λ s. All IsOpenSet s.dwarfs)
ended_open (Ok s) h = one_more s.whole s.last.dwarf h.0 h.1
ended_open (Err r) h = tt

pub sets_open : (bytes : List ℕ) (s : SetsValue) → sets bytes ≡ Ok s → All IsOpenSet s.dwarfs
unfolding sets
sets_open bytes s e = open_value (λ t. All IsOpenSet t.dwarfs) (sets bytes) s e (ended_open (after_each after_link_line 1 empty_begun (pieces newline bytes)) (lines_open (pieces newline bytes) 1 empty_begun begun_open))
