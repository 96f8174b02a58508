-- What a script of the command `link` builds: sets, one behind another, and symbols.
use Rattle.std.specs.Prelude.{ℕ, ◌==◌, true, List, [], ◌∷◌, ◌++◌, length, Option, Some, None, Result, Ok, Err, if◌then◌else◌}
use Rattle.dw_ends.specs.declared.reason.Reason.TheVariants.{BadSymbol}
use Rattle.dw_ends.specs.Fields.{Outcome, ◌>>=◌}
use Rattle.dw_script.specs.LinkLines.{parsed_link_line}
use Rattle.dw_ends.specs.Pieces.{newline, pieces}
use Rattle.dw_script.specs.declared.link_command.LinkCommand.{LinkCommand}
use Rattle.dw_script.specs.declared.link_command.LinkCommand.TheVariants.{Next, Symbol, Script}
use Rattle.dw_build.specs.Script.{after_command, after_each}
use Rattle.dw_build.specs.ScriptValue.{empty_script}
use Rattle.dw_build.specs.SetsValue.{SetsValue, BegunValue, empty_begun, all_sets}
use Rattle.dw_build.specs.declared.script.Refusal.{Refusal}

-- the next set begins, of nothing, in the byte order of all
abbrev pub after_next : BegunValue → BegunValue
after_next s = record s { whole = s.whole ++ s.last.dwarf ∷ []; last = record empty_script { endian = s.last.endian; has_begun = true } }

-- a symbol more; its number is that of the symbols before it
abbrev pub after_symbol : ℕ → ℕ → BegunValue → Outcome BegunValue
after_symbol number value s =
    if number == length s.symbols then Ok (record s { last = record s.last { has_begun = true }; symbols = s.symbols ++ value ∷ [] })
    else Err BadSymbol

-- after a command; one of a script is for the set that was begun last
abbrev pub after_link_command : BegunValue → LinkCommand → Outcome BegunValue
after_link_command s Next = Ok (after_next s)
after_link_command s (Symbol number value) = after_symbol number value s
after_link_command s (Script c) = after_command s.last c >>= λ t. Ok (record s { last = t })

-- after a line that may ask for nothing
abbrev pub after_link_asked : BegunValue → Option LinkCommand → Outcome BegunValue
after_link_asked s None = Ok s
after_link_asked s (Some c) = after_link_command s c

abbrev pub after_link_line : BegunValue → List ℕ → Outcome BegunValue
after_link_line s line = parsed_link_line line >>= after_link_asked s

-- the sets of lines that were all accepted
abbrev pub ended : Result BegunValue Refusal → Result SetsValue Refusal
ended (Ok s) = Ok (all_sets s)
ended (Err r) = Err r

-- what the bytes of such a script build, or the first line that is refused
unfoldable pub sets : List ℕ → Result SetsValue Refusal
sets bytes = ended (after_each after_link_line 1 empty_begun (pieces newline bytes))
