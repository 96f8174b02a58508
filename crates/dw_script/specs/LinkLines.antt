-- What a line of the command `link` asks for, or why it is refused.
use Rattle.std.specs.Prelude.{ℕ, ◌^◌, List, Option, Ok, ok_or}
use Rattle.dw_ends.specs.declared.reason.Reason.TheVariants.{UnknownWord}
use Rattle.dw_script.specs.declared.link_command.LinkCommand.{LinkCommand}
use Rattle.dw_script.specs.declared.link_command.LinkCommand.TheVariants as link
use Rattle.dw_script.specs.declared.link_word.LinkWord.{LinkWord}
use Rattle.dw_script.specs.declared.link_word.LinkWord.TheVariants as word
use Rattle.dw_ends.specs.Fields.{Fields, Outcome, ◌>>=◌, next_field, end_of_fields, number_field, said_by, line_fields}
use Rattle.dw_script.specs.LinkWords.{link_word_of}
use Rattle.dw_script.specs.Lines.{line_of}

-- nothing stands after `next`
abbrev pub next_line : Fields → Outcome LinkCommand
next_line fields = do
  _ ← end_of_fields fields
  Ok link.Next

-- the fields after `symbol`: its number and its value
abbrev pub symbol_line : Fields → Outcome LinkCommand
symbol_line fields = do
  (number, fields) ← number_field (2 ^ 64) fields
  (value, fields) ← number_field (2 ^ 64) fields
  _ ← end_of_fields fields
  Ok (link.Symbol number value)

-- what the fields after a word ask for
abbrev pub link_line_of : LinkWord → Fields → Outcome LinkCommand
link_line_of word.Next fields = next_line fields
link_line_of word.Symbol fields = symbol_line fields
link_line_of (word.Script script) fields = line_of script fields >>= λ command. Ok (link.Script command)

-- the word of a line, and the fields after it
abbrev pub link_word_field : Fields → Outcome (LinkWord × Fields)
link_word_field fields = do
  (field, fields) ← next_field fields
  word ← ok_or (link_word_of field) UnknownWord
  Ok (word, fields)

-- what the fields of a line ask for, from its word on
abbrev pub link_command_of : Fields → Outcome LinkCommand
link_command_of fields = do
  (word, fields) ← link_word_field fields
  link_line_of word fields

-- what a line asks for: a line of a script, the next set, or a symbol
unfoldable pub parsed_link_line : List ℕ → Outcome (Option LinkCommand)
parsed_link_line line = line_fields line >>= said_by link_command_of
