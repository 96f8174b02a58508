use Rattle.std.proofs.Common.{◌≡◌, ◌+◌, ◌∙◌, sym, ap, subst}
use Rattle.dw_base.specs.Abbreviations.{shape_of_code}
use Rattle.dw_abbrev.specs.Codes.{code_in, with_shape, declarations, KeepsCodes}
use Rattle.dw_abbrev.proofs.CodeLaws.{position-code, insert_key-with, distinct_differ, declared, with_shape-keeps}
use Rattle.dw_abbrev.proofs.table.AbbreviationTable.add.Goals as goal

-- the code, and what the table then holds
code_is : (c : goal.Else-prove) → c.in_ok-index.index + 1 ≡ code_in c.args.self.now c.args.«abbrev»
code_is c =
    ap (λ i. i + 1) c.in_ok-index.ensures.index ∙ position-code c.self.inside.abbreviations.keys c.args.«abbrev» ∙ ap (λ xs. code_in xs c.args.«abbrev») c.self.view_is

keys_are : (c : goal.Else-prove) → c.insert_full.new.self.keys ≡ with_shape c.args.self.now c.args.«abbrev»
keys_are c =
    c.in_ok-index.ensures.keys ∙ insert_key-with c.self.inside.abbreviations.keys c.args.«abbrev» ∙ ap (λ xs. with_shape xs c.args.«abbrev») c.self.view_is

pub invariant_of-self-2 : goal.invariant_of-self-2
invariant_of-self-2 c = distinct_differ c.insert_full.new.self.keys c.insert_full.ensures.unique

pub returns-clause-code : goal.returns-clause-code
returns-clause-code c = code_is c

pub returns-clause-ok : goal.returns-clause-ok
returns-clause-ok c = keys_are c

pub returns-clause-declared : goal.returns-clause-declared
returns-clause-declared c =
    ap (λ xs. shape_of_code (declarations xs) (c.in_ok-index.index + 1)) (keys_are c)
    ∙ ap (shape_of_code (declarations (with_shape c.args.self.now c.args.«abbrev»))) (code_is c)
    ∙ declared c.args.self.now c.args.«abbrev»

pub returns-clause-stays : goal.returns-clause-stays
returns-clause-stays c = subst (λ xs. KeepsCodes c.args.self.now xs) (sym (keys_are c)) (with_shape-keeps c.args.self.now c.args.«abbrev»)
