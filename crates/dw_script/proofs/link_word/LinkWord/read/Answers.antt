-- What an arm's tests say of the field, byte by byte, is that it is the arm's word.
use Rattle.std.proofs.Common.{◌≡◌, codes, refl, rules, arith}
use Rattle.std.proofs.lemmas.Slice.Eq.{text_from_reads}
use Rattle.dw_script.proofs.link_word.LinkWord.read.Goals as goal

pub returns-in-symbol : goal.returns-in-symbol
returns-in-symbol c =
    let e : c.args.field.now ≡ codes "symbol" = text_from_reads _ _ (omega arith) (search rules) in
    rw e refl
