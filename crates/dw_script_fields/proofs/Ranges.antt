-- Each item of a range list takes a field or more.
use Rattle.std.proofs.Common.{◌≡◌, ℕ, ◌≤◌, [], ◌∷◌, length, Ok, Err, ok_or, subst, arith}
use Rattle.dw_script_fields.specs.declared.range.ScriptRange.{ScriptRange}
use Rattle.dw_script_fields.specs.declared.range_word.RangeWord.{RangeWord}
use Rattle.dw_script_fields.specs.declared.range_word.RangeWord.TheVariants as word
use Rattle.dw_ends.specs.declared.reason.Reason.TheVariants.{UnknownWord, WrongFields}
use Rattle.dw_ends.specs.Fields.{Fields, Outcome, ◌>>=◌}
use Rattle.dw_script_fields.specs.RangeWords.{range_word_of}
use Rattle.dw_script_fields.specs.Ranges.{range_field, range_of_word}
use Rattle.dw_script_fields.proofs.Items.{TakesSome}
use Rattle.dw_script_fields.proofs.Walks.{LeavesUpTo, leaves_made, leaves_field, operands_leave}

pub range_leaves : (n : ℕ) (w : RangeWord) (fields : Fields) → length fields ≤ n → LeavesUpTo n (range_of_word w fields)
range_leaves n word.Base fields few = leaves_made n _ _ (leaves_field n _ _ fields few)
range_leaves n word.Pair fields few = operands_leave n _ _ _ fields few
range_leaves n word.Ends fields few = operands_leave n _ _ _ fields few
range_leaves n word.Length fields few = operands_leave n _ _ _ fields few

word_leaves : (o : Outcome RangeWord) (fields : Fields) → LeavesUpTo (length fields) (◌>>=◌ {A = RangeWord × Fields} (◌>>=◌ {B = RangeWord × Fields} o (λ w. Ok (w, fields))) (λ r. range_of_word r.0 r.1))
word_leaves (Ok w) fields = range_leaves (length fields) w fields (omega arith)
word_leaves (Err _) fields = tt

pub range_field-takes : TakesSome range_field
range_field-takes [] got e = absurd (let k : ◌≡◌ {A = Outcome (ScriptRange × Fields)} (Err WrongFields) (Ok got) = e in cc)
range_field-takes (field ∷ fields) got e =
    let few : length got.1 ≤ length fields = subst (λ o. LeavesUpTo (length fields) o) e (word_leaves (ok_or (range_word_of field) UnknownWord) fields) in omega arith
