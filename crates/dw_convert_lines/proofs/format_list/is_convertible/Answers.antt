use Rattle.std.proofs.Common.{◌≡◌, ◌∙◌, sym, refl, ℕ, ◌<◌, List, arith}
use Rattle.std.proofs.lemmas.Bool.{lt-ltb, ltb-true}
use Rattle.dw_base.specs.declared.constants.TheConstants.{DW_LNCT_path}
use Rattle.dw_read_lines.specs.FileEntryFormatIters.{parts_in}
use Rattle.dw_read_lines.specs.FileEntryIters.{layout_of}
use Rattle.dw_convert_lines.specs.FormatLists.{times_told}
use Rattle.dw_convert_lines.proofs.format_list.is_convertible.Goals as goal
use Rattle.dw_convert_lines.proofs.format_list.is_convertible.Goals.{then-has_no_constants, else-has_no_constants}

pub returns-then-remaining-eq0 : goal.returns-then-remaining-eq0
returns-then-remaining-eq0 g c = λ parts has.
    elim c.if-has_no_constants.branch [
      | then-has_no_constants w ↦ (
        λ _. record {
          no_constants = (c.has_no_constants.ensures parts has).0 w.if-has_no_constants.true;
          once = (w.tells_each_once.ensures parts has).0 (sym w.value-is ∙ c.if-tells_each_once.true);
          named = λ h. absurd (omega arith);
        },
        λ _. rw c.if-remaining-eq0.true refl,
      )
      | else-has_no_constants w ↦ absurd (cc)
    ]

pub returns-else-remaining-eq0 : goal.returns-else-remaining-eq0
returns-else-remaining-eq0 g c = λ parts has.
    let listed : List (ℕ × ℕ) = parts_in (layout_of g.R.Reader.reading c.args.entries.now.layout parts) in
    let told : c.times_told.result ≡ times_told DW_LNCT_path listed = c.times_told.ensures parts has in
    elim c.if-has_no_constants.branch [
      | then-has_no_constants w ↦ (
        λ t. record {
          no_constants = (c.has_no_constants.ensures parts has).0 w.if-has_no_constants.true;
          once = (w.tells_each_once.ensures parts has).0 (sym w.value-is ∙ c.if-tells_each_once.true);
          named = λ h. let l : 0 < c.times_told.result = ltb-true 0 c.times_told.result t in omega arith;
        },
        λ k. lt-ltb 0 c.times_told.result (let l : 0 < times_told DW_LNCT_path listed = k.named (omega arith) in omega arith),
      )
      | else-has_no_constants w ↦ absurd (cc)
    ]

pub returns-else-tells_each_once : goal.returns-else-tells_each_once
returns-else-tells_each_once g c = λ parts has. (
  λ t. absurd (cc),
  λ k. elim c.if-has_no_constants.branch [
    | then-has_no_constants w ↦ w.value-is ∙ (w.tells_each_once.ensures parts has).1 k.once
    | else-has_no_constants w ↦ absurd (let p = (c.has_no_constants.ensures parts has).1 k.no_constants in cc)
  ],
)
