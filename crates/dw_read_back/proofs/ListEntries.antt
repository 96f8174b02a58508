-- An entry leads readers to the place of its list.
use Rattle.std.proofs.Common.{◌≡◌, ◌∙◌, sym, ap, subst, ℕ, ◌+◌, ◌-◌, ◌*◌, Bool, List, length, drop, Some, arith}
use Rattle.std.proofs.lemmas.List.{take_all}
use Rattle.dw_base.specs.Numbers.{number_at, word_of}
use Rattle.dw_base.specs.declared.common.Encoding.{Encoding}
use Rattle.dw_base.proofs.NumberLaws.{bind_is, bind_parts}
use Rattle.dw_read.specs.Reading.{Reading, left, whole}
use Rattle.dw_read_units.specs.Lookups.{FindsList}
use Rattle.dw_lists.specs.Items.{entry_at}
use Rattle.dw_read_back.specs.Laws.{EntriesAreOne}
use Rattle.dw_read_back.proofs.Walks.{some_same}

module _ (e : Encoding) (section : Reading) (base number place : ℕ) where
  found : entry_at section.is_big e (left section) base number ≡ Some place → FindsList (word_of e.format) base number section place
  unfolding entry_at
  found h =
      let t = bind_parts (number_at section.is_big (word_of e.format) (drop (base + number * word_of e.format) (left section))) (λ x. Some (base + x.0)) place h in
      record { offset = t.0.0; stands = record { rest = t.0.1; is = t.1 }; is = sym (some_same (base + t.0.0) place t.2) }

  told : FindsList (word_of e.format) base number section place → entry_at section.is_big e (left section) base number ≡ Some place
  unfolding entry_at
  told f =
      bind_is (number_at section.is_big (word_of e.format) (drop (base + number * word_of e.format) (left section))) (f.offset, f.stands.rest) (λ x. Some (base + x.0)) f.stands.is
      ∙ ap Some (sym f.is)

pub entries_are_one : EntriesAreOne
entries_are_one = record { found = λ e section base number place h. found e section base number place h; told = λ e section base number place f. told e section base number place f }

-- in a whole section
left_whole : (section : List ℕ) (big : Bool) → left (whole section big) ≡ section
left_whole section big = take_all (length section - 0) section (omega arith)

pub found_whole : (e : Encoding) (big : Bool) (section : List ℕ) (base number place : ℕ) → entry_at big e section base number ≡ Some place → FindsList (word_of e.format) base number (whole section big) place
found_whole e big section base number place h = found e (whole section big) base number place (subst (λ bs. entry_at big e bs base number ≡ Some place) (sym (left_whole section big)) h)
