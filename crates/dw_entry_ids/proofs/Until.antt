-- The rows of a unit up to the first that can't be read, row by row.
use Rattle.std.proofs.Common.{◌≡◌, ◌∙◌, ap, ℕ, zero, suc, ◌+◌, ◌-◌, ◌<◌, List, [], ◌∷◌, ◌++◌, length, Bool, Option, Some, None, Result, Ok, Err, refl, arith}
use Rattle.dw_base.specs.Abbreviations.{Declaration}
use Rattle.dw_base.specs.Entries.{ReadEntry, Mark, Row, next_depth}
use Rattle.dw_base.specs.declared.common.Encoding.{Encoding}
use Rattle.dw_read.proofs.Shorter.{mark_shorter}
use Rattle.dw_read.specs.FormReasons.{mark_read}
use Rattle.dw_read.specs.Reasons.{◌=>>◌}
use Rattle.dw_read.specs.declared.error.ReadError.{ReadError}
use Rattle.dw_read_units.specs.Walks.{rows_read}
use Rattle.dw_entry_ids.specs.RowsUntil.{RowsUntil, rows_from, rows_until, with_row}

-- all rows, or the reason why one can't be read
abbrev whole_or : List Row → Option ReadError → Result (List Row) ReadError
whole_or rows None = Ok rows
whole_or rows (Some e) = Err e

abbrev pub whole : RowsUntil → Result (List Row) ReadError
whole x = whole_or x.rows x.fault

-- rows before others
pub whole_behind : (front rest : List Row) (fault : Option ReadError) → whole (record { rows = front ++ rest; fault = fault }) ≡ (whole (record { rows = rest; fault = fault }) =>> λ more. Ok (front ++ more))
whole_behind front rest None = refl
whole_behind front rest (Some e) = refl

whole_with : (r : Row) (x : RowsUntil) → (whole x =>> λ more. Ok (r ∷ more)) ≡ whole (with_row r x)
whole_with r x = go x.rows x.fault
  where
    go : (rows : List Row) (fault : Option ReadError) → (whole_or rows fault =>> λ more. Ok (r ∷ more)) ≡ whole_or (r ∷ rows) fault
    go rows None = refl
    go rows (Some e) = refl

abbrev pub until_of : List Row → Option ReadError → RowsUntil
until_of rows fault = record { rows = rows; fault = fault }

-- where all can be read, there is no fault
pub none_missing : (x : RowsUntil) (rows : List Row) → whole x ≡ Ok rows → x ≡ record { rows = rows; fault = None }
none_missing x rows h = go x.fault refl h
  where
    go : (fault : Option ReadError) → x.fault ≡ fault → whole_or x.rows fault ≡ Ok rows → x ≡ record { rows = rows; fault = None }
    go None e k =
        let same : x.rows ≡ rows = cc in
        ap (λ (f : Option ReadError). until_of x.rows f) e ∙ ap (λ (rs : List Row). until_of rs None) same
    go (Some why) e k = absurd cc

module _ (big : Bool) (e : Encoding) (table : List Declaration) where
  pub read_is : (fuel from depth : ℕ) (bytes : List ℕ) → rows_read fuel big e table from depth bytes ≡ whole (rows_until big e table fuel from depth bytes)
  unfolding rows_read rows_until
  read_is zero from depth [] = refl
  read_is (suc fuel) from depth [] = refl
  read_is zero from depth (b ∷ bs) = refl
  read_is (suc fuel) from depth (b ∷ bs) = go (λ f d rest. read_is fuel f d rest) (mark_read big e table (b ∷ bs))
    where
      go : ((f d : ℕ) (rest : List ℕ) → rows_read fuel big e table f d rest ≡ whole (rows_until big e table fuel f d rest)) → (r : Result (Mark ReadEntry × List ℕ) ReadError)
          → (r =>> λ x. rows_read fuel big e table (from + (length (b ∷ bs) - length x.1)) (next_depth x.0 depth) x.1 =>> λ more. Ok (record { from = from; depth = depth; mark = x.0; to = from + (length (b ∷ bs) - length x.1) } ∷ more))
          ≡ whole (rows_from big e table (rows_until big e table fuel) from depth (b ∷ bs) r)
      go less (Err why) = refl
      go less (Ok x) =
          let to = from + (length (b ∷ bs) - length x.1) in
          let one : Row = record { from = from; depth = depth; mark = x.0; to = to } in
          ap (λ (r : Result (List Row) ReadError). r =>> λ more. Ok (one ∷ more)) (less to (next_depth x.0 depth) x.1)
          ∙ whole_with one (rows_until big e table fuel to (next_depth x.0 depth) x.1)

  pub until_end : (fuel from depth : ℕ) → rows_until big e table fuel from depth [] ≡ record { rows = []; fault = None }
  unfolding rows_until
  until_end zero from depth = refl
  until_end (suc fuel) from depth = refl

  pub until_step : (fuel from depth : ℕ) (bytes rest : List ℕ) (m : Mark ReadEntry) → mark_read big e table bytes ≡ Ok (m, rest)
      → rows_until big e table (suc fuel) from depth bytes ≡ with_row (record { from = from; depth = depth; mark = m; to = from + (length bytes - length rest) }) (rows_until big e table fuel (from + (length bytes - length rest)) (next_depth m depth) rest)
  unfolding rows_until
  until_step fuel from depth [] rest m h = absurd (let s : length rest < 0 = mark_shorter big e table [] (m, rest) h in omega arith)
  until_step fuel from depth (b ∷ bs) rest m h = ap (rows_from big e table (rows_until big e table fuel) from depth (b ∷ bs)) h

  pub until_refused : (fuel from depth : ℕ) (bytes : List ℕ) (why : ReadError) → (length bytes ≡ 0 → ⊥) → mark_read big e table bytes ≡ Err why → rows_until big e table (suc fuel) from depth bytes ≡ record { rows = []; fault = Some why }
  unfolding rows_until
  until_refused fuel from depth [] why n h = absurd (n refl)
  until_refused fuel from depth (b ∷ bs) why n h = ap (rows_from big e table (rows_until big e table fuel) from depth (b ∷ bs)) h
