-- A compile unit is read again with its table, and then what follows them.
use Rattle.std.proofs.Common.{◌≡◌, ◌∙◌, sym, ap, ℕ, suc, ◌+◌, ◌-◌, ◌<◌, Bool, List, [], ◌∷◌, ◌++◌, length, map, Some, refl, arith, IsTrue, append-nil, length-append}
use Rattle.std.proofs.lemmas.Bool.{eq-eqb}
use Rattle.dw_base.specs.Numbers.{◌>>=◌}
use Rattle.dw_base.specs.Abbreviations.{Declaration, table_at}
use Rattle.dw_base.specs.Headers.{HeaderRead, header_at}
use Rattle.dw_base.specs.Entries.{ReadEntry, Mark, Row, rows_at, is_one_tree, children_of}
use Rattle.dw_base.specs.Info.{units_at, read_info}
use Rattle.dw_base.specs.Spelling.{header_size, unit_bytes, compile_header, table_bytes, body_bytes, rows_of, read_unit}
use Rattle.dw_base.specs.Spellable.{IsUnit}
use Rattle.dw_base.specs.declared.common.Encoding.{Encoding}
use Rattle.dw_base.proofs.NumberLaws.{bind_is}
use Rattle.dw_base.proofs.HeaderLaws.{length-unit_bytes, header_size_pos, header-again}
use Rattle.dw_base.proofs.TableLaws.{table-again}
use Rattle.dw_base.proofs.EntryLaws.{body_long, rows-again, children-rows_of}

-- one unit more
pub units_more : (fuel : ℕ) (big : Bool) (from table_from : ℕ) (info tables others : List ℕ) (h : HeaderRead) (table : List Declaration) (rows : List Row) → 0 < length info → header_at big info ≡ Some h → h.header.table_offset ≡ table_from → table_at tables ≡ Some (table, others) → rows_at (length h.body) big h.header.encoding table h.size 0 h.body ≡ Some rows → IsTrue (is_one_tree (map (λ r. children_of r.mark) rows)) → units_at (suc fuel) big from table_from info tables ≡ (units_at fuel big (from + (length info - length h.rest)) (table_from + (length tables - length others)) h.rest others >>= λ more. Some (record { from = from; header = h.header; table = table; rows = rows } ∷ more))
unfolding units_at
units_more fuel big from table_from [] tables others h table rows long e1 e2 e3 e4 e5 = absurd (omega arith)
units_more fuel big from table_from (b ∷ bs) tables others h table rows long e1 e2 e3 e4 e5 =
    bind_is _ _ _ e1 ∙ rw (eq-eqb _ _ e2) (bind_is _ _ _ e3 ∙ bind_is _ _ _ e4 ∙ rw e5 refl)

pub unit-again : (fuel : ℕ) (big : Bool) (e : Encoding) (from place : ℕ) (table : List Declaration) (marks : List (Mark ReadEntry)) (rest others : List ℕ) → IsUnit big e place table marks → units_at (suc fuel) big from place (unit_bytes big e place (body_bytes big e marks) ++ rest) (table_bytes table ++ others) ≡ (units_at fuel big (from + length (unit_bytes big e place (body_bytes big e marks))) (place + length (table_bytes table)) rest others >>= λ more. Some (read_unit big e from place table marks ∷ more))
unit-again fuel big e from place table marks rest others u =
    let body = body_bytes big e marks in
    let bytes = unit_bytes big e place body in
    let rows = rows_of big e (header_size e) 0 marks in
    let long : 0 < length (bytes ++ rest) = omega (arith, length-append bytes rest, length-unit_bytes big e place body, header_size_pos e) in
    let to : from + (length (bytes ++ rest) - length rest) ≡ from + length bytes = omega (arith, length-append bytes rest) in
    let table_to : place + (length (table_bytes table ++ others) - length others) ≡ place + length (table_bytes table) = omega (arith, length-append (table_bytes table) others) in
    let tree : IsTrue (is_one_tree (map (λ r. children_of r.mark) rows)) = ap is_one_tree (children-rows_of big e (header_size e) 0 marks) ∙ u.tree in
    units_more fuel big from place (bytes ++ rest) (table_bytes table ++ others) others (record { header = compile_header e place; size = header_size e; body = body; rest = rest }) table rows long (header-again big e place body rest u.version_from u.version_to u.address_size u.place_fits u.length_ok) refl (table-again table others u.declarations) (rows-again marks (length body) big e table (header_size e) 0 u.each (body_long big e marks)) tree
    ∙ ap (λ p. units_at fuel big p (place + (length (table_bytes table ++ others) - length others)) rest others >>= λ more. Some (read_unit big e from place table marks ∷ more)) to
    ∙ ap (λ p. units_at fuel big (from + length bytes) p rest others >>= λ more. Some (read_unit big e from place table marks ∷ more)) table_to

pub read_one : (big : Bool) (e : Encoding) (table : List Declaration) (marks : List (Mark ReadEntry)) → IsUnit big e 0 table marks → read_info big (unit_bytes big e 0 (body_bytes big e marks)) (table_bytes table) ≡ Some (read_unit big e 0 0 table marks ∷ [])
unfolding read_info units_at
read_one big e table marks u =
    let body = body_bytes big e marks in
    let bytes = unit_bytes big e 0 body in
    let turns : length bytes ≡ suc (length bytes - 1) = omega (arith, length-unit_bytes big e 0 body, header_size_pos e) in
    ap (λ n. units_at n big 0 0 bytes (table_bytes table)) turns
    ∙ ap (λ x. units_at (suc (length bytes - 1)) big 0 0 x (table_bytes table)) (sym (append-nil bytes))
    ∙ ap (λ x. units_at (suc (length bytes - 1)) big 0 0 (bytes ++ []) x) (sym (append-nil (table_bytes table)))
    ∙ unit-again (length bytes - 1) big e 0 0 table marks [] [] u
