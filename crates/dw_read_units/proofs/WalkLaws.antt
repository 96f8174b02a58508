-- Walks over units and rows with reasons read what the grammar reads.
use Rattle.std.proofs.Common.{◌≡◌, ◌∙◌, sym, ap, subst, ℕ, zero, suc, ◌+◌, ◌-◌, List, [], ◌∷◌, length, drop, map, All, Bool, true, false, Option, Some, Result, Ok, Err, refl, nat_eq, drop-drop}
use Rattle.std.proofs.lemmas.Bool.{eqb-true}
use Rattle.std.proofs.lemmas.List.Elements.{All-head, All-tail}
use Rattle.std.specs.Result.{result_ok}
use Rattle.dw_base.specs.Numbers.{when}
use Rattle.dw_base.specs.Abbreviations.{Declaration, table_at}
use Rattle.dw_base.specs.Headers.{Header, header_at}
use Rattle.dw_base.specs.Entries.{ReadEntry, Mark, Row, next_depth, mark_at, rows_at, is_one_tree, children_of}
use Rattle.dw_base.specs.Info.{ReadUnit, units_at, read_info}
use Rattle.dw_base.specs.declared.common.Encoding.{Encoding}
use Rattle.dw_base.proofs.NumberLaws.{bind_is, bind_parts}
use Rattle.dw_read.specs.Reading.{Reading, left}
use Rattle.dw_read.specs.Reasons.{◌=>>◌}
use Rattle.dw_read.specs.Declarations.{table_read}
use Rattle.dw_read.specs.FormReasons.{mark_read}
use Rattle.dw_read.specs.Headers.{header_read}
use Rattle.dw_read.specs.declared.error.ReadError.{ReadError}
use Rattle.dw_read.proofs.Laws.{then_ok}
use Rattle.dw_read.proofs.FormLaws.{mark_law}
use Rattle.dw_read.proofs.TableLaws.{table_law}
use Rattle.dw_read.proofs.HeaderRead.{header_law}
use Rattle.dw_read.proofs.Items.{then_parts}
use Rattle.dw_read_units.specs.Lookups.{bytes_from}
use Rattle.dw_read_units.proofs.EndLaws.{end_drop, table_end}
use Rattle.dw_base.specs.declared.constants.TheConstants.{DW_AT_addr_base, DW_AT_GNU_addr_base}
use Rattle.dw_read.specs.Values.{Value}
use Rattle.dw_read.specs.declared.unit_header.UnitHeader.{UnitHeader}
use Rattle.dw_read_units.specs.Roots.{base_of}
use Rattle.dw_read_units.specs.UnitReads.{HasFields}
use Rattle.dw_read_units.specs.declared.dwarf.Dwarf.{Dwarf}
use Rattle.dw_read_units.specs.declared.dwarf.Unit.{Unit as UnitFields}
use Rattle.dw_read_units.specs.declared.root.Bases.{Bases}
use Rattle.dw_read_units.specs.Walks.{unit_in, units_in, rows_read, root_address, unit_read, units_read, BeginsWithRoot, HasRoot}

pub rows_law : (fuel : ℕ) (big : Bool) (e : Encoding) (table : List Declaration) (from depth : ℕ) (bytes : List ℕ) → result_ok (rows_read fuel big e table from depth bytes) ≡ rows_at fuel big e table from depth bytes
unfolding rows_read rows_at
rows_law zero big e table from depth [] = refl
rows_law (suc fuel) big e table from depth [] = refl
rows_law zero big e table from depth (b ∷ bs) = refl
rows_law (suc fuel) big e table from depth (b ∷ bs) =
    then_ok (mark_read big e table (b ∷ bs)) (mark_at big e table (b ∷ bs)) _ _ (mark_law big e table (b ∷ bs)) (λ x.
    then_ok (rows_read fuel big e table (from + (length (b ∷ bs) - length x.1)) (next_depth x.0 depth) x.1) (rows_at fuel big e table (from + (length (b ∷ bs) - length x.1)) (next_depth x.0 depth) x.1) _ _
    (rows_law fuel big e table (from + (length (b ∷ bs) - length x.1)) (next_depth x.0 depth) x.1) (λ more. refl))

-- what a reading gave, its grammar gives
given : {A : Type 0} (r : Result A ReadError) (o : Option A) (x : A) → result_ok r ≡ o → r ≡ Ok x → o ≡ Some x
given r o x law h = sym law ∙ ap result_ok h

gives : {A : Type 0} (r : Result A ReadError) (o : Option A) (x : A) → result_ok r ≡ o → o ≡ Some x → r ≡ Ok x
gives (Ok y) o x law h = let e : y ≡ x = cc in ap (λ z. Ok z) e
gives (Err e) o x law h = absurd (cc)

then_is : {A B : Type 0} (r : Result A ReadError) (x : A) (f : A → Result B ReadError) → r ≡ Ok x → (r =>> f) ≡ f x
then_is r x f e = ap (λ y. y =>> f) e

when_parts : {A : Type 0} (b : Bool) (x : Option A) (v : A) → when b x ≡ Some v → (b ≡ true) × (x ≡ Some v)
when_parts true x v e = (refl, e)
when_parts false x v e = absurd (cc)

-- a unit that is read is one of the grammar
pub unit_given : (big : Bool) (tables addresses : Reading) (from : ℕ) (h : Header) (size : ℕ) (body : List ℕ) (u : ReadUnit) → unit_read big tables addresses from h size body ≡ Ok u → unit_in big (left tables) from h size body ≡ Some u
unfolding unit_read unit_in
unit_given big tables addresses from h size body u e =
    let t = then_parts (table_read (bytes_from h.table_offset tables)) _ u e in
    let m = then_parts (mark_read big h.encoding t.0.0 body) _ u t.2 in
    let a = then_parts (root_address addresses h.encoding m.0.0) _ u m.2 in
    let r = then_parts (rows_read (length body) big h.encoding t.0.0 size 0 body) _ u a.2 in
    bind_is (table_at (bytes_from h.table_offset tables)) t.0 _ (given _ _ t.0 (table_law (bytes_from h.table_offset tables)) t.1)
    ∙ bind_is (rows_at (length body) big h.encoding t.0.0 size 0 body) r.0 _ (given _ _ r.0 (rows_law (length body) big h.encoding t.0.0 size 0 body) r.1)
    ∙ ap result_ok r.2

pub units_given : (fuel : ℕ) (big : Bool) (tables addresses : Reading) (from : ℕ) (bytes : List ℕ) (us : List ReadUnit) → units_read fuel big tables addresses from bytes ≡ Ok us → units_in fuel big (left tables) from bytes ≡ Some us
unfolding units_read units_in
units_given zero big tables addresses from [] us e = ap result_ok e
units_given (suc fuel) big tables addresses from [] us e = ap result_ok e
units_given zero big tables addresses from (b ∷ bs) us e = absurd (cc)
units_given (suc fuel) big tables addresses from (b ∷ bs) us e =
    let h = then_parts (header_read big (b ∷ bs)) _ us e in
    let u = then_parts (unit_read big tables addresses from h.0.header h.0.size h.0.body) _ us h.2 in
    let m = then_parts (units_read fuel big tables addresses (from + (length (b ∷ bs) - length h.0.rest)) h.0.rest) _ us u.2 in
    bind_is (header_at big (b ∷ bs)) h.0 _ (given _ _ h.0 (header_law big (b ∷ bs)) h.1)
    ∙ bind_is (unit_in big (left tables) from h.0.header h.0.size h.0.body) u.0 _ (unit_given big tables addresses from h.0.header h.0.size h.0.body u.0 u.1)
    ∙ bind_is (units_in fuel big (left tables) (from + (length (b ∷ bs) - length h.0.rest)) h.0.rest) m.0 _ (units_given fuel big tables addresses (from + (length (b ∷ bs) - length h.0.rest)) h.0.rest m.0 m.1)
    ∙ ap result_ok m.2

-- the first of the rows that are read
record FirstRow (big : Bool) (e : Encoding) (table : List Declaration) (addresses : Reading) (bytes : List ℕ) : Type 0 where
  mark : Mark ReadEntry
  rest : List ℕ
  is : mark_at big e table bytes ≡ Some (mark, rest)
  address : ℕ
  found : root_address addresses e mark ≡ Ok address

first_row : (fuel : ℕ) (big : Bool) (e : Encoding) (table : List Declaration) (addresses : Reading) (from depth : ℕ) (bytes : List ℕ) (rows : List Row) → rows_at fuel big e table from depth bytes ≡ Some rows → BeginsWithRoot addresses e rows → FirstRow big e table addresses bytes
unfolding rows_at
first_row zero big e table addresses from depth [] rows r h = let q : [] ≡ rows = cc in absurd (subst (BeginsWithRoot addresses e) (sym q) h)
first_row (suc fuel) big e table addresses from depth [] rows r h = let q : [] ≡ rows = cc in absurd (subst (BeginsWithRoot addresses e) (sym q) h)
first_row zero big e table addresses from depth (b ∷ bs) rows r h = absurd (cc)
first_row (suc fuel) big e table addresses from depth (b ∷ bs) rows r h =
    let m = bind_parts (mark_at big e table (b ∷ bs)) _ rows r in
    let o = bind_parts (rows_at fuel big e table (from + (length (b ∷ bs) - length m.0.1)) (next_depth m.0.0 depth) m.0.1) _ rows m.2 in
    let f : Some (record { from = from; depth = depth; mark = m.0.0; to = from + (length (b ∷ bs) - length m.0.1) } ∷ o.0) ≡ Some rows = o.2 in
    let q : record { from = from; depth = depth; mark = m.0.0; to = from + (length (b ∷ bs) - length m.0.1) } ∷ o.0 ≡ rows = cc f in
    let a = subst (BeginsWithRoot addresses e) (sym q) h in
    record { mark = m.0.0; rest = m.0.1; is = m.1; address = a.0; found = a.1 }

-- a unit of the grammar with a root, whose address is there, is read
unit_gives : (big : Bool) (tables addresses : Reading) (from : ℕ) (h : Header) (size : ℕ) (body : List ℕ) (u : ReadUnit) → unit_in big (left tables) from h size body ≡ Some u → HasRoot addresses u → unit_read big tables addresses from h size body ≡ Ok u
unfolding unit_read unit_in
unit_gives big tables addresses from h size body u e r =
    let t = bind_parts (table_at (bytes_from h.table_offset tables)) _ u e in
    let s = bind_parts (rows_at (length body) big h.encoding t.0.0 size 0 body) _ u t.2 in
    let f : Some (record { from = from; header = h; table = t.0.0; rows = s.0 }) ≡ Some u = s.2 in
    let q : record { from = from; header = h; table = t.0.0; rows = s.0 } ≡ u = cc f in
    let a = first_row (length body) big h.encoding t.0.0 addresses size 0 body s.0 s.1 (subst (HasRoot addresses) (sym q) r) in
    then_is (table_read (bytes_from h.table_offset tables)) t.0 _ (gives _ _ t.0 (table_law (bytes_from h.table_offset tables)) t.1)
    ∙ then_is (mark_read big h.encoding t.0.0 body) (a.mark, a.rest) _ (gives _ _ (a.mark, a.rest) (mark_law big h.encoding t.0.0 body) a.is)
    ∙ then_is (root_address addresses h.encoding a.mark) a.address _ a.found
    ∙ then_is (rows_read (length body) big h.encoding t.0.0 size 0 body) s.0 _ (gives _ _ s.0 (rows_law (length body) big h.encoding t.0.0 size 0 body) s.1)
    ∙ ap (λ (x : ReadUnit). Ok x) q

pub units_give : (fuel : ℕ) (big : Bool) (tables addresses : Reading) (from : ℕ) (bytes : List ℕ) (us : List ReadUnit) → units_in fuel big (left tables) from bytes ≡ Some us → All (HasRoot addresses) us → units_read fuel big tables addresses from bytes ≡ Ok us
unfolding units_read units_in
units_give zero big tables addresses from [] us e r = let q : [] ≡ us = cc in ap (λ (x : List ReadUnit). Ok x) q
units_give (suc fuel) big tables addresses from [] us e r = let q : [] ≡ us = cc in ap (λ (x : List ReadUnit). Ok x) q
units_give zero big tables addresses from (b ∷ bs) us e r = absurd (cc)
units_give (suc fuel) big tables addresses from (b ∷ bs) us e r =
    let h = bind_parts (header_at big (b ∷ bs)) _ us e in
    let u = bind_parts (unit_in big (left tables) from h.0.header h.0.size h.0.body) _ us h.2 in
    let m = bind_parts (units_in fuel big (left tables) (from + (length (b ∷ bs) - length h.0.rest)) h.0.rest) _ us u.2 in
    let f : Some (u.0 ∷ m.0) ≡ Some us = m.2 in
    let q : u.0 ∷ m.0 ≡ us = cc f in
    let a : All (HasRoot addresses) (u.0 ∷ m.0) = subst (All (HasRoot addresses)) (sym q) r in
    then_is (header_read big (b ∷ bs)) h.0 _ (gives _ _ h.0 (header_law big (b ∷ bs)) h.1)
    ∙ then_is (unit_read big tables addresses from h.0.header h.0.size h.0.body) u.0 _ (unit_gives big tables addresses from h.0.header h.0.size h.0.body u.0 u.1 (All-head (HasRoot addresses) u.0 m.0 a))
    ∙ then_is (units_read fuel big tables addresses (from + (length (b ∷ bs) - length h.0.rest)) h.0.rest) m.0 _ (units_give fuel big tables addresses (from + (length (b ∷ bs) - length h.0.rest)) h.0.rest m.0 m.1 (All-tail (HasRoot addresses) u.0 m.0 a))
    ∙ ap (λ (x : List ReadUnit). Ok x) q

-- sections that are read strictly are read where the tables stand
strict_units : (fuel : ℕ) (big : Bool) (from table_from : ℕ) (info tables whole : List ℕ) (us : List ReadUnit) → tables ≡ drop table_from whole → units_at fuel big from table_from info tables ≡ Some us → units_in fuel big whole from info ≡ Some us
unfolding units_at units_in unit_in
strict_units zero big from table_from [] [] whole us w e = e
strict_units (suc fuel) big from table_from [] [] whole us w e = e
strict_units zero big from table_from [] (a ∷ more) whole us w e = absurd (cc)
strict_units (suc fuel) big from table_from [] (a ∷ more) whole us w e = absurd (cc)
strict_units zero big from table_from (b ∷ bs) tables whole us w e = absurd (cc)
strict_units (suc fuel) big from table_from (b ∷ bs) tables whole us w e =
    let h = bind_parts (header_at big (b ∷ bs)) _ us e in
    let i = when_parts (nat_eq h.0.header.table_offset table_from) _ us h.2 in
    let o : h.0.header.table_offset ≡ table_from = eqb-true h.0.header.table_offset table_from i.0 in
    let t = bind_parts (table_at tables) _ us i.1 in
    let r = bind_parts (rows_at (length h.0.body) big h.0.header.encoding t.0.0 h.0.size 0 h.0.body) _ us t.2 in
    let j = when_parts (is_one_tree (map (λ x. children_of x.mark) r.0)) _ us r.2 in
    let m = bind_parts (units_at fuel big (from + (length (b ∷ bs) - length h.0.rest)) (table_from + (length tables - length t.0.1)) h.0.rest t.0.1) _ us j.1 in
    let d : tables ≡ drop h.0.header.table_offset whole = w ∙ ap (λ (k : ℕ). drop k whole) (sym o) in
    let n : t.0.1 ≡ drop (table_from + (length tables - length t.0.1)) whole =
    end_drop tables t.0.1 (table_end tables t.0 t.1) ∙ ap (drop (length tables - length t.0.1)) w ∙ drop-drop (length tables - length t.0.1) table_from whole
    in
    bind_is (header_at big (b ∷ bs)) h.0 _ h.1
    ∙ bind_is _ (record { from = from; header = h.0.header; table = t.0.0; rows = r.0 }) _
    (bind_is (table_at (drop h.0.header.table_offset whole)) t.0 _ (sym (ap table_at d) ∙ t.1) ∙ bind_is (rows_at (length h.0.body) big h.0.header.encoding t.0.0 h.0.size 0 h.0.body) r.0 _ r.1)
    ∙ bind_is (units_in fuel big whole (from + (length (b ∷ bs) - length h.0.rest)) h.0.rest) m.0 _ (strict_units fuel big (from + (length (b ∷ bs) - length h.0.rest)) (table_from + (length tables - length t.0.1)) h.0.rest t.0.1 whole m.0 n m.1)
    ∙ m.2

pub strict_info : (big : Bool) (info tables : List ℕ) (us : List ReadUnit) → read_info big info tables ≡ Some us → units_in (length info) big tables 0 info ≡ Some us
unfolding read_info
strict_info big info tables us e = strict_units (length info) big 0 0 info tables tables us refl e

-- where the addresses of a unit's indices begin
pub address_base : {R E : Type 0} (reading : R → Reading) (d : Dwarf R E) (h : UnitHeader R E) (xs : List (ℕ × Value)) (u : UnitFields R E) → HasFields reading d h xs u → u.addr_base ≡ base_of 0 DW_AT_addr_base.0 DW_AT_GNU_addr_base.0 xs
address_base reading d h xs u f = ap (λ (b : Bases). b.addr) f.bases
