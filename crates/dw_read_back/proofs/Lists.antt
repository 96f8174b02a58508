-- Where one item is read as it is told to be written, so are whole lists, and those of tables.
use Rattle.std.proofs.Common.{◌≡◌, ◌∙◌, subst, ℕ, Bool, List, ◌++◌, arith, length, drop, Option, Some}
use Rattle.dw_base.specs.Numbers.{Parser}
use Rattle.dw_base.specs.declared.common.Encoding.{Encoding}
use Rattle.dw_base.proofs.NumberLaws.{bind_parts}
use Rattle.dw_lists.specs.Items.{Item, items_up_to, item_at, items_at, is_five}
use Rattle.dw_lists.specs.Tables.{IsFound, offsets_from}
use Rattle.dw_read_back.specs.Laws.{ItemsAreOne, ListsAreOne, TablesAreReadBack}
use Rattle.dw_read_back.proofs.Walks.{some_same, walked, fuelled, worded, unworded}
use Rattle.dw_read_back.proofs.ListEntries.{found_whole}
use Rattle.dw_read_back.proofs.Fewer.{item_fewer}
use Rattle.dw_read_back.proofs.There.{table_there}

module _ {A : Type 0} (loc : Bool) (grammar : Bool → Encoding → Parser (Option A)) (view : Bool → Item → A) (one : ItemsAreOne loc grammar view) where
  pub lists_are_one : ListsAreOne loc grammar view
  lists_are_one = record {
    read = λ big e bytes items behind h told.
        worded (item_at (is_five e) loc big e.address_size) (grammar big e) (view (is_five e)) (λ bs. one big e bs h) items bytes behind
        (walked (item_at (is_five e) loc big e.address_size) (length bytes) bytes items behind told);
    written = λ big e bytes ys behind h are.
        let t = unworded (item_at (is_five e) loc big e.address_size) (grammar big e) (view (is_five e)) (λ bs. one big e bs h) ys bytes behind are in
        record {
          items = t.0;
          told = fuelled (item_at (is_five e) loc big e.address_size) (λ bs. item_fewer (is_five e) loc big e.address_size bs h) t.0 (length bytes) bytes behind (omega arith) t.1;
          same = t.2;
        };
  }

  pub at_place : (big : Bool) (e : Encoding) (section : List ℕ) (at : ℕ) (items : List Item) → items_at loc big e section at ≡ Some items →
      (behind : List ℕ) × (items_up_to (item_at (is_five e) loc big e.address_size) (length (drop at section)) (drop at section) ≡ Some (items, behind))
  unfolding items_at
  at_place big e section at items h =
      let p = item_at (is_five e) loc big e.address_size in
      let t = bind_parts (items_up_to p (length (drop at section)) (drop at section)) (λ x. Some x.0) items h in
      (t.0.1, subst (λ xs. items_up_to p (length (drop at section)) (drop at section) ≡ Some (xs, t.0.1)) (some_same t.0.0 items t.2) t.1)

  pub tables_are_read_back : TablesAreReadBack loc grammar view
  tables_are_read_back e place xs h again info big l before bytes rest text i x there numbered =
      let f : IsFound loc e place info big l (before ++ (bytes ++ rest)) (offsets_from loc e place (length before) xs) i x = again info big l before bytes rest text i x there numbered in
      let b = table_there loc e place info big l xs i x bytes there text in
      let t = at_place big e (before ++ (bytes ++ rest)) f.place_of b.0 (f.items ∙ b.1) in
      record {
        place_of = f.place_of;
        answered = f.answered;
        entry = λ base is. found_whole e big (before ++ (bytes ++ rest)) base i f.place_of (f.entry base is);
        items = b.0;
        built = b.1;
        behind = t.0;
        read = lists_are_one.read big e (drop f.place_of (before ++ (bytes ++ rest))) b.0 t.0 h t.1;
      }
