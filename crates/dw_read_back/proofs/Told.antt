-- What is told at a place, from what is read there.
use Rattle.std.proofs.Common.{◌≡◌, ap, ℕ, Bool, List, map, length, drop, Option, Some, None, refl}
use Rattle.std.proofs.lemmas.List.{drop_all}
use Rattle.std.specs.Prelude.{◌≤◌}
use Rattle.dw_base.specs.Numbers.{Parser, ◌>>=◌}
use Rattle.dw_base.specs.declared.common.Encoding.{Encoding}
use Rattle.dw_base.proofs.NumberLaws.{bind_is}
use Rattle.dw_lists.specs.Items.{Item, items_up_to, item_at, items_at, is_five}
use Rattle.dw_read_back.specs.Walks.{AreItems}
use Rattle.dw_read_back.specs.Laws.{HasAddressSize, ItemsAreOne, items_from}
use Rattle.dw_read_back.specs.ReadLists.{AreTold}
use Rattle.dw_read_back.proofs.Lists.{lists_are_one, at_place}

module _ (loc big : Bool) (e : Encoding) (section : List ℕ) (at : ℕ) where
  from_place : (items : List Item) (behind : List ℕ) → items_from loc big e (drop at section) ≡ Some (items, behind) → items_at loc big e section at ≡ Some items
  unfolding items_at
  from_place items behind h = bind_is _ (items, behind) (λ x. Some x.0) h

  -- past the end nothing is told
  pub none_past : length section ≤ at → items_at loc big e section at ≡ None
  unfolding items_at items_up_to
  none_past le = ap (λ bs. items_up_to (item_at (is_five e) loc big e.address_size) (length bs) bs >>= λ x. Some x.0) (drop_all at section le)

module _ {A : Type 0} (loc : Bool) (grammar : Bool → Encoding → Parser (Option A)) (view : Bool → Item → A) (one : ItemsAreOne loc grammar view) (big : Bool) (e : Encoding) (section : List ℕ) (at : ℕ) (size : HasAddressSize e) where
  -- what is read up to the close is told
  pub all_told : (ys : List A) (behind : List ℕ) → AreItems (grammar big e) (drop at section) ys behind → AreTold (view (is_five e)) (items_at loc big e section at) ys
  all_told ys behind h =
      let w = (lists_are_one loc grammar view one).written big e (drop at section) ys behind size h in
      record { items = w.items; is = from_place loc big e section at w.items behind w.told; same = w.same }

  -- where no list is read, none is told
  pub none_told : ((ys : List A) (behind : List ℕ) → AreItems (grammar big e) (drop at section) ys behind → ⊥) → items_at loc big e section at ≡ None
  none_told none = by (items_at loc big e section at) refl
    where
      by : (o : Option (List Item)) → items_at loc big e section at ≡ o → o ≡ None
      by None h = refl
      by (Some items) h =
          let t = at_place loc grammar view one big e section at items h in
          absurd (none (map (view (is_five e)) items) t.0 ((lists_are_one loc grammar view one).read big e (drop at section) items t.0 size t.1))
