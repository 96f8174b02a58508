use Rattle.std.proofs.Common.{◌≡◌, ◌∙◌, refl, ap, ℕ, List, [], ◌∷◌, Bool, true, false, map, rules}
use Rattle.std.specs.Prelude.{◌==◌, not, filter, if◌then◌else◌}
use Rattle.std.proofs.lemmas.Fn.{filter_same}
use Rattle.dw_base.specs.declared.ids.UnitEntryId.{UnitEntryId}
use Rattle.dw_entries.specs.Entries.{index_of}
use Rattle.dw_entries.proofs.entry.delete_child_in.Goals as goal

map-filter : (p : ℕ → Bool) (ids : List UnitEntryId) → map index_of (filter (λ i. p i.0) ids) ≡ filter p (map index_of ids)
map-filter p [] = refl
map-filter p (i ∷ ids) = go (p i.0) (map-filter p ids)
  where
    go : (b : Bool) → map index_of (filter (λ i. p i.0) ids) ≡ filter p (map index_of ids) → map index_of (if b then i ∷ filter (λ i. p i.0) ids else filter (λ i. p i.0) ids) ≡ (if b then i.0 ∷ filter p (map index_of ids) else filter p (map index_of ids))
    go true r = ap (λ t. i.0 ∷ t) r
    go false r = r

pub returns : goal.returns
returns c =
    let left = filter_same _ (λ i. not (i.0 == c.args.id.0)) _ (λ x b q t. search rules) _ _ c.retain.ensures.filtered in
    ap (map index_of) left ∙ map-filter (λ x. not (x == c.args.id.0)) c.args.children.now.items
