use Rattle.std.proofs.Common.{◌∙◌, sym, ap, subst, map, Some, rules}
use Rattle.std.specs.List.Sorted.{IsStrictlyIncreasing}
use Rattle.std.specs.Option.{option_map}
use Rattle.std.proofs.lemmas.List.Sorted.{answers_always}
use Rattle.dw_entry_ids.specs.KeptRows.{keep_of}
use Rattle.dw_entry_ids.proofs.Searching.{found_kept}
use Rattle.dw_entry_ids.proofs.kept.Kept.keeps.Goals as goal

pub returns-in-Some : goal.returns-in-Some
returns-in-Some c =
    let facts = c.binary_search_by_key.ensures in
    let by_key = facts.position (λ q. q.0) (answers_always _ _ _ (λ f a r g called. search rules)) in
    let rising = rw c.in-Some.is at c.self.invariant in
    let here = subst (λ xs. IsStrictlyIncreasing (map (λ p. p.0) xs)) (sym c.deref.ensures.value) rising in
    c.is_ok.ensures.value
    ∙ found_kept c.deref.result.now c.args.place.0 here c.binary_search_by_key.result facts.bound by_key
    ∙ ap (λ xs. keep_of (Some xs) c.args.place.0) c.deref.ensures.value
    ∙ ap (λ o. keep_of o c.args.place.0) (sym (ap (option_map (λ v. v.items)) c.in-Some.is))
    ∙ ap (λ o. keep_of o c.args.place.0) c.self.view_is
