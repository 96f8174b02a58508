use Rattle.std.proofs.Common.{◌≡◌, ◌++◌, ◌∷◌, [], List, Option, IfSome, ◌⊎◌, inl, ⊎_elim, subst}
use Rattle.std.specs.List.{Contains}
use Rattle.dw_base.specs.declared.offsets.UnitSectionOffset.{UnitSectionOffset}
use Rattle.dw_filter.specs.Dependencies.{Known, targets}
use Rattle.dw_filter.specs.Links.{Adds, Grows}
use Rattle.dw_filter.proofs.LinkSteps.{adds_alone, adds_both, adds_up, edge_put, grows_as, grows_both, is_known_then, not_false, not_true, on_ok}
use Rattle.dw_filter.proofs.links.add_links.Goals as goal

pub returns-in-None-clause-ok : goal.returns-in-None-clause-ok
returns-in-None-clause-ok c =
    let l = c.args.links in
    on_ok c.add_known.result _ _
    (λ g. grows_as c.args.dependencies.now c.add_known.new.dependencies (λ q. l.place ≡ q) (λ q. l.place ≡ q) (λ p q. (p ≡ l.place) × Contains l.named.items q) (Adds l) g (λ q. (λ h. h, λ h. h)) (adds_alone l c.in-None.is))
    c.add_known.ensures.ok

pub returns-then-not-links-clause-ok : goal.returns-then-not-links-clause-ok
returns-then-not-links-clause-ok c =
    let l = c.args.links in
    let parent = c.in-Some.parent in
    grows_as c.args.dependencies.now c.add_known-in-Some.new.dependencies (λ q. l.place ≡ q) (λ q. l.place ≡ q) (λ p q. (p ≡ l.place) × Contains (l.named.items ++ parent ∷ []) q) (Adds l)
    (subst (λ (xs : List UnitSectionOffset). Grows c.args.dependencies.now c.add_known-in-Some.new.dependencies (λ q. l.place ≡ q) (λ p q. (p ≡ l.place) × Contains xs q)) c.in_ok-push-in-Some.ensures.items c.in_ok-add_known-in-Some.ensures.ok)
    (λ q. (λ h. h, λ h. h)) (adds_up l parent c.in-Some.is (not_true l.is_led_to c.if-not-links.true))

pub returns-else-not-links-clause-ok : goal.returns-else-not-links-clause-ok
returns-else-not-links-clause-ok c =
    let l = c.args.links in
    let parent = c.in-Some.parent in
    let own : Grows c.args.dependencies.now c.add_known-in-Some.new.dependencies (λ q. l.place ≡ q) (λ p q. (p ≡ l.place) × Contains (l.named.items ++ parent ∷ []) q) =
    subst (λ (xs : List UnitSectionOffset). Grows c.args.dependencies.now c.add_known-in-Some.new.dependencies (λ q. l.place ≡ q) (λ p q. (p ≡ l.place) × Contains xs q)) c.in_ok-push-in-Some.ensures.items c.in_ok-add_known-in-Some.ensures.ok in
    let known : Known (targets c.args.dependencies.now) parent = subst (λ (o : Option UnitSectionOffset). IfSome o (λ p. Known (targets c.args.dependencies.now) p)) c.in-Some.is c.requires in
    let still = is_known_then c.args.dependencies.now c.add_known-in-Some.new.dependencies (λ q. l.place ≡ q) (λ p q. (p ≡ l.place) × Contains (l.named.items ++ parent ∷ []) q) parent own known in
    on_ok c.add_edge.result _ _
    (λ put. grows_as c.args.dependencies.now c.add_edge.new.self (λ q. (l.place ≡ q) ⊎ ⊥) (λ q. l.place ≡ q) (λ p q. ((p ≡ l.place) × Contains (l.named.items ++ parent ∷ []) q) ⊎ ((p ≡ parent) × (l.place ≡ q))) (Adds l)
    (grows_both c.args.dependencies.now c.add_known-in-Some.new.dependencies c.add_edge.new.self (λ q. l.place ≡ q) (λ q. ⊥) (λ p q. (p ≡ l.place) × Contains (l.named.items ++ parent ∷ []) q) (λ p q. (p ≡ parent) × (l.place ≡ q)) own
    (edge_put c.add_known-in-Some.new.dependencies c.add_edge.new.self parent l.place still put))
    (λ q. (λ h. ⊎_elim (λ h. h) (λ h. absurd h) h, λ h. inl h)) (adds_both l parent c.in-Some.is (not_false l.is_led_to c.if-not-links.false)))
    c.add_edge.ensures.ok
