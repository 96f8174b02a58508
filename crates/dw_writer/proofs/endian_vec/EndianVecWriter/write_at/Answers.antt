use Rattle.std.specs.Prelude.{◌≡◌, ◌+◌, ◌≤◌, ℕ, Some, OnOk, Result, Ok, Err, List, Bool, true, [], length}
use Rattle.std.proofs.Common.{refl, ap, arith, sym, ◌∙◌}
use Rattle.dw_base.specs.declared.error.Error.{Error}
use Rattle.dw_writer.specs.Texts.{overwrite, patched}
use Rattle.dw_writer.specs.Meaning.{Replaces, ReplacesSome, Meaning}
use Rattle.dw_writer.proofs.Outcomes.{OnErr-map}
use Rattle.dw_writer.proofs.Parts.{patched-nothing, IfErr-kept}
use Rattle.dw_writer.proofs.endian_vec.EndianVecWriter.write_at.Goals as goal

-- a plain writer with these bytes
abbrev plain : Bool → ℕ → List ℕ → Meaning
plain big n xs = record { bytes = Some xs; size = n; is_big = big; is_plain = true; records = []; faults = 0 }

-- bytes that are told, written over
replaced : (big : Bool) (a b d p : ℕ) (xs ys zs : List ℕ) {T : Type 0} (r : Result T Error) →
    OnOk r (ys ≡ overwrite p zs xs) → OnOk r (p + length zs ≤ d) → d ≡ a → b ≡ a → OnOk r (Replaces (plain big a xs) (plain big b ys) p zs)
unfolding patched
replaced big a b d p xs ys zs (Ok u) e h k l =
    record { same = record { order = refl; kind = refl; faults = omega arith }; within = omega arith; size = l; told = ap Some e; records = refl }
replaced big a b d p xs ys zs (Err u) e h k l = tt

-- the same bytes
kept : (big : Bool) (a b p : ℕ) (xs ys zs : List ℕ) → ys ≡ xs → b ≡ a → ReplacesSome (plain big a xs) (plain big b ys) p zs
kept big a b p xs ys zs e h = record { count = 0; size = h; told = ap Some e ∙ sym (patched-nothing p (Some xs)); records = refl }

-- a writer of the same bytes is the same
unchanged : (big : Bool) (a b : ℕ) (xs ys : List ℕ) → ys ≡ xs → b ≡ a → plain big b ys ≡ plain big a xs
unchanged big a b xs ys e h = ap (λ l. plain big b l) e ∙ ap (λ n. plain big n xs) h

pub returns-clause-outside : goal.returns-clause-outside
returns-clause-outside g c =
    let e = c.overwrite_vec.ensures in
    IfErr-kept c.overwrite_vec.result _ _ (OnErr-map c.overwrite_vec.result e.kept (λ k. unchanged _ _ _ _ _ k e.len))

pub returns-clause-ok : goal.returns-clause-ok
returns-clause-ok g c =
    let e = c.overwrite_vec.ensures in
    replaced _ _ _ _ _ _ _ _ _ e.ok e.within refl e.len

pub returns-clause-partly : goal.returns-clause-partly
returns-clause-partly g c =
    let e = c.overwrite_vec.ensures in
    OnErr-map c.overwrite_vec.result e.kept (λ k. kept _ _ _ _ _ _ _ k e.len)
