use Rattle.std.specs.Prelude.{◌≡◌, ℕ, ◌+◌, Bool, true, List, [], ◌++◌, length, Some}
use Rattle.std.proofs.Common.{refl, ap, arith, sym, ◌∙◌}
use Rattle.dw_writer.specs.Texts.{followed}
use Rattle.dw_writer.specs.Meaning.{Meaning, Adds, AddsSome}
use Rattle.dw_writer.proofs.Outcomes.{OnErr-always}
use Rattle.dw_writer.proofs.Parts.{followed-nothing}
use Rattle.dw_writer.proofs.endian_vec.EndianVecWriter.write.Goals as goal

-- a plain writer with these bytes
abbrev plain : Bool → ℕ → List ℕ → Meaning
plain big n xs = record { bytes = Some xs; size = n; is_big = big; is_plain = true; records = []; faults = 0 }

-- bytes that are told, with more of them
added : (big : Bool) (a b : ℕ) (xs ys zs : List ℕ) → ys ≡ xs ++ zs → b ≡ a + length zs → Adds (plain big a xs) (plain big b ys) zs
unfolding followed
added big a b xs ys zs e h = record { same = record { order = refl; kind = refl; faults = omega arith }; size = h; told = ap Some e; records = refl }

-- the same bytes
kept : (big : Bool) (a b : ℕ) (xs ys zs : List ℕ) → ys ≡ xs → b ≡ a → AddsSome (plain big a xs) (plain big b ys) zs
kept big a b xs ys zs e h = record { count = 0; size = omega arith; told = ap Some e ∙ sym (followed-nothing (Some xs)); records = refl }

pub returns-clause-ok : goal.returns-clause-ok
returns-clause-ok g c = let e = c.in_ok-extend_from_slice.ensures in added _ _ _ _ _ _ e.items e.len

pub returns-in_err-extend_from_slice-clause-partly : goal.returns-in_err-extend_from_slice-clause-partly
returns-in_err-extend_from_slice-clause-partly g c =
    let e = c.in_err-extend_from_slice.ensures in
    OnErr-always c.from_residual.result (kept _ _ _ _ _ _ e.items e.len)
