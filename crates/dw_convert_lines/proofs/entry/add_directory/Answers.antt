use Rattle.dw_convert_lines.proofs.Reasons.{is_err}
use Rattle.std.proofs.Common.{subst, ℕ, ◌≤◌, inl, refl}
use Rattle.dw_convert_lines.proofs.Indices.{target_added}
use Rattle.dw_convert_lines.proofs.entry.add_directory.Goals as goal

pub returns-in_ok-push-in-Ok-clause-target : goal.returns-in_ok-push-in-Ok-clause-target
returns-in_ok-push-in-Ok-clause-target g c = target_added _ _ _ _ _ c.in_ok-name.name c.in-Ok.id c.requires c.in-Ok.ensures.id c.in-Ok.ensures.ok c.in_ok-push-in-Ok.ensures.items

pub add_directory-requires-clause-there : goal.add_directory-requires-clause-there
add_directory-requires-clause-there g c = c.requires.there

pub add_directory-requires-clause-text : goal.add_directory-requires-clause-text
add_directory-requires-clause-text g c = c.in_ok-name.ensures.text

pub add_directory-requires-clause-named : goal.add_directory-requires-clause-named
add_directory-requires-clause-named g c = λ old. c.in_ok-name.ensures.full (subst (λ (v : ℕ). v ≤ 4) c.requires.encoded old)

pub returns-in_err-name-clause-ok : goal.returns-in_err-name-clause-ok
returns-in_err-name-clause-ok g c = rw (is_err _ _ c.from_residual.ensures) tt

pub returns-in_err-name-clause-target : goal.returns-in_err-name-clause-target
returns-in_err-name-clause-target g c = rw (is_err _ _ c.from_residual.ensures) tt

pub returns-in_err-push-in-Ok-clause-ok : goal.returns-in_err-push-in-Ok-clause-ok
returns-in_err-push-in-Ok-clause-ok g c = rw (is_err _ _ c.from_residual-in_err-push-in-Ok.ensures) tt

pub returns-in_err-push-in-Ok-clause-target : goal.returns-in_err-push-in-Ok-clause-target
returns-in_err-push-in-Ok-clause-target g c = rw (is_err _ _ c.from_residual-in_err-push-in-Ok.ensures) tt

pub returns-in_ok-push-in-Ok-clause-err : goal.returns-in_ok-push-in-Ok-clause-err
returns-in_ok-push-in-Ok-clause-err g c = tt

pub returns-in-Err-clause-ok : goal.returns-in-Err-clause-ok
returns-in-Err-clause-ok g c = tt

pub returns-in-Err-clause-target : goal.returns-in-Err-clause-target
returns-in-Err-clause-target g c = tt

pub returns-in_err-push-in-Ok-clause-err : goal.returns-in_err-push-in-Ok-clause-err
returns-in_err-push-in-Ok-clause-err g c = rw (is_err _ _ c.from_residual-in_err-push-in-Ok.ensures) (inl refl)

pub returns-in-Err-clause-err : goal.returns-in-Err-clause-err
returns-in-Err-clause-err g c = inl refl
