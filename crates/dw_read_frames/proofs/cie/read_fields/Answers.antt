use Rattle.std.proofs.Common.{rules}
use Rattle.std.proofs.lemmas.Int.{to_z-of_z}
use mir.Val.{SFits}
use mir.Syntax.{w64}
use Rattle.std.proofs.lemmas.Result.{err_from_is_err_and}
use Rattle.dw_read_frames.proofs.CieLaws.{fields_no_version, fields_no_text, fields_no_sizes, fields_no_code, fields_no_data, fields_no_register, fields_no_augmentation, fields_took}
use Rattle.dw_read_frames.proofs.cie.read_fields.Goals as goal

pub returns-in_err-version-clause-err : goal.returns-in_err-version-clause-err
returns-in_err-version-clause-err g c =
    let p = err_from_is_err_and c.from_residual.result c.from_residual.ensures.1 in
    rw (p.1, p.2) (fields_no_version c.args.is_eh c.args.size c.args.format _ _ _ _ c.in_err-version.ensures.err)

pub returns-in_err-text-clause-err : goal.returns-in_err-text-clause-err
returns-in_err-text-clause-err g c =
    let p = err_from_is_err_and c.from_residual-in_err-text.result c.from_residual-in_err-text.ensures.1 in
    rw (p.1, p.2) (fields_no_text c.args.is_eh c.args.size c.args.format c.in_ok-version.version _ _ c.in_ok-version.ensures.ok _ c.in_err-text.ensures.err.reason)

pub returns-in_err-address_size-clause-err : goal.returns-in_err-address_size-clause-err
returns-in_err-address_size-clause-err g c =
    let p = err_from_is_err_and c.from_residual-in_err-address_size.result c.from_residual-in_err-address_size.ensures.1 in
    rw (p.1, p.2) (fields_no_sizes c.args.is_eh c.args.size c.args.format c.in_ok-version.version _ _ c.in_ok-version.ensures.ok _ _ c.in_ok-text.ensures.ok _ c.in_err-address_size.ensures.err)

pub returns-in_err-code_alignment_factor-clause-err : goal.returns-in_err-code_alignment_factor-clause-err
returns-in_err-code_alignment_factor-clause-err g c =
    let p = err_from_is_err_and c.from_residual-in_err-code_alignment_factor.result c.from_residual-in_err-code_alignment_factor.ensures.1 in
    rw (p.1, p.2) (fields_no_code c.args.is_eh c.args.size c.args.format c.in_ok-version.version _ _ c.in_ok-version.ensures.ok _ _ c.in_ok-text.ensures.ok c.in_ok-address_size.address_size _ c.in_ok-address_size.ensures.ok _ c.in_err-code_alignment_factor.ensures.err.reason)

pub returns-in_err-data_alignment_factor-clause-err : goal.returns-in_err-data_alignment_factor-clause-err
returns-in_err-data_alignment_factor-clause-err g c =
    let p = err_from_is_err_and c.from_residual-in_err-data_alignment_factor.result c.from_residual-in_err-data_alignment_factor.ensures.1 in
    rw (p.1, p.2) (fields_no_data c.args.is_eh c.args.size c.args.format c.in_ok-version.version _ _ c.in_ok-version.ensures.ok _ _ c.in_ok-text.ensures.ok c.in_ok-address_size.address_size _ c.in_ok-address_size.ensures.ok c.in_ok-code_alignment_factor.code_alignment_factor _ c.in_ok-code_alignment_factor.ensures.ok _ c.in_err-data_alignment_factor.ensures.err.reason)

pub returns-in_err-return_address_register-clause-err : goal.returns-in_err-return_address_register-clause-err
returns-in_err-return_address_register-clause-err g c =
    let p = err_from_is_err_and c.from_residual-in_err-return_address_register.result c.from_residual-in_err-return_address_register.ensures.1 in
    rw (p.1, p.2) (fields_no_register c.args.is_eh c.args.size c.args.format c.in_ok-version.version _ _ c.in_ok-version.ensures.ok _ _ c.in_ok-text.ensures.ok c.in_ok-address_size.address_size _ c.in_ok-address_size.ensures.ok c.in_ok-code_alignment_factor.code_alignment_factor _ c.in_ok-code_alignment_factor.ensures.ok c.in_ok-data_alignment_factor.data_alignment_factor _ c.in_ok-data_alignment_factor.ensures.ok _ c.in_err-return_address_register.ensures.err)

pub returns-in_err-augmentation-clause-err : goal.returns-in_err-augmentation-clause-err
returns-in_err-augmentation-clause-err g c =
    let p = err_from_is_err_and c.from_residual-in_err-augmentation.result c.from_residual-in_err-augmentation.ensures.1 in
    rw (p.1, p.2) (fields_no_augmentation c.args.is_eh c.args.size c.args.format c.in_ok-version.version _ _ c.in_ok-version.ensures.ok _ _ c.in_ok-text.ensures.ok c.in_ok-address_size.address_size _ c.in_ok-address_size.ensures.ok c.in_ok-code_alignment_factor.code_alignment_factor _ c.in_ok-code_alignment_factor.ensures.ok c.in_ok-data_alignment_factor.data_alignment_factor _ c.in_ok-data_alignment_factor.ensures.ok c.in_ok-return_address_register.return_address_register.0 _ c.in_ok-return_address_register.ensures.ok _ c.in_err-augmentation.ensures.err)

pub returns-clause-ok : goal.returns-clause-ok
returns-clause-ok g c =
    let fits : SFits w64 c.in_ok-data_alignment_factor.data_alignment_factor = search rules in
    rw (to_z-of_z w64 c.in_ok-data_alignment_factor.data_alignment_factor fits) (fields_took c.args.is_eh c.args.size c.args.format c.in_ok-version.version _ _ c.in_ok-version.ensures.ok _ _ c.in_ok-text.ensures.ok c.in_ok-address_size.address_size _ c.in_ok-address_size.ensures.ok c.in_ok-code_alignment_factor.code_alignment_factor _ c.in_ok-code_alignment_factor.ensures.ok c.in_ok-data_alignment_factor.data_alignment_factor _ c.in_ok-data_alignment_factor.ensures.ok c.in_ok-return_address_register.return_address_register.0 _ c.in_ok-return_address_register.ensures.ok c.in_ok-augmentation.augmentation _ c.in_ok-augmentation.ensures.ok)
