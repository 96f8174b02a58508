-- Which descriptions of directories or files can be converted (DWARF 5, 6.2.4 and 6.2.4.1).
use Rattle.std.specs.Prelude.{ℕ, ◌<◌, ◌≤◌, ◌==◌, ◌≢◌, List, [], ◌∷◌, All, count_by}
use Rattle.dw_base.specs.declared.constants.DwLnct.{DwLnct}
use Rattle.dw_base.specs.declared.constants.TheConstants.{DW_FORM_implicit_const, DW_LNCT_path, DW_LNCT_directory_index, DW_LNCT_timestamp, DW_LNCT_size, DW_LNCT_MD5, DW_LNCT_LLVM_source}

-- the contents that are known: those of the standard, and the text of a file
abbrev pub known_contents : List DwLnct
known_contents = DW_LNCT_path ∷ DW_LNCT_directory_index ∷ DW_LNCT_timestamp ∷ DW_LNCT_size ∷ DW_LNCT_MD5 ∷ DW_LNCT_LLVM_source ∷ []

-- how many parts tell a content
abbrev pub times_told : DwLnct → List (ℕ × ℕ) → ℕ
times_told content parts = count_by (λ part. part.0 == content.0) parts

-- so many entries of these parts, each of a content and a form, can be converted
pub record IsConvertible (parts : List (ℕ × ℕ)) (count : ℕ) : Type 0 where
  -- the value of such a form stands where the form does, and there is no place for one
  pub no_constants : All (λ part. part.1 ≢ DW_FORM_implicit_const.0) parts
  pub once : All (λ content. times_told content parts ≤ 1) known_contents
  pub named : 0 < count → 0 < times_told DW_LNCT_path parts
