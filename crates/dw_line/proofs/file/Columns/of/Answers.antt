use Rattle.std.proofs.Common.{◌≡◌, ◌∙◌, ℕ, ◌+◌, ◌<◌, ◌≤◌, Bool, ◌||◌, not, ◌==◌, List, Option, is_some, sym, ap, ap₂, refl, take, get_or, length, arith}
use Rattle.std.specs.List.{list_any}
use Rattle.std.proofs.lemmas.List.{take_all}
use Rattle.std.proofs.lemmas.List.Folds.{list_any_more}
use Rattle.dw_line.specs.Files.{has_timestamp, has_size, has_md5}
use Rattle.dw_line.specs.declared.file.Columns.{Columns}
use Rattle.dw_line.specs.declared.file.FileEntry.{FileEntry}
use Rattle.dw_line.proofs.file.Columns.of.Goals as goal

-- one more file
one_more : (p : FileEntry → Bool) (xs : List FileEntry) (i : ℕ) (x : FileEntry) (b : Bool) → i < length xs → x ≡ get_or xs i x → b ≡ list_any p (take i xs) → (b || p x) ≡ list_any p (take (i + 1) xs)
one_more p xs i x b below is e = ap₂ (λ s t. s || p t) e is ∙ sym (list_any_more p xs i x below)

pub loop-file-init : goal.loop-file-init
loop-file-init c = record { timestamp = refl; size = refl; md5 = refl; source = c.first_source_form.ensures }

pub loop-file-preserved : goal.loop-file-preserved
loop-file-preserved c =
    let xs = c.args.files.now in
    let i = c.loop-file.file-index in
    let x = c.file-item.result in
    let seen = c.loop-file.columns in
    let below : i < length xs = omega arith in
    record {
      timestamp = one_more (λ f. not (f.info.timestamp == 0)) xs i x seen.timestamp below c.file-item.is c.loop-file.invariant.timestamp;
      size = one_more (λ f. not (f.info.size == 0)) xs i x seen.size below c.file-item.is c.loop-file.invariant.size;
      md5 = ap (λ t. seen.md5 || t) c.is_some.ensures ∙ one_more (λ f. is_some f.info.md5) xs i x seen.md5 below c.file-item.is c.loop-file.invariant.md5;
      source = c.loop-file.invariant.source;
    }

pub returns : goal.returns
returns c =
    let xs = c.args.files.now in
    let seen = c.loop-file.columns in
    let past : length xs ≤ c.loop-file.file-index = omega arith in
    let whole = take_all c.loop-file.file-index xs past in
    let told : Bool → Bool → Bool → Option ℕ → Columns = λ t s m o. record { timestamp = t; size = s; md5 = m; source = o } in
    ap (λ t. told t seen.size seen.md5 seen.source) (c.loop-file.invariant.timestamp ∙ ap has_timestamp whole)
    ∙ ap (λ s. told (has_timestamp xs) s seen.md5 seen.source) (c.loop-file.invariant.size ∙ ap has_size whole)
    ∙ ap (λ m. told (has_timestamp xs) (has_size xs) m seen.source) (c.loop-file.invariant.md5 ∙ ap has_md5 whole)
    ∙ ap (λ o. told (has_timestamp xs) (has_size xs) (has_md5 xs) o) c.loop-file.invariant.source
