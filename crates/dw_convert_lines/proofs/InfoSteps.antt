-- What becomes of what is known of a file, step by step.
use Rattle.std.proofs.Common.{◌≡◌, ◌∙◌, ap, sym, ℕ, Bool, true, false, List, Option, None, Result, Ok, Err, refl}
use Rattle.dw_line.specs.declared.line_string.FileInfo.{FileInfo}
use Rattle.dw_line.specs.declared.line_string.LineString.{LineString}
use Rattle.dw_read_lines.specs.LineEntries.{Entry}
use Rattle.dw_sources.specs.declared.convert_error.ConvertError.{ConvertError}
use Rattle.dw_convert_lines.specs.EntryImages.{number_image, checksum_image, source_image, info_image}
use Rattle.dw_convert_lines.specs.EntryNames.{Texts, Tables}
use Rattle.dw_convert_lines.specs.Results.{◌=>◌}
use Rattle.dw_convert_lines.proofs.FileSteps.{stops, goes_on}

module _ (texts : Texts) (big : Bool) (t : Tables) (x : Entry) where
  abbrev Made : Type 0
  Made = Result (FileInfo × Tables) ConvertError

  abbrev old : ℕ → ℕ → Made
  old timestamp size = Ok (record { timestamp = timestamp; size = size; md5 = None; source = None }, t)

  abbrev sourced : ℕ → ℕ → Option (List ℕ) → Option LineString × Tables → Made
  sourced timestamp size md5 source = Ok (record { timestamp = timestamp; size = size; md5 = md5; source = source.0 }, source.1)

  abbrev summed : ℕ → ℕ → Option (List ℕ) → Made
  summed timestamp size md5 = source_image true texts t x.source => sourced timestamp size md5

  abbrev new : ℕ → ℕ → Made
  new timestamp size = checksum_image big x.md5 => summed timestamp size

  -- by whether there are checksums and texts
  abbrev sized : Bool → ℕ → ℕ → Made
  sized false timestamp size = old timestamp size
  sized true timestamp size = new timestamp size

  abbrev stamped : Bool → ℕ → Made
  stamped b timestamp = number_image x.size => sized b timestamp

  by_steps : (b : Bool) → info_image texts big b t x ≡ (number_image x.timestamp => stamped b)
  by_steps false = refl
  by_steps true = refl

  pub timestamp_refused : (b : Bool) (e : ConvertError) → Err e ≡ number_image x.timestamp → info_image texts big b t x ≡ Err e
  timestamp_refused b e h = by_steps b ∙ stops (number_image x.timestamp) (stamped b) e (sym h)

  module _ (timestamp : ℕ) (h : Ok timestamp ≡ number_image x.timestamp) where
    at_timestamp : (b : Bool) → info_image texts big b t x ≡ stamped b timestamp
    at_timestamp b = by_steps b ∙ goes_on (number_image x.timestamp) (stamped b) timestamp (sym h)

    pub size_refused : (b : Bool) (e : ConvertError) → Err e ≡ number_image x.size → info_image texts big b t x ≡ Err e
    size_refused b e k = at_timestamp b ∙ stops (number_image x.size) (sized b timestamp) e (sym k)

    module _ (size : ℕ) (k : Ok size ≡ number_image x.size) (b : Bool) where
      at_size : info_image texts big b t x ≡ sized b timestamp size
      at_size = at_timestamp b ∙ goes_on (number_image x.size) (sized b timestamp) size (sym k)

      pub old_made : b ≡ false → info_image texts big b t x ≡ old timestamp size
      old_made q = at_size ∙ ap (λ c. sized c timestamp size) q

      module _ (q : b ≡ true) where
        at_new : info_image texts big b t x ≡ new timestamp size
        at_new = at_size ∙ ap (λ c. sized c timestamp size) q

        pub checksum_refused : (e : ConvertError) → Err e ≡ checksum_image big x.md5 → info_image texts big b t x ≡ Err e
        checksum_refused e l = at_new ∙ stops (checksum_image big x.md5) (summed timestamp size) e (sym l)

        module _ (md5 : Option (List ℕ)) (l : Ok md5 ≡ checksum_image big x.md5) where
          at_checksum : info_image texts big b t x ≡ summed timestamp size md5
          at_checksum = at_new ∙ goes_on (checksum_image big x.md5) (summed timestamp size) md5 (sym l)

          pub source_refused : (e : ConvertError) → source_image true texts t x.source ≡ Err e → info_image texts big b t x ≡ Err e
          source_refused e m = at_checksum ∙ stops (source_image true texts t x.source) (sourced timestamp size md5) e m

          pub info_made : (source : Option LineString × Tables) → source_image true texts t x.source ≡ Ok source → info_image texts big b t x ≡ Ok (record { timestamp = timestamp; size = size; md5 = md5; source = source.0 }, source.1)
          info_made source m = at_checksum ∙ goes_on (source_image true texts t x.source) (sourced timestamp size md5) source m
