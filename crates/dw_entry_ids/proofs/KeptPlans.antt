-- The rows that stay are the tree of the entries that are kept, each under its own parent.
use Rattle.std.proofs.Common.{◌≡◌, ◌∙◌, sym, ap, subst, ℕ, ◌+◌, ◌<◌, ◌==◌, ◌||◌, List, [], ◌∷◌, ◌++◌, length, map, filter, get_or, cond, Bool, true, false, ◌⊎◌, inl, inr, refl, arith, append-nil, append_assoc}
use Rattle.std.specs.Prelude.{slice_get, if◌then◌else◌}
use Rattle.std.proofs.lemmas.List.{map-append}
use Rattle.std.proofs.lemmas.List.Elements.{filter-append}
use Rattle.std.proofs.lemmas.Option.{get_or_from_slice_get}
use Rattle.dw_base.specs.Entries.{ReadEntry, Mark, Open, Null, Row}
use Rattle.dw_entry_ids.specs.Ids.{entry_count, places_among}
use Rattle.dw_entry_ids.specs.Plans.{Plan, parent_behind, plan_of, plans_of}
use Rattle.dw_entry_ids.specs.KeptRows.{IsClosed, images_behind, images_of, kept_plans, kept_rows, mark_stays, renumbered, row_stays}
use Rattle.dw_entry_ids.proofs.KeptLaws.{image_own, images_append, images_count, images_stay, kept_nil, own_parent, place_at, root_image, rows_kept_more}
use Rattle.dw_entry_ids.proofs.Planning.{parent_below, plans_none, plans_one}

module _ (keep : ℕ → Bool) (from : ℕ) (all : List Row) (closed : IsClosed keep from all) where
  abbrev stay : List Row → List Row
  stay rows = kept_rows keep from rows

  abbrev images : List ℕ
  images = images_of keep from all

  abbrev test : Plan → Bool
  test p = p.number == 0 || keep (get_or (places_among from all) p.number 0)

  abbrev planned : List Row → List Plan
  planned rows = map (renumbered images) (filter test (plans_of rows))

  -- one row more of all
  step : (front rest : List Row) (r : Row) → all ≡ front ++ r ∷ rest → plans_of (stay front) ≡ planned front → plans_of (stay (front ++ r ∷ [])) ≡ planned (front ++ r ∷ [])
  step front rest r is h = by r.mark refl
    where
      n : ℕ
      n = entry_count front

      up : ℕ
      up = parent_behind front r.depth

      more : (b : Bool) → row_stays keep from n r ≡ b → stay (front ++ r ∷ []) ≡ stay front ++ (if b then r ∷ [] else [])
      more b e = rows_kept_more keep from front r ∙ ap (λ (c : Bool). stay front ++ (if c then r ∷ [] else [])) e

      planned_more : (ps : List Plan) → plan_of n up r.mark ≡ ps → planned (front ++ r ∷ []) ≡ planned front ++ map (renumbered images) (filter test ps)
      planned_more ps e =
          ap (λ (qs : List Plan). map (renumbered images) (filter test qs)) (plans_one front r ∙ ap (λ (qs : List Plan). plans_of front ++ qs) e)
          ∙ ap (map (renumbered images)) (filter-append test (plans_of front) ps)
          ∙ map-append (renumbered images) (filter test (plans_of front)) (filter test ps)

      by : (m : Mark ReadEntry) → r.mark ≡ m → plans_of (stay (front ++ r ∷ [])) ≡ planned (front ++ r ∷ [])
      by Null q =
          ap plans_of (more true (ap (mark_stays (n == 0 || keep (from + r.from))) q))
          ∙ plans_one (stay front) r
          ∙ ap (λ (m : Mark ReadEntry). plans_of (stay front) ++ plan_of (entry_count (stay front)) (parent_behind (stay front) r.depth) m) q
          ∙ append-nil (plans_of (stay front)) ∙ h
          ∙ sym (append-nil (planned front))
          ∙ sym (planned_more [] (ap (plan_of n up) q))
      by (Open e) q = kept (n == 0 || keep (from + r.from)) refl
        where
          plan : Plan
          plan = record { number = n; parent = up; entry = e }

          there : get_or (places_among from all) n 0 ≡ from + r.from
          there = get_or_from_slice_get (places_among from all) n (from + r.from) 0 (ap (λ (rows : List Row). slice_get (places_among from rows) n) is ∙ place_at keep from front r rest e q)

          told : test plan ≡ (n == 0 || keep (from + r.from))
          told = ap (λ (p : ℕ). n == 0 || keep p) there

          stays : row_stays keep from n r ≡ (n == 0 || keep (from + r.from))
          stays = ap (mark_stays (n == 0 || keep (from + r.from))) q

          kept : (b : Bool) → (n == 0 || keep (from + r.from)) ≡ b → plans_of (stay (front ++ r ∷ [])) ≡ planned (front ++ r ∷ [])
          kept false b =
              ap plans_of (more false (stays ∙ b) ∙ append-nil (stay front)) ∙ h
              ∙ sym (append-nil (planned front))
              ∙ ap (λ (c : Bool). planned front ++ map (renumbered images) (cond c (plan ∷ []) [])) (sym (told ∙ b))
              ∙ sym (planned_more (plan ∷ []) (ap (plan_of n up) q))
          kept true b =
              let own : get_or images n 0 ≡ entry_count (stay front) = ap (λ (rows : List Row). get_or (images_of keep from rows) n 0) is ∙ image_own keep from front r rest e q b in
              let was : get_or images up 0 ≡ get_or (images_of keep from front) up 0 = ap (λ (rows : List Row). get_or (images_of keep from rows) up 0) is ∙ ap (λ (xs : List ℕ). get_or xs up 0) (images_append keep from [] [] front (r ∷ rest)) ∙ before (parent_below front r.depth) in
              let above : parent_behind (stay front) r.depth ≡ get_or images up 0 = own_parent keep from all front r rest e closed (is ∙ sym (append_assoc front (r ∷ []) rest)) q b ∙ sym was in
              ap plans_of (more true (stays ∙ b))
              ∙ plans_one (stay front) r
              ∙ ap (λ (m : Mark ReadEntry). plans_of (stay front) ++ plan_of (entry_count (stay front)) (parent_behind (stay front) r.depth) m) q
              ∙ ap (λ (ps : List Plan). ps ++ record { number = entry_count (stay front); parent = parent_behind (stay front) r.depth; entry = e } ∷ []) h
              ∙ ap (λ (m : ℕ). planned front ++ record { number = m; parent = parent_behind (stay front) r.depth; entry = e } ∷ []) (sym own)
              ∙ ap (λ (m : ℕ). planned front ++ record { number = get_or images n 0; parent = m; entry = e } ∷ []) above
              ∙ ap (λ (c : Bool). planned front ++ map (renumbered images) (cond c (plan ∷ []) [])) (sym (told ∙ b))
              ∙ sym (planned_more (plan ∷ []) (ap (plan_of n up) q))
            where
              count : length (images_of keep from front) ≡ 0 + entry_count front
              count = images_count keep from [] [] front

              before : (up ≡ 0) ⊎ (up < entry_count front) → get_or (images_behind keep from (images_of keep from front) front (r ∷ rest)) up 0 ≡ get_or (images_of keep from front) up 0
              before (inr l) = images_stay keep from (images_of keep from front) front (r ∷ rest) up (omega (arith, count, l))
              before (inl z) =
                  ap (λ (m : ℕ). get_or (images_behind keep from (images_of keep from front) front (r ∷ rest)) m 0) z
                  ∙ ap (λ (xs : List ℕ). get_or xs 0 0) (sym (images_append keep from [] [] front (r ∷ rest)))
                  ∙ root_image keep from [] (front ++ r ∷ rest) refl
                  ∙ sym (root_image keep from [] front refl)
                  ∙ ap (λ (m : ℕ). get_or (images_of keep from front) m 0) (sym z)

  go : (front rest : List Row) → all ≡ front ++ rest → plans_of (stay front) ≡ planned front → plans_of (stay all) ≡ planned all
  go front [] is h = let whole : front ≡ all = sym (is ∙ append-nil front) in subst (λ (rows : List Row). plans_of (stay rows) ≡ planned rows) whole h
  go front (r ∷ rest) is h = go (front ++ r ∷ []) rest (is ∙ sym (append_assoc front (r ∷ []) rest)) (step front rest r is h)

  -- The entries of the rows that stay are those that are kept, renumbered.
  pub plans_kept : plans_of (kept_rows keep from all) ≡ kept_plans keep from all
  plans_kept = go [] all refl (ap plans_of (kept_nil keep from 0) ∙ plans_none ∙ ap (λ (ps : List Plan). map (renumbered images) (filter test ps)) (sym plans_none))
