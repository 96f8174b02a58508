-- What a draft comes to once its references are filled in, which were the only open ones of their section.
use Rattle.std.specs.Prelude.{◌≡◌, ◌+◌, List, [], ◌++◌}
use Rattle.std.proofs.Common.{sym, ◌∙◌, ap, subst, arith}
use Rattle.dw_base.specs.declared.error.Error.{Error}
use Rattle.dw_base.specs.declared.section_id.SectionId.TheVariants.{DebugInfo}
use Rattle.dw_writer.specs.Texts.{followed}
use Rattle.dw_writer.specs.Meaning.{Meaning, IsTidy, resolved, start_of}
use Rattle.dw_writer.specs.Drafts.{Info, Draft, Drafts, shifted, started, open_text, filled, AreBetween, HaveWidths, AreClear}
use Rattle.dw_writer.specs.declared.fixup.DebugInfoFixup.{DebugInfoFixup}
use Rattle.dw_writer.proofs.DraftLaws.{filled-behind, between-from, widths-shifted}
use Rattle.dw_writer.proofs.Laws.{resolved-wide}
use Rattle.dw_writer.proofs.Steps.{IsSameWriter-trans}
use Rattle.dw_writer.proofs.WriteLaws.{between-place}
use Rattle.dw_unit.specs.Filled.{Fills, AreFillable}
use Rattle.dw_tree.specs.Pending.{AddsFilled}
use Rattle.dw_tree.specs.UnitFaults.{holes_fail}
use Rattle.dw_unit.proofs.Filling.{holes-shifted}

module _ (a b : Meaning) (kept all : List DebugInfoFixup) (d : Draft) (none : kept ≡ []) (p : Drafts a b kept all d) where
  own_fixups : all ≡ shifted a.size d.holes
  own_fixups = p.fixups ∙ ap (λ hs. hs ++ shifted a.size d.holes) none

  between : AreBetween 0 b.size all
  between =
      let there : AreBetween (a.size + 0) (a.size + d.size) (shifted a.size d.holes) = between-place a.size 0 0 d.size d.holes p.is.between in
      let moved : AreBetween (a.size + 0) b.size (shifted a.size d.holes) = subst (λ n. AreBetween (a.size + 0) n (shifted a.size d.holes)) (sym p.text.size) there in
      subst (AreBetween 0 b.size) (sym own_fixups) (between-from 0 (a.size + 0) b.size (shifted a.size d.holes) (omega arith) moved)

  clear : IsTidy a → AreClear b all
  clear tidy = subst (AreClear b) (sym own_fixups) (p.clear tidy)

  -- they can be filled in
  pub draft_fillable : AreFillable b all
  draft_fillable = record {
    between = between;
    widths = subst HaveWidths (sym own_fixups) (widths-shifted a.size d.holes p.is.widths);
  }

  -- they fail as those of the draft do
  pub draft_lead : (info : Info) (err : Error) → holes_fail info b.is_plain all err ≡ holes_fail info a.is_plain d.holes err
  draft_lead info err =
      ap (λ hs. holes_fail info b.is_plain hs err) own_fixups
      ∙ holes-shifted info b.is_plain a.size d.holes err
      ∙ ap (λ plain. holes_fail info plain d.holes err) p.text.same.kind

  pub draft_filled : (info : Info) (c : Meaning) → Fills b c info all → AddsFilled a c info d
  draft_filled info c f = record {
    same = IsSameWriter-trans p.text.same f.same;
    size = f.size ∙ p.text.size;
    tidy = λ tidy. (f.resolves (p.text.tidy tidy) (clear tidy) between).0;
    resolves = λ tidy l.
        let at_l = started (start_of l DebugInfo) info in
        (f.resolves (p.text.tidy tidy) (clear tidy) between).1 l
        ∙ ap (λ big. filled big at_l all (resolved l b)) p.text.same.order
        ∙ ap (λ xs. filled a.is_big at_l xs (resolved l b)) own_fixups
        ∙ ap (filled a.is_big at_l (shifted a.size d.holes)) (p.text.resolves tidy l)
        ∙ filled-behind a.is_big at_l d.holes a.size (resolved l a) (open_text d a.is_big l) (resolved-wide l a tidy)
        ∙ ap (followed (resolved l a)) (p.is.fills at_l a.is_big l);
  }
