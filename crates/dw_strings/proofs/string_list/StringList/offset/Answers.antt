use Rattle.std.proofs.Common.{◌≡◌, ◌<◌, ◌∙◌, ap, subst, length, arith}
use Rattle.std.specs.List.{All}
use Rattle.std.proofs.lemmas.List.{get_or_default}
use Rattle.dw_base.specs.Spellable.{IsText}
use Rattle.dw_strings.specs.Strings.{string_place, string_at, string_bytes}
use Rattle.dw_strings.proofs.StringLaws.{string_at-place}
use Rattle.dw_strings.proofs.string_list.StringList.offset.Goals as goal

pub returns-clause-read : goal.returns-clause-read
returns-clause-read c =
    let here : c.args.index < length c.self.inside.strings.keys = omega (arith, ap length c.self.view_is, c.requires) in
    let inside : c.args.index < length c.self.inside.offsets.items = omega (arith, c.self.invariant.count) in
    let place : c.index.result.now ≡ string_place c.args.self.now c.args.index =
    c.index.ensures ∙ get_or_default _ _ _ _ inside ∙ c.self.invariant.each c.args.index here ∙ ap (λ ss. string_place ss c.args.index) c.self.view_is in
    let texts : All IsText c.args.self.now = subst (All IsText) c.self.view_is c.self.invariant.texts in
    ap (λ p. string_at p (string_bytes c.args.self.now)) place ∙ string_at-place c.args.self.now c.args.index texts c.requires
