use Rattle.std.proofs.Common.{◌≡◌, ◌+◌, ◌++◌, [], ◌∷◌, length, rules}
use Rattle.dw_strings.specs.Strings.{AreLaidOut}
use Rattle.dw_strings.proofs.Placing.{added_keys, laid_out_more}
use Rattle.dw_strings.proofs.string_list.StringList.add.Goals as goal

pub invariant_of-self-then-is_new : goal.invariant_of-self-then-is_new
invariant_of-self-then-is_new c =
    let keys : c.insert_full.new.self.keys ≡ c.self.inside.strings.keys ++ c.in_ok-string.string ∷ [] =
    added_keys c.self.inside.strings.keys c.insert_full.new.self.keys c.in_ok-string.string c.in_ok-index.is_new c.if-is_new.true c.in_ok-index.ensures.added c.in_ok-index.ensures.keys in
    let text : c.in_ok-string.string ≡ c.args.bytes.now = c.in_ok-string.ensures.ok in
    let places : c.push.new.self.items ≡ c.self.inside.offsets.items ++ c.self.inside.size ∷ [] = search rules in
    let size : c.in-Some.size + 1 ≡ c.self.inside.size + length c.args.bytes.now + 1 = search rules in
    let laid : AreLaidOut (c.self.inside.strings.keys ++ c.args.bytes.now ∷ []) (c.self.inside.offsets.items ++ c.self.inside.size ∷ []) (c.in-Some.size + 1) =
    laid_out_more c.self.inside.strings.keys c.args.bytes.now c.self.inside.offsets.items c.self.inside.size (c.in-Some.size + 1) c.self.invariant c.requires size in
    rw (keys, text, places) laid
