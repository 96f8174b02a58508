use Rattle.std.proofs.Common.{◌≡◌, ◌-◌, ◌≤◌, vec_len}
use Rattle.std.specs.Prelude.{vec_capacity}
use Rattle.dw_entries.specs.Entries.{filled_up}
use Rattle.dw_entries.proofs.arena.fill_up.Given as goal

abbrev pub invariant-blanks : goal.invariant-blanks
invariant-blanks l = record {
  grown : vec_len l.fn.entries ≤ vec_len l.entries;
  within : vec_len l.entries ≤ l.count;
  room : l.count ≤ vec_capacity l.entries;
  items : l.entries.items ≡ filled_up (vec_len l.entries) l.fn.entries.items;
}

abbrev pub decreases-blanks : goal.decreases-blanks
decreases-blanks l = l.count - vec_len l.entries
