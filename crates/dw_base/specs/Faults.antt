-- Faults of writers, sources and sinks: their count, and which calls are to fail.
use Rattle.std.specs.Prelude.{ℕ, ◌+◌, ◌-◌, ◌^◌, ◌<◌, ◌≤◌, ◌⊎◌, List, min, Contains}

-- where a count of faults or calls ends: it has 64 bits
abbrev pub last_count : ℕ
last_count = 2 ^ 64 - 1

-- a count of faults rose, or stands at its end and can rise no more
abbrev pub HasRisen : ℕ → ℕ → Type 0
HasRisen old new = (old < new) ⊎ (last_count ≤ new)

-- a count with one more, which stays at its end
abbrev pub one_higher : ℕ → ℕ
one_higher count = min (count + 1) last_count

-- the numbers of the calls that are to fail, from 0, how many calls there were and how many failed
pub record Plan : Type 0 where
  pub failing : List ℕ
  pub calls : ℕ
  pub faults : ℕ

-- the next call is one that is to fail
abbrev pub FailsNext : Plan → Type 0
FailsNext plan = Contains plan.failing plan.calls

-- the plan after a call more
abbrev pub after_call : Plan → Plan
after_call plan = record plan { calls = one_higher plan.calls }

-- the plan after a call more, which failed
abbrev pub after_fault : Plan → Plan
after_fault plan = record plan { calls = one_higher plan.calls; faults = one_higher plan.faults }
