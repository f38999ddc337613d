use Rattle.std.proofs.Common.{◌≡◌, ◌++◌, ◌-◌, length}
use Rattle.cert_text.specs.Drafts.{nones}
use Rattle.cert_text.proofs.draft.push_nones.Given as goal

abbrev pub invariant-loop : goal.invariant-loop
invariant-loop l = l.entries ++ nones (l.to - l.counter) ≡ l.initial.entries ++ nones (l.to - length l.initial.entries)
