use Rattle.std.proofs.Common.{◌≡◌, ◌++◌, length}
use Rattle.cert_text.specs.Drafts.{blanks}
use Rattle.cert_text.proofs.draft.push_blanks.Given as goal

abbrev pub invariant-loop-place : goal.invariant-loop-place
invariant-loop-place l = l.entries ++ blanks l.formats l.place l.to ≡ l.initial.entries ++ blanks l.formats (length l.initial.entries) l.to
