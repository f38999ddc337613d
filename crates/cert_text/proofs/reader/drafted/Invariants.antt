use Rattle.std.proofs.Common.{◌≡◌, map, take, Some}
use Rattle.cert_text.specs.Drafts.{read_lines, start}
use Rattle.cert_text.proofs.reader.drafted.Given as goal

abbrev pub invariant-loop-line : goal.invariant-loop-line
invariant-loop-line l = read_lines l.methods start (map (λ x. x.text.now) (take l.line-index l.lines)) ≡ Some l.draft
