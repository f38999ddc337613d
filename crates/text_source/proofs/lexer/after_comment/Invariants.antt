use Rattle.std.proofs.Common.{◌≡◌, length}
use Rattle.text_source.specs.Scan.{after_comment}
use Rattle.text_source.proofs.lexer.after_comment.Given as goal

abbrev pub invariant-seek : goal.invariant-seek
invariant-seek l = after_comment l.rest ≡ after_comment l.text

abbrev pub decreases-seek : goal.decreases-seek
decreases-seek l = length l.rest
