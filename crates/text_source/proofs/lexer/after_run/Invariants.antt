use Rattle.std.proofs.Common.{◌≡◌, length}
use Rattle.text_source.specs.Scan.{after_run, is_in}
use Rattle.text_source.proofs.lexer.after_run.Given as goal

abbrev pub invariant-run : goal.invariant-run
invariant-run l = after_run (is_in l.class) l.rest ≡ after_run (is_in l.class) l.text

abbrev pub decreases-run : goal.decreases-run
decreases-run l = length l.rest
