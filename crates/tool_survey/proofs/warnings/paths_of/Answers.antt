use Rattle.std.proofs.Common.{sym, arith}
use Rattle.std.specs.Map.{keys_of}
use Rattle.std.proofs.lemmas.Map.Entries.{length-keys_of}
use Rattle.tool_survey.proofs.WarningsLemmas.{path_next, path_there}
use Rattle.tool_survey.proofs.warnings.paths_of.Goals.{in-Some+in_ok-push, in_default}
use Rattle.tool_survey.proofs.warnings.paths_of.Goals as goal

pub loop-place-preserved : goal.loop-place-preserved
loop-place-preserved c = elim c.match-path_at.branch [
  | in-Some+in_ok-push w ↦ rw w.paths-is (path_next (keys_of c.args.context.now) c.loop-place.place _ c.loop-place.paths _ (sym w.in-Some.ensures) c.loop-place.invariant w.in_ok-push.ensures.ok)
  | in_default w ↦ absurd (path_there (keys_of c.args.context.now) c.loop-place.place
      (let lt = c.loop-place-test.true in let end = c.len-place-end.ensures.value in let many = length-keys_of c.args.context.now in omega (arith, lt, end, many)) w.in_default.ensures)
]
