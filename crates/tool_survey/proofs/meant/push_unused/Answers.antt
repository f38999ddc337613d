use Rattle.std.proofs.Common.{◌++◌, ℕ, Bool}
use Rattle.std.specs.Prelude.{string_bytes}
use Rattle.std.proofs.lemmas.List.{get_or_default}
use Rattle.tool_survey.specs.Meant.{at, unused_line, unused_by}
use Rattle.tool_names.proofs.TableLists.{goes_end, goes_on}
use Rattle.tool_survey.proofs.meant.push_unused.Goals as goal

pub loop-index-preserved : goal.loop-index-preserved
loop-index-preserved c = goes_on (λ (p : ℕ × Bool). unused_line (at c.args.used.now p.0) p.0 p.1) c.args.meant.now c.loop-index.index _ (string_bytes c.loop-index.shown) _ (string_bytes c.args.shown.now ++ unused_by c.args.used.now c.args.meant.now) c.loop-index-test.true (get_or_default c.args.meant.now c.loop-index.index _ _ c.loop-index-test.true) c.loop-index.invariant c.in_ok-push_unused_at.ensures

pub returns : goal.returns
returns c = goes_end (λ (p : ℕ × Bool). unused_line (at c.args.used.now p.0) p.0 p.1) c.args.meant.now c.loop-index.index (string_bytes c.loop-index.shown) (string_bytes c.args.shown.now ++ unused_by c.args.used.now c.args.meant.now) c.loop-index-test.false c.loop-index.invariant
