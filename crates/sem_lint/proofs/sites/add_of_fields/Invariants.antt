use Rattle.std.proofs.Common.{take}
use Rattle.sem_lint.specs.SitesSteps as steps
use Rattle.sem_lint.proofs.sites.add_of_fields.Given as goal

abbrev pub invariant-loop-field : goal.invariant-loop-field
invariant-loop-field l = steps.Step l.path (steps.CallsIn (take l.field-index l.fields)) l.fn.sites l.sites
