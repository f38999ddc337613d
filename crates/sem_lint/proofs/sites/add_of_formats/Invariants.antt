use Rattle.std.proofs.Common.{take}
use Rattle.sem_lint.specs.SitesSteps as steps
use Rattle.sem_lint.proofs.sites.add_of_formats.Given as goal

abbrev pub invariant-loop-format : goal.invariant-loop-format
invariant-loop-format l = steps.Step l.path (steps.CallsInFormats (take l.format-index l.formats)) l.fn.sites l.sites
