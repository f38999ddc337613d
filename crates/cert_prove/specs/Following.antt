-- How far the order goes, and what is known there (docs/DEFINITIONS.md, The order of a plan).
use Rattle.std.specs.Prelude.{◌≡◌, ◌↔◌, true, false, List, map, length}
use Rattle.sem_profile.specs.declared.profile.Format.{Format}
use Rattle.sem_profile.specs.declared.profile.FormatSizes.{FormatSizes}
use Rattle.sem_profile.specs.declared.profile.MethodSizes.{MethodSizes}
use Rattle.cert_types.specs.declared.certificate.Version.{Version}
use Rattle.cert_types.specs.declared.certificate.Direction.{Direction}
use Rattle.cert_types.specs.declared.certificate.Step.{Step}
use Rattle.cert_types.specs.declared.rule.Fact.{Fact}
use Rattle.cert_types.specs.Kept.{IsPlanKept, step_limit}
use Rattle.cert_rules.specs.Plans.{Way, way_of, known_after, is_complete}
use Rattle.cert_plans.specs.declared.knowledge.Knowledge.{Knowledge}
use Rattle.cert_plans.specs.Knowing.{shows, Knows}
use Rattle.cert_prove.specs.declared.plan.End.{End}
use Rattle.cert_prove.specs.declared.plan.End.TheVariants.{Complete, Stopped, Full}
use Rattle.cert_prove.specs.declared.plan.Followed.{Followed}
use Rattle.cert_prove.specs.Closure.{Closure}
use Rattle.cert_prove.specs.Order.{order_of}
use Rattle.cert_prove.specs.Ordered.{Follows}
use Rattle.cert_prove.specs.Searching.{ruled, possible_of}

-- what is known is just what the steps of the format can come to know
abbrev pub KnowsAllThereIs : Way → Knowledge → Type 0
KnowsAllThereIs way known = (x : Fact) → (shows known x ≡ true) ↔ Closure way x

-- complete: all that is wanted is known. Stopped: not all of it, and all there is to know is known. Full: not all of it, after as many steps as a plan may have.
abbrev pub EndsSo : Way → List Step → Knowledge → End → Type 0
EndsSo way steps known Complete = is_complete way.goals (known_after way.rule way.start steps) ≡ true
EndsSo way steps known Stopped = (is_complete way.goals (known_after way.rule way.start steps) ≡ false) × KnowsAllThereIs way known
EndsSo way steps known Full = (is_complete way.goals (known_after way.rule way.start steps) ≡ false) × (length steps ≡ step_limit)

-- the steps that have a rule, in the order; those that were taken follow it; what is known after them; and where it ends
pub record IsFollowed (version : Version) (direction : Direction) (table : List MethodSizes) (sizes : FormatSizes) (format : Format) (f : Followed) : Type 0 where
  pub possible : map (ruled format) f.possible ≡ possible_of (way_of version direction table sizes format).rule (order_of direction format)
  pub follows : Follows (way_of version direction table sizes format) (order_of direction format) (way_of version direction table sizes format).start f.steps
  pub kept : IsPlanKept f.steps
  pub knows : Knows f.known (known_after (way_of version direction table sizes format).rule (way_of version direction table sizes format).start f.steps)
  pub ends : EndsSo (way_of version direction table sizes format) f.steps f.known f.end
