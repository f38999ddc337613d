-- A file with a normal form has no cause for a fault.
use Rattle.sem_profile.specs.declared.extent.Extent.TheVariants.{Known}
use Rattle.sem_profile.specs.Parameters.{beyond}
use Rattle.text_resolve.specs.Excluded.{NoCause}
use Rattle.text_resolve.specs.Resolved.{in_head, in_methods, has_no_top, calls_back, in_profile, too_large, no_bounds}
use Rattle.text_resolve.proofs.ExcludedCalls.{no_cause_of_top, no_cause_of_calls}
use Rattle.text_resolve.proofs.ExcludedFileNames.{no_cause_of_head}
use Rattle.text_resolve.proofs.ExcludedLimits.{no_cause_of_limits, no_cause_of_bounds}
use Rattle.text_resolve.proofs.ExcludedMethods.{no_cause_of_methods}

pub no_cause : NoCause
no_cause text parts name p form f (in_head cause) = no_cause_of_head text parts name p form f cause
no_cause text parts name p form f (in_methods cause) = no_cause_of_methods text parts name p form f cause
no_cause text parts name p form f (has_no_top missing) = no_cause_of_top text parts name p form missing
no_cause text parts name p form f (calls_back cause) = no_cause_of_calls text parts name p form f cause
no_cause text parts name p form f (in_profile all top place have (too_large cause)) = no_cause_of_limits text parts name p form all top place have f cause
no_cause text parts name p form f (in_profile all top place have (no_bounds kept order reached ordered cause)) =
    no_cause_of_bounds text parts name p form all kept top order place have reached ordered cause.table beyond cause.sized cause.ranged Known f cause.faulty
