use Rattle.std.proofs.Common.{subst, IfOk}
use Rattle.std.proofs.lemmas.Result.{IfOk-weaker}
use Rattle.text_methods.specs.Encodings.{GivenMeans, bare, encoded}
use Rattle.sem_profile.specs.declared.profile.Encoding.TheVariants.{Bare}
use Rattle.text_methods.proofs.encodings.resolved_encoding.Goals as goal

pub returns-in_default-clause-means : goal.returns-in_default-clause-means
returns-in_default-clause-means c = rw c.in_default.is bare

pub returns-in-Some-encoding_at-clause-means : goal.returns-in-Some-encoding_at-clause-means
returns-in-Some-encoding_at-clause-means c =
    rw c.in-Some.is (subst (λ o. IfOk c.encoding.result (GivenMeans c.args.scope.now c.args.methods.now o)) c.in-Some-encoding_at.ensures (IfOk-weaker c.encoding.result _ _ (λ e means. encoded means) c.encoding.ensures.means))

pub returns-in-None-clause-means : goal.returns-in-None-clause-means
returns-in-None-clause-means c = rw c.in-Some.is (subst (λ o. GivenMeans c.args.scope.now c.args.methods.now o Bare) c.in-None.ensures bare)
