use Rattle.std.proofs.Common.{◌≡◌, subst, drop}
use Rattle.sem_profile.specs.declared.profile.Encoding.TheVariants as encoding
use Rattle.sem_profile.specs.declared.profile.Library.TheVariants as library
use Rattle.walk_write.specs.Refutation.{IsOther, Lacks, by_constant, reference_at}
use Rattle.walk_write.specs.Premises.{numbers}
use Rattle.walk_write.proofs.RefutationFronts.{told}
use Rattle.walk_write.proofs.refutation.is_other_at.Goals as goal

pub returns-then-is_lacking : goal.returns-then-is_lacking
returns-then-is_lacking c = λ t. by_constant (subst (λ z. Lacks c.args.place.now.accepted.now.profile (numbers c.args.told.now) z (drop c.args.begin c.args.source.now.left)) c.get-encoding.ensures (c.in_ok-is_lacking.ensures c.if-is_lacking.true))

pub returns-in-Lsb : goal.returns-in-Lsb
returns-in-Lsb c =
    let ref = reference_at c.args.place.now c.args.field.now in
    let is : encoding.Library (library.Lsb c.in-Lsb.bits c.in-Lsb.offset) ≡ c.args.field.now.encoding = cc in
    told c.is_far.result (λ h. subst (λ z. IsOther c.args.place.now.accepted.now.profile (numbers c.args.told.now) z ref (drop c.args.begin c.args.source.now.left)) is (h (numbers c.args.told.now))) c.is_far.ensures

pub returns-in-Static : goal.returns-in-Static
returns-in-Static c =
    let ref = reference_at c.args.place.now c.args.field.now in
    let is : encoding.Library library.Static ≡ c.args.field.now.encoding = cc in
    told c.is_changed.result (λ h. subst (λ z. IsOther c.args.place.now.accepted.now.profile (numbers c.args.told.now) z ref (drop c.args.begin c.args.source.now.left)) is (h (numbers c.args.told.now))) c.is_changed.ensures
