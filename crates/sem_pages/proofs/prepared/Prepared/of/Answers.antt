use Rattle.std.proofs.Common.{◌≤◌, ◌∙◌, rules, refl, ap, subst, length, arith}
use Rattle.std.specs.Prelude.{slice_get}
use Rattle.std.proofs.lemmas.Option.{slice_get_read}
use Rattle.sem_pages.specs.Made.{AreMade}
use Rattle.sem_pages.specs.Prepared.{AreConstants, HasComputed, IsCovered}
use Rattle.sem_pages.proofs.prepared.Prepared.of.Goals as goal

pub loop-j-preserved : goal.loop-j-preserved
loop-j-preserved c =
    let here = slice_get_read c.as_slice-constraints.result.now _ c.loop-j.j c.index-constraints-j.result refl (search rules) c.index-constraints-j.is in
    c.in_ok-cover.ensures c.as_slice-constraints.result.now (here ∙ (search rules)) c.loop-j.invariant

pub returns : goal.returns
returns c = record {
  constants = subst (λ z. AreConstants z c.in_ok-constants.constants) c.as_slice.ensures c.in_ok-constants.ensures;
  computed = subst (λ z. AreMade HasComputed z c.in_ok-computed.computed (length z)) c.as_slice-2.ensures c.in_ok-computed.ensures;
  covered = λ j d lt at.
      let count : length c.args.format.now.constraints ≤ c.loop-j.j = (search rules) in
      subst (λ z. IsCovered z c.loop-j.tests.lengths c.loop-j.tests.others j d) c.as_slice-fields.ensures
      (c.loop-j.invariant j d (omega (arith, lt, count)) (ap (λ z. slice_get z j) c.as_slice-constraints.ensures ∙ at));
}
