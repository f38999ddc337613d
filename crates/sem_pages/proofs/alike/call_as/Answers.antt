use Rattle.std.proofs.Common.{rules, refl}
use Rattle.std.specs.Prelude.{slice_get}
use Rattle.std.proofs.lemmas.Option.{slice_get_read}
use Rattle.sem_filling.proofs.Each.{before_end, before_next}
use Rattle.sem_pages.specs.Alike.{CallsAs}
use Rattle.sem_pages.proofs.alike.call_as.Goals as goal

pub loop-i-preserved : goal.loop-i-preserved
loop-i-preserved c =
    before_next (λ i d. CallsAs d (slice_get c.args.others.now i)) c.args.fields.now c.loop-i.i c.index-fields-i.result
    (slice_get_read c.args.fields.now _ c.loop-i.i c.index-fields-i.result refl (search rules) c.index-fields-i.is) (c.calls_as.ensures c.if-not-calls_as.false) c.loop-i.invariant

pub returns : goal.returns
returns c = λ _. before_end (λ i d. CallsAs d (slice_get c.args.others.now i)) c.args.fields.now c.loop-i.i (search rules) c.loop-i.invariant
