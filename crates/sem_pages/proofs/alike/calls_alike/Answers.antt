use Rattle.std.proofs.Common.{rules, refl}
use Rattle.std.proofs.lemmas.Option.{slice_get_read}
use Rattle.sem_filling.proofs.Each.{before_next}
use Rattle.sem_pages.specs.Alike.{AreFormatsAlike}
use Rattle.sem_pages.proofs.Calling.{alike_by}
use Rattle.sem_pages.proofs.alike.calls_alike.Goals as goal

pub loop-method-preserved : goal.loop-method-preserved
loop-method-preserved c =
    before_next (λ k m. AreFormatsAlike m.formats) c.args.methods.now c.loop-method.method-index c.method-item.result
    (slice_get_read c.args.methods.now _ c.loop-method.method-index c.method-item.result refl c.loop-method-test.true c.method-item.is) (rw c.as_slice.ensures at c.are_alike.ensures c.if-not-are_alike.false) c.loop-method.invariant

pub returns : goal.returns
returns c = λ is. alike_by c.args.methods.now c.loop-method.method-index (search rules) c.loop-method.invariant
