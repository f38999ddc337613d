use Rattle.std.proofs.Common.{◌∙◌, ◌+◌, subst, arith}
use Rattle.std.specs.List.{IsDistinct}
use Rattle.std.specs.Str.{bytes_eq}
use Rattle.std.proofs.lemmas.Grind.{drop_more_same}
use Rattle.std.proofs.lemmas.List.{drop-set-lt}
use Rattle.sem_context.proofs.EntriesInOrder.{one_more_put}
use Rattle.sem_context.proofs.context.Context.put_in_order.Goals as goal

pub loop-place-preserved : goal.loop-place-preserved
loop-place-preserved c =
    let place = c.loop-place.place in (
      drop-set-lt (place + 1) c.loop-place.values.items place c.exchange.new.bits (omega arith) ∙ drop_more_same c.loop-place.values.items c.args.values.items place c.loop-place.invariant.0,
      one_more_put c.args.self.now c.loop-place.self c.exchange.new.self c.args.values.items c.loop-place.values.items place c.index_mut.result.now (subst (IsDistinct bytes_eq) c.loop-place.invariant.1.same c.exchange.ensures.distinct)
          (omega (arith, c.loop-place-test.true, c.len-place-end.ensures)) c.index_mut.ensures.value c.loop-place.invariant.0 c.exchange.ensures.put c.loop-place.invariant.1,
    )
