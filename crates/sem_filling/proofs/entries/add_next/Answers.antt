use Rattle.std.proofs.Common.{◌≡◌, ◌∙◌, ap, length, rules, sym}
use Rattle.std.specs.Prelude.{slice_get}
use Rattle.std.specs.Map.{keys_of}
use Rattle.sem_filling.proofs.EntriesInOrder.{next_added}
use Rattle.sem_filling.proofs.entries.add_next.Goals as goal

pub returns : goal.returns
returns c =
    let count : length c.args.values.now.items ≡ c.len.result = (search rules) in (
      c.is_below.ensures c.if-not-is_below.false,
      next_added (keys_of c.args.context.now) c.args.values.now.items c.push.new.self.items c.args.part c.in-Some.here.now c.args.bits.now c.in_ok-copy.field-0 c.in_default.not-Local
          (ap (slice_get (keys_of c.args.context.now)) count ∙ sym c.in-Some.ensures) c.in_ok-push.ensures.items c.in_ok-copy.ensures,
    )
