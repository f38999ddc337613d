use Rattle.std.proofs.Common.{refl, sym, ◌∙◌, subst, take, drop}
use Rattle.std.specs.Option.{IsSome}
use Rattle.std.proofs.lemmas.Option.{same_Some}
use Rattle.walk_read.proofs.TakeSpelled.{spelled}
use Rattle.walk_read.proofs.take.bits_at.Goals as goal

pub unwrap-requires : goal.unwrap-requires
unwrap-requires c =
    subst IsSome (sym (spelled c.args.cursor.now.left c.args.place c.args.count c.unwrap-number.result c.peek.result c.in_ok-bits.bits c.requires.within c.requires.narrow c.peek.ensures c.unwrap-number.ensures c.in_ok-bits.ensures)) refl

pub returns : goal.returns
returns c =
    same_Some c.unwrap.result (take c.args.count (drop c.args.place c.args.cursor.now.left))
    (sym c.unwrap.ensures ∙ spelled c.args.cursor.now.left c.args.place c.args.count c.unwrap-number.result c.peek.result c.in_ok-bits.bits c.requires.within c.requires.narrow c.peek.ensures c.unwrap-number.ensures c.in_ok-bits.ensures)
