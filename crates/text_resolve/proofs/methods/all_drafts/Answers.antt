use Rattle.std.proofs.Common.{◌≡◌, ◌∷◌, ap, reverse}
use Rattle.text_resolve.proofs.PartsForms.{ended, turned}
use Rattle.text_resolve.proofs.methods.all_drafts.Goals as goal

pub add_part-requires : goal.add_part-requires
add_part-requires c = (rw (turned c.loop-part.rest c.pop.new.self c.in-Some.part c.in-Some.ensures) at c.loop-part.invariant.1).0

pub loop-part-preserved : goal.loop-part-preserved
loop-part-preserved c =
    let next = turned c.loop-part.rest c.pop.new.self c.in-Some.part c.in-Some.ensures in
    (c.in_ok-add_part.ensures c.args.parts (reverse c.pop.new.self) c.requires.table (rw next at c.loop-part.invariant.0), (rw next at c.loop-part.invariant.1).1)

pub returns : goal.returns
returns c = ended c.args.file.now c.args.parts c.args.top _ (reverse c.loop-part.rest) c.loop-part.drafts (ap reverse c.in_default.ensures.0) c.loop-part.invariant.0
