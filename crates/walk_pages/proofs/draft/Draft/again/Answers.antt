use Rattle.std.proofs.Common.{refl, subst}
use Rattle.sem_context.specs.Entries.{bits_at}
use Rattle.walk_pages.specs.Kept.{AreLeft}
use Rattle.walk_pages.proofs.Leaving.{left_read}
use Rattle.walk_pages.proofs.draft.Draft.again.Goals as goal

pub returns : goal.returns
returns c = (
  record {
    read = left_read c.args.frame.now.methods.now (bits_at c.args.frame.now.context.now) c.args.frame.now.path.now c.args.format.now c.args.frame.now.arguments.now c.args.fields c.leave_steady.new.shown c.new.result.items
        c.requires.count c.requires.kept (subst (λ ds. AreLeft c.args.frame.now.methods.now ds c.args.fields c.leave_steady.new.shown) c.as_slice.ensures c.leave_steady.ensures) c.new.ensures.items;
    prepared = c.requires.prepared;
  },
  refl,
  refl,
  refl,
)
