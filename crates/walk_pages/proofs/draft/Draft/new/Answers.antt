use Rattle.std.proofs.Common.{refl}
use Rattle.sem_context.specs.Entries.{bits_at}
use Rattle.walk_pages.proofs.Drafting.{begun_read}
use Rattle.walk_pages.proofs.draft.Draft.new.Goals as goal

pub returns : goal.returns
returns c = (
  record {
    read = begun_read c.args.frame.now.methods.now (bits_at c.args.frame.now.context.now) c.args.frame.now.path.now c.args.format.now c.args.frame.now.arguments.now c.in_ok-begun.field-0 c.new.result.items
        c.args.told.prepared.now c.as_slice.result.now c.requires.prepared c.as_slice.ensures c.in_ok-begun.ensures c.new.ensures.items;
    prepared = c.requires.prepared;
  },
  refl,
  refl,
  refl,
)
