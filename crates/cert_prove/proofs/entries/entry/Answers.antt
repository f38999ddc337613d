use Rattle.cert_prove.proofs.MadeLacking.{formats_lack}
use Rattle.cert_prove.proofs.entries.entry.Goals as goal

pub returns-in-Err-all_formats-clause-lacks : goal.returns-in-Err-all_formats-clause-lacks
returns-in-Err-all_formats-clause-lacks c =
    formats_lack c.args.version c.args.table.now c.args.index c.args.method.now c.args.sizes.now _ _ _ c.in-Ok.tree c.in-Err-all_formats.unproved c.as_slice-bounds.ensures c.as_slice-2.ensures c.as_slice.ensures c.in-Ok.ensures.ordered c.in-Ok.ensures.kept c.in-Err-all_formats.ensures.lacks
