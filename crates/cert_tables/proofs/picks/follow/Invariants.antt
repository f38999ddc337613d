use Rattle.std.specs.Prelude.{slice_get}
use Rattle.std.proofs.Common.{◌≡◌, ◌-◌, drop, length}
use Rattle.sem_context.specs.Entries.{bits_at}
use Rattle.cert_tables.specs.Picked.{formats_of}
use Rattle.cert_rules.specs.Trees.{references, way}
use Rattle.cert_tables.proofs.picks.follow.Given as goal

abbrev pub invariant-loop-place : goal.invariant-loop-place
invariant-loop-place l = way (references (bits_at l.frame.context.now) l.frame.path.now (formats_of (slice_get l.frame.profile.now.methods l.frame.method))) (drop l.from l.cursor.left) l.frame.arguments.now 0 (drop l.place l.tree.nodes.now) ≡ way (references (bits_at l.frame.context.now) l.frame.path.now (formats_of (slice_get l.frame.profile.now.methods l.frame.method))) (drop l.from l.cursor.left) l.frame.arguments.now 0 l.tree.nodes.now

abbrev pub decreases-loop-place : goal.decreases-loop-place
decreases-loop-place l = length l.tree.nodes.now - l.place
