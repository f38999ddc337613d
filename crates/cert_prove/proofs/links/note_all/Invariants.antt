use Rattle.std.proofs.Common.{take}
use Rattle.cert_prove.specs.Linking.{is_among, IsNoted}
use Rattle.cert_prove.proofs.links.note_all.Given as goal

abbrev pub invariant-loop-place : goal.invariant-loop-place
invariant-loop-place l = IsNoted (λ i. is_among i (take l.place l.names)) l.number l.fn.rows.items l.rows.items
