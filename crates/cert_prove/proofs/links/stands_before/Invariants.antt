use Rattle.std.proofs.Common.{◌≡◌, take, false}
use Rattle.cert_prove.specs.Linking.{is_among}
use Rattle.cert_prove.proofs.links.stands_before.Given as goal

abbrev pub invariant-loop-earlier : goal.invariant-loop-earlier
invariant-loop-earlier l = is_among l.field (take l.earlier l.names) ≡ false
