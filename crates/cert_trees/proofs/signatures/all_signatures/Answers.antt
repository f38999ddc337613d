use Rattle.std.proofs.Common.{sym, refl}
use Rattle.std.proofs.lemmas.Option.{slice_get_read}
use Rattle.cert_trees.proofs.SignaturesPassing.{told_more}
use Rattle.cert_trees.proofs.signatures.all_signatures.Goals as goal

pub loop-place-preserved : goal.loop-place-preserved
loop-place-preserved c =
    let here = slice_get_read c.args.formats.now _ c.loop-place.place c.index-formats-place.result refl c.loop-place-test.true c.index-formats-place.is in
    told_more c.loop-place.tolds.items c.push.new.self.items c.in_ok-signature_of.field-0 c.args.formats.now c.args.sizes.now c.loop-place.place c.index-formats-place.result c.in-Some.bounds.now
    c.loop-place.invariant c.in_ok-push.ensures.items here (sym c.in-Some.ensures) c.in_ok-signature_of.ensures
