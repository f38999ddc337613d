use Rattle.std.proofs.Common.{◌≡◌, ◌+◌, refl, sym, ap, subst, length, rules}
use Rattle.std.proofs.lemmas.Option.{slice_get_read}
use Rattle.cert_compiled.specs.Offsets.{AreOffsets, none_before}
use Rattle.cert_compiled.proofs.Growing.{length_next}
use Rattle.cert_compiled.proofs.Looking.{after_next, none_looked, offsets_next}
use Rattle.cert_compiled.proofs.looks.offsets_of.Goals as goal

pub loop-index-init : goal.loop-index-init
loop-index-init c = (ap length c.new-offsets.ensures, none_looked c.args.fields.now c.args.sizes.now c.new-offsets.result c.new-offsets.ensures, none_before)

pub loop-index-preserved : goal.loop-index-preserved
loop-index-preserved c =
    let i = c.loop-index.index in
    let fields = c.args.fields.now in
    let sizes = c.args.sizes.now in
    let so_far = c.loop-index.invariant in
    let here = slice_get_read fields _ i c.index-fields-index.result refl (search rules) c.index-fields-index.is in (
      subst (λ z. length z ≡ i + 1) (sym c.in_ok-push.ensures.ok) (length_next c.loop-index.offsets c.loop-index.next i so_far.0),
      subst (AreOffsets fields sizes) (sym c.in_ok-push.ensures.ok) (offsets_next fields sizes c.loop-index.offsets c.loop-index.next i so_far.0 so_far.1 so_far.2),
      after_next fields sizes i c.index-fields-index.result _ c.loop-index.next c.offset_after-next.result here (sym c.at.ensures) so_far.2 c.offset_after-next.ensures,
    )

pub returns : goal.returns
returns c = c.loop-index.invariant.1
