use Rattle.std.proofs.Common.{◌≡◌, ◌+◌, refl, sym, ap, subst, length, rules}
use Rattle.std.specs.Prelude.{IfSome}
use Rattle.std.proofs.lemmas.Option.{slice_get_read}
use Rattle.cert_compiled.specs.Single.{AreTellers, IsTeller}
use Rattle.cert_compiled.proofs.Growing.{length_next}
use Rattle.cert_compiled.proofs.Telling.{no_tellers, teller_next}
use Rattle.cert_compiled.proofs.singles.tellers_of.Goals as goal

pub loop-k-init : goal.loop-k-init
loop-k-init c = (ap length c.new-tellers.ensures, no_tellers c.args.methods.now c.args.entries.now c.new-tellers.result c.new-tellers.ensures)

pub loop-k-preserved : goal.loop-k-preserved
loop-k-preserved c =
    let k = c.loop-k.k in
    let so_far = c.loop-k.invariant in
    let method = c.index-methods-k.result in
    let teller = c.in_ok-teller_of.field-0 in
    let here = slice_get_read c.args.methods.now _ k method refl (search rules) c.index-methods-k.is in
    let is = subst (λ z. IfSome teller (IsTeller method.formats z)) c.entry_of-entry.ensures c.in_ok-teller_of.ensures in (
      subst (λ z. length z ≡ k + 1) (sym c.in_ok-push.ensures.ok) (length_next c.loop-k.tellers teller k so_far.0),
      subst (AreTellers c.args.methods.now c.args.entries.now) (sym c.in_ok-push.ensures.ok) (teller_next c.args.methods.now c.args.entries.now c.loop-k.tellers k method teller so_far.0 here is so_far.1),
    )

pub returns : goal.returns
returns c = c.loop-k.invariant.1
