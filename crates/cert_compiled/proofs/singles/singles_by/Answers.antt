use Rattle.std.proofs.Common.{◌≡◌, ◌+◌, ℕ, Bool, List, refl, sym, ap, subst, length, rules}
use Rattle.std.proofs.lemmas.Option.{slice_get_read}
use Rattle.sem_profile.specs.declared.profile.Method.{Method}
use Rattle.cert_rules.specs.Counts.{entry_at}
use Rattle.cert_compiled.specs.Single.{AreLinesTold, IsLineTold}
use Rattle.cert_compiled.proofs.Growing.{each_next, length_next}
use Rattle.cert_compiled.proofs.Telling.{no_lines}
use Rattle.cert_compiled.proofs.singles.singles_by.Goals as goal

pub loop-k-init : goal.loop-k-init
loop-k-init c = (ap length c.new-flags.ensures, no_lines c.args.tellers.now c.args.methods.now c.args.entries.now c.new-flags.result c.new-flags.ensures)

pub loop-k-preserved : goal.loop-k-preserved
loop-k-preserved c =
    let k = c.loop-k.k in
    let so_far = c.loop-k.invariant in
    let method = c.index-methods-k.result in
    let line = c.in_ok-line_of.field-0 in
    let here = slice_get_read c.args.methods.now _ k method refl (search rules) c.index-methods-k.is in
    let is = subst (λ z. IsLineTold c.args.tellers.now method.formats z line) c.entry_of-entry.ensures c.in_ok-line_of.ensures in (
      subst (λ z. length z ≡ k + 1) (sym c.in_ok-push.ensures.ok) (length_next c.loop-k.flags line k so_far.0),
      subst (AreLinesTold c.args.tellers.now c.args.methods.now c.args.entries.now) (sym c.in_ok-push.ensures.ok)
          (each_next (λ (n : ℕ) (m : Method) (fs : List Bool). IsLineTold c.args.tellers.now m.formats (entry_at c.args.entries.now n) fs) c.args.methods.now c.loop-k.flags k method line so_far.0 here is so_far.1),
    )

pub returns : goal.returns
returns c = c.loop-k.invariant.1
