use Rattle.std.proofs.Common.{◌≡◌, ◌∙◌, ◌+◌, ℕ, [], ◌∷◌, ◌++◌, refl, sym, ap, subst, rules, to_z, of_z}
use Rattle.std.specs.Int.{w128}
use Rattle.std.specs.Prelude.{Some, slice_get}
use Rattle.std.proofs.lemmas.Option.{slice_get_read}
use Rattle.cert_compiled.specs.Single.{HasKey}
use Rattle.cert_compiled.proofs.Telling.{KeysSoFar, no_keys, keys_next, keys_end}
use Rattle.cert_compiled.proofs.singles.have_keys.Goals as goal

pub loop-index-init : goal.loop-index-init
loop-index-init c = no_keys c.args.parameter c.args.formats.now c.new-keys.result.items c.new-keys.ensures.items

pub loop-index-preserved : goal.loop-index-preserved
loop-index-preserved c =
    let i = c.loop-index.index in
    let p = c.args.parameter in
    let formats = c.args.formats.now in
    let key = c.in-Some.key in
    let kept : to_z w128 (of_z w128 key) ≡ key = (search rules) in
    let here = slice_get_read formats _ i c.index-formats-index.result refl (search rules) c.index-formats-index.is in
    let has : HasKey p c.index-formats-index.result.constraints key = c.in-Some.ensures in
    let new : (m : ℕ) → slice_get c.loop-index.keys.items m ≡ Some key → ⊥ = (search rules) in
    subst (λ keys. KeysSoFar p formats keys (i + 1)) (sym (c.in_ok-push.ensures.items ∙ ap (λ z. c.loop-index.keys.items ++ z ∷ []) kept))
    (keys_next p formats c.loop-index.keys.items i c.index-formats-index.result key here has new c.loop-index.invariant)

pub returns : goal.returns
returns c = λ _. keys_end c.args.parameter c.args.formats.now _ c.loop-index.index c.loop-index-test.false c.loop-index.invariant
