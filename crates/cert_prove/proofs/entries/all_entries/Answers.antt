use Rattle.std.proofs.Common.{rules, ◌≡◌, ◌∙◌, sym, subst, refl, length, Some}
use Rattle.std.specs.Prelude.{slice_get}
use Rattle.std.proofs.lemmas.Option.{slice_get_read}
use Rattle.sem_profile.specs.declared.profile.MethodSizes.{MethodSizes}
use Rattle.cert_types.specs.Kept.{Entries}
use Rattle.sem_filling.proofs.FitsSized.{one_value}
use Rattle.cert_prove.specs.Made.{IsEntryMade}
use Rattle.cert_prove.proofs.EntriesPairs.{Pairs, no_pairs, one_pair}
use Rattle.cert_prove.proofs.MadeLacking.{methods_passed}
use Rattle.cert_prove.proofs.entries.all_entries.Goals as goal

pub loop-method-init : goal.loop-method-init
loop-method-init c =
    subst (λ (es : Entries). Pairs (λ k m o. (s : MethodSizes) → slice_get c.args.table.now k ≡ Some s → IsEntryMade c.args.version c.args.table.now m s o) c.args.methods.now es 0) (sym c.new-entries.ensures)
    (no_pairs (λ k m o. (s : MethodSizes) → slice_get c.args.table.now k ≡ Some s → IsEntryMade c.args.version c.args.table.now m s o) c.args.methods.now)

pub returns-in-Err-clause-lacks : goal.returns-in-Err-clause-lacks
returns-in-Err-clause-lacks c =
    let at = slice_get_read c.args.methods.now _ c.loop-method.method c.index-methods-method.result refl (search rules) (search rules) in
    let sized = slice_get_read c.args.table.now _ c.loop-method.method c.index-table-method.result refl (search rules) (search rules) in
    c.in-Err.ensures.lacks c.args.methods.now at sized (methods_passed c.args.version c.args.table.now c.args.methods.now c.loop-method.entries c.loop-method.method c.loop-method.invariant)

pub loop-method-preserved : goal.loop-method-preserved
loop-method-preserved c =
    let at = slice_get_read c.args.methods.now _ c.loop-method.method c.index-methods-method.result refl (search rules) (search rules) in
    let sized = slice_get_read c.args.table.now _ c.loop-method.method c.index-table-method.result refl (search rules) (search rules) in
    one_pair (λ k m o. (s : MethodSizes) → slice_get c.args.table.now k ≡ Some s → IsEntryMade c.args.version c.args.table.now m s o) c.args.methods.now c.loop-method.entries c.push.new.self c.loop-method.method c.index-methods-method.result c.in-Ok.entry at
    (λ s here. subst (λ (z : MethodSizes). IsEntryMade c.args.version c.args.table.now c.index-methods-method.result z c.in-Ok.entry) (one_value (slice_get c.args.table.now c.loop-method.method) c.index-table-method.result s sized here) c.in-Ok.ensures.made)
    c.in_ok-push-in-Ok.ensures.ok c.loop-method.invariant

pub returns-clause-made : goal.returns-clause-made
returns-clause-made c =
    let whole : c.loop-method.method ≡ length c.args.methods.now = search rules in
    record { each = c.loop-method.invariant.long ∙ whole; made = λ k m s o at sized there. c.loop-method.invariant.each k m o at there s sized }

pub entry-requires : goal.entry-requires
entry-requires c =
    let at = slice_get_read c.args.methods.now _ c.loop-method.method c.index-methods-method.result refl (search rules) (search rules) in
    let sized = slice_get_read c.args.table.now _ c.loop-method.method c.index-table-method.result refl (search rules) (search rules) in
    c.requires.formats c.loop-method.method c.index-methods-method.result c.index-table-method.result at sized
