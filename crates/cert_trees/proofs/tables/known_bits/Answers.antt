use Rattle.std.proofs.Common.{◌+◌, nat_eq, drop, sym, subst}
use Rattle.std.specs.HashMap.{get}
use Rattle.cert_rules.specs.Trees.{known_bit}
use Rattle.cert_trees.specs.Tables.{TellsOn}
use Rattle.cert_trees.proofs.TablesNoting.{listing_at, listing_ended}
use Rattle.cert_trees.proofs.tables.known_bits.Goals as goal

pub returns-in_default : goal.returns-in_default
returns-in_default c =
    let rest = known_bit c.args.fields.now c.args.sizes.now (drop (c.loop-index.index-index + 1) c.args.listing.now) in
    let whole = known_bit c.args.fields.now c.args.sizes.now c.args.listing.now in
    let on = c.in_ok-next.ensures rest whole (listing_at (get nat_eq c.loop-index.known) whole c.loop-index.offset _ _ _ _ c.loop-index-test.true c.loop-index.invariant) in
    λ o small. sym (subst (λ next. TellsOn next (get nat_eq c.note_field.new.known) rest whole) c.in_default.is on o small)

pub loop-index-preserved : goal.loop-index-preserved
loop-index-preserved c =
    let rest = known_bit c.args.fields.now c.args.sizes.now (drop (c.loop-index.index-index + 1) c.args.listing.now) in
    let whole = known_bit c.args.fields.now c.args.sizes.now c.args.listing.now in
    let on = c.in_ok-next.ensures rest whole (listing_at (get nat_eq c.loop-index.known) whole c.loop-index.offset _ _ _ _ c.loop-index-test.true c.loop-index.invariant) in
    subst (λ next. TellsOn next (get nat_eq c.note_field.new.known) rest whole) c.in-Some.is on

pub returns : goal.returns
returns c = listing_ended (get nat_eq c.loop-index.known) _ c.loop-index.offset _ _ _ _ c.loop-index-test.false c.loop-index.invariant
