use Rattle.std.proofs.Common.{arith}
use Rattle.sem_lint.proofs.SitesGrowing.{followed_on, followed_start, sites_are_all}
use Rattle.sem_lint.proofs.sites.all_sites.Goals as goal

pub loop-place-init : goal.loop-place-init
loop-place-init c = followed_start c.args.methods.now c.args.top c.in_ok-sites.sites c.in_ok-sites.ensures

pub returns-then-len-place-clause-all : goal.returns-then-len-place-clause-all
returns-then-len-place-clause-all c = sites_are_all c.args.methods.now c.args.top c.loop-place.place c.loop-place.sites (rw c.len.ensures at c.if-len-place.true) c.loop-place.invariant

pub loop-place-preserved : goal.loop-place-preserved
loop-place-preserved c =
    followed_on c.args.methods.now c.args.top c.loop-place.place c.loop-place.sites _ (rw c.len.ensures at c.if-len-place.false) c.loop-place.invariant c.in_ok-add_called.ensures

pub returns-clause-all : goal.returns-clause-all
returns-clause-all c =
    let within = rw c.len-2.ensures at c.if-len-gt-SITE_LIMIT.false in
    sites_are_all c.args.methods.now c.args.top c.loop-place.place c.loop-place.sites (omega (arith, within, c.loop-place-test.false)) c.loop-place.invariant
