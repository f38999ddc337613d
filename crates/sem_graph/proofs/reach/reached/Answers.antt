use Rattle.std.proofs.Common.{rules, subst}
use Rattle.sem_graph.specs.Calls.{Marked}
use Rattle.sem_graph.proofs.CallsWork.{Marks, begins, goes_on, ends, falls, fits, blank_length}
use Rattle.sem_graph.proofs.reach.reached.Goals as goal

pub mark-requires : goal.mark-requires
mark-requires c = fits _ _ _ _ _ c.requires.within c.requires.from_is c.index-calls-from.is c.as_slice.ensures (blank_length _ _ c.in_ok-found.ensures)

pub loop-next-init : goal.loop-next-init
loop-next-init c =
    begins _ _ _ _ _ _ c.requires.from_is c.index-calls-from.is c.in_ok-found.ensures c.in_ok-done.ensures
    (subst (λ r. Marks r c.in_ok-found.found c.mark.new.marks) c.as_slice.ensures (record { each = c.mark.ensures.each; kept = c.mark.ensures.kept; all = c.mark.ensures.all; only = c.mark.ensures.only }))

pub mark-requires-in-Some : goal.mark-requires-in-Some
mark-requires-in-Some c = fits _ _ _ _ _ c.requires.within (search rules) c.index-calls-next.is c.as_slice-in-Some.ensures c.loop-next.invariant.found_each

pub loop-next-smaller : goal.loop-next-smaller
loop-next-smaller c =
    let o = rw (c.as_slice-in-loop-next.ensures, c.as_slice-in-loop-next-2.ensures) at c.in-Some.ensures in
    rw c.set.ensures (falls _ _ _ c.loop-next.invariant.done_each o.2 o.1)

pub loop-next-preserved : goal.loop-next-preserved
loop-next-preserved c =
    let o = rw (c.as_slice-in-loop-next.ensures, c.as_slice-in-loop-next-2.ensures) at c.in-Some.ensures in
    let marks = c.mark-in-Some.ensures in
    rw c.set.ensures (goes_on _ _ _ _ _ _ _ c.loop-next.invariant o.0 o.2 c.index-calls-next.is
    (subst (λ r. Marks r c.loop-next.found c.mark-in-Some.new.marks) c.as_slice-in-Some.ensures (record { each = marks.each; kept = marks.kept; all = marks.all; only = marks.only })))

pub returns : goal.returns
returns c = ends _ _ _ _ c.loop-next.invariant (λ k h. let done : Marked c.as_slice-in-loop-next-2.result.now k = c.in_default.ensures k (rw c.as_slice-in-loop-next.ensures h) in rw c.as_slice-in-loop-next-2.ensures at done)
