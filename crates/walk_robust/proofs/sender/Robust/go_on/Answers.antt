use Rattle.std.proofs.Common.{◌∙◌, refl, sym, ap, subst, length}
use Rattle.std.proofs.lemmas.Bool.{eqb-true}
use Rattle.sem_filling.specs.Entries.{next}
use Rattle.walk_robust.specs.Sending.{HaveCome, Sending}
use Rattle.walk_robust.proofs.Going.{gone_alone, gone_on, no_others, too_many}
use Rattle.walk_robust.proofs.sender.Robust.go_on.Goals as goal

pub returns-then-is_empty-clause-ok : goal.returns-then-is_empty-clause-ok
returns-then-is_empty-clause-ok c =
    let s = c.args.self.now in
    let alone = no_others c.as_slice.result.now (eqb-true _ 0 (sym c.is_empty.ensures ∙ c.if-is_empty.true)) in
    gone_alone s c.args.filling.now (ap (λ (z : Sending). z.others) (sym c.self.view_is) ∙ sym c.as_slice.ensures.value ∙ alone) (ap (λ (z : Sending). z.lost) (sym c.self.view_is) ∙ c.if-self-eq0.true) _
    (ap (λ ctx. record { own = ctx; others = c.self.inside.others.items; lost = c.self.inside.lost }) c.in_ok-advance.ensures.ok
    ∙ ap (λ (z : Sending). record { own = next z.own c.args.filling.now; others = z.others; lost = z.lost }) c.self.view_is)

pub returns-then-are_too_many-clause-fault : goal.returns-then-are_too_many-clause-fault
returns-then-are_too_many-clause-fault c =
    let s = c.args.self.now in
    let f = c.args.filling.now in
    too_many s f (next s.own f) refl c.in_ok-came.came.items
    (subst (λ (z : Sending). HaveCome (next z.own f) z.others f c.in_ok-came.came.items) c.self.view_is
    (subst (λ xs. HaveCome (next c.self.inside.own f) xs f c.in_ok-came.came.items) c.as_slice-others.ensures.value c.in_ok-came.ensures))
    _ c.staying-kept.result (ap length c.as_slice-3.ensures.value) c.staying-kept.ensures (c.are_too_many.ensures.0 c.if-are_too_many.true)

pub returns-clause-ok : goal.returns-clause-ok
returns-clause-ok c =
    let s = c.args.self.now in
    let f = c.args.filling.now in
    gone_on s f c.in_ok-own.own c.in_ok-own.ensures.next c.in_ok-came.came.items
    (subst (λ ctx. HaveCome ctx s.others f c.in_ok-came.came.items) (sym c.in_ok-own.ensures.next)
    (subst (λ (z : Sending). HaveCome (next z.own f) z.others f c.in_ok-came.came.items) c.self.view_is
    (subst (λ xs. HaveCome (next c.self.inside.own f) xs f c.in_ok-came.came.items) c.as_slice-others.ensures.value c.in_ok-came.ensures)))
    _ c.staying-kept.result (ap length c.as_slice-3.ensures.value) c.staying-kept.ensures (λ many. let t = c.are_too_many.ensures.1 many in absurd (cc (t, c.if-are_too_many.false)))
    _ c.in_ok-reserve.ensures.items _ c.in_ok-own.ensures.spared _ c.put.ensures
