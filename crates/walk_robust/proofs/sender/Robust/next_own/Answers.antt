use Rattle.std.proofs.Common.{◌≡◌, ◌∙◌, ◌++◌, ◌∷◌, [], sym, ap}
use Rattle.sem_context.specs.Placing.{shown}
use Rattle.sem_filling.specs.Entries.{next}
use Rattle.sem_elsewhere.specs.Held.{Holding}
use Rattle.walk_robust.specs.Sending.{Sending}
use Rattle.walk_robust.proofs.Sparing.{advanced, spared}
use Rattle.walk_robust.proofs.sender.Robust.next_own.Goals as goal

pub returns-in-Ok-clause-next : goal.returns-in-Ok-clause-next
returns-in-Ok-clause-next c =
    let s = c.args.self.now in
    let others_are : s.others ≡ c.pop.new.self.items ++ c.in-Some.oldest ∷ [] = ap (λ (z : Sending). z.others) (sym c.self.view_is) ∙ c.in-Some.ensures.items in
    c.in-Ok.ensures.ok ∙ ap (λ (h : Holding). next h.context c.args.filling.now) c.oldest.view_is
    ∙ advanced s (shown c.args.left.now) (c.spares_oldest.ensures c.if-not-spares_oldest.false) c.pop.new.self.items c.in-Some.oldest others_are c.args.filling.now c.requires

pub returns-in-Ok-clause-spared : goal.returns-in-Ok-clause-spared
returns-in-Ok-clause-spared c =
    let s = c.args.self.now in
    let others_are : s.others ≡ c.pop.new.self.items ++ c.in-Some.oldest ∷ [] = ap (λ (z : Sending). z.others) (sym c.self.view_is) ∙ c.in-Some.ensures.items in
    spared s (shown c.args.left.now) (c.spares_oldest.ensures c.if-not-spares_oldest.false) c.pop.new.self.items c.in-Some.oldest others_are _
    (ap (λ (z : Sending). record { own = z.own; others = c.pop.new.self.items; lost = z.lost }) c.self.view_is)
