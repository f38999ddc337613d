use Rattle.std.proofs.Common.{subst, sym, ap, ◌∙◌}
use Rattle.std.specs.Option.{option_copied}
use Rattle.std.proofs.lemmas.Bool.{true≢false}
use Rattle.sem_library.specs.Methods.{IsOnly}
use Rattle.sem_reasons.specs.Across.{method_of}
use Rattle.sem_reasons.specs.Conflicts.{StandsIn}
use Rattle.sem_reasons.specs.Told.{Related, opposite, seen_at}
use Rattle.sem_filling.specs.declared.reason.Reason.TheVariants as reason
use Rattle.sem_reasons.proofs.ReasonsMaking.{differs_is}
use Rattle.sem_reasons.proofs.conflict.differs.Goals as goal

pub returns : goal.returns
returns c =
    let k = c.args.sighted.now in
    let i = c.args.coded.now.index in
    let fields = ap (λ z. seen_at z i c.args.side) (sym c.as_slice-sights.ensures) in
    let there = ap (λ z. seen_at z i (opposite c.args.side)) (sym c.as_slice-sights.ensures) in
    let turned = ap (λ z. seen_at c.as_slice-sights.result.now i z) (sym c.opposite.ensures) in
    let own_is = fields ∙ (sym c.seen_at.ensures ∙ ap option_copied c.in-Some.is) in
    let found_is = there ∙ (turned ∙ (sym c.seen_at-2.ensures ∙ ap option_copied c.in-Some-seen_at.is)) in
    let only = subst (λ z. IsOnly (Related (method_of c.args.coded.now.method c.args.coded.now.covered.now) (option_copied c.args.coded.now.reference) c.args.side c.in-Some.own.now) z) c.in-Some-due.is c.in_ok-due.ensures in
    subst (λ z. StandsIn k (reason.Differs i z c.in_ok-found.found c.in-Some-due.due)) (sym c.opposite-2.ensures)
    (subst (λ z. StandsIn k (reason.Differs i (opposite c.args.side) z c.in-Some-due.due)) (sym c.in_ok-found.ensures)
    (differs_is k c.args.coded.now c.requires.sighted c.requires.coded c.args.side c.in-Some.own.now c.in-Some-seen_at.found.now c.in-Some-due.due own_is found_is only
    (λ e. true≢false (sym (c.are_same.ensures.1 e) ∙ c.if-are_same.false))))
