use Rattle.std.proofs.Common.{◌≡◌, ◌∙◌, ap, rules, subst, sym, ◌<◌, [], ◌∷◌, ◌++◌, length}
use Rattle.walk_line.specs.Lines.{reset_octet}
use Rattle.walk_line.specs.Lines.Act.{Reset}
use Rattle.walk_line.specs.States.{Sending}
use Rattle.walk_line.proofs.PagesKept.{others_kept}
use Rattle.walk_line.proofs.LinesSends.{reset_put, reset_fault, none_there}
use Rattle.walk_line.proofs.sender.Sender.reset.Goals as goal

pub returns-in_default-clause-fault : goal.returns-in_default-clause-fault
returns-in_default-clause-fault c = none_there c.args.self.now (record { flow = c.args.flow; act = Reset }) c.in_default.ensures

pub returns-in-Err-clause-fault : goal.returns-in-Err-clause-fault
returns-in-Err-clause-fault c =
    let below : c.args.flow < length c.self.inside.contexts.items = subst (λ (s : Sending). c.args.flow < length s.contexts) (sym c.self.view_is) c.in-Some.ensures.0 in
    reset_fault c.self.inside.accepted.now c.self.inside.contexts.items c.args.self.now c.args.flow below c.self.view_is

pub returns-clause-ok : goal.returns-clause-ok
returns-clause-ok c =
    let same : c.in-Some.at ≡ c.args.flow = c.in-Some.ensures.1 in
    let count : length c.self.inside.contexts.items ≡ c.len.result = search rules in
    let below : c.args.flow < length c.self.inside.contexts.items = subst (λ (s : Sending). c.args.flow < length s.contexts) (sym c.self.view_is) c.in-Some.ensures.0 in (
      reset_octet c.len.result c.args.flow ∷ [],
      reset_put c.self.inside.accepted.now c.self.inside.contexts.items c.args.self.now c.args.flow c.in-Some.at c.len.result c.new.result count (subst (λ n. c.args.flow < n) count below) same c.new.ensures c.self.view_is,
      c.in-Ok.ensures.items ∙ ap (λ k. c.args.out.now.items ++ k ∷ []) c.reset_octet.ensures,
    )

pub invariant_of-self : goal.invariant_of-self
invariant_of-self c = (
  (search rules),
  others_kept c.self.inside.accepted.now c.self.inside.contexts.items c.self.inside.pages.items c.take_page-page.new.pages.items c.in-Some.at c.new.result c.self.invariant.1 c.take_page-page.ensures.left,
)
