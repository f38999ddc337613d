use Rattle.std.proofs.Common.{◌≡◌, ◌∙◌, ◌++◌, sym, ap, subst, codes}
use Rattle.std.specs.Prelude.{decimal, string_bytes}
use Rattle.sem_profile.specs.Resolved.{Resolved}
use Rattle.tool_loss.specs.Reach.{lacks_text}
use Rattle.tool_run.specs.Printed.{LacksReach}
use Rattle.tool_run.specs.Senders.{AreLacks}
use Rattle.tool_run.proofs.SendersLines.{line_added}
use Rattle.tool_run.proofs.reach.explain_reach.Goals as goal

pub returns : goal.returns
returns c =
    let a = c.args.accepted.now in
    let octets = c.args.octets.now in
    let lacks = c.as_slice.result.now in
    let methods_are : c.methods.result.now ≡ a.profile.methods = c.methods.ensures ∙ ap (λ (p : Resolved). p.methods) c.profile-profile.ensures in
    let top_is : c.top.result ≡ a.profile.top = c.top.ensures ∙ ap (λ (p : Resolved). p.top) c.profile-profile.ensures in
    let front = codes "item " ++ decimal c.args.number ++ codes ": F5 NoReach" in
    line_added (LacksReach octets a c.args.sender.now c.args.number c.args.item.now) c.push_line.result _ _ c.as_str.result.now (string_bytes c.push_lacks.new.output) c.push_line.ensures c.as_str.ensures.value
    (record {
      blames = c.requires;
      lacks = lacks;
      lacks_are = subst (AreLacks a c.args.sender.now c.args.item.now) (sym c.as_slice.ensures) c.in_ok-lacks.ensures;
      text_is =
          c.in_ok-push_lacks.ensures ∙ ap (λ x. x ++ lacks_text octets c.methods.result.now c.top.result lacks) c.in_ok-text.ensures
          ∙ ap (λ ms. front ++ lacks_text octets ms c.top.result lacks) methods_are ∙ ap (λ k. front ++ lacks_text octets a.profile.methods k lacks) top_is;
    })
