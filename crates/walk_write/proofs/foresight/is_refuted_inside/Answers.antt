use Rattle.std.proofs.Common.{◌+◌, refl, sym, ◌∙◌, ap, subst, drop}
use Rattle.std.proofs.lemmas.List.{drop-drop}
use Rattle.sem_filling.specs.Entries.{below}
use Rattle.cert_accepted.specs.declared.frame.AcceptedFrame.{AcceptedFrame}
use Rattle.walk_write.specs.Foresight.{by_values, by_start}
use Rattle.walk_write.specs.Refutation.{HasFalse, IsRefuted, operand}
use Rattle.walk_write.proofs.RefutationFronts.{told}
use Rattle.walk_write.proofs.foresight.is_refuted_inside.Goals as goal

pub returns-then-has_false : goal.returns-then-has_false
returns-then-has_false c = λ t. by_values c.in-Some.found.now (sym c.in-Some.ensures) (subst (HasFalse (operand c.args.called.now.arguments.now)) c.as_slice.ensures (c.if-has_false.ensures t))

pub returns : goal.returns
returns c =
    let there : AcceptedFrame = record {
      accepted = c.args.outlook.now.place.now.accepted;
      frame = record {
        profile = c.args.outlook.now.place.now.frame.profile;
        context = c.args.outlook.now.place.now.frame.context;
        method = c.args.called.now.method;
        arguments = c.args.called.now.arguments;
        path = c.as_str-2.result;
      };
    } in
    let listed = c.requires.listed in
    let offset = c.in-Some-offset_at.offset in
    told c.is_refuted_else.result
    (λ (t : IsRefuted there c.args.inside (drop (c.args.outlook.now.source.now.from + offset) c.args.outlook.now.source.now.cursor.now.left)).
    by_start listed.sizes offset there (sym c.is_header.ensures ∙ c.if-not-is_header.false) listed.sizes_are (listed.right c.args.called.now.index offset c.in-Some-offset_at.ensures.1)
    (record { accepted_is = refl; context_is = refl; method_is = refl; args_are = refl; path_is = c.as_str-2.ensures ∙ (c.in_ok-path.ensures ∙ ap (below c.args.outlook.now.place.now.frame.path.now) c.as_str.ensures) })
    (subst (λ z. IsRefuted there c.args.inside z) (sym (drop-drop offset c.args.outlook.now.source.now.from c.args.outlook.now.source.now.cursor.now.left)) t))
    c.is_refuted_else.ensures
