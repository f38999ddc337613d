use Rattle.std.proofs.Common.{◌∙◌, sym, ap, ◌^◌}
use Rattle.std.specs.Prelude.{unwrap_or, option_map}
use Rattle.cert_rules.specs.Counts.{ways}
use Rattle.cert_rules.specs.Capped.{capped}
use Rattle.cert_trees.proofs.Counting.{count_read, choice_read}
use Rattle.cert_trees.proofs.counts.step_count.Goals as goal

pub returns-in-Choose : goal.returns-in-Choose
returns-in-Choose c = λ exact is.
    c.choice_count.ensures ∙ (ap (λ o. capped (unwrap_or (option_map (λ n. 2 ^ n) o) 1)) (choice_read c.args.format.now c.args.tried.now c.in-Choose.field c.requires) ∙
    ap (λ s. capped (ways exact c.args.format.now s)) (sym c.in-Choose.is))

pub returns-in-Call : goal.returns-in-Call
returns-in-Call c = λ exact is. c.call_count.ensures ∙ (count_read c.args.counts.now exact _ is ∙ ap (λ s. capped (ways exact c.args.format.now s)) (sym c.in-Call.is))
