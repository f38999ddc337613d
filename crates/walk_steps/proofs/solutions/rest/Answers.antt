use Rattle.std.proofs.Common.{◌≡◌, ◌∙◌, rules, ◌≤ℤ◌, ◌<ℤ◌}
use Rattle.std.specs.Int.{int_rem_euclid}
use Rattle.cert_rules.proofs.RulesRemainders.{remains}
use Rattle.walk_steps.proofs.solutions.rest.Goals as goal

pub returns-then-taken-left : goal.returns-then-taken-left
returns-then-taken-left c =
    let taken = c.rem_euclid-taken.result in
    let value : taken ≡ int_rem_euclid c.args.more c.args.by = (search rules) in
    let le : taken ≤ℤ c.args.left = (search rules) in
    (remains c.args.left c.args.more c.args.by taken value c.requires.above c.requires.below).up le ∙ search rules

pub returns-else-taken-left : goal.returns-else-taken-left
returns-else-taken-left c =
    let taken = c.rem_euclid-taken.result in
    let value : taken ≡ int_rem_euclid c.args.more c.args.by = (search rules) in
    let lt : c.args.left <ℤ taken = (search rules) in
    (remains c.args.left c.args.more c.args.by taken value c.requires.above c.requires.below).over lt ∙ search rules
