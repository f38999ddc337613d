use Rattle.std.proofs.Common.{◌≡◌, ◌∙◌, ap, rules, to_z, of_z}
use mir.Syntax.{w128}
use Rattle.cert_prove.specs.Tree.{is_word}
use Rattle.cert_prove.proofs.TreeTesting.{word_is}
use Rattle.cert_prove.proofs.rule.is_short.Goals as goal

pub returns : goal.returns
returns c =
    let kept : to_z w128 (of_z w128 c.args.constant) ≡ c.args.constant = (search rules) in
    word_is c.is_word.result _ c.is_word.ensures ∙ ap is_word kept
