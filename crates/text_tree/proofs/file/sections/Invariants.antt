use Rattle.std.proofs.Common.{◌≡◌, length}
use Rattle.text_source.specs.declared.token.Mark.TheVariants as m
use Rattle.text_tree.specs.Rules.{all}
use Rattle.text_tree.specs.Counts.{seen_in}
use Rattle.text_tree.specs.File.{many, before, section, sections}
use Rattle.text_tree.proofs.file.sections.Given as goal

abbrev pub invariant-more : goal.invariant-more
invariant-more l = (many (before m.CloseBrace) (λ found. section all (seen_in found)) l.found l.tokens ≡ sections all l.fn.tokens) × (l.seen ≡ seen_in l.found)

abbrev pub decreases-more : goal.decreases-more
decreases-more l = length l.tokens
