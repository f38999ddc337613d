use Rattle.std.proofs.Common.{◌≡◌, length}
use Rattle.text_tree.specs.Rules.{all}
use Rattle.text_tree.specs.Counts.{tally_of}
use Rattle.text_tree.specs.Reading.{is_there}
use Rattle.text_tree.specs.File.{many, part, parts}
use Rattle.text_tree.proofs.file.parts.Given as goal

abbrev pub invariant-more : goal.invariant-more
invariant-more l = (many is_there (λ found. part all (tally_of found)) l.found l.tokens ≡ parts all l.fn.tokens) × (l.tally ≡ tally_of l.found)

abbrev pub decreases-more : goal.decreases-more
decreases-more l = length l.tokens
