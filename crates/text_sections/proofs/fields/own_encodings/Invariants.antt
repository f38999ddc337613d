use Rattle.std.proofs.Common.{◌≡◌, fold, drop, length, replicate, None}
use Rattle.text_sections.specs.Fields.{with_own}
use Rattle.text_sections.proofs.fields.own_encodings.Given as goal

abbrev pub invariant-loop-k : goal.invariant-loop-k
invariant-loop-k l = fold (with_own l.text l.fields.words) l.found (drop l.k l.own) ≡ fold (with_own l.text l.fields.words) (replicate (length l.fields.firsts) None) l.own
