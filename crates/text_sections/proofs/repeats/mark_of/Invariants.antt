use Rattle.std.proofs.Common.{◌≡◌, ◌+◌, ◌*◌, ◌%◌, ◌<◌, fold, drop}
use Rattle.text_sections.specs.Marks.{mark_of}
use Rattle.text_sections.proofs.repeats.mark_of.Given as goal

abbrev pub invariant-loop-octet : goal.invariant-loop-octet
invariant-loop-octet l = (fold (λ mark octet. (mark * 31 + octet) % 2039) l.mark (drop l.octet-index l.name) ≡ mark_of l.name) × (l.mark < 2039)
