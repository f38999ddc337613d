use Rattle.std.proofs.Common.{◌≡◌, map}
use Rattle.cert_text.proofs.reader.words.Given as goal

abbrev pub invariant-loop-word : goal.invariant-loop-word
invariant-loop-word l =
    map (λ x. x.now) l.found.items ≡ map (λ x. x.now) l.yielded
