use Rattle.std.proofs.Common.{◌≡◌, take}
use Rattle.sem_bits.specs.Number.{num}
use Rattle.sem_bits.specs.Octets.{bits_of}
use Rattle.sem_bits.proofs.word.word_of.Given as goal

abbrev pub invariant-loop-octet : goal.invariant-loop-octet
invariant-loop-octet l = l.word ≡ num (bits_of (take l.octet-index l.octets))
