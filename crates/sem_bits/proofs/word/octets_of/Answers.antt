use Rattle.std.proofs.Common.{◌+◌, ◌/◌, take, List, ℕ, sym, subst}
use Rattle.sem_bits.specs.Number.{enc}
use Rattle.sem_bits.specs.Octets.{Holds}
use Rattle.sem_bits.proofs.Words.{first_octets}
use Rattle.sem_bits.proofs.word.octets_of.Goals as goal

pub returns : goal.returns
returns c =
    let P : List ℕ → Type 0 = λ x. Holds (take ((c.args.count + 7) / 8) x) (enc c.args.count c.args.word) in
    subst P (sym c.to_be_bytes.ensures) (first_octets c.args.word c.args.count c.at_front.result c.requires.most c.at_front.ensures)
