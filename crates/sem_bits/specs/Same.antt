use Rattle.std.specs.Cmp.{IsEquivalence, bool_eq_equiv}
use Rattle.std.specs.Cmp.Lexicographic.{lists_equiv}
use Rattle.sem_bits.specs.Number.{same}

-- being the same list of bits is an equivalence
pub same_equiv : IsEquivalence same
same_equiv = lists_equiv bool_eq_equiv
