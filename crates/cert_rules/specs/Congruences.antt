-- An equation of a remainder that borrows its expressions, as it is.
use Rattle.cert_rules.specs.Rules as rules
use Rattle.cert_rules.specs.declared.equations.Congruence.{Congruence}

-- with the expressions themselves
abbrev pub shown : Congruence → rules.Congruence
shown c = record { more = c.more.now; by = c.by; left = c.left.now }
