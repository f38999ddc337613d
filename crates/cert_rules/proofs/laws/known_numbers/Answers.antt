use Rattle.cert_rules.proofs.Numbers.{values_known}
use Rattle.cert_rules.proofs.SlotsWithin.{within_is_narrow, all_end_within}
use Rattle.cert_rules.proofs.RulesGiven.{given_is_sound}
use Rattle.cert_rules.proofs.SlotsLying.{all_lie}
use Rattle.cert_rules.proofs.laws.known_numbers.Goals as goal

pub returns : goal.returns
returns c = record { values = values_known; narrow = within_is_narrow; ends = all_end_within; lie = all_lie; given = given_is_sound }
