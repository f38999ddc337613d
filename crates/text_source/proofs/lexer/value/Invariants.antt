use Rattle.std.proofs.Common.{◌≡◌, ◌<◌, ◌^◌, drop}
use Rattle.text_source.specs.Lexical.{number_of, number_from}
use Rattle.text_source.proofs.lexer.value.Given as goal

abbrev pub invariant-loop-octet : goal.invariant-loop-octet
invariant-loop-octet l = record { value : number_from l.base l.n (drop l.octet-index l.digits) ≡ number_of l.base l.digits; fits : l.n < 2 ^ 64 }
