use Rattle.std.proofs.Common.{subst}
use Rattle.text_tree.specs.declared.refusal.ParseError.{ParseError}
use Rattle.text_tree.specs.Reading.{Fails}
use Rattle.text_tree.specs.Rules.{all}
use Rattle.text_tree.specs.File.{parts}
use Rattle.text_tree.proofs.FileViable.{refuses, found_file, only_file, never_refused}
use Rattle.text_tree.proofs.parser.parse.Goals as goal

pub returns-in-Ok-clause-found : goal.returns-in-Ok-clause-found
returns-in-Ok-clause-found c = found_file c.args.tokens.now c.parts.new.tokens c.in-Ok.parts (rw c.new-rest.ensures at c.in-Ok.ensures)

pub returns-in-Ok-clause-only : goal.returns-in-Ok-clause-only
returns-in-Ok-clause-only c = only_file c.args.tokens.now c.parts.new.tokens c.in-Ok.parts (rw c.new-rest.ensures at c.in-Ok.ensures)

pub returns-in-Refused-clause-only : goal.returns-in-Refused-clause-only
returns-in-Refused-clause-only c =
    let failed : Fails c.in-Err.error (parts all c.args.tokens.now) = rw c.new-rest.ensures at c.in-Err.ensures in
    λ file h. absurd (never_refused c.args.tokens.now c.in-Refused.refusal (subst (λ (x : ParseError). Fails x (parts all c.args.tokens.now)) c.in-Refused.is failed) file h)

pub returns-in-Refused-clause-refused : goal.returns-in-Refused-clause-refused
returns-in-Refused-clause-refused c =
    let failed : Fails c.in-Err.error (parts all c.args.tokens.now) = rw c.new-rest.ensures at c.in-Err.ensures in
    rw (c.fault_of.ensures, c.len.ensures.value) (refuses _ c.args.tokens.now c.in-Refused.refusal (subst (λ (x : ParseError). Fails x (parts all c.args.tokens.now)) c.in-Refused.is failed))
