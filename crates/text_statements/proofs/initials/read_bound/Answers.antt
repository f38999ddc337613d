use Rattle.std.proofs.Common.{◌∙◌, sym, ap}
use Rattle.std.proofs.lemmas.Result.{on_ok_weaker}
use Rattle.sem_profile.specs.Words.{word}
use Rattle.text_statements.proofs.InitialsBoundsRead.{read_bits, read_fault}
use Rattle.text_statements.proofs.initials.read_bound.Goals as goal

pub returns-in-Ok : goal.returns-in-Ok
returns-in-Ok c =
    on_ok_weaker c.keep.result (read_bits c.args.scope.now c.args.bound.now c.in-Ok.bits c.word.result.now c.args.initials.now c.keep.new.initials
    (c.word.ensures ∙ ap (λ text. word text c.args.bound.now.name) (sym c.requires)) c.in-Ok.ensures.found) c.keep.ensures

pub returns-in_ok-fault-in-Err : goal.returns-in_ok-fault-in-Err
returns-in_ok-fault-in-Err c =
    read_fault c.args.scope.now c.args.bound.now c.in_ok-fault-in-Err.fault _ _ _ _ (rw c.in_ok-fault-in-Err.ensures.fault at c.in-Err.ensures.refused) c.earlier-initials.ensures
