use Rattle.std.proofs.Common.{arith}
use Rattle.std.proofs.lemmas.Bool.Decides.{Decides-eqb}
use Rattle.sem_bits.proofs.Numbers.{shr_zero, below_shr}
use Rattle.sem_bits.proofs.bits.has_spelling.Goals as goal

pub returns-then-len-lt64 : goal.returns-then-len-lt64
returns-then-len-lt64 c = (
  (λ t. (omega arith, below_shr c.args.value c.args.len ((Decides-eqb _ _).0 t))),
  (λ h. (Decides-eqb _ _).1 (shr_zero c.args.value c.args.len h.1)),
)
