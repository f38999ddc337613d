use Rattle.std.proofs.Common.{subst, sym, ap, ◌∙◌}
use Rattle.std.specs.Option.{option_copied}
use Rattle.sem_library.specs.Methods.{IsOnly}
use Rattle.sem_reasons.specs.Across.{method_of}
use Rattle.sem_reasons.specs.Told.{Related, seen_at}
use Rattle.sem_reasons.proofs.conflict.no_side.Goals as goal

pub lacking-requires : goal.lacking-requires
lacking-requires c = record {
  sighted = c.requires.sighted;
  coded = c.requires.coded;
  seen = ap (λ z. seen_at z c.args.coded.now.index c.args.side) (sym c.as_slice.ensures) ∙ (sym c.seen_at.ensures ∙ ap option_copied c.in-Some.is);
  none = subst (λ z. IsOnly (Related (method_of c.args.coded.now.method c.args.coded.now.covered.now) (option_copied c.args.coded.now.reference) c.args.side c.in-Some.own.now) z) c.in-None.is c.in_ok-due.ensures;
}
