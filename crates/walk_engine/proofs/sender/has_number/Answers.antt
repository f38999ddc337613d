use Rattle.walk_engine.proofs.Searching.{spans_are}
use Rattle.walk_engine.proofs.sender.has_number.Goals as goal

pub page_number-requires : goal.page_number-requires
page_number-requires c = record {
  spans = rw (c.methods-2.ensures, c.certificate.ensures) (spans_are c.args.accepted.now c.profile-profile.result.now c.keeps-2.ensures c.profile-profile.ensures c.keeps.ensures
      _ _ _ c.methods.ensures c.counts.ensures c.spans.ensures);
}
