-- Formats that have one candidate for an item.
use Rattle.std.specs.Prelude.{ℕ, ◌≤◌}
use Rattle.cert_accepted.specs.declared.frame.AcceptedFrame.{AcceptedFrame}
use Rattle.cert_accepted.specs.Standing.{IsSingleOf}
use Rattle.cert_candidates.specs.Codes.{ways_before}

-- the format n of the method has one candidate for an item, and the number c isn't below that of the format's first candidate
pub record IsSingleFrom (place : AcceptedFrame) (c n : ℕ) : Type 0 where
  pub single : IsSingleOf place.accepted.now place.frame.method n
  pub before : ways_before place.accepted.now.profile.methods place.accepted.now.certificate.methods place.accepted.now.counts place.frame.method n ≤ c
