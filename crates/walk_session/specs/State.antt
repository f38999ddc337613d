-- What a session keeps.
use Rattle.std.specs.Prelude.{ℕ, List, [], replicate}
use Rattle.cert_accepted.specs.Accepted.{Accepting}
use Rattle.walk_session.specs.declared.ends.Ends.{Ends}
use Rattle.walk_session.specs.declared.ends.Sending.TheVariants.{Plain}

-- an accepted profile, and both ends of each flow, at the flow's number
pub record State : Type 0 where
  pub accepted : Accepting
  pub flows : List Ends

-- a flow of which nothing was packed or unpacked
abbrev pub empty_ends : Ends
empty_ends = record { sending = Plain []; receiving = [] }

-- so many such flows
abbrev pub new_flows : ℕ → List Ends
new_flows n = replicate n empty_ends

-- a session has at least one flow, and no more than this
abbrev pub flow_limit : ℕ
flow_limit = 64
