-- Opening a session by the octets of a profile.
use Rattle.std.specs.Prelude.{◌≡◌, ◌≢◌, ◌<◌, ◌≤◌, ◌⊎◌, ℕ, List, [], Option, Some, None, Result, Ok, Err}
use Rattle.std.specs.Str.{IsUtf8}
use Rattle.std.specs.declared.alloc.AllocError.{AllocError}
use Rattle.cert_types.specs.declared.certificate.Version.TheVariants.{Two}
use Rattle.cert_accepted.specs.Accepted.{Accepting}
use Rattle.walk_session.specs.State.{State, new_flows, flow_limit}
use Rattle.tool_report.specs.declared.profile_and_certificate.Origin.{Origin}
use Rattle.tool_report.specs.declared.profile_and_certificate.Origin.TheVariants.{Given, Made}
use Rattle.tool_report.specs.Accepting.{AcceptsProfile, RefusesProfile}
use Rattle.rohcfn_c.specs.declared.opened.Opened.{Opened}
use Rattle.rohcfn_c.specs.declared.opened.Last.TheVariants.{Nothing}
use Rattle.rohcfn_c.specs.declared.answer.CallAnswer.{CallAnswer}
use Rattle.rohcfn_c.specs.declared.answer.CallAnswer.TheVariants.{Done, NoMemory, Closed, NoRoom, Refused, BadBits, HeaderLength, Asked, NoFormat, Truncated, RefusedPacket, NoSuch, NoReach, Contexts}
use Rattle.rohcfn_c.specs.Lines.{IsCut}

-- where the certificate comes from: no octets stand for one of version 2 that is made
abbrev pub IsOrigin : List ℕ → Origin → Type 0
IsOrigin certificate (Given octets) = (octets.now ≡ certificate) × (certificate ≢ [])
IsOrigin certificate (Made version) = (version ≡ Two) × (certificate ≡ [])

-- the profile is accepted with its certificate
pub record IsAccepted (top profile certificate : List ℕ) (a : Accepting) : Type 0 where
  pub origin : Origin
  pub origin_is : IsOrigin certificate origin
  pub accepts : AcceptsProfile top profile origin a

-- it isn't, and the line says why; or the name of the top is no text, and nothing is said
pub data IsRefused (top profile certificate line line_new : List ℕ) (said : ℕ) : Type 0 where
  no_text : (IsUtf8 top → ⊥) → line_new ≡ line → said ≡ 0 → IsRefused top profile certificate line line_new said
  told_why : (origin : Origin) (text : List ℕ) → IsOrigin certificate origin → RefusesProfile top profile origin text → IsCut text line line_new said → IsRefused top profile certificate line line_new said

-- a session of so many flows, of which nothing was packed or unpacked
abbrev pub new_session : Accepting → ℕ → Opened
new_session a flows = record { session = record { accepted = a; flows = new_flows flows }; last = Nothing }

abbrev pub Judges : List ℕ → List ℕ → List ℕ → Result (Option Accepting) AllocError → List ℕ → List ℕ → ℕ → ℕ → Type 0
Judges top profile certificate (Ok (Some a)) line line_new said said_new = IsAccepted top profile certificate a × (line_new ≡ line) × (said_new ≡ said)
Judges top profile certificate (Ok None) line line_new said said_new = said ≡ 0 → IsRefused top profile certificate line line_new said_new
Judges top profile certificate (Err e) line line_new said said_new = (line_new ≡ line) × (said_new ≡ said)

abbrev pub IsPutIn : Accepting → ℕ → CallAnswer → Option Opened → Type 0
IsPutIn a flows Done new = new ≡ Some (new_session a flows)
IsPutIn a flows NoMemory new = new ≡ None
IsPutIn a flows told new = ⊥

-- the session is new, and its profile is accepted
pub record IsOpened (top profile certificate : List ℕ) (flows : ℕ) (o : Option Opened) : Type 0 where
  pub accepted : Accepting
  pub is_accepted : IsAccepted top profile certificate accepted
  pub new_is : o ≡ Some (new_session accepted flows)

-- What open answers: done, and the session is new by the accepted profile; or the handle is closed, since the profile is refused, there can't be so many flows, or memory ran out.
abbrev pub Opens : List ℕ → List ℕ → List ℕ → ℕ → CallAnswer → Option Opened → List ℕ → List ℕ → ℕ → Type 0
Opens top profile certificate flows Done new line line_new said = IsOpened top profile certificate flows new
Opens top profile certificate flows Refused new line line_new said = IsRefused top profile certificate line line_new said × (new ≡ None)
Opens top profile certificate flows NoSuch new line line_new said = ((flows ≡ 0) ⊎ (flow_limit < flows)) × (new ≡ None)
Opens top profile certificate flows NoMemory new line line_new said = new ≡ None
Opens top profile certificate flows told new line line_new said = ⊥
