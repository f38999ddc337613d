-- Laws of what comes through: a lost frame harms its own flow alone.
use Rattle.std.specs.Prelude.{◌≡◌, ℕ, suc, ◌<◌, List, [], ◌∷◌, ◌++◌, map, slice_get, Option, Some, None}
use Rattle.sem_filling.specs.declared.filling.Item.{Item}
use Rattle.cert_accepted.specs.Accepted.{Accepting, IsDeterminate}
use Rattle.walk_line.specs.Lines.{Act, Contexts, Event}
use Rattle.walk_line.specs.Lines.Act.{Send, Reset}
use Rattle.walk_frames.specs.Frames.{Frame, flow_limit}
use Rattle.walk_frames.specs.Sending.{Senders, Sends, Sent, events_sent, frames_sent, new_senders, owns, sent_of}
use Rattle.walk_frames.specs.Receiving.{Found, Receives, found_of, frames_of, new_contexts}
use Rattle.walk_frames.specs.declared.given.Given.{Given}
use Rattle.walk_frames.specs.declared.given.Given.TheVariants as given

-- ---- one flow

-- The flow's own frames alone give what was given of it, and leave it the same context.
pub record IsHeardAlone (p : Accepting) (s t : Contexts) (frames : List Frame) (found : Found) (flow : ℕ) : Type 0 where
  pub end : Contexts
  pub alone : Receives p s (frames_of flow frames) (found_of flow found) end
  pub end_is : slice_get end flow ≡ slice_get t flow

-- A receiver gives of each flow what it would give of it were it alone on the line, whatever the contexts of the others are.
abbrev pub EachIsHeardAlone : Type 0
EachIsHeardAlone = (p : Accepting) (s t other : Contexts) (frames : List Frame) (found : Found) (flow : ℕ) → Receives p s frames found t → slice_get other flow ≡ slice_get s flow →
    IsHeardAlone p other t frames found flow

-- What was sent of the flow is what its own events alone put out, and its sender is the same then.
pub record IsSentAlone (p : Accepting) (s t : Senders) (xs : List Sent) (flow : ℕ) : Type 0 where
  pub end : Senders
  pub alone : Sends p s (sent_of flow xs) end
  pub end_is : slice_get end flow ≡ slice_get t flow

-- A sender puts out for each flow what it would put out for it were it alone on the line.
abbrev pub EachIsSentAlone : Type 0
EachIsSentAlone = (p : Accepting) (s t other : Senders) (xs : List Sent) (flow : ℕ) → Sends p s xs t → slice_get other flow ≡ slice_get s flow → IsSentAlone p other t xs flow

-- ---- once

-- what is given, but for why a frame is refused
abbrev pub item_in : Given → Option Item
item_in (given.Item it) = Some it
item_in (given.Refused why) = None

abbrev pub items_in : Found → List (ℕ × Option Item)
items_in found = map (λ x. (x.0, item_in x.1)) found

-- The same frames give the same items and leave the same contexts.
abbrev pub GivenOnce : Type 0
GivenOnce = (p : Accepting) → IsDeterminate p → (s t u : Contexts) (frames : List Frame) (found others : Found) → Receives p s frames found t → Receives p s frames others u →
    (items_in found ≡ items_in others) × (t ≡ u)

-- ---- what was sent

-- the items that are sent, with their flows
abbrev pub given_sent : ℕ → Act → Found
given_sent flow (Send it) = (flow, given.Item it) ∷ []
given_sent flow Reset = []

abbrev pub all_sent : List Event → Found
all_sent [] = []
all_sent (e ∷ es) = given_sent e.flow e.act ++ all_sent es

-- Where nothing is lost the items that were sent are given, and the receiver has the senders' contexts.
abbrev pub SentIsGiven : Type 0
SentIsGiven = (p : Accepting) (s t : Senders) (xs : List Sent) → Sends p s xs t → Receives p (owns s) (frames_sent xs) (all_sent (events_sent xs)) (owns t)

-- What comes through of these, where so many right before were lost and never more than n in a row are.
pub data ComesThrough (n : ℕ) : ℕ → List Sent → List Sent → Type 0 where
  all_over : {gap : ℕ} → ComesThrough n gap [] []
  comes : {gap : ℕ} {x : Sent} {xs got : List Sent} → ComesThrough n 0 xs got → ComesThrough n gap (x ∷ xs) (x ∷ got)
  is_lost : {gap : ℕ} {x : Sent} {xs got : List Sent} → gap < n → ComesThrough n (suc gap) xs got → ComesThrough n gap (x ∷ xs) got

-- Of a flow of which never more than n frames in a row are lost, just the items of the frames that come through are given, in order, whatever becomes of other
-- flows: where the sender packs for n, and resets are frames like others.
abbrev pub LossHarmsItsFlowAlone : Type 0
LossHarmsItsFlowAlone = (p : Accepting) → IsDeterminate p → (n flow : ℕ) → flow < flow_limit → (xs came : List Sent) (end : Senders) (frames : List Frame) (found : Found) (t : Contexts) →
    Sends p (new_senders n) xs end → ComesThrough n 0 (sent_of flow xs) came → frames_of flow frames ≡ frames_sent came → Receives p new_contexts frames found t →
    found_of flow found ≡ all_sent (events_sent came)
