-- What is answered to `advise` (docs/FORMATS.md).
use Rattle.std.specs.Prelude.{◌≡◌, ℕ, ◌+◌, List, [], ◌∷◌, ◌++◌, string_bytes}
use Rattle.cert_accepted.specs.Accepted.{Accepting}
use Rattle.walk_engine.specs.declared.search.Packed.{Packed}
use Rattle.sem_filling.specs.declared.filling.Filling.{Filling}
use Rattle.sem_filling.specs.declared.filling.Item.{Item}
use Rattle.tool_items.specs.Trends.{AddsFilling, AreTrends}
use Rattle.tool_items.specs.declared.trends.Trends.{Trends}
use Rattle.tool_input.specs.Refusals as refusals
use Rattle.tool_input.specs.declared.status.Answer.{Answer}
use Rattle.tool_input.specs.declared.status.Status.{Status}
use Rattle.tool_input.specs.declared.status.Status.TheVariants as status
use Rattle.tool_items.specs.Advise.{IsAdviceText, shared_fields}
use Rattle.tool_items.specs.declared.advice.Advice.{Advice}
use Rattle.tool_items.specs.AdviceObjects.{advice_objects}
use Rattle.tool_words.specs.declared.words.Form.{Form}
use Rattle.tool_words.specs.declared.words.Form.TheVariants as form
use Rattle.tool_run.specs.Senders.{RefusesSent, Sends}
use Rattle.tool_run.specs.declared.sender.Sender.{Sender}

-- Items that a sender packs one after the other, counted from n, after these fillings: the fillings of all that are packed, the last first; and the line of each that is
-- refused, after a line feed. That one leaves the sender as it was.
pub data Traces (a : Accepting) : Sender → ℕ → List Item → List Filling → List Filling → List ℕ → Type 0 where
  none_traced : {s : Sender} {n : ℕ} {fs : List Filling} → Traces a s n [] fs fs []
  one_traced : {s : Sender} {n : ℕ} {it : Item} {items : List Item} {fs whole : List Filling} {refused : List ℕ} (p : Packed) (after : Sender)
      → Sends a s it p after → Traces a after (n + 1) items (p.filling ∷ fs) whole refused → Traces a s n (it ∷ items) fs whole refused
  one_untraced : {s : Sender} {n : ℕ} {it : Item} {items : List Item} {fs whole : List Filling} {refused : List ℕ} (text : List ℕ)
      → RefusesSent a s n it text → Traces a s (n + 1) items fs whole refused → Traces a s n (it ∷ items) fs whole ((10 ∷ text) ++ refused)

-- the text or the objects of what is told
abbrev pub IsAdvice : Form → Advice → List ℕ → Type 0
IsAdvice form.Text advice text = IsAdviceText advice.items advice.lost text
IsAdvice form.Json advice text = text ≡ advice_objects advice

-- of trends: of so many items, where so many may be lost
pub record IsTold (form : Form) (trends : Trends) (text : List ℕ) : Type 0 where
  pub advice : Advice
  pub items_are : advice.items ≡ trends.items
  pub lost_is : advice.lost ≡ trends.lost
  pub told : IsAdvice form advice text

-- What `advise` prints for items: what is told of how the fields of the top go on in the fillings of those that are packed, and the lines of the refused.
pub data AdvisedBy (form : Form) (lost : ℕ) (a : Accepting) (s : Sender) (items : List Item) : Status → List ℕ → Type 0 where
  advised_by : (fs : List Filling) (refused : List ℕ) (trends : Trends) (text : List ℕ) → Traces a s 1 items [] fs refused
      → AreTrends (shared_fields a.profile.methods a.profile.top) lost fs trends → IsTold form trends text → AdvisedBy form lost a s items status.Done (text ++ refused ++ 10 ∷ [])

-- ---- the steps

abbrev pub AdvisesItems : Form → ℕ → Accepting → Sender → List Item → Answer → Type 0
AdvisesItems form lost a s items = refusals.Holds (AdvisedBy form lost a s items)

-- One item more: it is packed, and added to the trends, and the sender goes on; or it is refused, and its line comes below the others.
pub data TracesItem (a : Accepting) (old new : Sender) (before after : Trends) (above below : List ℕ) (n : ℕ) (it : Item) : Type 0 where
  traces_packed : (p : Packed) → Sends a old it p new → AddsFilling p.filling before after → below ≡ above → TracesItem a old new before after above below n it
  traces_refused : (text : List ℕ) → RefusesSent a old n it text → new ≡ old → after ≡ before → below ≡ above ++ 10 ∷ text → TracesItem a old new before after above below n it

-- what is told of the trends, and below it the lines of the refused
pub record IsPrintedAdvice (form : Form) (trends : Trends) (refused : List ℕ) (answer : Answer) : Type 0 where
  pub text : List ℕ
  pub text_is : IsTold form trends text
  pub status_is : answer.status ≡ status.Done
  pub output_is : string_bytes answer.output ≡ text ++ refused ++ 10 ∷ []
