-- The lines for items that a sender packs, one after the other.
use Rattle.std.proofs.Common.{◌≡◌, ◌∙◌, ap, sym, subst, ℕ, ◌+◌, ◌<◌, ◌≤◌, Bool, true, false, List, [], ◌∷◌, ◌++◌, length, drop, get_or, append_assoc}
use Rattle.std.specs.Prelude.{Result, Ok, Err, IfOk, OnOk, string_bytes}
use Rattle.std.specs.declared.alloc.AllocError.{AllocError}
use Rattle.std.proofs.lemmas.List.{drop_all, drop_more}
use Rattle.cert_accepted.specs.Accepted.{Accepting}
use Rattle.sem_context.specs.Entries.{Entries}
use Rattle.sem_filling.specs.declared.filling.Item.{Item}
use Rattle.tool_input.specs.declared.status.Answer.{Answer}
use Rattle.tool_input.specs.declared.status.Status.{Status}
use Rattle.tool_input.specs.declared.status.Status.TheVariants as status
use Rattle.tool_run.specs.Printed.{HasLine, IsFinished, IsSendStep, SendsItems, SentBy, all_sent, one_refused, one_sent, stop_of}
use Rattle.tool_run.specs.Senders.{own_of}
use Rattle.tool_run.specs.declared.packets.Shape.{Shape}
use Rattle.tool_run.specs.declared.sender.Sender.{Sender}

-- the lines so far and those for what is left, by the sender as it is now, are all lines
abbrev pub SentSoFar : Shape → Bool → Accepting → Sender → List Item → ℕ → Sender → List ℕ → Type 0
SentSoFar shape shows a start items i s out = (st : Status) (rest : List ℕ) → SentBy shape shows a s (i + 1) (drop i items) st rest → SentBy shape shows a start 1 items st (out ++ rest)

joined : (out text rest : List ℕ) → out ++ (text ++ 10 ∷ rest) ≡ (out ++ text ++ 10 ∷ []) ++ rest
joined out text rest = simp append_assoc

-- what is said of a line is said of it in other words
pub line_as : (P Q : List ℕ → Type 0) (r : Result (Unit {0}) AllocError) (before after : List ℕ) → ((text : List ℕ) → P text → Q text) → OnOk r (HasLine P before after) → OnOk r (HasLine Q before after)
line_as P Q (Ok u) before after says is = (is.0, says is.0 is.1, is.2)
line_as P Q (Err e) before after says is = tt

-- a line that was added
pub line_added : (P : List ℕ → Type 0) (r : Result (Unit {0}) AllocError) (before after text line : List ℕ) → OnOk r (after ≡ before ++ text ++ 10 ∷ []) → text ≡ line → P line → OnOk r (HasLine P before after)
line_added P (Ok u) before after text line grown same is = (line, is, grown ∙ ap (λ l. before ++ l ++ 10 ∷ []) same)
line_added P (Err e) before after text line grown same is = tt

module _ (shape : Shape) (shows : Bool) (a : Accepting) (start : Sender) (items : List Item) where
  pub sending_start : (out : List ℕ) → out ≡ [] → SentSoFar shape shows a start items 0 start out
  sending_start out e st rest h = subst (λ o. SentBy shape shows a start 1 items st (o ++ rest)) (sym e) h

  -- a line more
  pub sending_on : (i : ℕ) (d x : Item) (s reached : Sender) (out new : List ℕ) (b : Bool) → i < length items → x ≡ get_or items i d → SentSoFar shape shows a start items i s out → IsSendStep shape a s reached out new (i + 1) x b → b ≡ false → SentSoFar shape shows a start items (i + 1) reached new
  sending_on i d x s reached out new b h e so step is st rest more =
      let l = subst (λ (y : Bool). IsSendStep shape a s reached out new (i + 1) x y) is step in
      let text = l.2.0 in
      let here : drop i items ≡ x ∷ drop (i + 1) items = drop_more items i d h ∙ ap (λ y. y ∷ drop (i + 1) items) (sym e) in
      let lines : SentBy shape shows a s (i + 1) (x ∷ drop (i + 1) items) st (text ++ 10 ∷ rest) = one_sent l.0 reached text rest l.1 l.2.1 more in
      subst (λ o. SentBy shape shows a start 1 items st o) (joined out text rest ∙ ap (λ o. o ++ rest) (sym l.2.2))
      (so st (text ++ 10 ∷ rest) (subst (λ xs. SentBy shape shows a s (i + 1) xs st (text ++ 10 ∷ rest)) (sym here) lines))

  -- the line that refuses
  pub sending_stop : (i : ℕ) (d x : Item) (s reached : Sender) (out new : List ℕ) (b : Bool) → i < length items → x ≡ get_or items i d → SentSoFar shape shows a start items i s out → IsSendStep shape a s reached out new (i + 1) x b → b ≡ true → SentBy shape shows a start 1 items (stop_of shape) new
  sending_stop i d x s reached out new b h e so step is =
      let f = subst (λ (y : Bool). IsSendStep shape a s reached out new (i + 1) x y) is step in
      let here : drop i items ≡ x ∷ drop (i + 1) items = drop_more items i d h ∙ ap (λ y. y ∷ drop (i + 1) items) (sym e) in
      let last : SentBy shape shows a s (i + 1) (x ∷ drop (i + 1) items) (stop_of shape) (f.0 ++ 10 ∷ []) = one_refused f.0 f.1 in
      let whole = so (stop_of shape) (f.0 ++ 10 ∷ []) (subst (λ xs. SentBy shape shows a s (i + 1) xs (stop_of shape) (f.0 ++ 10 ∷ [])) (sym here) last) in
      subst (λ o. SentBy shape shows a start 1 items (stop_of shape) o) (sym (f.2 ∙ append_assoc out f.0 (10 ∷ []))) whole

  -- after the last
  pub sending_end : (i : ℕ) (s : Sender) (ctx : Entries) (out : List ℕ) (r : Result Answer AllocError) → length items ≤ i → SentSoFar shape shows a start items i s out → ctx ≡ own_of s → IfOk r (IsFinished shows ctx out) → IfOk r (SendsItems shape shows a start items)
  sending_end i s ctx out (Err e) h so own f = tt
  sending_end i s ctx out (Ok answer) h so own f =
      let ends = subst (λ c. IsFinished shows c out answer) own f in
      let last : SentBy shape shows a s (i + 1) (drop i items) status.Done ends.text = subst (λ xs. SentBy shape shows a s (i + 1) xs status.Done ends.text) (sym (drop_all i items h)) (all_sent ends.ends) in
      let whole = so status.Done ends.text last in
      subst (λ st. SentBy shape shows a start 1 items st (string_bytes answer.output)) (sym ends.status_is) (subst (λ o. SentBy shape shows a start 1 items status.Done o) (sym ends.output_is) whole)
