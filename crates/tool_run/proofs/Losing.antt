-- What receivers hear of packets, one after the other.
use Rattle.std.proofs.Common.{◌≡◌, ◌∙◌, sym, ap, subst, ℕ, ◌+◌, ◌<◌, ◌≤◌, List, [], ◌∷◌, ◌++◌, length, drop, get_or, append_assoc}
use Rattle.std.specs.Prelude.{Result, Ok, Err, IfOk, string_bytes}
use Rattle.std.specs.declared.alloc.AllocError.{AllocError}
use Rattle.std.proofs.lemmas.List.{append-nil, drop_all, drop_more}
use Rattle.cert_accepted.specs.Accepted.{Accepting}
use Rattle.sem_context.specs.Entries.{Entries}
use Rattle.sem_filling.specs.declared.filling.Filling.{Filling}
use Rattle.sem_filling.specs.declared.filling.Item.{Item}
use Rattle.walk_loss.specs.declared.journal.Journal.{Journal}
use Rattle.walk_loss.specs.Journal.{Entry, IsJournal}
use Rattle.walk_robust.specs.declared.sender.RobustFault.{RobustFault}
use Rattle.tool_items.specs.declared.counts.Tally.{Tally}
use Rattle.tool_items.specs.Counts.{one_more, tally}
use Rattle.tool_items.proofs.SumsGrowing.{tally_more}
use Rattle.tool_input.specs.Refusals as refusals
use Rattle.tool_input.specs.declared.status.Answer.{Answer}
use Rattle.tool_input.specs.declared.status.Status.TheVariants as status
use Rattle.tool_words.specs.declared.words.Form.{Form}
use Rattle.tool_run.specs.Loss.{Loses, none_left, one_lost, IsLossFault, refused_now, refused_later, LossBy, losses_told, item_refused, IsLost, IsRefusedLoss, IsPrintedLoss, losses_in}
use Rattle.tool_run.specs.Senders.{Blames, own_of}
use Rattle.tool_run.specs.declared.sender.Sender.{Sender}

-- The fillings, what is counted and the journal so far are those of the items so far: whatever comes of the others, all together come of all.
pub record LosesSoFar (a : Accepting) (most : ℕ) (start : Sender) (items : List Item) (i : ℕ) (s : Sender) (held : List Entries) (t : Tally) (j : Journal) : Type 0 where
  pub fillings : List Filling
  pub entries : List Entry
  pub tally_is : t ≡ tally fillings
  pub journal_is : IsJournal a entries j
  pub goes_on : (fs : List Filling) (es : List Entry) → Loses a most s held (i + 1) (drop i items) fs es → Loses a most start (own_of start ∷ []) 1 items (fillings ++ fs) (entries ++ es)
  pub fails_on : (text : List ℕ) → IsLossFault a s (i + 1) (drop i items) text → IsLossFault a start 1 items text

module _ (a : Accepting) (most : ℕ) (start : Sender) (items : List Item) where
  pub begin : (held : List Entries) (t : Tally) (j : Journal) → held ≡ own_of start ∷ [] → t ≡ tally [] → IsJournal a [] j → LosesSoFar a most start items 0 start held t j
  begin held t j one none journal = record {
    fillings = [];
    entries = [];
    tally_is = none;
    journal_is = journal;
    goes_on = λ fs es h. subst (λ hs. Loses a most start hs 1 items fs es) one h;
    fails_on = λ text h. h;
  }

  pub onward : (i : ℕ) (d x : Item) (s to : Sender) (held after : List Entries) (t more : Tally) (was is : Journal) → i < length items → x ≡ get_or items i d → LosesSoFar a most start items i s held t was
      → IsLost a most s to held after t more was is (i + 1) x → LosesSoFar a most start items (i + 1) to after more is
  onward i d x s to held after t more was is lt e so step =
      let here : drop i items ≡ x ∷ drop (i + 1) items = drop_more items i d lt ∙ ap (λ y. y ∷ drop (i + 1) items) (sym e) in
      let f = step.packed.filling in
      record {
        fillings = so.fillings ++ f ∷ [];
        entries = so.entries ++ step.adds.entries;
        tally_is = step.tally_is ∙ ap (one_more f) so.tally_is ∙ sym (tally_more so.fillings f);
        journal_is = step.adds.grows so.entries so.journal_is;
        goes_on = λ fs es then.
            let one : Loses a most s held (i + 1) (x ∷ drop (i + 1) items) (f ∷ fs) (step.adds.entries ++ es) =
            one_lost step.packed to step.sent step.adds.are_heard (subst (λ hs. Loses a most to hs (i + 1 + 1) (drop (i + 1) items) fs es) step.new_is then) in
            let whole : Loses a most start (own_of start ∷ []) 1 items (so.fillings ++ (f ∷ fs)) (so.entries ++ (step.adds.entries ++ es)) =
            so.goes_on (f ∷ fs) (step.adds.entries ++ es) (subst (λ xs. Loses a most s held (i + 1) xs (f ∷ fs) (step.adds.entries ++ es)) (sym here) one) in
            subst (λ z. Loses a most start (own_of start ∷ []) 1 items ((so.fillings ++ f ∷ []) ++ fs) z) (sym (append_assoc so.entries step.adds.entries es))
            (subst (λ gs. Loses a most start (own_of start ∷ []) 1 items gs (so.entries ++ (step.adds.entries ++ es))) (sym (append_assoc so.fillings (f ∷ []) fs)) whole);
        fails_on = λ text then.
            let one : IsLossFault a s (i + 1) (x ∷ drop (i + 1) items) text = refused_later step.packed to step.sent then in
            so.fails_on text (subst (λ xs. IsLossFault a s (i + 1) xs text) (sym here) one);
      }

  pub fault_here : (form : Form) (i : ℕ) (d x : Item) (s : Sender) (held : List Entries) (t : Tally) (j : Journal) (e : RobustFault) (r : Result Answer AllocError) → i < length items → x ≡ get_or items i d
      → LosesSoFar a most start items i s held t j → Blames e a s x → IfOk r (IsRefusedLoss e (i + 1)) → IfOk r (refusals.Holds (LossBy form most a start items))
  fault_here form i d x s held t j e (Err w) lt is so blamed told = tt
  fault_here form i d x s held t j e (Ok answer) lt is so blamed told =
      let here : drop i items ≡ x ∷ drop (i + 1) items = drop_more items i d lt ∙ ap (λ y. y ∷ drop (i + 1) items) (sym is) in
      let one : IsLossFault a s (i + 1) (x ∷ drop (i + 1) items) told.0 = refused_now (e, blamed, told.1, told.2) in
      let all : LossBy form most a start items status.Refused (told.0 ++ 10 ∷ []) = item_refused told.0 (so.fails_on told.0 (subst (λ xs. IsLossFault a s (i + 1) xs told.0) (sym here) one)) in
      subst (λ st. LossBy form most a start items st (string_bytes answer.output)) (sym told.3.status_is) (subst (λ z. LossBy form most a start items status.Refused z) (sym told.3.line_is) all)

  pub ending : (form : Form) (i : ℕ) (s : Sender) (held : List Entries) (t : Tally) (j : Journal) (r : Result Answer AllocError) → length items ≤ i → LosesSoFar a most start items i s held t j
      → IfOk r (IsPrintedLoss form a most t j) → IfOk r (refusals.Holds (LossBy form most a start items))
  ending form i s held t j (Err w) le so told = tt
  ending form i s held t j (Ok answer) le so told =
      let rest : Loses a most s held (i + 1) (drop i items) [] [] = subst (λ xs. Loses a most s held (i + 1) xs [] []) (sym (drop_all i items le)) none_left in
      let whole : Loses a most start (own_of start ∷ []) 1 items so.fillings so.entries =
      subst (λ z. Loses a most start (own_of start ∷ []) 1 items so.fillings z) (append-nil so.entries)
      (subst (λ z. Loses a most start (own_of start ∷ []) 1 items z (so.entries ++ [])) (append-nil so.fillings) (so.goes_on [] [] rest)) in
      let all = losses_told so.fillings so.entries j whole so.journal_is in
      let text : string_bytes answer.output ≡ losses_in form a most (tally so.fillings) j ++ 10 ∷ [] =
      told.output_is ∙ ap (λ z. losses_in form a most z j ++ 10 ∷ []) so.tally_is in
      subst (λ st. LossBy form most a start items st (string_bytes answer.output)) (sym told.status_is) (subst (λ z. LossBy form most a start items status.Done z) (sym text) all)
