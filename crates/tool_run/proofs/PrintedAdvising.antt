-- What is told of items, one after the other, by `advise`.
use Rattle.std.proofs.Common.{◌≡◌, refl, sym, ◌∙◌, ap, subst, ℕ, ◌+◌, ◌<◌, ◌≤◌, List, [], ◌∷◌, ◌++◌, length, drop, get_or, append_assoc}
use Rattle.std.specs.Global.{Global}
use Rattle.std.specs.Prelude.{Result, Ok, Err, IfOk, OnOk, String, string_bytes}
use Rattle.std.specs.declared.alloc.AllocError.{AllocError}
use Rattle.std.proofs.lemmas.List.{append-nil, drop_all, drop_more}
use Rattle.cert_accepted.specs.Accepted.{Accepting}
use Rattle.walk_engine.specs.declared.search.Packed.{Packed}
use Rattle.sem_filling.specs.declared.filling.Filling.{Filling}
use Rattle.sem_filling.specs.declared.filling.Item.{Item}
use Rattle.walk_robust.specs.declared.sender.RobustFault.{RobustFault}
use Rattle.tool_items.specs.Trends.{AddsFilling, AreTrends}
use Rattle.tool_items.specs.declared.trends.Trends.{Trends}
use Rattle.tool_input.specs.declared.status.Answer.{Answer}
use Rattle.tool_input.specs.declared.status.Status.TheVariants as status
use Rattle.tool_items.specs.Advise.{shared_fields}
use Rattle.tool_items.specs.declared.advice.Advice.{Advice}
use Rattle.tool_words.specs.declared.words.Form.{Form}
use Rattle.tool_run.specs.Advise.{AdvisedBy, AdvisesItems, IsAdvice, IsPrintedAdvice, Traces, TracesItem, advised_by, none_traced, one_traced, one_untraced, traces_packed, traces_refused}
use Rattle.tool_run.specs.Printed.{IsRefusedBelow}
use Rattle.tool_run.specs.Senders.{Blames, Sends}
use Rattle.tool_run.specs.declared.sender.Sender.{Sender}

-- the trends and the lines so far are those of the items so far: whatever comes of the others, all together come of all
pub record TracedSoFar (a : Accepting) (start : Sender) (items : List Item) (count lost i : ℕ) (now : Sender) (trends : Trends) (refused : List ℕ) : Type 0 where
  pub fillings : List Filling
  pub trends_are : AreTrends count lost fillings trends
  pub goes_on : (whole : List Filling) (rest : List ℕ) → Traces a now (i + 1) (drop i items) fillings whole rest → Traces a start 1 items [] whole (refused ++ rest)

module _ (a : Accepting) (start : Sender) (items : List Item) (count lost : ℕ) where
  pub traced_start : (trends : Trends) (refused : List ℕ) → AreTrends count lost [] trends → refused ≡ [] → TracedSoFar a start items count lost 0 start trends refused
  traced_start trends refused none empty = record { fillings = []; trends_are = none; goes_on = λ whole rest h. subst (λ r. Traces a start 1 items [] whole (r ++ rest)) (sym empty) h }

  pub traced_on : (i : ℕ) (d x : Item) (now reached : Sender) (trends more : Trends) (refused below : List ℕ) → i < length items → x ≡ get_or items i d → TracedSoFar a start items count lost i now trends refused → TracesItem a now reached trends more refused below (i + 1) x
      → TracedSoFar a start items count lost (i + 1) reached more below
  traced_on i d x now reached trends more refused below h e so (traces_packed p sent grown same) =
      let here : drop i items ≡ x ∷ drop (i + 1) items = drop_more items i d h ∙ ap (λ y. y ∷ drop (i + 1) items) (sym e) in
      record {
        fillings = p.filling ∷ so.fillings;
        trends_are = grown count lost so.fillings so.trends_are;
        goes_on = λ whole rest then.
            let one : Traces a now (i + 1) (x ∷ drop (i + 1) items) so.fillings whole rest = one_traced p reached sent then in
            subst (λ r. Traces a start 1 items [] whole (r ++ rest)) (sym same) (so.goes_on whole rest (subst (λ xs. Traces a now (i + 1) xs so.fillings whole rest) (sym here) one));
      }
  traced_on i d x now reached trends more refused below h e so (traces_refused text refuses stays same grown) =
      let here : drop i items ≡ x ∷ drop (i + 1) items = drop_more items i d h ∙ ap (λ y. y ∷ drop (i + 1) items) (sym e) in
      record {
        fillings = so.fillings;
        trends_are = subst (AreTrends count lost so.fillings) (sym same) so.trends_are;
        goes_on = λ whole rest then.
            let one : Traces a now (i + 1) (x ∷ drop (i + 1) items) so.fillings whole ((10 ∷ text) ++ rest) = one_untraced text refuses (subst (λ c. Traces a c (i + 1 + 1) (drop (i + 1) items) so.fillings whole rest) stays then) in
            let all : Traces a start 1 items [] whole (refused ++ ((10 ∷ text) ++ rest)) = so.goes_on whole ((10 ∷ text) ++ rest) (subst (λ xs. Traces a now (i + 1) xs so.fillings whole ((10 ∷ text) ++ rest)) (sym here) one) in
            subst (λ r. Traces a start 1 items [] whole r) (sym (append_assoc refused (10 ∷ text) rest) ∙ ap (λ r. r ++ rest) (sym grown)) all;
      }

  pub traced_end : (form : Form) (i : ℕ) (now : Sender) (trends : Trends) (refused lines : List ℕ) (r : Result Answer AllocError) → length items ≤ i → TracedSoFar a start items count lost i now trends refused → lines ≡ refused → count ≡ shared_fields a.profile.methods a.profile.top
      → IfOk r (IsPrintedAdvice form trends lines) → IfOk r (AdvisesItems form lost a start items)
  traced_end form i now trends refused lines (Err e) h so all all_fields is = tt
  traced_end form i now trends refused lines (Ok told) h so all all_fields is =
      let last : Traces a now (i + 1) (drop i items) so.fillings so.fillings [] = subst (λ xs. Traces a now (i + 1) xs so.fillings so.fillings []) (sym (drop_all i items h)) none_traced in
      let steps : Traces a start 1 items [] so.fillings refused = subst (λ r. Traces a start 1 items [] so.fillings r) (append-nil refused) (so.goes_on so.fillings [] last) in
      let trended : AreTrends (shared_fields a.profile.methods a.profile.top) lost so.fillings trends = subst (λ n. AreTrends n lost so.fillings trends) all_fields so.trends_are in
      let text : string_bytes told.output ≡ is.text ++ refused ++ 10 ∷ [] = is.output_is ∙ ap (λ l. is.text ++ l ++ 10 ∷ []) all in
      subst (λ s. AdvisedBy form lost a start items s (string_bytes told.output)) (sym is.status_is) (subst (AdvisedBy form lost a start items status.Done) (sym text) (advised_by so.fillings refused trends is.text steps trended is.text_is))

-- ---- one item

pub one_packed : (a : Accepting) (old new : Sender) (before after : Trends) (above : List ℕ) (n : ℕ) (it : Item) (w : Packed) (r : Result (Unit {0}) AllocError) → Sends a old it w new → OnOk r (AddsFilling w.filling before after) → OnOk r (TracesItem a old new before after above above n it)
one_packed a old new before after above n it w (Err e) is adds = tt
one_packed a old new before after above n it w (Ok x) is adds = traces_packed w is adds refl

pub one_refused : {T : Type 0} (a : Accepting) (old new : Sender) (trends : Trends) (above below : List ℕ) (n : ℕ) (it : Item) (e : RobustFault) (r : Result T AllocError) → new ≡ old → Blames e a old it → OnOk r (IsRefusedBelow e n above below) → OnOk r (TracesItem a old new trends trends above below n it)
one_refused a old new trends above below n it e (Err x) same blames is = tt
one_refused a old new trends above below n it e (Ok x) same blames is = traces_refused is.0 (e, blames, is.1, is.2) same refl is.3

pub advice_printed : (form : Form) (trends : Trends) (advice : Advice) (text refused : List ℕ) (output : String Global) → advice.items ≡ trends.items → advice.lost ≡ trends.lost → IsAdvice form advice text → string_bytes output ≡ text ++ refused ++ 10 ∷ [] → IsPrintedAdvice form trends refused record { status = status.Done; output = output }
advice_printed form trends advice text refused output items lost is grown = record {
  text = text;
  text_is = record { advice = advice; items_are = items; lost_is = lost; told = is };
  status_is = refl;
  output_is = grown;
}
