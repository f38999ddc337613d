-- What is counted of items, one after the other.
use Rattle.std.proofs.Common.{◌≡◌, refl, true, false, if◌then◌else◌, ℕ, ◌+◌, ◌<◌, ◌≤◌, List, [], ◌∷◌, ◌++◌, length, drop, get_or, ap, sym, ◌∙◌, subst, append_assoc}
use Rattle.std.specs.Borrow.{Bor}
use Rattle.std.specs.Global.{Global}
use Rattle.std.specs.Prelude.{Option, Some, None, Result, Ok, Err, IfOk, OnOk, String, string_bytes}
use Rattle.std.specs.declared.alloc.AllocError.{AllocError}
use Rattle.std.proofs.lemmas.List.{append-nil, drop_all, drop_more}
use Rattle.cert_accepted.specs.Accepted.{Accepting}
use Rattle.sem_context.specs.Entries.{Entries}
use Rattle.walk_robust.specs.declared.sender.RobustFault.{RobustFault}
use Rattle.walk_engine.specs.declared.search.Packed.{Packed}
use Rattle.sem_filling.specs.declared.filling.Filling.{Filling, out-Filling}
use Rattle.sem_filling.specs.Fillings.{packed}
use Rattle.sem_filling.specs.declared.filling.Item.{Item}
use Rattle.sem_profile.specs.declared.profile.Method.{Method}
use Rattle.sem_profile.specs.Resolved.{Resolved}
use Rattle.tool_items.specs.Sums.{AreSums}
use Rattle.tool_items.specs.Counts.{tally}
use Rattle.tool_input.specs.Inputs.{BlamesContext, IsBadLine, IsItem}
use Rattle.tool_input.specs.OneLine.{IsLine}
use Rattle.tool_input.specs.Refusals.{Holds, IsRefusal, context_line}
use Rattle.tool_input.specs.declared.inputs.BadLine.{BadLine}
use Rattle.tool_input.specs.declared.inputs.BadLine.TheVariants as bad
use Rattle.tool_input.specs.declared.status.Answer.{Answer}
use Rattle.tool_input.specs.declared.status.Status.{Status}
use Rattle.tool_input.specs.declared.status.Status.TheVariants as status
use Rattle.tool_items.specs.Adding.{Adds}
use Rattle.tool_items.specs.declared.sums.Sums.{out-Sums}
use Rattle.tool_input.proofs.RefusalsHeld.{refusal_is}
use Rattle.tool_names.specs.Names.{format_name}
use Rattle.tool_words.specs.declared.words.Counting.{Counting}
use Rattle.tool_words.specs.declared.words.Direction.TheVariants.{Pack}
use Rattle.tool_words.specs.declared.words.Form.{Form}
use Rattle.tool_run.specs.declared.stats.Survey.{Survey}
use Rattle.tool_run.proofs.SenderLemmas.{sent_anywhere}
use Rattle.tool_run.specs.Senders.{Blames, IsSenderFault, Sends}
use Rattle.tool_run.specs.declared.sender.Sender.{Sender}
use Rattle.tool_run.specs.declared.stats.Statistics.{Statistics}
use Rattle.tool_run.specs.Printed.{AddsPacked, CountsItem, CountsItems, IsCountsText, IsPrintedStats, IsRefusedBelow, Packs, StatsBy, StatsFor, StatsIn, TellsOf, bad_entry, bad_item, bad_line_text, counted_by, counted_status, counts_packed, counts_refused, counted_in, counts_text, fillings_in, heads_of, item_row, packs_none, packs_one, refuses_one, row_in, row_of, rows_of}

-- what is told so far is of the items so far: whatever comes of the others, all together come of all
pub record CountedSoFar (a : Accepting) (how : Counting) (start : Sender) (items : List Item) (i : ℕ) (ctx : Sender) (told : Statistics) : Type 0 where
  pub fillings : List (ℕ × Filling)
  pub tells : TellsOf a how fillings told
  pub goes_on : (fs : List (ℕ × Filling)) (rest : List ℕ) → Packs a ctx (i + 1) (drop i items) fs rest → Packs a start 1 items (fillings ++ fs) (string_bytes told.refused ++ rest)

-- the rows of some fillings and of one more
rows_more : (form : Form) (a : Accepting) (xs : List (ℕ × Filling)) (x : ℕ × Filling) → rows_of form a (xs ++ x ∷ []) ≡ rows_of form a xs ++ row_of form a x
rows_more form a [] x = append-nil (row_of form a x)
rows_more form a (y ∷ ys) x = ap (λ r. row_of form a y ++ r) (rows_more form a ys x) ∙ sym (append_assoc (row_of form a y) (rows_of form a ys) (row_of form a x))

fillings_more : (xs : List (ℕ × Filling)) (x : ℕ × Filling) → fillings_in (xs ++ x ∷ []) ≡ fillings_in xs ++ x.1 ∷ []
fillings_more [] x = refl
fillings_more (y ∷ ys) x = ap (λ r. y.1 ∷ r) (fillings_more ys x)

tells_more : (a : Accepting) (how : Counting) (n : ℕ) (p : Packed) (s after : Sender) (it : Item) (xs : List (ℕ × Filling)) (old new : Statistics) → Sends a s it p after → AddsPacked a how n p old new → TellsOf a how xs old → TellsOf a how (xs ++ (n, p.filling) ∷ []) new
tells_more a how n p s after it xs old new sent adds tells = record {
  sums_are = subst (λ fs. AreSums fs new.sums) (sym (fillings_more xs (n, p.filling))) (adds.adds (fillings_in xs) tells.sums_are);
  rows_are = λ lists. adds.row lists ∙ (λ i. tells.rows_are lists i ++ row_in how.form n (format_name a.profile.methods a.profile.top (out-Filling p.filling).format) (length ((sent_anywhere a s after it p sent).packed_is i))) ∙ sym (rows_more how.form a xs (n, p.filling));
}

module _ (a : Accepting) (how : Counting) (start : Sender) (items : List Item) where
  pub counted_start : (told : Statistics) → AreSums [] told.sums → string_bytes told.rows ≡ [] → string_bytes told.refused ≡ [] → CountedSoFar a how start items 0 start told
  counted_start told none no_rows empty = record {
    fillings = [];
    tells = record { sums_are = none; rows_are = λ lists. no_rows };
    goes_on = λ fs rest h. subst (λ r. Packs a start 1 items fs (r ++ rest)) (sym empty) h;
  }

  pub counted_on : (i : ℕ) (d x : Item) (ctx reached : Sender) (told more : Statistics) → i < length items → x ≡ get_or items i d → CountedSoFar a how start items i ctx told → CountsItem a how ctx reached told more (i + 1) x
      → CountedSoFar a how start items (i + 1) reached more
  counted_on i d x ctx reached told more h e so (counts_packed p sent adds) =
      let here : drop i items ≡ x ∷ drop (i + 1) items = drop_more items i d h ∙ ap (λ y. y ∷ drop (i + 1) items) (sym e) in
      let f : ℕ × Filling = (i + 1, p.filling) in
      let refused = string_bytes told.refused in
      record {
        fillings = so.fillings ++ f ∷ [];
        tells = tells_more a how (i + 1) p ctx reached x so.fillings told more sent adds so.tells;
        goes_on = λ fs rest follows.
            let one : Packs a ctx (i + 1) (x ∷ drop (i + 1) items) (f ∷ fs) rest = packs_one p reached sent follows in
            let whole : Packs a start 1 items (so.fillings ++ (f ∷ fs)) (refused ++ rest) = so.goes_on (f ∷ fs) rest (subst (λ xs. Packs a ctx (i + 1) xs (f ∷ fs) rest) (sym here) one) in
            subst (λ r. Packs a start 1 items ((so.fillings ++ f ∷ []) ++ fs) (r ++ rest)) (sym adds.refused_stays) (subst (λ gs. Packs a start 1 items gs (refused ++ rest)) (sym (append_assoc so.fillings (f ∷ []) fs)) whole);
      }
  counted_on i d x ctx reached told more h e so (counts_refused text refuses stays same rows grown) =
      let here : drop i items ≡ x ∷ drop (i + 1) items = drop_more items i d h ∙ ap (λ y. y ∷ drop (i + 1) items) (sym e) in
      let refused = string_bytes told.refused in
      record {
        fillings = so.fillings;
        tells = record { sums_are = subst (AreSums (fillings_in so.fillings)) (sym same) so.tells.sums_are; rows_are = λ lists. rows ∙ so.tells.rows_are lists };
        goes_on = λ fs rest follows.
            let one : Packs a ctx (i + 1) (x ∷ drop (i + 1) items) fs ((10 ∷ text) ++ rest) = refuses_one text refuses (subst (λ c. Packs a c (i + 1 + 1) (drop (i + 1) items) fs rest) stays follows) in
            let whole : Packs a start 1 items (so.fillings ++ fs) (refused ++ ((10 ∷ text) ++ rest)) = so.goes_on fs ((10 ∷ text) ++ rest) (subst (λ xs. Packs a ctx (i + 1) xs fs ((10 ∷ text) ++ rest)) (sym here) one) in
            subst (λ r. Packs a start 1 items (so.fillings ++ fs) r) (sym (append_assoc refused (10 ∷ text) rest) ∙ ap (λ r. r ++ rest) (sym grown)) whole;
      }

  pub counted_end : (i : ℕ) (ctx : Sender) (told : Statistics) (r : Result Answer AllocError) → length items ≤ i → CountedSoFar a how start items i ctx told → IfOk r (IsPrintedStats a how told) → IfOk r (CountsItems a how start items)
  counted_end i ctx told (Err e) h so is = tt
  counted_end i ctx told (Ok answer) h so is =
      let refused = string_bytes told.refused in
      let last : Packs a ctx (i + 1) (drop i items) [] [] = subst (λ xs. Packs a ctx (i + 1) xs [] []) (sym (drop_all i items h)) packs_none in
      let whole : Packs a start 1 items (so.fillings ++ []) (refused ++ []) = so.goes_on [] [] last in
      let steps : Packs a start 1 items so.fillings refused = subst (λ gs. Packs a start 1 items gs refused) (append-nil so.fillings) (subst (λ r. Packs a start 1 items (so.fillings ++ []) r) (append-nil refused) whole) in
      let text : string_bytes answer.output ≡ counts_text a how so.fillings ++ refused ++ 10 ∷ [] =
      is.output_is ∙ (λ j. is.text_is so.fillings so.tells j ++ refused ++ 10 ∷ []) in
      let status_is : answer.status ≡ counted_status how (tally (fillings_in so.fillings)) refused =
      is.status_is ∙ ap (λ all. counted_status how all refused) (so.tells.sums_are []).all_is in
      subst (λ s. StatsBy a how start items s (string_bytes answer.output)) (sym status_is) (subst (StatsBy a how start items (counted_status how (tally (fillings_in so.fillings)) refused)) (sym text) (counted_by so.fillings refused steps))

-- ---- one item

pub one_counted : (a : Accepting) (how : Counting) (old new : Sender) (before after : Statistics) (n : ℕ) (it : Item) (w : Packed) (r : Result (Unit {0}) AllocError) → Sends a old it w new → OnOk r (AddsPacked a how n w before after) → OnOk r (CountsItem a how old new before after n it)
one_counted a how old new before after n it w (Err e) is adds = tt
one_counted a how old new before after n it w (Ok x) is adds = counts_packed w is adds

pub one_refused : {T : Type 0} (a : Accepting) (how : Counting) (old new : Sender) (before after : Statistics) (n : ℕ) (it : Item) (e : RobustFault) (r : Result T AllocError) → new ≡ old → after.sums ≡ before.sums → string_bytes after.rows ≡ string_bytes before.rows → Blames e a old it → OnOk r (IsRefusedBelow e n (string_bytes before.refused) (string_bytes after.refused)) → OnOk r (CountsItem a how old new before after n it)
one_refused a how old new before after n it e (Err x) same sums rows blames is = tt
one_refused a how old new before after n it e (Ok x) same sums rows blames is = counts_refused is.0 (e, blames, is.1, is.2) same sums rows is.3

-- the line of a refused item, below those before it
pub line_below : (e : RobustFault) (n : ℕ) (above mid below line text : List ℕ) → IsSenderFault e n line → IsLine line → mid ≡ above ++ 10 ∷ [] → text ≡ line → below ≡ mid ++ text → IsRefusedBelow e n above below
line_below e n above mid below line text is single begun same grown = (line, is, single, grown ∙ (λ j. begun j ++ same j) ∙ append_assoc above (10 ∷ []) line)

-- the text of what is told: the sums, or the rows below their heads
sums_are_told : (a : Accepting) (how : Counting) (p : Resolved) (methods : List Method) (top : ℕ) (told : Statistics) (text : List ℕ) → how.lists_items ≡ false → p ≡ a.profile → methods ≡ p.methods → top ≡ p.top → ((fs : List Filling) → AreSums fs told.sums → text ≡ counted_in how.form methods top fs) → IsCountsText a how told text
sums_are_told a how p methods top told text plain same all first is fs tells =
    let methods_are : methods ≡ a.profile.methods = all ∙ ap (λ (q : Resolved). q.methods) same in
    let top_is : top ≡ a.profile.top = first ∙ ap (λ (q : Resolved). q.top) same in
    is (fillings_in fs) tells.sums_are ∙ (λ j. counted_in how.form (methods_are j) (top_is j) (fillings_in fs)) ∙ (λ j. if sym plain j then heads_of how.form ++ rows_of how.form a fs else counted_in how.form a.profile.methods a.profile.top (fillings_in fs))

rows_are_told : (a : Accepting) (how : Counting) (told : Statistics) (rows text : List ℕ) → how.lists_items ≡ true → rows ≡ string_bytes told.rows → text ≡ heads_of how.form ++ rows → IsCountsText a how told text
rows_are_told a how told rows text lists same is fs tells =
    is ∙ ap (λ r. heads_of how.form ++ r) (same ∙ tells.rows_are lists) ∙ (λ j. if sym lists j then heads_of how.form ++ rows_of how.form a fs else counted_in how.form a.profile.methods a.profile.top (fillings_in fs))

pub sums_text : (a : Accepting) (how : Counting) (p : Resolved) (methods : List Method) (top : ℕ) (told : Statistics) (r : Result (String Global) AllocError) → how.lists_items ≡ false → p ≡ a.profile → methods ≡ p.methods → top ≡ p.top → IfOk r (λ text. (fs : List Filling) → AreSums fs told.sums → string_bytes text ≡ counted_in how.form methods top fs)
    → IfOk r (λ text. IsCountsText a how told (string_bytes text))
sums_text a how p methods top told (Err e) plain same all first is = tt
sums_text a how p methods top told (Ok text) plain same all first is = sums_are_told a how p methods top told (string_bytes text) plain same all first is

pub rows_text : (a : Accepting) (how : Counting) (told : Statistics) (rows : List ℕ) (r : Result (String Global) AllocError) → how.lists_items ≡ true → rows ≡ string_bytes told.rows → IfOk r (λ text. string_bytes text ≡ heads_of how.form ++ rows) → IfOk r (λ text. IsCountsText a how told (string_bytes text))
rows_text a how told rows (Err e) lists same is = tt
rows_text a how told rows (Ok text) lists same is = rows_are_told a how told rows (string_bytes text) lists same is

pub counts_printed : (a : Accepting) (how : Counting) (told : Statistics) (text shown again : List ℕ) (s : Status) (output : String Global) → shown ≡ string_bytes told.refused → again ≡ string_bytes told.refused → s ≡ counted_status how (out-Sums told.sums).all again → IsCountsText a how told text → string_bytes output ≡ text ++ shown ++ 10 ∷ []
    → IsPrintedStats a how told record { status = s; output = output }
counts_printed a how told text shown again s output first second status_is is grown = record {
  status_is = status_is ∙ ap (counted_status how (out-Sums told.sums).all) second;
  text = text;
  text_is = is;
  output_is = grown ∙ ap (λ r. text ++ r ++ 10 ∷ []) first;
}

pub packed_told : {T : Type 0} (a : Accepting) (how : Counting) (n : ℕ) (p : Packed) (old new : Statistics) (r : Result T AllocError) → Adds p.filling old.sums new.sums → OnOk r (how.lists_items ≡ true → string_bytes new.rows ≡ string_bytes old.rows ++ item_row how.form a n p) → string_bytes new.refused ≡ string_bytes old.refused → OnOk r (AddsPacked a how n p old new)
packed_told a how n p old new (Err e) adds row same = tt
packed_told a how n p old new (Ok x) adds row same = record { adds = adds; row = row; refused_stays = same }

-- ---- a context that can't be read

entry_bad : (what : Survey) (a : Accepting) (part : Option (Bor (List ℕ))) (input : List ℕ) (n : ℕ) (p : Option (Bor (List ℕ))) → part ≡ p → BlamesContext (bad.Number n) p → StatsFor what a part input status.Refused (context_line n ++ 10 ∷ [])
entry_bad what a part input n None is h = absurd h
entry_bad what a part input n (Some octets) is h = bad_entry octets n is h

pub bad_entry_is : (what : Survey) (a : Accepting) (part : Option (Bor (List ℕ))) (input : List ℕ) (e : BadLine) (n m : ℕ) (written : List ℕ) (r : Result Answer AllocError) → BlamesContext e part → e ≡ bad.Number n → written ≡ context_line m → m ≡ n → IfOk r (IsRefusal written) → IfOk r (Holds (StatsFor what a part input))
bad_entry_is what a part input e n m written r blames is same number g =
    let here : BlamesContext (bad.Number n) part = subst (λ (x : BadLine). BlamesContext x part) is blames in
    refusal_is (StatsFor what a part input) (context_line n) written r (entry_bad what a part input n part (λ i. part) here) (same ∙ ap context_line number) g

-- items of which a line can't be read
pub bad_items_are : (what : Survey) (a : Accepting) (ctx : Entries) (input : List ℕ) (n m : ℕ) (written : List ℕ) (r : Result Answer AllocError) → IsBadLine IsItem input n → written ≡ bad_line_text Pack m → m ≡ n → IfOk r (IsRefusal written) → IfOk r (Holds (StatsIn what a ctx input))
bad_items_are what a ctx input n m written r is same number g = refusal_is (StatsIn what a ctx input) (bad_line_text Pack n) written r (bad_item n is) (same ∙ ap (bad_line_text Pack) number) g
