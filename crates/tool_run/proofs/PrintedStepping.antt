-- The line of one item or packet.
use Rattle.std.proofs.Common.{◌≡◌, ◌∙◌, ℕ, Bool, List, [], ◌∷◌, ◌++◌, codes, decimal, false, refl, ap, sym, subst, append_assoc, length}
use Rattle.sem_bits.specs.Cursor.{Place}
use Rattle.sem_bits.specs.Text.{IsText}
use Rattle.sem_context.specs.Entries.{Entries}
use Rattle.sem_filling.specs.Entries.{next}
use Rattle.sem_profile.specs.declared.profile.Method.{Method}
use Rattle.sem_profile.specs.Named.{AreWords}
use Rattle.sem_profile.specs.Resolved.{IsSound, Resolved}
use Rattle.sem_filling.specs.declared.filling.Item.{Item}
use Rattle.sem_filling.specs.Fillings.{item, packed}
use Rattle.cert_accepted.specs.Accepted.{Accepting}
use Rattle.walk_engine.specs.Reading as reading
use Rattle.walk_engine.specs.Writing as writing
use Rattle.walk_engine.specs.declared.reader.Unpacked.{Unpacked}
use Rattle.walk_engine.specs.declared.reader.UnpackFault.{UnpackFault}
use Rattle.walk_engine.specs.declared.writer.PackFault.{PackFault}
use Rattle.walk_engine.specs.declared.writer.PackFault.TheVariants as writer
use Rattle.walk_engine.specs.declared.search.Packed.{Packed}
use Rattle.tool_input.specs.ItemTexts.{HasMore, IsItemText}
use Rattle.tool_run.proofs.PacketLines.{packet_faults}
use Rattle.tool_input.specs.OneLine.{IsLine}
use Rattle.sem_reasons.specs.Reasons.{Verdicts}
use Rattle.sem_filling.specs.declared.reason.Line as reasons
use Rattle.tool_items.specs.Why.{reasons_text}
use Rattle.tool_run.specs.Printed.{ExplainsItem, ExplainsPacket, Follows, HasLine, IsItemFault, RefusesItem, RefusesPacket, head_of, packet_setting, IsFoundText, IsItemStep, IsPacketFault, IsPacketStep, IsReadLine, IsRefusedItem, IsRefusedPacket, IsTaken, IsWrittenText, SaysItem, SaysPacket, tree_text}
use Rattle.tool_run.specs.declared.packets.Shape.{Shape}
use Rattle.tool_run.specs.declared.packets.Shape.TheVariants.{Line, Tree, Why}

-- ---- items

-- what is printed of the filling that was written is said of the item
written_says : (shape : Shape) (a : Accepting) (ctx : Entries) (before after : List ℕ) (n : ℕ) (it : Item) (w : Packed) → writing.IsPacked a ctx it w → IsWrittenText shape a n w.packed w.filling before after → HasLine (SaysItem shape a ctx n it w.filling) before after
written_says Line a ctx before after n it w is text = (text.0, record { best = is.best; spelled = subst (IsText text.0) is.packed_is text.1 }, text.2)
written_says (Tree form) a ctx before after n it w is text =
    (text.0, record { best = is.best; listed = text.1 ∙ ap (λ bits. tree_text form a (codes "item") n (length bits) w.filling) is.packed_is }, text.2)
written_says (Why profile) a ctx before after n it w is text =
    (text.0, record { best = is.best; said = text.1 ∙ ap (λ bits. head_of a (codes "item") n (length bits) w.filling) is.packed_is }, text.2)

pub packed_step : (shape : Shape) (a : Accepting) (old new : Entries) (before after : List ℕ) (n : ℕ) (it : Item) (w : Packed) → writing.IsPacked a old it w → IsWrittenText shape a n w.packed w.filling before after
    → new ≡ next old w.filling → IsItemStep shape a old new before after n it false
packed_step shape a old new before after n it w is text reached =
    (w.filling, written_says shape a old before after n it w is text, reached)

-- of an item no missing flow is blamed
pub no_flow_blamed : (a : Accepting) (ctx : Entries) (it : Item) (e : PackFault) → writing.Blames e a ctx it → ¬ (e ≡ writer.Flow)
no_flow_blamed a ctx it e blames is = subst (λ (x : PackFault). writing.Blames x a ctx it) is blames

pub item_refused : (a : Accepting) (ctx : Entries) (before after : List ℕ) (n : ℕ) (it : Item) (e : PackFault) → writing.Blames e a ctx it → IsRefusedItem e n before after → HasLine (RefusesItem a ctx n it) before after
item_refused a ctx before after n it e blames is = (is.0, (e, blames, is.1.0, is.1.1), is.2)

pub item_explained : (profile : List ℕ) (a : Accepting) (ctx : Entries) (n : ℕ) (it : Item) (e : PackFault) → writing.Blames e a ctx it → (plain text : List ℕ) → IsItemFault e n plain → IsLine plain → (more : List ℕ) → Follows e profile a ctx it more
    → text ≡ plain ++ more → ExplainsItem profile a ctx n it text
item_explained profile a ctx n it e blames plain text is single more follows all =
    record { fault = e; blames = blames; plain = plain; plain_is = is; one_line = single; more = more; follows = follows; text_is = all }

-- ---- packets

-- what is printed of the filling that was read is said of the packet
found_says : (shape : Shape) (a : Accepting) (ctx : Entries) (before after : List ℕ) (n : ℕ) (packet : List Bool) (r : Unpacked) → reading.Fronts a ctx packet r.filling → r.bits ≡ length (packed r.filling)
    → IsFoundText shape a (codes "packet") n r.bits r.filling before after → HasLine (SaysPacket shape a ctx n packet r.filling) before after
found_says Line a ctx before after n packet r fits bits_is text =
    (text.0, record { fits = fits; taken = subst (λ k. IsTaken (item r.filling) k text.0) bits_is text.1 }, text.2)
found_says (Tree form) a ctx before after n packet r fits bits_is text =
    (text.0, record { fits = fits; listed = text.1 ∙ ap (λ k. tree_text form a (codes "packet") n k r.filling) bits_is }, text.2)
found_says (Why profile) a ctx before after n packet r fits bits_is text =
    (text.0, record { fits = fits; said = text.1 ∙ ap (λ k. head_of a (codes "packet") n k r.filling) bits_is }, text.2)

pub read_step : (shape : Shape) (a : Accepting) (old new : Entries) (before after : List ℕ) (n : ℕ) (packet : List Bool) (from to : Place) (r : Unpacked) → from ≡ record { used = []; left = packet } → reading.IsUnpacked a old from to r
    → IsFoundText shape a (codes "packet") n r.bits r.filling before after → new ≡ next old r.filling → IsPacketStep shape a old new before after n packet false
read_step shape a old new before after n packet from to r start is text reached =
    let fits : reading.Fronts a old packet r.filling = record { fits = is.fits; rest = to.left; front = sym (ap (λ (p : Place). p.left) start) ∙ is.advances.left } in
    (r.filling, found_says shape a old before after n packet r fits is.bits_is text, reached)

pub packet_refused : (a : Accepting) (ctx : Entries) (before after : List ℕ) (n : ℕ) (packet : List Bool) (e : UnpackFault) → reading.Blames e a ctx packet → IsRefusedPacket a e n before after → HasLine (RefusesPacket a ctx n packet) before after
packet_refused a ctx before after n packet e blames is = (is.0, (e, blames, is.1.0, is.1.1), is.2)

pub packet_explained : (profile : List ℕ) (a : Accepting) (ctx : Entries) (n : ℕ) (packet : List Bool) (e : UnpackFault) → reading.Blames e a ctx packet → (methods : List Method) (p : Resolved) → p ≡ a.profile → methods ≡ p.methods → IsSound p → (plain text : List ℕ)
    → IsPacketFault e methods n plain → (lines shown_lines : List reasons.Line) → Verdicts (packet_setting a ctx packet) 0 lines → shown_lines ≡ lines → text ≡ plain ++ reasons_text profile p [] shown_lines → ExplainsPacket profile a ctx n packet text
packet_explained profile a ctx n packet e blames methods p same shown sound plain text is lines shown_lines told listed all =
    let words : AreWords methods = subst AreWords (sym shown) sound.words in
    record {
      fault = e;
      blames = blames;
      plain = plain;
      plain_is = subst (λ ms. IsPacketFault e ms n plain) (shown ∙ ap (λ (q : Resolved). q.methods) same) is;
      one_line = packet_faults e methods n plain words is;
      lines = lines;
      reasons_are = told;
      text_is = all ∙ ap (λ q. plain ++ reasons_text profile q [] shown_lines) same ∙ ap (λ ls. plain ++ reasons_text profile a.profile [] ls) listed;
    }

pub packet_blamed : (a : Accepting) (ctx : Entries) (packet : List Bool) (from : Place) (e : UnpackFault) → from ≡ record { used = []; left = packet } → reading.Blames e a ctx from.left → reading.Blames e a ctx packet
packet_blamed a ctx packet from e start blames = subst (reading.Blames e a ctx) (ap (λ (q : Place). q.left) start) blames

pub packet_faulted : (a : Accepting) (n : ℕ) (e : UnpackFault) (p : Resolved) (methods : List Method) (text line before after : List ℕ) → p ≡ a.profile → methods ≡ p.methods → IsPacketFault e methods n text → IsSound p → line ≡ text → after ≡ before ++ line ++ 10 ∷ []
    → IsRefusedPacket a e n before after
packet_faulted a n e p methods text line before after same shown is sound told grown =
    let words : AreWords methods = subst AreWords (sym shown) sound.words in
    (text, (subst (λ ms. IsPacketFault e ms n text) (shown ∙ ap (λ (q : Resolved). q.methods) same) is, packet_faults e methods n text words is), grown ∙ ap (λ l. before ++ l ++ 10 ∷ []) told)

pub took_line : (it : Item) (count : ℕ) (before mid after : List ℕ) → HasMore (IsItemText it) before mid → after ≡ mid ++ codes " took " ++ decimal count ++ 10 ∷ [] → IsReadLine it count before after
took_line it count before mid after h e =
    (h.0 ++ codes " took " ++ decimal count, (h.0, h.1, refl), e ∙ ap (λ m. m ++ codes " took " ++ decimal count ++ 10 ∷ []) h.2 ∙ (simp append_assoc))
