-- A session may cross threads. So may the pages that it keeps: a page and the pages of its fields are numbers and lists, and a layer has the law where what it holds
-- of pages has it (`FixSend` of the logic).
use denote.Builtin.{usize}
use denote.RattleType.{RattleType}
use denote.Struct.Field.{row_field}
use denote.Param.Send.{IsSend, sendable, view_send}
use denote.Param.SendFields.{as_row_send, declared_send}
use denote.Hole.{as_row}
use denote.Hole.Fix.{holes}
use denote.Hole.FixSend.{Sends, fix_send}
use Rattle.std.proofs.Crossing.{Vec-send}
use Rattle.std.proofs.option.Option.TheSendSync as option_sent
use Rattle.std.specs.contracts.option.Option as Option
use Rattle.std.specs.contracts.vec.Vec as Vec
use Rattle.std.specs.contracts.alloc.Global as Global
use Rattle.std.specs.contracts.impls.GlobalAllocator.TheImpl.{ghosts}
use Rattle.sqlite_items.proofs.items.Items.TheSendSync as items_sent
use Rattle.sqlite_items.specs.contracts.items.Items as Items
use Rattle.sem_pages.proofs.word.Word.TheSendSync as word_sent
use Rattle.sem_pages.specs.contracts.word.Word as word
use Rattle.sem_pages.specs.contracts.page.Page as page
use Rattle.sem_pages.specs.contracts.page.Page.TheKnot as knot
use Rattle.sem_pages.specs.contracts.page.Shown as shown
use Rattle.cert_accepted.proofs.Crossing.{Accepted-send}
use Rattle.walk_session.proofs.ends.Ends.TheSendSync as ends_sent
use Rattle.walk_session.specs.contracts.ends.Ends as ends
use Rattle.walk_session.specs.contracts.session.Session as session
use Rattle.walk_session.specs.contracts.session.Session.TheInside as inside

number_send : IsSend usize
number_send = search sendable depth 20

-- ---- a page

side_send : IsSend (Option.the_row word.the_row)
side_send = option_sent.the_send word.the_row word_sent.the_send

page_step : Sends page.the_ring page.the_member
page_step = record {
  send = λ h all. let R = h shown.the_member in
      declared_send (knot.type-Page R) (number_send, (as_row_send (row_field (Items.the_row R)) (items_sent.the_send R (all shown.the_member)), tt));
}

shown_step : Sends page.the_ring shown.the_member
shown_step = record {
  send = λ h all. let R = h page.the_member in
      declared_send (knot.type-Shown R) (side_send, (side_send, (as_row_send (row_field (Option.the_row R)) (option_sent.the_send R (all page.the_member)), tt)));
}

shown_hole_send : IsSend (holes page.the_ring shown.the_member)
shown_hole_send = fix_send page.the_ring (page.by_members (Sends page.the_ring) page_step shown_step) shown.the_member

Page-send : IsSend page.the_row
Page-send = declared_send page.the_type (number_send, (as_row_send (Items.the_field shown.the_hole) (items_sent.the_send shown.the_hole shown_hole_send), tt))

-- ---- a session

-- of each flow there is one or none
each_send : (R : RattleType) → IsSend R → IsSend (as_row (Vec.the_field (Option.the_row R) Global.the_row ghosts))
each_send R s = as_row_send (Vec.the_field (Option.the_row R) Global.the_row ghosts) (Vec-send (Option.the_row R) (option_sent.the_send R s))

pub Session-send : IsSend session.the_row
Session-send = view_send inside.the_row _ _ _ _ (declared_send inside.the_type (
  Accepted-send,
  (
    as_row_send (Vec.the_field ends.the_row Global.the_row ghosts) (Vec-send ends.the_row ends_sent.the_send),
    (each_send usize number_send, (each_send page.the_row Page-send, (each_send page.the_row Page-send, tt))),
  ),
))
