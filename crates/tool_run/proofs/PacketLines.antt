-- The fault lines of packets and of a line of flows are one line each.
use Rattle.std.proofs.Common.{ℕ, List, ◌++◌, Option, Some, None, refl, sym, subst, codes}
use Rattle.std.specs.Prelude.{decimal}
use Rattle.walk_engine.specs.declared.reader.UnpackFault.{UnpackFault}
use Rattle.walk_engine.specs.declared.reader.UnpackFault.TheVariants as reader
use Rattle.walk_line.specs.declared.fault.LineFault.{LineFault}
use Rattle.walk_line.specs.declared.fault.LineFault.TheVariants as received
use Rattle.sem_profile.specs.declared.profile.Method.{Method}
use Rattle.sem_profile.specs.Named.{AreWords}
use Rattle.walk_read.specs.declared.fault.Blamed.{Blamed}
use Rattle.tool_words.specs.declared.words.End.{End}
use Rattle.tool_words.specs.declared.words.End.TheVariants.{Sending, Receiving}
use Rattle.tool_run.specs.Line.{IsLineFault, bad_event_text, line_part_name}
use Rattle.tool_input.specs.OneLine.{IsLine}
use Rattle.tool_run.specs.Printed.{IsPacketFault, refused_packet}
use Rattle.tool_names.specs.CheckFaults.{format_words}
use Rattle.tool_input.proofs.OneLineLemmas.{joined, number}
use Rattle.tool_report.proofs.CheckFaultLines.{method, format}

-- ---- packets

after_point : (methods : List Method) (k : ℕ) (n : Option ℕ) → AreWords methods → IsLine (format_words methods k n)
after_point methods k None h = record { no_feed = refl }
after_point methods k (Some n) h = let point : IsLine (codes ".") = record { no_feed = refl } in joined point (format methods k n h)

refused : (methods : List Method) (n : ℕ) (at : Blamed) → AreWords methods → IsLine (refused_packet methods n at)
refused methods n at h =
    let packet : IsLine (codes "packet ") = record { no_feed = refl } in
    let words : IsLine (codes ": U2 Refused ") = record { no_feed = refl } in
    joined (joined (joined (joined packet (number n)) words) (method methods at.method h)) (after_point methods at.method at.format h)

truncated : (n : ℕ) → IsLine (codes "packet " ++ decimal n ++ codes ": U1 Truncated")
truncated n =
    let packet : IsLine (codes "packet ") = record { no_feed = refl } in
    let words : IsLine (codes ": U1 Truncated") = record { no_feed = refl } in
    joined (joined packet (number n)) words

pub packet_faults : (e : UnpackFault) (methods : List Method) (n : ℕ) (text : List ℕ) → AreWords methods → IsPacketFault e methods n text → IsLine text
packet_faults reader.Truncated methods n text h is = subst IsLine (sym is) (truncated n)
packet_faults (reader.Refused at) methods n text h is = subst IsLine (sym is) (refused methods n at h)
packet_faults reader.OutOfMemory methods n text h is = absurd is

-- ---- a line of flows

pub bad_events : (n : ℕ) → IsLine (bad_event_text n)
bad_events n =
    let events : IsLine (codes "events:") = record { no_feed = refl } in
    let words : IsLine (codes ": I3 bad event") = record { no_feed = refl } in
    joined (joined events (number n)) words

pub end_names : (end : End) → IsLine (line_part_name end)
end_names Sending = record { no_feed = refl }
end_names Receiving = record { no_feed = refl }

pub line_faults : (fault : LineFault) (text : List ℕ) → IsLineFault fault text → IsLine text
line_faults received.FlowOctet text is = subst IsLine (sym is) (record { no_feed = refl })
line_faults received.RefusedPacket text is = subst IsLine (sym is) (record { no_feed = refl })
line_faults received.Padding text is = subst IsLine (sym is) (record { no_feed = refl })
line_faults received.Ended text is = subst IsLine (sym is) (record { no_feed = refl })
line_faults received.OutOfMemory text is = absurd is
