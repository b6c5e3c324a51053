-- The derived equality of events, and of what they hold, decides whether they are the same.
use Rattle.std.proofs.Common.{ℕ, List, refl}
use Rattle.wedge_base.specs.contracts.rights.End as ends
use Rattle.wedge_base.specs.contracts.rights.Right as rights
use Rattle.wedge_base.specs.contracts.rights.StreamKind as kinds
use Rattle.wedge_base.specs.declared.grants.GateId.{GateId}
use Rattle.wedge_base.specs.declared.rights.End.{End}
use Rattle.wedge_base.specs.declared.rights.FdBits.{FdBits}
use Rattle.wedge_base.specs.declared.rights.Right.{Right}
use Rattle.wedge_base.specs.declared.rights.StreamKind.{StreamKind}
use Rattle.wedge_base.specs.Pages.{PageAt}
use Rattle.cow_pages.specs.Equality.{is_same_memory}
use Rattle.cow_pages.specs.PrivateMemory.{PrivateMemory}
use Rattle.cow_pages.proofs.SameMemory.{same_memory}
use Rattle.wedge_events.specs.contracts.cells.DirectoryAsk as directory_asks
use Rattle.wedge_events.specs.contracts.cells.DirectoryReply as directory_replies
use Rattle.wedge_events.specs.contracts.cells.GateAsk as gate_asks
use Rattle.wedge_events.specs.contracts.cells.GateReply as gate_replies
use Rattle.wedge_events.specs.contracts.cells.LivesAsk as lives_asks
use Rattle.wedge_events.specs.contracts.cells.LivesReply as lives_replies
use Rattle.wedge_events.specs.contracts.cells.SlotAsk as slot_asks
use Rattle.wedge_events.specs.contracts.cells.SlotReply as slot_replies
use Rattle.wedge_events.specs.contracts.cells.StreamAsk as stream_asks
use Rattle.wedge_events.specs.contracts.cells.StreamReply as stream_replies
use Rattle.wedge_events.specs.contracts.events.CellName as cell_names
use Rattle.wedge_events.specs.contracts.events.Event as events
use Rattle.wedge_events.specs.declared.cells.DirectoryAsk.{DirectoryAsk}
use Rattle.wedge_events.specs.declared.cells.DirectoryReply.{DirectoryReply}
use Rattle.wedge_events.specs.declared.cells.GateAsk.{GateAsk}
use Rattle.wedge_events.specs.declared.cells.GateReply.{GateReply}
use Rattle.wedge_events.specs.declared.cells.Live.{Live}
use Rattle.wedge_events.specs.declared.cells.LivesAsk.{LivesAsk}
use Rattle.wedge_events.specs.declared.cells.LivesReply.{LivesReply}
use Rattle.wedge_events.specs.declared.cells.SlotAsk.{SlotAsk}
use Rattle.wedge_events.specs.declared.cells.SlotReply.{SlotReply}
use Rattle.wedge_events.specs.declared.cells.StreamAsk.{StreamAsk}
use Rattle.wedge_events.specs.declared.cells.StreamReply.{StreamReply}
use Rattle.wedge_events.specs.declared.events.CellName.{CellName}
use Rattle.wedge_events.specs.declared.events.Event.{Event}
use Rattle.wedge_events.specs.declared.events.LogEntry.{LogEntry}
use Rattle.cow_pages.proofs.Deciding.{Decider, number, truth, list_of, option_of, none, one, more, seen_by, enum_of, bare_of}

-- ---- what they hold

abbrev bytes : Decider (List ℕ)
bytes = list_of number

abbrev right : Decider Right
right = bare_of rights.the_type tt

abbrev kind : Decider StreamKind
kind = bare_of kinds.the_type tt

abbrev bits : Decider FdBits
bits = seen_by (λ (b : FdBits). (b.read, b.append)) (λ p. record { read = p.0; append = p.1 }) (λ b. refl) (more truth truth)

abbrev end : Decider End
end = enum_of ends.enum (one number, (none, (none, (none, (none, (none, (none, (none, (none, (none, tt))))))))))

abbrev gate_id : Decider GateId
gate_id = seen_by (λ (g : GateId). (g.maker, g.number)) (λ p. record { maker = p.0; number = p.1 }) (λ g. refl) (more bytes number)

abbrev page_at : Decider PageAt
page_at = seen_by (λ (p : PageAt). (p.place, p.bytes)) (λ p. record { place = p.0; bytes = p.1 }) (λ p. refl) (more number bytes)

abbrev live : Decider Live
live = seen_by (λ (l : Live). (l.tag, l.right)) (λ p. record { tag = p.0; right = p.1 }) (λ l. refl) (more number (option_of right))

abbrev pub memory : Decider PrivateMemory
memory = record { test = is_same_memory; decides = same_memory }

-- ---- asks and replies

abbrev directory_ask : Decider DirectoryAsk
directory_ask = enum_of directory_asks.enum (none, (one number, tt))

abbrev directory_reply : Decider DirectoryReply
directory_reply = enum_of directory_replies.enum (more number (one number), (none, (none, tt)))

abbrev slot_ask : Decider SlotAsk
slot_ask = enum_of slot_asks.enum (more number (one number), (one number, (more number (more number (one (option_of live))), (more number (more number (more number (one (option_of live)))), (more number (one number), (more number (one (option_of live)), (one number, tt)))))))

abbrev slot_reply : Decider SlotReply
slot_reply = enum_of slot_replies.enum (none, (none, (one number, (none, (one number, (none, (one (list_of page_at), (none, (more number (one right), (none, (none, (none, (none, tt)))))))))))))

abbrev stream_ask : Decider StreamAsk
stream_ask = enum_of stream_asks.enum (more kind (one bytes), (more bits (one number), (more bits (one bytes), (one bits, tt))))

abbrev stream_reply : Decider StreamReply
stream_reply = enum_of stream_replies.enum (none, (one bytes, (none, (none, (none, (one bits, (none, tt)))))))

abbrev lives_ask : Decider LivesAsk
lives_ask = enum_of lives_asks.enum (none, (one end, tt))

abbrev lives_reply : Decider LivesReply
lives_reply = bare_of lives_replies.the_type tt

abbrev pub gate_ask : Decider GateAsk
gate_ask = enum_of gate_asks.enum (more bytes (one memory), (more end (one memory), tt))

abbrev pub gate_reply : Decider GateReply
gate_reply = enum_of gate_replies.enum (one memory, (none, tt))

-- ---- events

abbrev pub cell_name : Decider CellName
cell_name = enum_of cell_names.enum (none, (one number, (none, (one number, (none, (one gate_id, tt))))))

abbrev pub event : Decider Event
event = enum_of events.enum (
  more directory_ask (one directory_reply),
  (
    more number (more slot_ask (one slot_reply)),
    (
      more directory_ask (one directory_reply),
      (
        more number (more stream_ask (one stream_reply)),
        (
          more lives_ask (one lives_reply),
          (
            more gate_id (more gate_ask (one gate_reply)),
            (
              one bytes,
              (
                more number (more end (one number)),
                (
                  one bytes,
                  (
                    one end,
                    tt,
                  ),
                ),
              ),
            ),
          ),
        ),
      ),
    ),
  ),
)

abbrev pub log_entry : Decider LogEntry
log_entry = seen_by (λ (e : LogEntry). (e.stamp, (e.actor, e.event))) (λ p. record { stamp = p.0; actor = p.1.0; event = p.1.1 }) (λ e. refl) (more number (more bytes event))
