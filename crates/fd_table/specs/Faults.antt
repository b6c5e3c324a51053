-- The reply that a fault stands for.
use Rattle.std.specs.Prelude.{Option, Some, None}
use Rattle.wedge_events.specs.declared.cells.StreamReply.{StreamReply}
use Rattle.wedge_events.specs.declared.cells.StreamReply.TheVariants as reply
use Rattle.fd_table.specs.declared.fault.StreamFault.{StreamFault}
use Rattle.fd_table.specs.declared.fault.StreamFault.TheVariants as fault

-- out of memory stands for none
abbrev pub reply_of : StreamFault → Option StreamReply
reply_of fault.NoMemory = None
reply_of fault.NoSuch = Some reply.NoSuch
reply_of (fault.Denied wants) = Some (reply.Denied wants)
reply_of fault.Bad = Some reply.Bad
