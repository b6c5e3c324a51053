use Rattle.std.proofs.Common.{◌∙◌}
use Rattle.run_audit.proofs.IndexedEntries.{journal_fits, journal_taken}
use Rattle.run_audit.proofs.moving.entries_moved.Goals as goal

pub slots_of-slots-requires : goal.slots_of-slots-requires
slots_of-slots-requires c = journal_fits c.args.logs c.into_vec.result.items c.args.room.slots.items c.args.room.slots.len c.args.room.slots.cap c.into_vec.ensures c.requires.no_slots c.args.room.slots.ok.0 c.requires.slots

pub returns : goal.returns
returns c =
    c.new.ensures
    ∙ journal_taken c.args.logs c.into_vec.result.items c.args.room.order.items c.as_slice.result.now c.args.room.slots.items c.slots_of-slots.result.items c.args.room.entries.items c.take_all.result.items
    c.into_vec.ensures c.requires.order c.as_slice.ensures.value c.requires.no_slots c.slots_of-slots.ensures c.requires.no_entries c.take_all.ensures
