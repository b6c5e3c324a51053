use Rattle.std.proofs.Common.{List, sym, subst, arith}
use Rattle.wedge_events.specs.declared.events.LogEntry.{LogEntry}
use Rattle.actor_run.specs.Runs.{KeepsCache}
use Rattle.actor_run.proofs.Caches.{keeps_taken, look_up_room}
use Rattle.actor_run.proofs.KeptEntries.{keeps_more}
use Rattle.actor_run.proofs.run.ActorRun.take_alone.Goals as goal

pub note_entry-requires-clause-of_sheet : goal.note_entry-requires-clause-of_sheet
note_entry-requires-clause-of_sheet g c =
    let k = keeps_taken c.self.inside.actor c.take_one.new.actor c.self.inside.entries c.self.inside.cache c.self.invariant.cache c.args.program.now c.self.inside.memory c.take_one.new.memory c.self.inside.access c.args.entry.event c.in_ok-entry.ensures.takes c.in_ok-entry.ensures.going in
    k.rights c.in_ok-entry.ensures.going.1

pub note_entry-requires-clause-room : goal.note_entry-requires-clause-room
note_entry-requires-clause-room g c =
    let counted = c.self.invariant.entries.count_ in
    let next = c.in_ok-count.ensures.0 in
    let small = c.in_ok-count.ensures.1 in
    look_up_room c.self.inside.entries c.self.inside.cache c.self.invariant.cache.after (omega (arith, counted, next, small))

pub invariant_of-self-2 : goal.invariant_of-self-2
invariant_of-self-2 g c = record {
  cache =
      subst (λ (es : List LogEntry). KeepsCache c.take_one.new.actor es c.note_entry.new.cache)
      (sym c.add_entry.ensures.entries)
      (c.note_entry.ensures _ (keeps_taken c.self.inside.actor c.take_one.new.actor c.self.inside.entries c.self.inside.cache c.self.invariant.cache c.args.program.now c.self.inside.memory c.take_one.new.memory c.self.inside.access c.args.entry.event c.in_ok-entry.ensures.takes c.in_ok-entry.ensures.going));
  comes = tt;
  entries = keeps_more g.I.RunOf.unkept c.self.inside.unkept c.self.inside.entries c.self.inside.kept.items c.add_entry.new.entries c.reserve.new.self.items c.add_entry.new.kept.items c.self.inside.count c.in_ok-count.count c.in_ok-entry.entry
      c.self.invariant.unkept c.self.invariant.entries c.reserve.ensures.items c.add_entry.ensures.entries c.add_entry.ensures.kept c.in_ok-count.ensures.0;
  unkept = c.self.invariant.unkept;
}
