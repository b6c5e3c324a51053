use Rattle.std.proofs.Common.{subst, ◌∙◌, Some}
use Rattle.grant_cache.specs.Caches.{IsCacheOf}
use Rattle.grant_cache.specs.Hits.{IsAfter}
use Rattle.machine.specs.Actors.{ActorRecord}
use Rattle.actor_run.proofs.LookUps.{tags_more, tags_as_before}
use Rattle.actor_run.proofs.looking.note_entry.Goals as goal

pub returns-in_default : goal.returns-in_default
returns-in_default c es k = record {
  after = subst (λ ts. IsAfter ts c.args.cache.now) (tags_as_before es c.args.entry.now c.in_default.ensures) k.after;
  capacity = k.capacity;
  rights = k.rights;
}

pub returns : goal.returns
returns c es k = record {
  after = subst (λ ts. IsAfter ts c.note.new.self) (tags_more es c.args.entry.now (Some c.in-Some.tag) c.in-Some.ensures) (c.note.ensures.after _ k.after);
  capacity = c.note.ensures.capacity ∙ k.capacity;
  rights = λ going. subst (λ (a : ActorRecord). IsCacheOf a.sheet c.note.new.self) c.actor.view_is c.note.ensures.of_sheet;
}
