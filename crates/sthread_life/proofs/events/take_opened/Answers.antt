use Rattle.std.proofs.Common.{◌≤◌, sym, subst}
use Rattle.wedge_base.specs.Sheets.{Made}
use Rattle.image_form.specs.Rules.{most_fuel}
use Rattle.machine.specs.Between.{funds}
use Rattle.machine.proofs.SlotsHeld.{made_inside}
use Rattle.sthread_life.proofs.events.take_opened.Goals as goal

pub invariant_of-actor-2 : goal.invariant_of-actor-2
invariant_of-actor-2 c = record {
  fits = tt;
  placed = (c.actor.invariant.placed.0, made_inside c.actor.inside.made c.put_tag.new.self _ _ c.in_ok-put_tag.ensures.ok c.requires c.actor.invariant.placed.1);
  gates = c.actor.invariant.gates;
  funded = subst (λ (m : Made). funds c.actor.inside.starts m.count c.actor.inside.fuel c.actor.inside.unjoined ≤ most_fuel) (sym c.in_ok-put_tag.ensures.ok) c.actor.invariant.funded;
}
