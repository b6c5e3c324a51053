use Rattle.std.proofs.Common.{◌≡◌, ◌∙◌, ap, sym, subst, rules}
use Rattle.std.specs.Prelude.{Some}
use Rattle.wedge_events.specs.declared.events.Ask.{Ask}
use Rattle.wedge_events.specs.declared.events.Want.{Want}
use Rattle.wedge_events.specs.declared.events.Want.TheVariants as want
use Rattle.machine.specs.Actors.{ActorState, whole}
use Rattle.machine.specs.Between.{WantFits}
use Rattle.machine.specs.Cells.{AskFits, live_at, event_of}
use Rattle.machine.specs.Take.{asks}
use Rattle.world_turns.specs.Turning.{IsOfCell}
use Rattle.world_turns.proofs.Fitting.{asks_fit, access_fits, slot_event, asks_running}
use Rattle.world_turns.proofs.turns.event_of_access.Goals as goal

pub act-requires : goal.act-requires
act-requires c =
    let a = whole c.resident.inside.actor c.resident.inside.memory in
    let q = c.args.want in
    let live : c.live-tag.result ≡ live_at c.args.cells.now q = search rules in
    let asked : c.ask.result ≡ asks a (live_at c.args.cells.now q) q = c.ask.ensures c.resident.inside.memory ∙ ap (λ l. asks a l q) live in
    let fits : WantFits a q = subst (WantFits a) (sym c.requires.wants) (access_fits a c.args.access.slot c.args.access.want c.requires.comes.fits) in
    let of_cell : IsOfCell q = subst IsOfCell (sym c.requires.wants) tt in
    subst (λ (p : Ask). AskFits c.args.cells.now p) (sym asked) (asks_fit c.args.cells.now a a q fits of_cell)

pub take_slot-requires-clause-of_slot : goal.take_slot-requires-clause-of_slot
take_slot-requires-clause-of_slot c =
    let a = whole c.resident.inside.actor c.resident.inside.memory in
    let q = c.args.want in
    let cells = c.args.cells.now in
    let live : c.live-tag.result ≡ live_at cells q = search rules in
    let asked : c.ask.result ≡ asks a (live_at cells q) q = c.ask.ensures c.resident.inside.memory ∙ ap (λ l. asks a l q) live in
    let comes : event_of cells (asks a (live_at cells q) q) ≡ Some c.in_ok-event.event = ap (event_of cells) (sym asked) ∙ c.in_ok-event.ensures.is in
    let of_slot = subst (λ (p : Want). event_of cells (asks a (live_at cells q) p) ≡ Some c.in_ok-event.event) c.requires.wants comes in
    slot_event cells a c.args.access.slot c.args.access.want (live_at cells q) c.in_ok-event.event of_slot c.in_ok-event.ensures.bounds

pub returns-clause-is : goal.returns-clause-is
returns-clause-is c =
    let a = whole c.resident.inside.actor c.resident.inside.memory in
    let q = c.args.want in
    let cells = c.args.cells.now in
    let live : c.live-tag.result ≡ live_at cells q = search rules in
    let asked : c.ask.result ≡ asks a (live_at cells q) q = c.ask.ensures c.resident.inside.memory ∙ ap (λ l. asks a l q) live in
    let comes : event_of cells (asks a (live_at cells q) q) ≡ Some c.in_ok-event.event = ap (event_of cells) (sym asked) ∙ c.in_ok-event.ensures.is in
    ap (event_of cells) (asks_running c.args.resident.now (want.Slot c.args.access.slot c.args.access.want) q (live_at cells q))
    ∙ (ap (λ (b : ActorState). event_of cells (asks b (live_at cells q) q)) (sym c.resident.view_is)
    ∙ (comes ∙ ap Some (sym c.in_ok-event-2.ensures.same)))
