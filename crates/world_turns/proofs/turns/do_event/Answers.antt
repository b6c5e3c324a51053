use Rattle.std.proofs.Common.{◌≡◌, ◌∙◌, ap, sym, subst, rules}
use Rattle.std.specs.Prelude.{Some}
use Rattle.wedge_events.specs.declared.events.Ask.{Ask}
use Rattle.machine.specs.Actors.{whole}
use Rattle.machine.specs.Between.{WantFits}
use Rattle.machine.specs.Cells.{AskFits, live_at, event_of}
use Rattle.machine.specs.Take.{asks}
use Rattle.world_turns.proofs.Fitting.{asks_fit, event_fits, begins_none}
use Rattle.world_turns.proofs.turns.do_event.Goals as goal

pub act-requires : goal.act-requires
act-requires c =
    let a = whole c.resident.inside.actor c.resident.inside.memory in
    let live : c.live-live.result ≡ live_at c.args.cells.now c.args.want = search rules in
    let asked : c.ask.result ≡ asks a (live_at c.args.cells.now c.args.want) c.args.want = c.ask.ensures c.resident.inside.memory ∙ ap (λ l. asks a l c.args.want) live in
    subst (λ (q : Ask). AskFits c.args.cells.now q) (sym asked) (asks_fit c.args.cells.now a c.args.resident.now c.args.want c.requires.fits c.requires.of_cell)

pub take_alone-requires-clause-fits : goal.take_alone-requires-clause-fits
take_alone-requires-clause-fits c =
    let a = whole c.resident.inside.actor c.resident.inside.memory in
    let live : c.live-live.result ≡ live_at c.args.cells.now c.args.want = search rules in
    let asked : c.ask.result ≡ asks a (live_at c.args.cells.now c.args.want) c.args.want = c.ask.ensures c.resident.inside.memory ∙ ap (λ l. asks a l c.args.want) live in
    let comes : event_of c.args.cells.now (asks a (live_at c.args.cells.now c.args.want) c.args.want) ≡ Some c.in_ok-event.event = ap (event_of c.args.cells.now) (sym asked) ∙ c.in_ok-event.ensures.is in
    event_fits c.args.cells.now a c.args.want (live_at c.args.cells.now c.args.want) c.in_ok-event.event (subst (λ b. WantFits b c.args.want) (sym c.resident.view_is) c.requires.fits) c.requires.of_cell comes c.in_ok-event.ensures.bounds

pub take_alone-requires-clause-alone : goal.take_alone-requires-clause-alone
take_alone-requires-clause-alone c =
    let a = whole c.resident.inside.actor c.resident.inside.memory in
    let live : c.live-live.result ≡ live_at c.args.cells.now c.args.want = search rules in
    let asked : c.ask.result ≡ asks a (live_at c.args.cells.now c.args.want) c.args.want = c.ask.ensures c.resident.inside.memory ∙ ap (λ l. asks a l c.args.want) live in
    let comes : event_of c.args.cells.now (asks a (live_at c.args.cells.now c.args.want) c.args.want) ≡ Some c.in_ok-event.event = ap (event_of c.args.cells.now) (sym asked) ∙ c.in_ok-event.ensures.is in
    begins_none c.args.program.now c.args.cells.now a c.args.want c.in_ok-event.event c.requires.of_cell comes
