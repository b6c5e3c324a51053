-- Whoever opens a file does so by a call that is allowed and not refused.
use Rattle.std.proofs.Common.{sym, subst}
use Rattle.wedge_events.specs.declared.events.Event.{Event}
use Rattle.machine.specs.Actors.{ActorState}
use Rattle.machine.specs.Opening.{FileOpening}
use Rattle.run_laws.specs.FileCalls.{IsAllowedOpening, OpeningAllowed}
use Rattle.run_laws.specs.Requests.{request_at}
use Rattle.machine.specs.Worlds.{WorldState, with_actor}
use Rattle.run_laws.proofs.Happening.{Happens, Requested, Joined, Snaps, GateSnaps, Started, Opens, Releases, Numbers, OpensFile, LastJoined, Ended, EntersGate, LeavesGate, EntersRecycled, LeavesRecycled}
use Rattle.run_laws.proofs.Meeting.{IsOpening}

in_cells : (w : WorldState) (b : ActorState) (o : FileOpening) → IsOpening b (λ c. request_at w.image c b) o → IsAllowedOpening w.image w.cells b o
in_cells w b o h = record { path = h.path; file = h.file; bits = h.bits; asked = h.told w.cells; allowed = h.allowed; passed = h.passed; is = h.is }

pub event_opens : (w : WorldState) (b : ActorState) (e : Event) → Happens w b e → OpeningAllowed (with_actor w b) b b.phase
event_opens w b e (Requested r) = subst (OpeningAllowed (with_actor w b) b) (sym r.at) tt
event_opens w b e (Joined j) = subst (OpeningAllowed (with_actor w b) b) (sym j.at) tt
event_opens w b e (Snaps s) = subst (OpeningAllowed (with_actor w b) b) (sym s.at) tt
event_opens w b e (GateSnaps s) = subst (OpeningAllowed (with_actor w b) b) (sym s.at) tt
event_opens w b e (Started s) = subst (OpeningAllowed (with_actor w b) b) (sym s.at) tt
event_opens w b e (Opens o) = subst (OpeningAllowed (with_actor w b) b) (sym o.at) tt
event_opens w b e (Releases r) = subst (OpeningAllowed (with_actor w b) b) (sym r.at) tt
event_opens w b e (Numbers n) = subst (OpeningAllowed (with_actor w b) b) (sym n.at) (in_cells w b n.opening n.opens)
event_opens w b e (OpensFile f) = subst (OpeningAllowed (with_actor w b) b) (sym f.at) (in_cells w b f.opening f.opens)
event_opens w b e (LastJoined j) = subst (OpeningAllowed (with_actor w b) b) (sym j.at) tt
event_opens w b e (Ended f) = subst (OpeningAllowed (with_actor w b) b) (sym f.at) tt
event_opens w b e (EntersGate x) = subst (OpeningAllowed (with_actor w b) b) (sym x.at) tt
event_opens w b e (EntersRecycled x) = subst (OpeningAllowed (with_actor w b) b) (sym x.at) tt
event_opens w b e (LeavesGate l) = subst (OpeningAllowed (with_actor w b) b) (sym l.at) tt
event_opens w b e (LeavesRecycled l) = subst (OpeningAllowed (with_actor w b) b) (sym l.at) tt
