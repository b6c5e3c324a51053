use Rattle.std.proofs.Common.{◌≡◌, true, sym, ap, ◌∙◌}
use Rattle.std.specs.Arc.{arc_value}
use Rattle.std.specs.Prelude.{Option, Some, None, is_some, not, unwrap_or, if◌then◌else◌}
use Rattle.wedge_base.specs.Sheets.{Draft}
use Rattle.wedge_base.specs.declared.rights.Code.TheVariants as code
use Rattle.wedge_base.specs.declared.rights.Denial.{Denial}
use Rattle.callgate.specs.declared.gate.Gate.{Gate}
use Rattle.machine.specs.Actors.{ActorState, ActorRecord, refuses, whole}
use Rattle.machine.specs.Calls.{a2, lent_asked, enter_checked, enter_lending}
use Rattle.machine.specs.Entering.{excess_lent, may_lend}
use Rattle.machine.proofs.Creating.{on_ok}
use Rattle.actor_step.proofs.entering.enter_lending.Goals as goal

-- what is lent is there, and may be lent
lends : (a : ActorState) (g : Gate) (o : Option (Option Draft)) (excess : Option Denial) → is_some o ≡ true → may_lend (unwrap_or o None) ≡ true → excess ≡ excess_lent a (unwrap_or o None)
    → enter_checked a g (unwrap_or o None) excess ≡ enter_lending a g o
lends a g None excess there may is = absurd cc
lends a g (Some lent) excess there may is =
    ap (enter_checked a g lent) is ∙ sym (ap (λ t. if not t then refuses a code.Bad else enter_checked a g lent (excess_lent a lent)) may)

pub returns : goal.returns
returns c =
    let ds = c.args.actor.now.drafts in
    let o = lent_asked ds c.reg-number.result in
    let g = arc_value c.args.gate in
    let may = sym (c.may_lend.ensures ∙ ap may_lend c.draft_lent.ensures) in
    on_ok c.enter_checked.result
    (λ h m.
    let a = whole c.args.actor.now m in
    let number = c.reg-number.ensures ∙ ap (λ (r : ActorRecord). a2 (whole r m)) c.actor.view_is in
    h m ∙ lends a g o c.excess_lent-excess.result (sym c.is_lent.ensures ∙ c.if-not-is_lent.false) (may ∙ c.if-not-may_lend.false) (c.excess_lent-excess.ensures m)
    ∙ ap (λ n. enter_lending a g (lent_asked ds n)) number)
    c.enter_checked.ensures
