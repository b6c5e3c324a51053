use Rattle.std.proofs.Common.{◌≤◌, length, ap, arith}
use Rattle.machine.proofs.SlotsHeld.{root_inside}
use Rattle.machine.proofs.actor.root_sheet.Goals as goal

pub returns-clause-placed : goal.returns-clause-placed
returns-clause-placed c =
    let same = ap length c.tags.ensures.is in
    let all = c.tags.ensures.valid.tags.not_too_many in
    let few : length c.tags.result.now ≤ 256 = omega (arith, same, all) in
    root_inside c.in_ok-root-2.field-0 c.tags.result.now c.fds.result.now c.user.result c.in_ok-root.root c.in_ok-root-2.ensures few
