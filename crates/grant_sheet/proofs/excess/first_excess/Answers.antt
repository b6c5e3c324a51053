use Rattle.std.proofs.Common.{ap, ◌∙◌}
use Rattle.std.specs.Option.{option_map, option_or}
use Rattle.wedge_base.specs.Sheets.{user_excess}
use Rattle.wedge_base.specs.declared.rights.Denial.TheVariants as denial
use Rattle.grant_sheet.proofs.FirstExcess.{excess_none, excess_some, excess_within}
use Rattle.grant_sheet.proofs.excess.first_excess.Goals as goal

pub returns-in-Some : goal.returns-in-Some
returns-in-Some c =
    let s = c.args.sheet.now in
    let m = c.args.made.now in
    let d = c.args.draft.now in
    let is = ap (λ o. option_or (option_map denial.Grant o) (user_excess s d)) c.in-Some.ensures in
    record { is = is; none = tt; some = excess_some s m d _ is; within = excess_within s m d _ is }

pub returns-in-None : goal.returns-in-None
returns-in-None c =
    let s = c.args.sheet.now in
    let m = c.args.made.now in
    let d = c.args.draft.now in
    let is = c.user_excess.ensures ∙ ap (λ o. option_or (option_map denial.Grant o) (user_excess s d)) c.in-None.ensures in
    record { is = is; none = excess_none s m d _ is; some = excess_some s m d _ is; within = excess_within s m d _ is }
