use Rattle.std.proofs.Common.{map, drop, Some, IfOk, sym, subst, ◌∙◌, arith}
use Rattle.run_audit.specs.HistoryEntries.{kept_as}
use Rattle.run_audit.specs.ListDifferences.{IsLoggedOnly, IsEntryAt}
use Rattle.run_audit.proofs.TwoHeads.{kept_first, logged_first, kept_none, logged_none, logged_of, kept_of, less_of, equal_of, greater_of, ok_map}
use Rattle.run_audit.proofs.comparison.difference_at_heads.Goals as goal

pub returns-in-len1-up-logged : goal.returns-in-len1-up-logged
returns-in-len1-up-logged c =
    let pre = map kept_as c.args.before.now in
    let less = c.in-empty.len_below in
    let more = c.in-len1-up-logged.len_at_least in
    ok_map c.logged_alone.result (subst (λ e. IfOk c.logged_alone.result (λ r. IsLoggedOnly pre e r)) c.y.view_is c.logged_alone.ensures)
    (λ r at. logged_of pre (map kept_as c.args.kept.now) c.args.logged.now c.y-item.result (drop 1 c.args.logged.now) r (kept_none c.args.kept.now (omega (arith, less))) (logged_first c.args.logged.now c.y-item.result (omega (arith, more)) c.y-item.is) c.requires.logged at)

pub returns-in_ok-kept_alone-in-empty-logged-2 : goal.returns-in_ok-kept_alone-in-empty-logged-2
returns-in_ok-kept_alone-in-empty-logged-2 c =
    let pre = map kept_as c.args.before.now in
    let more = c.in-len1-up.len_at_least in
    let less = c.in-empty-logged-2.len_below in
    kept_of pre (map kept_as c.args.kept.now) c.args.logged.now (kept_as c.x-item.result) (map kept_as (drop 1 c.args.kept.now)) c.in_ok-kept_alone-in-empty-logged-2.field-0
    (kept_first c.args.kept.now c.x-item.result (omega (arith, more)) c.x-item.is) (logged_none c.args.logged.now (omega (arith, less))) c.requires.kept c.in_ok-kept_alone-in-empty-logged-2.ensures

pub returns-in_ok-kept_alone-in-Less : goal.returns-in_ok-kept_alone-in-Less
returns-in_ok-kept_alone-in-Less c =
    let pre = map kept_as c.args.before.now in
    let more = c.in-len1-up.len_at_least in
    let more_too = c.in-len1-up-logged-2.len_at_least in
    less_of pre (map kept_as c.args.kept.now) c.args.logged.now (kept_as c.x-item.result) c.y-item-in-len1-up.result (map kept_as (drop 1 c.args.kept.now)) (drop 1 c.args.logged.now) c.in_ok-kept_alone-in-Less.field-0
    (kept_first c.args.kept.now c.x-item.result (omega (arith, more)) c.x-item.is) (logged_first c.args.logged.now c.y-item-in-len1-up.result (omega (arith, more_too)) c.y-item-in-len1-up.is) c.requires.kept c.requires.logged
    (sym c.order_of.ensures ∙ c.in-Less.is) c.in_ok-kept_alone-in-Less.ensures

pub returns-in_ok-both_there-in-Equal : goal.returns-in_ok-both_there-in-Equal
returns-in_ok-both_there-in-Equal c =
    let pre = map kept_as c.args.before.now in
    let more = c.in-len1-up.len_at_least in
    let more_too = c.in-len1-up-logged-2.len_at_least in
    equal_of pre (map kept_as c.args.kept.now) c.args.logged.now (kept_as c.x-item.result) c.y-item-in-len1-up.result (map kept_as (drop 1 c.args.kept.now)) (drop 1 c.args.logged.now) c.in_ok-both_there-in-Equal.field-0
    (kept_first c.args.kept.now c.x-item.result (omega (arith, more)) c.x-item.is) (logged_first c.args.logged.now c.y-item-in-len1-up.result (omega (arith, more_too)) c.y-item-in-len1-up.is) c.requires.kept c.requires.logged
    (sym c.order_of.ensures ∙ c.in-Equal.is) c.requires.differ
    (subst (λ e. IsEntryAt pre c.in_ok-both_there-in-Equal.field-0 (kept_as c.x-item.result) (Some (kept_as c.x-item.result)) (Some e)) c.y-in-len1-up-logged-2.view_is c.in_ok-both_there-in-Equal.ensures)

pub returns-in-Greater : goal.returns-in-Greater
returns-in-Greater c =
    let pre = map kept_as c.args.before.now in
    let more = c.in-len1-up.len_at_least in
    let more_too = c.in-len1-up-logged-2.len_at_least in
    ok_map c.logged_alone-in-Greater.result (subst (λ e. IfOk c.logged_alone-in-Greater.result (λ r. IsLoggedOnly pre e r)) c.y-in-len1-up-logged-2.view_is c.logged_alone-in-Greater.ensures)
    (λ r at. greater_of pre (map kept_as c.args.kept.now) c.args.logged.now (kept_as c.x-item.result) c.y-item-in-len1-up.result (map kept_as (drop 1 c.args.kept.now)) (drop 1 c.args.logged.now) r
    (kept_first c.args.kept.now c.x-item.result (omega (arith, more)) c.x-item.is) (logged_first c.args.logged.now c.y-item-in-len1-up.result (omega (arith, more_too)) c.y-item-in-len1-up.is) c.requires.kept c.requires.logged
    (sym c.order_of.ensures ∙ c.in-Greater.is) at)
