use Rattle.std.proofs.Common.{ap, ◌∙◌, map}
use Rattle.cb_analyze.specs.contracts.access.AccessKeyPartialEq.TheImpl.{eq-value}
use Rattle.cb_analyze.specs.Access.{same_access, access_view}
use Rattle.cb_analyze.proofs.KeySets.{keys_with, access_agrees}
use Rattle.cb_analyze.proofs.access.add_access.Goals as goal

pub returns : goal.returns
returns c =
    ap (map access_view) c.in_ok-insert.ensures.keys
    ∙ keys_with eq-value.it same_access access_view access_agrees c.args.seen.now.keys c.args.access
