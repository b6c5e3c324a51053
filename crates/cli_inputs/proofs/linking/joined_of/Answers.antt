use Rattle.std.proofs.Common.{List, ℕ, sym, ap, subst, ◌∙◌}
use Rattle.part_toml.specs.Joining.{partition_with}
use Rattle.cli_inputs.specs.Refusals.{joining_refusal_of}
use Rattle.cli_inputs.specs.Linking.{by_joining, joined_of}
use Rattle.cli_inputs.specs.Replaying.{IsRefusalIn}
use Rattle.cli_inputs.proofs.Joined.{joined_not_utf8, joined_utf8, unjoined_by}
use Rattle.cli_inputs.proofs.linking.joined_of.Goals as goal

pub returns-in_default-clause-rejected : goal.returns-in_default-clause-rejected
returns-in_default-clause-rejected c = joined_not_utf8 c.args.program.now c.args.bytes.now c.requires c.in_default.ensures.cases.0

pub returns-in-Ok-read_partition_with-clause-accepted : goal.returns-in-Ok-read_partition_with-clause-accepted
returns-in-Ok-read_partition_with-clause-accepted c =
    joined_utf8 c.args.program.now c.args.bytes.now c.requires c.in-Ok.ensures.cases.1
    ∙ ap (λ (b : List ℕ). by_joining (partition_with c.args.program.now b)) (sym c.in-Ok.ensures.cases.0)
    ∙ ap by_joining c.in-Ok-read_partition_with.ensures.exact

pub returns-in-Err-clause-rejected : goal.returns-in-Err-clause-rejected
returns-in-Err-clause-rejected c =
    let p = c.args.program.now in
    let meant = unjoined_by (partition_with p c.in-Ok.text.now) c.in-Err.fault c.in-Err.ensures.exact in
    let same = ap (λ (b : List ℕ). by_joining (partition_with p b)) c.in-Ok.ensures.cases.0 ∙ sym (joined_utf8 p c.args.bytes.now c.requires c.in-Ok.ensures.cases.1) in
    let moved = subst (λ m. IsRefusalIn m (joining_refusal_of c.in-Err.fault)) same meant in
    subst (λ r. IsRefusalIn (joined_of p c.args.bytes.now) r) (sym c.refused_joining.ensures) moved
