use Rattle.std.proofs.Common.{List, ℕ, sym, ap, subst, ◌∙◌}
use Rattle.cli_inputs.specs.Loading.{built_of, by_partition, IsRefusalOf}
use Rattle.cli_inputs.specs.Refusals.{part_refusal_of}
use Rattle.part_toml.specs.Partition.{partition}
use Rattle.cli_inputs.proofs.Partitions.{built_not_utf8, built_utf8, exposed_by}
use Rattle.cli_inputs.proofs.loading.built_of.Goals as goal

pub returns-in_default-clause-refused : goal.returns-in_default-clause-refused
returns-in_default-clause-refused c = built_not_utf8 c.args.bytes.now c.requires c.in_default.ensures.cases.0

pub returns-in-Ok-read_partition-clause-accepted : goal.returns-in-Ok-read_partition-clause-accepted
returns-in-Ok-read_partition-clause-accepted c =
    built_utf8 c.args.bytes.now c.requires c.in-Ok.ensures.cases.1
    ∙ ap (λ (b : List ℕ). by_partition (partition b)) (sym c.in-Ok.ensures.cases.0)
    ∙ ap by_partition c.in-Ok-read_partition.ensures.exact

pub returns-in-Err-clause-refused : goal.returns-in-Err-clause-refused
returns-in-Err-clause-refused c =
    let exposed = exposed_by (partition c.in-Ok.text.now) c.in-Err.fault c.in-Err.ensures.exact in
    let same = ap (λ (b : List ℕ). by_partition (partition b)) c.in-Ok.ensures.cases.0 ∙ sym (built_utf8 c.args.bytes.now c.requires c.in-Ok.ensures.cases.1) in
    let moved = subst (λ m. IsRefusalOf m (part_refusal_of c.in-Err.fault)) same exposed in
    subst (λ r. IsRefusalOf (built_of c.args.bytes.now) r) (sym c.refused_partition.ensures) moved
