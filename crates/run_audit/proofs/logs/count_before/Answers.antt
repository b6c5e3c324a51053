use Rattle.std.proofs.Common.{rules, arith}
use Rattle.std.specs.Cmp.Lexicographic.{slice_cmp}
use Rattle.std.specs.Ordering.{nat_cmp, is_lt}
use Rattle.std.proofs.lemmas.Fn.{always_returns_same}
use Rattle.run_audit.proofs.NamedLogs.{names_parted}
use Rattle.run_audit.proofs.logs.count_before.Goals as goal

pub returns : goal.returns
returns c =
    let parted = names_parted c.args.sorted.now c.args.name.now c.requires in
    let point = c.partition_point.ensures.partitioned (λ g. is_lt (slice_cmp nat_cmp g.name c.args.name.now)) (always_returns_same _ _ _ (λ a r g called. search rules)) parted in
    record {
      within = c.partition_point.ensures.bound;
      before = λ k d less. point.0 k d (omega arith) less;
      next = λ d less. point.1 c.partition_point.result d (omega arith) less;
    }
