use Rattle.std.proofs.Common.{◌≡◌, ◌++◌, take}
use Rattle.std.specs.List.{flat_map}
use Rattle.sheet_enforce.specs.Texts.{violation_line}
use Rattle.cli_inputs.proofs.enforcing.write_violations.Given as goal

abbrev pub invariant-loop-violation : goal.invariant-loop-violation
invariant-loop-violation l = l.out.items ≡ l.initial.out.items ++ flat_map violation_line (take l.violation-index l.violations)
