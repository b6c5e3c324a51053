-- What is said of a violation.
use Rattle.std.specs.Prelude.{ℕ, List, ◌++◌, codes}
use Rattle.std.specs.Fmt.{decimal}
use Rattle.report_text.specs.Reports.{name_text, address_text, line_end}
use Rattle.sheet_enforce.specs.declared.violations.Violation.{Violation}

-- the actor, the address of its instruction, and the access
unfoldable pub actor_access_text : Violation → List ℕ
actor_access_text v = name_text v.actor ++ codes " " ++ address_text v.pc ++ codes " " ++ v.text

unfoldable pub violation_line : Violation → List ℕ
violation_line v =
    codes "violation " ++ decimal v.turn ++ codes " " ++ actor_access_text v ++ line_end

unfoldable pub enforced_text : Violation → List ℕ
enforced_text v = codes "enforced at " ++ decimal v.turn ++ codes ": " ++ actor_access_text v
