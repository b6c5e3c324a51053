use Rattle.std.proofs.Common.{List, ℕ, ap, ◌∙◌}
use Rattle.std.specs.Prelude.{codes, Some}
use Rattle.wedge_base.specs.declared.image.TagEntry.{TagEntry}
use Rattle.wedge_base.specs.declared.rights.Right.TheVariants as right
use Rattle.workload.proofs.generating.input_tag.Goals as goal

abbrev made : List ℕ → List ℕ → TagEntry
made name content = record { name = name; pages = 1; right = Some right.Read; content = content }

pub returns : goal.returns
returns c =
    ap (λ name. made name c.in_ok-input_bytes.field-0) c.in_ok-from_slice.ensures
    ∙ ap (made (codes "input")) c.in_ok-input_bytes.ensures
