use Rattle.std.proofs.Common.{◌≡◌, ◌-◌, ◌+◌, ◌++◌}
use Rattle.wedge_base.specs.Images as images
use Rattle.image_form.proofs.image.Image.text_bytes.Given as goal

abbrev pub invariant-loop-k : goal.invariant-loop-k
invariant-loop-k l = l.bytes.items ++ images.read_text l.self (l.address + l.k) (l.size - l.k) ≡ images.read_text l.self l.address l.size
