use Rattle.std.proofs.Common.{◌≡◌, ◌*◌, refl}
use Rattle.std.proofs.lemmas.List.{length-replicate}
use Rattle.std.proofs.lemmas.List.Elements.{All-replicate}
use Rattle.wedge_base.specs.Bytes.{zeros}
use Rattle.wedge_base.specs.Images.{page}
use Rattle.tag_segment.proofs.laws.opened_tags_are_zeroed.Goals as goal

pub returns : goal.returns
unfolding zeros
returns c = λ s tag pages. (refl, All-replicate (λ b. b ≡ 0) (pages * page) 0 refl, length-replicate (pages * page) 0, refl)
