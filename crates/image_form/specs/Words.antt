-- The words for what may be wrong with an image.
use Rattle.std.specs.Prelude.{ℕ, List, codes}
use Rattle.image_form.specs.declared.fault.Why.{Why}
use Rattle.image_form.specs.declared.fault.Why.TheVariants as why

abbrev pub image_why_word : Why → List ℕ
image_why_word why.Magic = codes "magic"
image_why_word why.Version = codes "version"
image_why_word why.Truncated = codes "truncated"
image_why_word why.Trailing = codes "trailing"
image_why_word why.Order = codes "order"
image_why_word why.Range = codes "range"
image_why_word why.Overlap = codes "overlap"
image_why_word why.Limit = codes "limit"
