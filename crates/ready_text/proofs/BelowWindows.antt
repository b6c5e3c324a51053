-- The data ranges of an image lie below the windows of tags.
use Rattle.std.proofs.Common.{List, [], ◌∷◌, arith}
use Rattle.std.specs.List.{AllByRecursion}
use Rattle.wedge_base.specs.declared.image.MemoryRange.{MemoryRange}
use Rattle.cow_pages.specs.Below.{AreBelow}
use Rattle.image_form.specs.Rules.{IsRange}

pub ranges_below : (rs : List MemoryRange) → AllByRecursion IsRange rs → AreBelow rs
ranges_below [] h = tt
ranges_below (r ∷ rs) h = (omega (arith, h.0.end_high), ranges_below rs h.1)
