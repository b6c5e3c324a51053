-- The files of an image ascend by their paths, as who looks one up asks.
use Rattle.std.proofs.Common.{◌≡◌, true, List, [], ◌∷◌}
use Rattle.std.proofs.lemmas.Bool.{and_parts}
use Rattle.std.specs.Prelude.{ℕ, map, IsTrue}
use Rattle.file_tree.specs.Lookup.{AreAscendingFrom, AreAscending}
use Rattle.image_form.specs.Forms.{is_below, ascend_from, ascend}
use Rattle.wedge_base.specs.declared.image.FileEntry.{FileEntry}

ascending_from : (before : List ℕ) (fs : List FileEntry) → ascend_from before (map (λ f. f.path) fs) ≡ true → AreAscendingFrom before fs
unfolding is_below
ascending_from before [] h = tt
ascending_from before (f ∷ fs) h = let both = and_parts (is_below before f.path) (ascend_from f.path (map (λ g. g.path) fs)) h in (both.0, ascending_from f.path fs both.1)

pub ascending : (fs : List FileEntry) → IsTrue (ascend (map (λ f. f.path) fs)) → AreAscending fs
ascending [] h = tt
ascending (f ∷ fs) h = ascending_from f.path fs (and_parts (is_below [] f.path) (ascend_from f.path (map (λ g. g.path) fs)) h).1
