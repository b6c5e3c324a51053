-- The root directory of an image is a canonical path.
use Rattle.std.proofs.Common.{◌≡◌, ℕ, Bool, true, false, List, length}
use Rattle.std.specs.Prelude.{◌&&◌, nat_le}
use Rattle.wedge_base.specs.Paths.{is_canonical}
use Rattle.image_form.specs.Forms.{is_root}

second : (a b : Bool) → (a && b) ≡ true → b ≡ true
second true b e = e
second false b e = absurd cc

pub root_canonical : (text : List ℕ) → is_root text ≡ true → is_canonical text ≡ true
unfolding is_root
root_canonical text e = second (nat_le 1 (length text) && nat_le (length text) 255) (is_canonical text) e
