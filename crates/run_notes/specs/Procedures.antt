-- The procedures of an image, by address.
use Rattle.std.specs.Prelude.{◌≡◌, ℕ, List}
use Rattle.wedge_base.specs.Images.{Image}
use Rattle.image_form.specs.Address.{proc_of, greatest_from}

-- the greatest of these addresses that is not above one is that of the image's procedure there
abbrev pub AreProceduresOf : Image → List ℕ → Type 0
AreProceduresOf i addresses = (address : ℕ) → greatest_from 0 address addresses ≡ proc_of i address
