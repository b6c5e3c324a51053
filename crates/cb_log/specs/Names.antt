-- What a map of names says of an address.
use Rattle.std.specs.Prelude.{◌≡◌, ℕ, List, [], option_map, unwrap_or, nat_eq}
use Rattle.std.specs.HashMap.{get}
use Rattle.wedge_base.specs.Images.{Image, procedure_name}
use Rattle.cb_log.specs.declared.names.Names.{Names}

abbrev pub name_at : Names → ℕ → List ℕ
name_at n address = unwrap_or (option_map (λ name. name.now) (get nat_eq n.names address)) []

-- it says what the image does
abbrev pub AreNamesOf : Image → Names → Type 0
AreNamesOf i n = (address : ℕ) → name_at n address ≡ procedure_name i address
