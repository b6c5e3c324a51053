-- What a map of headings says of an address.
use Rattle.std.specs.Prelude.{ℕ, List, [], option_map, unwrap_or, nat_eq}
use Rattle.std.specs.HashMap.{get}
use Rattle.cli_inputs.specs.declared.headings.Headings.{Headings}

abbrev pub heading_at : Headings → ℕ → List ℕ
heading_at h address = unwrap_or (option_map (λ name. name.now) (get nat_eq h.names address)) []
