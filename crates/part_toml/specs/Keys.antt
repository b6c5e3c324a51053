-- The keys of the tables of a partition.
use Rattle.std.specs.Prelude.{ℕ, true, false, List, [], ◌∷◌, codes}
use Rattle.part_toml.specs.declared.keys.Part.{Part}
use Rattle.part_toml.specs.declared.keys.Part.TheVariants as part
use Rattle.part_toml.specs.declared.keys.Key.{Key}
use Rattle.part_toml.specs.declared.keys.Key.TheVariants as key
use Rattle.part_toml.specs.declared.keys.Kind.{Kind}
use Rattle.part_toml.specs.declared.keys.Kind.TheVariants as kind
use Rattle.part_toml.specs.declared.keys.Field.{Field}

-- a key that must be there, and one that may be left out
abbrev pub must : Key → Kind → Field
must k v = record { key = k; kind = v; required = true }

abbrev pub may : Key → Kind → Field
may k v = record { key = k; kind = v; required = false }

abbrev pub part_fields : Part → List Field
part_fields part.Top =
    must key.Fuel kind.Number ∷ must key.User kind.Number ∷ must key.Entry kind.Text
    ∷ must key.Root kind.Text ∷ must key.Text kind.Text ∷ may key.Base kind.Number
    ∷ may key.Data kind.Tables ∷ may key.Tag kind.Tables ∷ may key.Fd kind.Tables ∷ may key.File kind.Tables ∷ []
part_fields part.Joined =
    must key.Fuel kind.Number ∷ must key.User kind.Number ∷ must key.Root kind.Text
    ∷ may key.Tag kind.Tables ∷ may key.Fd kind.Tables ∷ may key.File kind.Tables ∷ []
part_fields part.Data =
    must key.Name kind.Text ∷ must key.Base kind.Number ∷ may key.Text kind.Text ∷ may key.Hex kind.Hex ∷ []
part_fields part.Tag =
    must key.Name kind.Text ∷ must key.Pages kind.Number ∷ must key.Right kind.Right
    ∷ may key.Text kind.Text ∷ may key.Hex kind.Hex ∷ []
part_fields part.Fd =
    must key.Name kind.Text ∷ must key.Kind kind.Stream ∷ must key.Bits kind.Bits
    ∷ may key.Text kind.Text ∷ may key.Hex kind.Hex ∷ []
part_fields part.File =
    must key.Path kind.Text ∷ must key.Owner kind.Number ∷ must key.Mode kind.Number ∷ must key.Kind kind.Stream
    ∷ may key.Text kind.Text ∷ may key.Hex kind.Hex ∷ []

-- how a key is written
abbrev pub name_of : Key → List ℕ
name_of key.Fuel = codes "fuel"
name_of key.User = codes "user"
name_of key.Entry = codes "entry"
name_of key.Root = codes "root"
name_of key.Base = codes "base"
name_of key.Data = codes "data"
name_of key.Tag = codes "tag"
name_of key.Fd = codes "fd"
name_of key.File = codes "file"
name_of key.Name = codes "name"
name_of key.Text = codes "text"
name_of key.Hex = codes "hex"
name_of key.Pages = codes "pages"
name_of key.Right = codes "right"
name_of key.Kind = codes "kind"
name_of key.Bits = codes "bits"
name_of key.Path = codes "path"
name_of key.Owner = codes "owner"
name_of key.Mode = codes "mode"

-- the prefix of a key's name in a fault
abbrev pub prefix : Part → List ℕ
prefix part.Top = []
prefix part.Joined = []
prefix part.Data = codes "data."
prefix part.Tag = codes "tag."
prefix part.Fd = codes "fd."
prefix part.File = codes "file."
