-- What it takes to move the entries that logs keep into a journal.
use Rattle.std.specs.Prelude.{◌≡◌, ◌≤◌, List, [], length, vec_capacity}
use Rattle.run_audit.specs.IndexedEntries.{IndexedEntry, indices_of}
use Rattle.run_audit.specs.declared.moving.Room.{Room}

-- the order of these entries, and memory for each of them
pub record IsRoomFor (xs : List IndexedEntry) (r : Room) : Type 0 where
  pub order : r.order.items ≡ indices_of xs
  pub no_slots : r.slots.items ≡ []
  pub slots : length xs ≤ vec_capacity r.slots
  pub no_entries : r.entries.items ≡ []
  pub entries : length xs ≤ vec_capacity r.entries
