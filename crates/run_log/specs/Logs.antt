-- What is kept of a run beside its world.
use Rattle.std.specs.Prelude.{List, ◌++◌}
use Rattle.run_notes.specs.declared.chain.CallChain.{CallChain}
use Rattle.run_notes.specs.declared.items.Makings.{Makings}
use Rattle.run_notes.specs.declared.note.Note.{Note}

-- the chains of the actors, in the order of their starts; what they made; and all notes, in order
pub record Log : Type 0 where
  pub chains : List CallChain
  pub makings : Makings
  pub notes : List Note

-- with these notes before its own
abbrev pub behind : List Note → Log → Log
behind notes l = record l { notes = notes ++ l.notes }
