-- A file that an actor is opening.
use Rattle.std.specs.Prelude.{ℕ, List, Option}
use Rattle.wedge_base.specs.declared.rights.FdBits.{FdBits}
use Rattle.wedge_base.specs.declared.rights.StreamKind.{StreamKind}

-- its path, the kind and the bytes of the stream with which it is opened, the bits that are asked
-- for, and the number that was claimed for its descriptor, once one was
pub record FileOpening : Type 0 where
  pub path : List ℕ
  pub kind : StreamKind
  pub bytes : List ℕ
  pub bits : FdBits
  pub number : Option ℕ
