use Rattle.std.proofs.Common.{length, eqb}
use Rattle.wedge_base.specs.Blocks.{first_fit, rounded}
use Rattle.smalloc_heap.proofs.Fitting.{IsFirstFit-rounded, none_is_free}
use Rattle.tag_segment.proofs.Placing.{placed_at, full_at}
use Rattle.tag_segment.proofs.laws.blocks_are_placed_first_fit.Goals as goal

pub returns : goal.returns
returns c = record {
  placed = λ g tag size offset blocks some e.
      IsFirstFit-rounded size (length g.bytes) g.blocks offset some blocks (placed_at (eqb g.tag tag) (first_fit 0 (rounded size) (length g.bytes) g.blocks) offset e);
  full = λ g tag size offset e free.
      none_is_free (rounded size) (length g.bytes) g.blocks (full_at (eqb g.tag tag) (first_fit 0 (rounded size) (length g.bytes) g.blocks) e) offset free;
}
