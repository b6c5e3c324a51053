use Rattle.std.proofs.Common.{◌+◌, ◌∙◌, ap, arith, slice_range, ℕ, List}
use Rattle.wedge_base.specs.Bytes.{overwrite}
use Rattle.cow_pages.specs.SharedPages.{bytes_in}
use Rattle.cow_pages.proofs.ListPieces.{written_further}
use Rattle.cow_pages.proofs.SharedPages.{length-bytes_in}
use Rattle.cow_pages.proofs.pages.write_pieces.Goals as goal

pub write_piece-requires-clause-inside : goal.write_piece-requires-clause-inside
write_piece-requires-clause-inside c =
    let size = length-bytes_in c.args.pages.now c.requires.whole in
    let same = c.loop-done.auto.pages in
    omega arith

pub loop-done-preserved : goal.loop-done-preserved
loop-done-preserved c =
    record {
      to = omega arith;
      whole = c.in_ok-write_piece.ensures.whole;
      so_far = c.in_ok-write_piece.ensures.ok
          ∙ ap (λ (b : List ℕ). overwrite b (c.args.start + c.loop-done.done) (slice_range c.args.new.now c.loop-done.done (c.loop-done.done + c.min-count.result))) c.loop-done.invariant.so_far
          ∙ written_further (bytes_in c.args.pages.now) c.args.start c.args.new.now c.loop-done.done c.min-count.result (omega arith) c.requires.inside;
    }
