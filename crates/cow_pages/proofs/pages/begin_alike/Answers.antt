use Rattle.std.proofs.Common.{arith}
use Rattle.cow_pages.specs.SharedPages.{bytes_in}
use Rattle.cow_pages.proofs.SameBytes.{begin_further, begin_apart}
use Rattle.cow_pages.proofs.SamePages.{piece_of}
use Rattle.cow_pages.proofs.SharedPages.{length-bytes_in}
use Rattle.cow_pages.proofs.pages.begin_alike.Goals as goal

pub bounds-left-page : goal.bounds-left-page
bounds-left-page c =
    let size = length-bytes_in c.args.left.now c.requires.left_whole in
    omega arith

pub bounds-right-page : goal.bounds-right-page
bounds-right-page c =
    let size = length-bytes_in c.args.right.now c.requires.right_whole in
    omega arith

pub returns-then-not-are_alike : goal.returns-then-not-are_alike
returns-then-not-are_alike c =
    begin_apart (bytes_in c.args.left.now) (bytes_in c.args.right.now) c.args.size c.loop-next.next c.min-count.result c.are_alike.result c.requires.in_left c.requires.in_right (omega arith) (piece_of c.args.left.now c.args.right.now c.loop-next.next c.min-count.result c.args.size c.index-left-page.result c.index-right-page.result c.deref.result.now c.deref-in-loop-next.result.now c.are_alike.result
    c.requires.left_whole c.requires.right_whole c.requires.in_left c.requires.in_right (omega arith) (omega arith) c.index-left-page.is c.index-right-page.is c.deref.ensures c.deref-in-loop-next.ensures c.are_alike.ensures) c.if-not-are_alike.true

pub loop-next-preserved : goal.loop-next-preserved
loop-next-preserved c =
    let is = piece_of c.args.left.now c.args.right.now c.loop-next.next c.min-count.result c.args.size c.index-left-page.result c.index-right-page.result c.deref.result.now c.deref-in-loop-next.result.now c.are_alike.result
    c.requires.left_whole c.requires.right_whole c.requires.in_left c.requires.in_right (omega arith) (omega arith) c.index-left-page.is c.index-right-page.is c.deref.ensures c.deref-in-loop-next.ensures c.are_alike.ensures in
    record {
      to = omega arith;
      alike = begin_further (bytes_in c.args.left.now) (bytes_in c.args.right.now) c.loop-next.next c.min-count.result c.loop-next.invariant.alike (is.0 c.if-not-are_alike.false);
    }
