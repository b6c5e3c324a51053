use Rattle.std.proofs.Common.{◌≡◌, ℕ, ◌+◌, ◌<◌, ◌≤◌, List, ◌++◌, length, take, vec_len, arith, ◌∙◌, ap}
use Rattle.std.proofs.lemmas.List.{length-take}
use Rattle.host_io.proofs.Parts.{past, all_of, first_more, front}
use Rattle.host_io.proofs.whole.read_whole.Goals as goal

pub returns-then-count-eq0-clause-bytes : goal.returns-then-count-eq0-clause-bytes
returns-then-count-eq0-clause-bytes g c exposed is_exposed =
    let call = c.in_ok-count.ensures in
    let so_far = c.loop-piece.invariant in
    let exposed_now = so_far.same c.args.name.now ∙ is_exposed in
    let room : 0 < length c.read.new.buf = rw (c.read.auto.buf, c.deref_mut.ensures.len) so_far.room in
    all_of c.loop-piece.bytes.items exposed (vec_len c.loop-piece.bytes) (so_far.first exposed is_exposed)
    (λ more. rw c.if-count-eq0.true at (call.some exposed exposed_now (rw c.len.ensures more) room))

pub returns-then-count-limit-clause-longer : goal.returns-then-count-limit-clause-longer
returns-then-count-limit-clause-longer g c most is_most exposed is_exposed =
    let call = c.in_ok-count.ensures in
    let so_far = c.loop-piece.invariant in
    let exposed_now = so_far.same c.args.name.now ∙ is_exposed in
    past c.read.new.buf exposed c.len.result c.in_ok-count.count c.args.limit call.within (call.bytes exposed exposed_now) (omega arith) (omega arith)

pub loop-piece-preserved : goal.loop-piece-preserved
loop-piece-preserved g c =
    let call = c.in_ok-count.ensures in
    let so_far = c.loop-piece.invariant in
    let added = c.in_ok-extend_from_slice.ensures in
    let buf = c.read.new.buf in
    let n = c.in_ok-count.count in
    let at = vec_len c.loop-piece.bytes in
    let fits : n ≤ vec_len c.loop-piece.piece = omega (arith, call.within, c.read.auto.buf, c.deref_mut.ensures.len) in
    let put = ap (λ (xs : List ℕ). take n xs) c.deref.ensures.value ∙ front buf _ n (vec_len c.loop-piece.piece) call.within fits in
    let len : vec_len c.extend_from_slice.new.self ≡ at + n = added.len ∙ ap (λ (xs : List ℕ). at + length xs) put ∙ ap (λ (k : ℕ). at + k) (omega (arith, length-take n buf, call.within)) in
    record {
      in_range = omega (arith, len, c.if-count-limit.false, c.len-in-loop-piece.ensures, so_far.in_range);
      room = so_far.room;
      first = λ exposed is_exposed. added.items ∙ ap (λ (xs : List ℕ). c.loop-piece.bytes.items ++ xs) put
          ∙ first_more c.loop-piece.bytes.items buf exposed at n (so_far.first exposed is_exposed) (rw c.len.ensures at (call.bytes exposed (so_far.same c.args.name.now ∙ is_exposed))) ∙ rw len;
      counted = call.counts ∙ so_far.counted;
      risen = λ other. omega (arith, so_far.risen other, call.rises other);
      same = λ other. call.content other ∙ so_far.same other;
    }
