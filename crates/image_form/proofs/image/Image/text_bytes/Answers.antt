use Rattle.std.proofs.Common.{append_assoc}
use Rattle.image_form.proofs.Addresses.{read_next}
use Rattle.image_form.proofs.image.Image.text_bytes.Goals as goal

pub loop-k-preserved : goal.loop-k-preserved
loop-k-preserved c =
    let more = read_next c.args.self.now c.args.address c.args.size c.loop-k.k c.loop-k-test.true in
    rw (c.in_ok-push.ensures.items, append_assoc, c.text_byte.ensures, ← more) c.loop-k.invariant
