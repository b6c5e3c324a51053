use Rattle.std.proofs.Common.{inl, inr, ◌≤◌, ◌⊎◌, length, arith}
use Rattle.run_audit.proofs.TwoHeads.{ok_map}
use Rattle.run_audit.proofs.IndexedEntries.{merge_ended}
use Rattle.run_audit.proofs.merging.merge.Goals.{then-loop-i-test+else-j-second, else-loop-i-test}
use Rattle.run_audit.proofs.merging.merge.Goals as goal

pub returns : goal.returns
returns c =
    let ended : (length c.args.first.now ≤ c.loop-i.i) ⊎ (length c.args.second.now ≤ c.loop-i.j) =
    elim c.loop-i-test.branch [ then-loop-i-test+else-j-second w ↦ (let more = w.if-j-second.false in inr (omega (arith, more))) | else-loop-i-test w ↦ (let more = w.loop-i-test.false in inl (omega (arith, more))) ] in
    ok_map c.add_all-2.result c.add_all-2.ensures
    (λ v out. merge_ended c.loop-i.i c.loop-i.j c.args.first.now c.args.second.now c.loop-i.all.items c.in_ok-all-2.all.items v.items ended c.in_ok-all-2.ensures out c.loop-i.invariant.left)
