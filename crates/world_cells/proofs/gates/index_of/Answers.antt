use Rattle.std.proofs.Common.{◌≡◌, ◌∙◌, true, sym, rules}
use Rattle.wedge_base.specs.Identities.{same_gate}
use Rattle.world_cells.proofs.GateIndices.{get_at, kept_at, put_kept_at}
use Rattle.world_cells.proofs.gates.index_of.Goals as goal

pub returns-then-is_of-clause-found : goal.returns-then-is_of-clause-found
returns-then-is_of-clause-found c =
    let x = c.index-gates-i.result in
    let all = c.args.gates.now in
    let id = c.args.id.now in
    let i = c.loop-i.i in
    let is : same_gate x.id id ≡ true = search rules in
    let at = c.index-gates-i.is in (
      x,
      record {
        inside = c.loop-i-test.true;
        there = get_at all i x c.loop-i-test.true at;
        kept = sym c.loop-i.invariant.find ∙ kept_at all i id x c.loop-i-test.true at is;
        put = λ k. sym (c.loop-i.invariant.put k) ∙ put_kept_at all i id k x c.loop-i-test.true at is;
      },
    )
