use Rattle.std.proofs.Common.{arith}
use Rattle.tag_directory.proofs.Changes.{kept_pop}
use Rattle.tag_directory.proofs.directory.Directory.use_again.Goals as goal

pub invariant_of-self-2 : goal.invariant_of-self-2
invariant_of-self-2 c =
    let s = c.self.inside in
    kept_pop s.places s.unused _ _ c.in_ok-place.place s.released.items c.pop.new.self.items s.claimed.items c.self.invariant c.in_ok-place.ensures.items (omega (arith, c.pop.ensures.capacity))
