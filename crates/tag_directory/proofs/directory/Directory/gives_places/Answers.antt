use Rattle.std.proofs.Common.{◌<◌, subst, reverse}
use Rattle.std.specs.List.{AllByRecursion}
use Rattle.std.specs.Prelude.{vec_capacity}
use Rattle.wedge_events.specs.Directories.{Directory as Plain}
use Rattle.tag_directory.proofs.Bounds.{kept_within}
use Rattle.tag_directory.proofs.directory.Directory.gives_places.Goals as goal

pub returns-clause-released : goal.returns-clause-released
returns-clause-released c =
    let s = c.self.inside in
    let within = kept_within s.places s.unused (vec_capacity s.released) (reverse s.released.items) s.claimed.items c.self.invariant in
    subst (λ (d : Plain). AllByRecursion (λ p. p < d.places) d.released) c.self.view_is within
