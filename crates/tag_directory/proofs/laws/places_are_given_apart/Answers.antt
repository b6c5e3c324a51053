use Rattle.tag_directory.proofs.Places.{given_apart}
use Rattle.tag_directory.proofs.laws.places_are_given_apart.Goals as goal

pub returns : goal.returns
returns c = given_apart
