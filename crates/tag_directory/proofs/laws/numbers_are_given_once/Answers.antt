use Rattle.tag_directory.proofs.Numbers.{given_once}
use Rattle.tag_directory.proofs.laws.numbers_are_given_once.Goals as goal

pub returns : goal.returns
returns c = given_once
