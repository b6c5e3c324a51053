use Rattle.tag_laws.proofs.OnDeclared.{declared_have_all}
use Rattle.tag_laws.proofs.laws.declared_have_all.Goals as goal

pub returns : goal.returns
returns c = declared_have_all
