use Rattle.std.proofs.Common.{◌≡◌, ℕ, List, ◌++◌, ap, ◌∙◌, append_assoc}
use Rattle.std.specs.Prelude.{codes}
use Rattle.std.specs.Fmt.{decimal}
use Rattle.sheet_enforce.specs.Texts.{actor_access_text, enforced_text}
use Rattle.sheet_enforce.proofs.texts.write_enforced.Goals as goal

regroup : (o b d a m : List ℕ) → (o ++ b ++ d ++ a) ++ m ≡ o ++ (b ++ d ++ a ++ m)
regroup o b d a m = simp append_assoc

pub returns : goal.returns
unfolding enforced_text
returns c =
    let v = c.args.violation.now in
    let m = actor_access_text v in
    c.in_ok-write_actor_access.ensures
    ∙ ap (λ (t : List ℕ). t ++ m) c.in_ok-write_turn.ensures
    ∙ regroup c.args.out.now.items (codes "enforced at ") (decimal v.turn) (codes ": ") m
