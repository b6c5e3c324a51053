-- Where no two actors have one name, an actor put in its place has its own still.
use Rattle.std.proofs.Common.{◌≡◌, ℕ, Bool, true, false, true≢false, List, [], ◌∷◌, refl, sym, ap, subst, ◌∙◌}
use Rattle.std.specs.Prelude.{if◌then◌else◌}
use Rattle.wedge_base.specs.Names.{same}
use Rattle.machine.specs.Actors.{ActorState}
use Rattle.machine.specs.Worlds.{put_actor}
use Rattle.run_laws.specs.Names.{IsNew, AreDistinct}
use Rattle.run_laws.proofs.Named.{same_self, same_equal}

-- a name that is new stays so where an actor of another name is put
new_or : (name : List ℕ) (b a : ActorState) (bs others : List ActorState) (t : Bool) → same a.name name ≡ false → same b.name name ≡ false → IsNew name bs → IsNew name others → IsNew name (if t then a ∷ bs else b ∷ others)
new_or name b a bs others true na nb here put = (na, here)
new_or name b a bs others false na nb here put = (nb, put)

pub new_put : (name : List ℕ) (bs : List ActorState) (a : ActorState) → IsNew name bs → same a.name name ≡ false → IsNew name (put_actor bs a)
new_put name [] a new other = (other, tt)
new_put name (b ∷ bs) a new other = new_or name b a bs (put_actor bs a) (same b.name a.name) other new.0 new.1 (new_put name bs a new.1 other)

-- two names that differ do so the other way round
differ_too : (xs ys : List ℕ) (t : Bool) → same ys xs ≡ t → same xs ys ≡ false → same ys xs ≡ false
differ_too xs ys false e h = e
differ_too xs ys true e h =
    let equal : ys ≡ xs = same_equal ys xs e in
    let both : true ≡ false = sym (same_self xs) ∙ (ap (same xs) (sym equal) ∙ h) in
    absurd (true≢false both)

distinct_or : (b a : ActorState) (bs others : List ActorState) (t : Bool) → same b.name a.name ≡ t → AreDistinct (b ∷ bs) → AreDistinct others → (same b.name a.name ≡ false → IsNew b.name others) → AreDistinct (if t then a ∷ bs else b ∷ others)
distinct_or b a bs others true e all put new = (subst (λ n. IsNew n bs) (same_equal b.name a.name e) all.0, all.1)
distinct_or b a bs others false e all put new = (new e, put)

pub put_distinct : (bs : List ActorState) (a : ActorState) → AreDistinct bs → AreDistinct (put_actor bs a)
put_distinct [] a all = (tt, tt)
put_distinct (b ∷ bs) a all =
    distinct_or b a bs (put_actor bs a) (same b.name a.name) refl all (put_distinct bs a all.1)
    (λ e. new_put b.name bs a all.0 (differ_too b.name a.name _ refl e))
