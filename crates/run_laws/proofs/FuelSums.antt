-- Sums of fuel over actors: who counts, and what the actors that count have.
use Rattle.std.proofs.Common.{◌≡◌, ℕ, ◌+◌, Bool, true, false, List, [], ◌∷◌, ◌++◌, refl, ap, subst, ◌∙◌, arith}
use Rattle.std.specs.Prelude.{Some, is_some, ◌||◌, if◌then◌else◌}
use Rattle.wedge_base.specs.Names.{same, root_name}
use Rattle.machine.specs.Actors.{ActorState}
use Rattle.machine.specs.Children.{is_child, child_name}
use Rattle.run_laws.specs.Fuel.{has_child, is_unjoined, number_in, starter_of, fuel_where, fuel_in}
use Rattle.run_laws.specs.Names.{IsNew, AreDistinct}
use Rattle.machine.specs.Local.{has_ended}
use Rattle.machine.specs.Worlds.{actor_named, put_actor}
use Rattle.run_laws.proofs.Distinct.{put_distinct}
use Rattle.run_laws.specs.FamilyTrees.{Family}
use Rattle.run_laws.proofs.FamilyKept.{unjoined_put, unjoined_behind, child_not_root, JoinsChild, joined_others, StartsChild, started_others, started_new, started_unjoined}
use Rattle.machine.proofs.FuelGiven.{given_gone}
use Rattle.run_laws.proofs.Named.{same_equal}
use Rattle.run_laws.proofs.Trees.{starter-child, number-child, child_apart, IsPut, found_put, found_else, none_new}

-- ---- sums

-- what one actor adds
abbrev counted : Bool → ℕ → ℕ
counted t n = if t then n else 0

sum_put : (P : List ℕ → Bool) (actors : List ActorState) (a x : ActorState) → x.name ≡ a.name → actor_named actors a.name ≡ Some a
    → fuel_where P (put_actor actors x) + counted (P a.name) a.fuel ≡ fuel_where P actors + counted (P a.name) x.fuel
sum_put P [] a x name there = absurd (let e = there in cc)
sum_put P (y ∷ ys) a x name there = by_name (same y.name x.name) (same y.name a.name) (ap (same y.name) name) refl there (sum_put P ys a x name)
  where
    by_name : (t u : Bool) → t ≡ u → same y.name a.name ≡ u → (if u then Some y else actor_named ys a.name) ≡ Some a → (actor_named ys a.name ≡ Some a → fuel_where P (put_actor ys x) + counted (P a.name) a.fuel ≡ fuel_where P ys + counted (P a.name) x.fuel)
        → fuel_where P (if t then x ∷ ys else y ∷ put_actor ys x) + counted (P a.name) a.fuel ≡ counted (P y.name) y.fuel + fuel_where P ys + counted (P a.name) x.fuel
    by_name true true at e h others =
        let is : y ≡ a = cc in
        let new : counted (P x.name) x.fuel ≡ counted (P a.name) x.fuel = ap (λ n. counted (P n) x.fuel) name in
        let was : counted (P y.name) y.fuel ≡ counted (P a.name) a.fuel = ap (λ (z : ActorState). counted (P z.name) z.fuel) is in
        omega (arith, new, was)
    by_name true false at e h others = absurd cc
    by_name false true at e h others = absurd cc
    by_name false false at e h others = let rest_ = others h in omega (arith, rest_)

sum_behind : (P : List ℕ → Bool) (actors : List ActorState) (c : ActorState) → fuel_where P (actors ++ c ∷ []) ≡ fuel_where P actors + counted (P c.name) c.fuel
sum_behind P [] c = omega arith
sum_behind P (y ∷ ys) c = let others = sum_behind P ys c in omega (arith, others)

-- two ways to count that agree on every name but one that is new
sum_alike : (P Q : List ℕ → Bool) (actors : List ActorState) (m : List ℕ) → IsNew m actors → ((q : List ℕ) → same q m ≡ false → Q q ≡ P q) → fuel_where Q actors ≡ fuel_where P actors
sum_alike P Q [] m new agree = refl
sum_alike P Q (y ∷ ys) m new agree =
    let here : counted (Q y.name) y.fuel ≡ counted (P y.name) y.fuel = ap (λ t. counted t y.fuel) (agree y.name new.0) in
    let others = sum_alike P Q ys m new.1 agree in
    omega (arith, here, others)

-- where they agree on every name
sum_same : (P Q : List ℕ → Bool) (actors : List ActorState) → ((q : List ℕ) → Q q ≡ P q) → fuel_where Q actors ≡ fuel_where P actors
sum_same P Q [] agree = refl
sum_same P Q (y ∷ ys) agree =
    let here : counted (Q y.name) y.fuel ≡ counted (P y.name) y.fuel = ap (λ t. counted t y.fuel) (agree y.name) in
    let others = sum_same P Q ys agree in
    omega (arith, here, others)

-- where the second leaves out one actor that the first counts
sum_less : (P Q : List ℕ → Bool) (actors : List ActorState) (m : List ℕ) (c : ActorState) → AreDistinct actors → actor_named actors m ≡ Some c → P m ≡ true → Q m ≡ false → ((q : List ℕ) → same q m ≡ false → Q q ≡ P q)
    → fuel_where P actors ≡ fuel_where Q actors + c.fuel
sum_less P Q [] m c distinct there p q agree = absurd (let e = there in cc)
sum_less P Q (y ∷ ys) m c distinct there p q agree = by_name (same y.name m) refl there (λ here. sum_less P Q ys m c distinct.1 here p q agree)
  where
    by_name : (t : Bool) → same y.name m ≡ t → (if t then Some y else actor_named ys m) ≡ Some c → (actor_named ys m ≡ Some c → fuel_where P ys ≡ fuel_where Q ys + c.fuel) → counted (P y.name) y.fuel + fuel_where P ys ≡ counted (Q y.name) y.fuel + fuel_where Q ys + c.fuel
    by_name true e h others =
        let is : y ≡ c = cc in
        let name : y.name ≡ m = same_equal y.name m e in
        let counts : counted (P y.name) y.fuel ≡ c.fuel = ap (λ t. counted t y.fuel) (ap P name ∙ p) ∙ ap (λ (z : ActorState). z.fuel) is in
        let no : counted (Q y.name) y.fuel ≡ 0 = ap (λ t. counted t y.fuel) (ap Q name ∙ q) in
        let others_alike = sum_alike P Q ys m (subst (λ n. IsNew n ys) name distinct.0) agree in
        omega (arith, counts, no, others_alike)
    by_name false e h others =
        let here : counted (Q y.name) y.fuel ≡ counted (P y.name) y.fuel = ap (λ t. counted t y.fuel) (agree y.name e) in
        let rest_ = others h in
        omega (arith, here, rest_)

-- ---- the three ways in which actors go on

-- a doer that pays n units
pub sum_alone : (actors : List ActorState) (a x : ActorState) (n : ℕ) → Family actors → IsPut actors a x → has_ended a.phase ≡ false → x.unjoined ≡ a.unjoined → x.fuel + n ≡ a.fuel → fuel_in (put_actor actors x) + n ≡ fuel_in actors
sum_alone actors a x n f p live unjoined pays =
    let P = is_unjoined actors in
    let agree = sum_same P (is_unjoined (put_actor actors x)) (put_actor actors x) (λ q. unjoined_put actors a x q p (λ _. ap (λ cs. is_child cs (number_in q)) unjoined)) in
    let put = sum_put P actors a x p.name p.there in
    let counts : P a.name ≡ true = f.live a.name a p.there live in
    let was : counted (P a.name) a.fuel ≡ a.fuel = ap (λ t. counted t a.fuel) counts in
    let now : counted (P a.name) x.fuel ≡ x.fuel = ap (λ t. counted t x.fuel) counts in
    omega (arith, agree, put, was, now, pays)

-- a doer that pays n units and joins a child
pub sum_joined : (actors : List ActorState) (a x : ActorState) (n : ℕ) → Family actors → IsPut actors a x → has_ended a.phase ≡ false → (j : JoinsChild actors a x) → x.fuel + n ≡ a.fuel + j.child.fuel → fuel_in (put_actor actors x) + n ≡ fuel_in actors
sum_joined actors a x n f p live j pays =
    let P = is_unjoined actors in
    let Q = is_unjoined (put_actor actors x) in
    let m = child_name a.name j.number in
    let put = sum_put P actors a x p.name p.there in
    let counts : P a.name ≡ true = f.live a.name a p.there live in
    let was : counted (P a.name) a.fuel ≡ a.fuel = ap (λ t. counted t a.fuel) counts in
    let now : counted (P a.name) x.fuel ≡ x.fuel = ap (λ t. counted t x.fuel) counts in
    let there : actor_named (put_actor actors x) m ≡ Some j.child = found_else actors a x m p (child_apart a.name j.number) ∙ j.there in
    let less = sum_less P Q (put_actor actors x) m j.child (put_distinct actors x f.distinct) there (listed actors a x p j) (gone actors a x f p j) (λ q apart. joined_others actors a x f p j q apart) in
    omega (arith, put, was, now, less, pays)
  where
    -- the child was to be joined before
    listed : (actors : List ActorState) (a x : ActorState) → IsPut actors a x → (j : JoinsChild actors a x) → is_unjoined actors (child_name a.name j.number) ≡ true
    listed actors a x p j =
        by_root (same (child_name a.name j.number) root_name)
        (ap (λ o. has_child o (number_in (child_name a.name j.number))) (ap (actor_named actors) (starter-child a.name j.number) ∙ p.there) ∙ (ap (is_child a.unjoined) (number-child a.name j.number) ∙ j.listed))
      where
        by_root : (t : Bool) {u : Bool} → u ≡ true → (t || u) ≡ true
        by_root true e = refl
        by_root false e = e

    -- and is not afterwards
    gone : (actors : List ActorState) (a x : ActorState) → Family actors → IsPut actors a x → (j : JoinsChild actors a x) → is_unjoined (put_actor actors x) (child_name a.name j.number) ≡ false
    gone actors a x f p j =
        ap (λ t. t || has_child (actor_named (put_actor actors x) (starter_of (child_name a.name j.number))) (number_in (child_name a.name j.number))) (child_not_root actors f a j.number p.there)
        ∙ (ap (λ o. has_child o (number_in (child_name a.name j.number))) (ap (actor_named (put_actor actors x)) (starter-child a.name j.number) ∙ found_put actors a x p)
        ∙ (ap (is_child x.unjoined) (number-child a.name j.number) ∙ (ap (λ cs. is_child cs j.number) j.unjoined ∙ ap is_some (given_gone a.unjoined j.number))))

-- a doer that pays n units and starts a child
pub sum_started : (actors : List ActorState) (a x c : ActorState) (n : ℕ) → Family actors → IsPut actors a x → has_ended a.phase ≡ false → StartsChild a x c → x.fuel + c.fuel + n ≡ a.fuel → fuel_in (put_actor actors x ++ c ∷ []) + n ≡ fuel_in actors
sum_started actors a x c n f p live s pays =
    let P = is_unjoined actors in
    let mid = is_unjoined (put_actor actors x) in
    let Q = is_unjoined (put_actor actors x ++ c ∷ []) in
    let new = started_new actors a x c f p s in
    let put = sum_put P actors a x p.name p.there in
    let counts : P a.name ≡ true = f.live a.name a p.there live in
    let was : counted (P a.name) a.fuel ≡ a.fuel = ap (λ t. counted t a.fuel) counts in
    let now : counted (P a.name) x.fuel ≡ x.fuel = ap (λ t. counted t x.fuel) counts in
    let others = sum_alike P mid (put_actor actors x) c.name (none_new (put_actor actors x) c.name new) (λ q apart. started_others actors a x c f p s q apart) in
    let same_counts = sum_same mid Q (put_actor actors x ++ c ∷ []) (λ q. unjoined_behind (put_actor actors x) c q new s.childless) in
    let last = sum_behind mid (put_actor actors x) c in
    let child : counted (mid c.name) c.fuel ≡ c.fuel = ap (λ t. counted t c.fuel) (started_unjoined actors a x c p s) in
    omega (arith, put, was, now, others, same_counts, last, child, pays)
