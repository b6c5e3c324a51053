-- The forms of tables: entries one after the other, each in the light of those before it.
use Rattle.std.proofs.Common.{◌≡◌, ◌⊎◌, inl, inr, ℕ, zero, suc, ◌^◌, ◌<◌, ◌≤◌, Bool, true, false, ◌&&◌, ◌||◌, leb, List, [], ◌∷◌, ◌++◌, length, Ok, refl, sym, ap, subst, ◌∙◌, append_assoc, arith}
use Rattle.std.specs.List.{flat_map, AllByRecursion}
use Rattle.std.proofs.lemmas.Bool.{leb-true}
use Rattle.std.proofs.lemmas.Bool.Decides.{nat_tests}
use Rattle.std.proofs.lemmas.List.Concat.{flat_map-cons}
use Rattle.image_form.specs.Encoding.{encode_table}
use Rattle.image_form.specs.declared.fault.Why.TheVariants.{Limit}
use Rattle.image_form.specs.Reading.{Read, entries_at, table_at}
use Rattle.image_form.proofs.Form.{IsBytes, bind_ok, ok_is, Takes, Takes-then, IsForm, seq, reworded}
use Rattle.image_form.proofs.FieldForms.{checked_form}

pub both : (a b : Bool) → (a && b) ≡ true → (a ≡ true) × (b ≡ true)
both true b h = (refl, h)
both false b h = absurd cc

pub both_back : (a b : Bool) → a ≡ true → b ≡ true → (a && b) ≡ true
both_back a b h k = rw (h, k) refl

pub either : (a b : Bool) → (a || b) ≡ true → (a ≡ true) ⊎ (b ≡ true)
either true b h = inl refl
either false b h = inr h

module _ {X : Type 0} where
  -- something is so of each entry and of those before it
  abbrev pub Each : (List X → X → Type 0) → List X → List X → Type 0
  Each Good front [] = Unit {0}
  Each Good front (x ∷ xs) = Good front x × Each Good (front ++ x ∷ []) xs

  module _ (entry : List X → List ℕ → Read X) (encode : X → List ℕ) (Good : List X → X → Type 0) (form : (front : List X) → IsForm (entry front) encode (Good front)) where
    taken : (n : ℕ) (front : List X) (bytes : List ℕ) (xs : List X) (rest : List ℕ) → IsBytes bytes → entries_at entry n front bytes ≡ Ok (xs, rest) → Takes bytes (flat_map encode xs) rest × (length xs ≡ n) × Each Good front xs
    unfolding entries_at
    taken zero front bytes xs rest fits e =
        subst (λ (y : List X × List ℕ). Takes bytes (flat_map encode y.0) y.1 × (length y.0 ≡ 0) × Each Good front y.0) (ok_is ([], bytes) (xs, rest) e) (record { parts = refl; rest_fits = fits }, refl, tt)
    taken (suc n) front bytes xs rest fits e =
        let a = bind_ok (entry front bytes) _ (xs, rest) e in
        let b = bind_ok (entries_at entry n (front ++ a.0.0 ∷ []) a.0.1) _ (xs, rest) a.2 in
        let first = (form front).takes bytes a.0.0 a.0.1 fits a.1 in
        let second = taken n (front ++ a.0.0 ∷ []) a.0.1 b.0.0 b.0.1 first.0.rest_fits b.1 in
        let both = Takes-then bytes (encode a.0.0) a.0.1 (flat_map encode b.0.0) b.0.1 first.0 second.0 in
        let made : List X × List ℕ = (a.0.0 ∷ b.0.0, b.0.1) in
        subst (λ (y : List X × List ℕ). Takes bytes (flat_map encode y.0) y.1 × (length y.0 ≡ suc n) × Each Good front y.0) (ok_is made (xs, rest) b.2) (rw flat_map-cons both, ap suc second.1, (first.1, second.2))

    repeated : (xs front : List X) (rest : List ℕ) → Each Good front xs → entries_at entry (length xs) front (flat_map encode xs ++ rest) ≡ Ok (xs, rest)
    unfolding entries_at
    repeated [] front rest good = refl
    repeated (x ∷ xs) front rest good =
        let regrouped : flat_map encode (x ∷ xs) ++ rest ≡ encode x ++ (flat_map encode xs ++ rest) = ap (λ y. y ++ rest) (flat_map-cons encode x xs) ∙ append_assoc (encode x) (flat_map encode xs) rest in
        ap (entries_at entry (suc (length xs)) front) regrouped ∙ rw ((form front).again x (flat_map encode xs ++ rest) good.0, repeated xs (front ++ x ∷ []) rest good.1) refl

    entries_form : (n : ℕ) (front : List X) → IsForm (entries_at entry n front) (flat_map encode) (λ xs. (length xs ≡ n) × Each Good front xs)
    entries_form n front = record {
      takes = λ bytes xs rest fits e. let t = taken n front bytes xs rest fits e in (t.0, (t.1, t.2));
      again = λ xs rest good. ap (λ m. entries_at entry m front (flat_map encode xs ++ rest)) (sym good.0) ∙ repeated xs front rest good.1;
    }

    -- entries after their count
    pub table_form : (most total : ℕ) → most < 2 ^ 32 → IsForm (table_at most entry total) (encode_table encode) (λ xs. (length xs ≤ most) × Each Good [] xs)
    unfolding table_at
    table_form most total small =
        reworded (encode_table encode) (λ xs. (length xs ≤ most) × Each Good [] xs)
        (seq _ _ _ (λ xs. length xs) (checked_form (λ n. leb n most) Limit total) (λ n good. entries_form n []) (λ n xs good r. r.0))
        (λ xs good. (refl, (leb-true (length xs) most good.0.0, good.1.1)))
        (λ xs rule. let few : leb (length xs) most ≡ true = grind (arith, nat_tests, rule.0) in ((few, omega (arith, rule.0, small)), (refl, rule.1)))

    -- entries of a number that is known
    pub list_form : (n : ℕ) → IsForm (entries_at entry n []) (flat_map encode) (λ xs. (length xs ≡ n) × Each Good [] xs)
    list_form n = entries_form n []

  -- ---- tests that run along a list

  -- a test of each entry and of what those before it come to
  pub record IsScan {S : Type 0} (state : List X → S) (test : S → X → Bool) (all : S → List X → Bool) : Type 0 where
    pub none : (s : S) → all s [] ≡ true
    pub more : (front : List X) (x : X) (xs : List X) → all (state front) (x ∷ xs) ≡ (test (state front) x && all (state (front ++ x ∷ [])) xs)

  module _ {S : Type 0} {state : List X → S} {test : S → X → Bool} {all : S → List X → Bool} (scan : IsScan state test all) (Rest : List X → X → Type 0) where
    pub scan_there : (front xs : List X) → Each (λ f x. (test (state f) x ≡ true) × Rest f x) front xs → (all (state front) xs ≡ true) × Each Rest front xs
    scan_there front [] each = (scan.none (state front), tt)
    scan_there front (x ∷ xs) each =
        let later = scan_there (front ++ x ∷ []) xs each.1 in
        (scan.more front x xs ∙ both_back (test (state front) x) (all (state (front ++ x ∷ [])) xs) each.0.0 later.0, (each.0.1, later.1))

    pub scan_back : (front xs : List X) → all (state front) xs ≡ true → Each Rest front xs → Each (λ f x. (test (state f) x ≡ true) × Rest f x) front xs
    scan_back front [] h each = tt
    scan_back front (x ∷ xs) h each =
        let b = both (test (state front) x) (all (state (front ++ x ∷ [])) xs) (sym (scan.more front x xs) ∙ h) in
        ((b.0, each.0), scan_back (front ++ x ∷ []) xs b.1 each.1)

  pub plain_there : (Rule : X → Type 0) (front xs : List X) → Each (λ f x. Rule x) front xs → AllByRecursion Rule xs
  plain_there Rule front [] each = tt
  plain_there Rule front (x ∷ xs) each = (each.0, plain_there Rule (front ++ x ∷ []) xs each.1)

  pub plain_back : (Rule : X → Type 0) (front xs : List X) → AllByRecursion Rule xs → Each (λ f x. Rule x) front xs
  plain_back Rule front [] rules = tt
  plain_back Rule front (x ∷ xs) rules = (rules.0, plain_back Rule (front ++ x ∷ []) xs rules.1)
