-- The least of names, a name at a time.
use Rattle.std.proofs.Common.{◌≡◌, ℕ, ◌+◌, ◌<◌, ◌≤◌, Bool, true, false, cond, List, [], ◌∷◌, ◌++◌, length, get_or, drop, map, filter, fold, Option, None, String, Global, string_bytes, refl, ap, sym, ◌∙◌}
use Rattle.std.proofs.lemmas.List.{drop_more, drop_all}
use Rattle.std.proofs.lemmas.Grind.{fold-append}
use Rattle.std.specs.Map.{keys_of}
use Rattle.toml.specs.View.{members_view}
use Rattle.toml.specs.declared.value.Value.{Value}
use Rattle.part_toml.specs.Faults.{lesser, least, member_keys}

pub same_choice : (a b : Bool) (best : Option (List ℕ)) (m n : List ℕ) → a ≡ b → m ≡ n → cond a (lesser best m) best ≡ cond b (lesser best n) best
same_choice a b best m n e f = ap (λ t. cond t (lesser best m) best) e ∙ ap (λ t. cond b (lesser best t) best) f

next : (b : Bool) (best : Option (List ℕ)) (n : List ℕ) (rest : List (List ℕ)) → fold lesser (cond b (lesser best n) best) rest ≡ fold lesser best (cond b (n ∷ rest) rest)
next true best n rest = refl
next false best n rest = refl

map_cond : {X : Type 0} (name : X → List ℕ) (b : Bool) (x : X) (rest : List X) → cond b (name x ∷ map name rest) (map name rest) ≡ map name (cond b (x ∷ rest) rest)
map_cond name true x rest = refl
map_cond name false x rest = refl

-- one more name, if it is that of a fault
pub least_next : (test : List ℕ → Bool) (best : Option (List ℕ)) (n : List ℕ) (ns : List (List ℕ)) → fold lesser (cond (test n) (lesser best n) best) (filter test ns) ≡ fold lesser best (filter test (n ∷ ns))
least_next test best n ns = next (test n) best n (filter test ns)

module _ {X : Type 0} (name : X → List ℕ) (test : X → Bool) (xs : List X) where
  -- one more of some items, by their names
  pub least_more : (best : Option (List ℕ)) (i : ℕ) (d : X) → i < length xs → fold lesser best (map name (filter test (drop i xs))) ≡ fold lesser (cond (test (get_or xs i d)) (lesser best (name (get_or xs i d))) best) (map name (filter test (drop (i + 1) xs)))
  least_more best i d h =
      let x = get_or xs i d in
      let rest = filter test (drop (i + 1) xs) in
      ap (λ ys. fold lesser best (map name (filter test ys))) (drop_more xs i d h)
      ∙ ap (fold lesser best) (sym (map_cond name (test x) x rest))
      ∙ sym (next (test x) best (name x) (map name rest))

  pub least_end : (best : Option (List ℕ)) (i : ℕ) → length xs ≤ i → fold lesser best (map name (filter test (drop i xs))) ≡ best
  least_end best i h = ap (λ ys. fold lesser best (map name (filter test ys))) (drop_all i xs h)

-- the keys of a map's members
pub keys-view : (es : List (String Global × Value)) → member_keys (members_view es) ≡ map string_bytes (keys_of es)
keys-view [] = refl
keys-view (e ∷ es) = ap (λ ks. string_bytes e.0 ∷ ks) (keys-view es)

first_of : (b : Bool) (n : List ℕ) → cond b (lesser None n) None ≡ least (cond b (n ∷ []) [])
first_of true n = refl
first_of false n = refl

-- the least of a name, if it is that of a fault, and of two lists of names
pub least_of_all : (b : Bool) (n : List ℕ) (xs ys : List (List ℕ)) → fold lesser (fold lesser (cond b (lesser None n) None) xs) ys ≡ least (cond b (n ∷ []) [] ++ xs ++ ys)
least_of_all b n xs ys =
    let front = cond b (n ∷ []) [] in
    ap (λ o. fold lesser (fold lesser o xs) ys) (first_of b n)
    ∙ ap (λ o. fold lesser o ys) (sym (fold-append lesser None front xs))
    ∙ sym (fold-append lesser None (front ++ xs) ys)
