-- Tables with one entry for each key, in order.
use Rattle.std.proofs.Common.{◌≡◌, Bool, true, false, cond, ◌||◌, List, [], ◌∷◌, ◌++◌, Some, unwrap_or, refl, ap, sym, ◌∙◌}
use Rattle.std.specs.List.{list_any}
use Rattle.std.specs.Map.{lookup}
use Rattle.indexmap.specs.IndexMap.{insert_entry}
use Rattle.cb_analyze.specs.FirstSeen.{with_element, AreAllDifferent}
use Rattle.cb_analyze.proofs.FirstSeen.{flip, neither}

module _ {X : Type 0} (same : X → X → Bool) (exact : (a b : X) → same a b ≡ true → a ≡ b) (itself : (a : X) → same a a ≡ true) where
  abbrev pub table_by : {V : Type 0} → (X → V) → List X → List (X × V)
  table_by {V = V} f [] = []
  table_by {V = V} f (h ∷ hs) = (h, f h) ∷ table_by f hs

  module _ {V : Type 0} (F G : X → V) (k : X) (others : (h : X) → same h k ≡ false → G h ≡ F h) where
    map_same : (t : List X) → list_any (same k) t ≡ false → table_by F t ≡ table_by G t
    map_same [] n = refl
    map_same (h ∷ t) n =
        let p = neither (same k h) (list_any (same k) t) n in
        ap (λ (v : V). (h, v) ∷ table_by F t) (sym (others h (flip same exact itself k h p.0))) ∙ ap (λ (es : List (X × V)). (h, G h) ∷ es) (map_same t p.1)

    with_element_tail : (h : X) (t : List X) → same k h ≡ false → with_element same (h ∷ t) k ≡ h ∷ with_element same t k
    with_element_tail h t e = ap (λ b. cond (b || list_any (same k) t) (h ∷ t) (h ∷ t ++ k ∷ [])) e ∙ by_there (list_any (same k) t)
      where
        by_there : (b : Bool) → cond b (h ∷ t) (h ∷ t ++ k ∷ []) ≡ h ∷ cond b t (t ++ k ∷ [])
        by_there true = refl
        by_there false = refl

    -- a value set at one key of a table
    pub insert_table : (hs : List X) → AreAllDifferent same hs → insert_entry same (table_by F hs) k (G k) ≡ table_by G (with_element same hs k)
    insert_table [] a = refl
    insert_table (h ∷ t) a = by_key (same k h) refl (insert_table t a.1)
      where
        by_key : (b : Bool) → same k h ≡ b → insert_entry same (table_by F t) k (G k) ≡ table_by G (with_element same t k) → cond b ((h, G k) ∷ table_by F t) ((h, F h) ∷ insert_entry same (table_by F t) k (G k)) ≡ table_by G (with_element same (h ∷ t) k)
        by_key true e later =
            let one : k ≡ h = exact k h e in
            let there : with_element same (h ∷ t) k ≡ h ∷ t = ap (λ b. cond (b || list_any (same k) t) (h ∷ t) (h ∷ t ++ k ∷ [])) e in
            let none : list_any (same k) t ≡ false = ap (λ z. list_any (same z) t) one ∙ a.0 in
            ap (λ (v : V). (h, v) ∷ table_by F t) (ap G one) ∙ ap (λ (es : List (X × V)). (h, G h) ∷ es) (map_same t none) ∙ sym (ap (table_by G) there)
        by_key false e later =
            ap (λ (v : V). (h, v) ∷ insert_entry same (table_by F t) k (G k)) (sym (others h (flip same exact itself k h e)))
            ∙ ap (λ (es : List (X × V)). (h, G h) ∷ es) later
            ∙ sym (ap (table_by G) (with_element_tail h t e))

  -- the value at a key of a table
  pub lookup_table : {V : Type 0} (F : X → V) (k : X) (d : V) (hs : List X) → (list_any (same k) hs ≡ false → F k ≡ d) → unwrap_or (lookup (same k) (table_by F hs)) d ≡ F k
  lookup_table F k d [] h = sym (h refl)
  lookup_table {V = V} F k d (x ∷ xs) h = by_key (same k x) refl (lookup_table F k d xs)
    where
      by_key : (b : Bool) → same k x ≡ b → ((list_any (same k) xs ≡ false → F k ≡ d) → unwrap_or (lookup (same k) (table_by F xs)) d ≡ F k) → unwrap_or (cond b (Some (F x)) (lookup (same k) (table_by F xs))) d ≡ F k
      by_key true e later = ap F (sym (exact k x e))
      by_key false e later = later (λ n. h (ap (λ b. b || list_any (same k) xs) e ∙ n))
