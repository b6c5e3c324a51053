-- Entries of maps, as the pairs that they stand for.
use Rattle.std.proofs.Common.{◌≡◌, Bool, true, false, cond, List, [], ◌∷◌, map, Some, refl, ap, ◌∙◌}
use Rattle.std.specs.Map.{lookup}
use Rattle.indexmap.specs.IndexMap.{insert_entry}

module _ {K X V : Type 0} (eq : K → K → Bool) (same : X → X → Bool) (view : K → X) (agrees : (a b : K) → eq a b ≡ same (view a) (view b)) where
  abbrev pub view_entry : K × V → X × V
  view_entry e = (view e.0, e.1)

  pub lookup_view : (k : K) (es : List (K × V)) → lookup (eq k) es ≡ lookup (same (view k)) (map view_entry es)
  lookup_view k [] = refl
  lookup_view k (e ∷ es) = ap (λ b. cond b (Some e.1) (lookup (eq k) es)) (agrees k e.0) ∙ ap (cond (same (view k) (view e.0)) (Some e.1)) (lookup_view k es)

  by_key : (b : Bool) (e : K × V) (es : List (K × V)) (k : K) (v : V) → map view_entry (cond b ((e.0, v) ∷ es) (e ∷ insert_entry eq es k v)) ≡ cond b ((view e.0, v) ∷ map view_entry es) (view_entry e ∷ map view_entry (insert_entry eq es k v))
  by_key true e es k v = refl
  by_key false e es k v = refl

  pub insert_view : (es : List (K × V)) (k : K) (v : V) → map view_entry (insert_entry eq es k v) ≡ insert_entry same (map view_entry es) (view k) v
  insert_view [] k v = refl
  insert_view (e ∷ es) k v =
      by_key (eq k e.0) e es k v
      ∙ ap (λ b. cond b ((view e.0, v) ∷ map view_entry es) (view_entry e ∷ map view_entry (insert_entry eq es k v))) (agrees k e.0)
      ∙ ap (λ (t : List (X × V)). cond (same (view k) (view e.0)) ((view e.0, v) ∷ map view_entry es) (view_entry e ∷ t)) (insert_view es k v)
