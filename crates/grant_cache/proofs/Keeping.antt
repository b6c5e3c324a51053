-- A cache has what its sheet gives after a look-up as before it.
use Rattle.std.proofs.Common.{◌≡◌, ℕ, zero, suc, ◌-◌, Bool, true, false, ◌⊎◌, cond, List, [], ◌∷◌, take, Option, Some, None, refl, sym, ap, subst, inl, inr, ◌∙◌}
use Rattle.std.specs.Prelude.{nat_eq}
use Rattle.std.specs.Option.{option_map_or}
use Rattle.std.specs.Map.{lookup, lookup_entry, remove_entry}
use Rattle.std.proofs.lemmas.Bool.{eqb-true}
use Rattle.lru.specs.LruCache.{promoted}
use Rattle.wedge_base.specs.Sheets.{Sheet}
use Rattle.wedge_base.specs.declared.rights.Right.{Right}
use Rattle.grant_cache.specs.Caches.{Cache, HaveRights, IsCacheOf, sheet_right, is_cached, after_put, after_refusal, IsLookedUp}

module _ (s : Sheet) where
  take_rights : (n : ℕ) (es : List (ℕ × Option Right)) → HaveRights s es → HaveRights s (take n es)
  take_rights zero es h = tt
  take_rights (suc n) [] h = tt
  take_rights (suc n) (e ∷ es) h = (h.0, take_rights n es h.1)

  module _ (test : ℕ → Bool) where
    removed_rights : (es : List (ℕ × Option Right)) → HaveRights s es → HaveRights s (remove_entry test es)
    removed_rights [] h = tt
    removed_rights (e ∷ es) h =
        elim (test e.0) as (λ b. HaveRights s (cond b es (e ∷ remove_entry test es))) [
          | true ↦ h.1
          | false ↦ (h.0, removed_rights es h.1)
        ]

    found_right : (es : List (ℕ × Option Right)) (e : ℕ × Option Right) → HaveRights s es → lookup_entry test es ≡ Some e → e.1 ≡ sheet_right s e.0
    found_right [] e h found = cc
    found_right (f ∷ es) e h found = (elim (test f.0) as (λ b. test f.0 ≡ b → e.1 ≡ sheet_right s e.0) [
      | true ↦ λ is. let at = rw is at found in let same : f ≡ e = cc in subst (λ g. g.1 ≡ sheet_right s g.0) same h.0
      | false ↦ λ is. found_right es e h.1 (rw is at found)
    ]) refl

    promoted_by : (es : List (ℕ × Option Right)) (o : Option (ℕ × Option Right)) → lookup_entry test es ≡ o → HaveRights s es
        → HaveRights s (option_map_or (λ e. e ∷ remove_entry test es) o es)
    promoted_by es None found h = h
    promoted_by es (Some e) found h = (found_right es e h found, removed_rights es h)

    promoted_rights : (es : List (ℕ × Option Right)) → HaveRights s es → HaveRights s (promoted test es)
    promoted_rights es h = promoted_by es (lookup_entry test es) refl h

  -- what is found for a tag is what the sheet gives on it
  pub found_rights : (t : ℕ) (es : List (ℕ × Option Right)) (v : Option Right) → HaveRights s es → Some v ≡ lookup (nat_eq t) es → v ≡ sheet_right s t
  found_rights t [] v h found = cc
  found_rights t (f ∷ es) v h found = (elim (nat_eq t f.0) as (λ b. nat_eq t f.0 ≡ b → v ≡ sheet_right s t) [
    | true ↦ λ is. let at = rw is at found in let same : v ≡ f.1 = cc in same ∙ h.0 ∙ ap (sheet_right s) (sym (eqb-true t f.0 is))
    | false ↦ λ is. found_rights t es v h.1 (rw is at found)
  ]) refl

  missed_keeps : (tag : ℕ) (old new : Cache) → IsCacheOf s old
      → (new ≡ after_put (sheet_right s tag) tag old) ⊎ (new ≡ after_refusal old) → IsCacheOf s new
  missed_keeps tag old new h (inl is) = subst (IsCacheOf s) (sym is) (refl, take_rights (old.capacity - 1) old.entries h)
  missed_keeps tag old new h (inr is) = subst (IsCacheOf s) (sym is) h

  -- after a look-up of a tag on which the sheet gives this, each entry has what the sheet gives
  pub look_up_keeps : (tag : ℕ) (old new : Cache) → IsCacheOf s old → IsLookedUp (sheet_right s tag) tag old new → IsCacheOf s new
  look_up_keeps tag old new h to = (elim (is_cached tag old) as (λ b. is_cached tag old ≡ b → IsCacheOf s new) [
    | true ↦ λ is. subst (IsCacheOf s) (sym (to.found is)) (promoted_rights (nat_eq tag) old.entries h)
    | false ↦ λ is. missed_keeps tag old new h (to.missed is)
  ]) refl
