-- What a look-up of a tag that is not there makes of a cache.
use Rattle.std.proofs.Common.{◌≡◌, ℕ, ◌+◌, ◌-◌, false, ◌⊎◌, List, ◌∷◌, take, Option, Some, None, refl, sym, ap, inl, inr, ◌∙◌}
use Rattle.std.specs.Prelude.{nat_eq, is_some, option_map}
use Rattle.std.specs.Option.{option_map_or}
use Rattle.std.specs.Map.{lookup, lookup_entry, remove_entry}
use Rattle.lru.specs.LruCache.{LruCache, lru_cache, promoted, put_entries}
use Rattle.wedge_base.specs.declared.rights.Right.{Right}
use Rattle.grant_cache.specs.declared.count.CacheCount.{CacheCount}
use Rattle.grant_cache.specs.Caches.{Cache, after_put, after_refusal, IsLookedUp}
use Rattle.grant_cache.proofs.Promoting.{none_promoted, lookup_value}

abbrev pub Rights : Type 0
Rights = LruCache ℕ (Option Right)

abbrev pub cache_of : Rights → CacheCount → Cache
cache_of r n = record { entries = r.entries; capacity = r.cap; count = n }

no_entry : {V : Type 0} (t : ℕ) (es : List (ℕ × V)) (o : Option (ℕ × V)) → lookup_entry (nat_eq t) es ≡ o → is_some (lookup (nat_eq t) es) ≡ false → lookup_entry (nat_eq t) es ≡ None
no_entry t es None is none = is
no_entry t es (Some e) is none =
    let some : lookup (nat_eq t) es ≡ Some e.1 = sym (lookup_value (nat_eq t) es) ∙ ap (option_map (λ f. f.1)) is in
    let yes = ap is_some some in
    cc

module _ (t : ℕ) (given : Option Right) (rights : Rights) (n : CacheCount) (none : is_some (lookup (nat_eq t) rights.entries) ≡ false) where
  same : rights.entries ≡ promoted (nat_eq t) rights.entries
  same = none_promoted (nat_eq t) rights.entries none

  after : (new : Rights) → (next : CacheCount) → (cache_of new next ≡ after_put given t (cache_of rights n)) ⊎ (cache_of new next ≡ after_refusal (cache_of rights n))
      → IsLookedUp given t (cache_of rights n) (cache_of new next)
  after new next to = record { found = λ is. let not = none in cc; missed = λ _. to }

  -- nothing is put where there is no memory
  pub look_up_refused : (mid new : Rights) → mid ≡ lru_cache (promoted (nat_eq t) rights.entries) rights.cap → new ≡ mid
      → IsLookedUp given t (cache_of rights n) (cache_of new record { lookups = n.lookups + 1; hits = n.hits; refused = n.refused + 1 })
  look_up_refused mid new first kept =
      let is : new ≡ lru_cache rights.entries rights.cap = kept ∙ first ∙ ap (λ es. lru_cache es rights.cap) (sym same) in
      after new record { lookups = n.lookups + 1; hits = n.hits; refused = n.refused + 1 }
      (inr (ap (λ r. cache_of r record { lookups = n.lookups + 1; hits = n.hits; refused = n.refused + 1 }) is))

  -- else the tag is put first
  pub look_up_put : (mid new : Rights) → mid ≡ lru_cache (promoted (nat_eq t) rights.entries) rights.cap → new ≡ lru_cache (put_entries nat_eq mid t given) mid.cap
      → IsLookedUp given t (cache_of rights n) (cache_of new record { lookups = n.lookups + 1; hits = n.hits; refused = n.refused })
  look_up_put mid new first to =
      let back : mid ≡ lru_cache rights.entries rights.cap = first ∙ ap (λ es. lru_cache es rights.cap) (sym same) in
      let entry : lookup_entry (nat_eq t) rights.entries ≡ None = no_entry t rights.entries (lookup_entry (nat_eq t) rights.entries) refl none in
      let put_there : put_entries nat_eq (lru_cache rights.entries rights.cap) t given ≡ (t, given) ∷ take (rights.cap - 1) rights.entries
      = ap (λ o. option_map_or (λ e. (e.0, given) ∷ remove_entry (nat_eq t) rights.entries) o ((t, given) ∷ take (rights.cap - 1) rights.entries)) entry in
      let is : new ≡ lru_cache ((t, given) ∷ take (rights.cap - 1) rights.entries) rights.cap
      = to ∙ ap (λ m. lru_cache (put_entries nat_eq m t given) m.cap) back ∙ ap (λ es. lru_cache es rights.cap) put_there in
      after new record { lookups = n.lookups + 1; hits = n.hits; refused = n.refused }
      (inl (ap (λ r. cache_of r record { lookups = n.lookups + 1; hits = n.hits; refused = n.refused }) is))
