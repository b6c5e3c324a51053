-- The entries and the counts after a look-up are those of one tag more.
use Rattle.std.proofs.Common.{◌≡◌, ℕ, zero, suc, ◌+◌, ◌-◌, ◌≤◌, true, false, ◌⊎◌, cond, List, [], ◌∷◌, ◌++◌, take, length, Option, Some, None, refl, sym, ap, subst, inl, inr, ◌∙◌, arith, length-append, reverse}
use Rattle.std.specs.Prelude.{nat_eq, is_some, option_map, if◌then◌else◌}
use Rattle.std.specs.List.{list_any}
use Rattle.std.specs.Option.{option_map_or}
use Rattle.std.specs.Map.{keys_of, lookup, lookup_entry, remove_entry}
use Rattle.std.proofs.lemmas.List.{reverse-append, take-map}
use Rattle.std.proofs.lemmas.Bool.{eqb-true}
use Rattle.lru.specs.LruCache.{promoted}
use Rattle.lru.proofs.CallerLemmas.{Contains-lookup_entry}
use Rattle.wedge_base.specs.declared.rights.Right.{Right}
use Rattle.grant_cache.specs.Caches.{Cache, empty_cache, is_cached, after_hit, after_put, after_refusal, IsLookedUp}
use Rattle.grant_cache.proofs.Promoting.{lookup_value}
use Rattle.grant_cache.specs.Hits.{IsLookUpOf, AreLookedUp, without_tag, distinct_tags, latest_tags, hits_back, hits, IsExact, IsAfter}

module _ (t : ℕ) where
  -- a tag among the first ones is taken out of them
  without_found : (n : ℕ) (ts : List ℕ) → list_any (nat_eq t) (take (suc n) ts) ≡ true
      → without_tag t (take (suc n) ts) ≡ take n (without_tag t ts)
  without_found n [] h = cc
  without_found zero (x ∷ ts) h = (elim (nat_eq t x) as (λ b. nat_eq t x ≡ b → without_tag t (x ∷ []) ≡ []) [
    | true ↦ λ is. rw is refl
    | false ↦ λ is. let no = rw is at h in cc
  ]) refl
  without_found (suc n) (x ∷ ts) h = (elim (nat_eq t x) as (λ b. nat_eq t x ≡ b → without_tag t (x ∷ take (suc n) ts) ≡ take (suc n) (without_tag t (x ∷ ts))) [
    | true ↦ λ is. rw is refl
    | false ↦ λ is. rw is (ap (λ l. x ∷ l) (without_found n ts (rw is at h)))
  ]) refl

  -- a tag that is not among the first ones leaves them as they are
  without_missed : (n : ℕ) (ts : List ℕ) → list_any (nat_eq t) (take (suc n) ts) ≡ false
      → take n (take (suc n) ts) ≡ take n (without_tag t ts)
  without_missed zero ts h = refl
  without_missed (suc n) [] h = refl
  without_missed (suc n) (x ∷ ts) h = (elim (nat_eq t x) as (λ b. nat_eq t x ≡ b → take (suc n) (x ∷ take (suc n) ts) ≡ take (suc n) (without_tag t (x ∷ ts))) [
    | true ↦ λ is. let no = rw is at h in cc
    | false ↦ λ is. rw is (ap (λ l. x ∷ l) (without_missed n ts (rw is at h)))
  ]) refl

module _ {V : Type 0} (t : ℕ) where
  found_keys : (es : List (ℕ × V)) → is_some (lookup (nat_eq t) es) ≡ list_any (nat_eq t) (keys_of es)
  found_keys [] = refl
  found_keys (e ∷ es) = (elim (nat_eq t e.0) as (λ b. nat_eq t e.0 ≡ b → is_some (lookup (nat_eq t) (e ∷ es)) ≡ list_any (nat_eq t) (keys_of (e ∷ es))) [
    | true ↦ λ is. rw is refl
    | false ↦ λ is. rw is (found_keys es)
  ]) refl

  removed_keys : (es : List (ℕ × V)) → keys_of (remove_entry (nat_eq t) es) ≡ without_tag t (keys_of es)
  removed_keys [] = refl
  removed_keys (e ∷ es) = elim (nat_eq t e.0) as (λ b. keys_of (cond b es (e ∷ remove_entry (nat_eq t) es)) ≡ cond b (keys_of es) (e.0 ∷ without_tag t (keys_of es))) [
    | true ↦ refl
    | false ↦ ap (λ l. e.0 ∷ l) (removed_keys es)
  ]

  promoted_by : (es : List (ℕ × V)) (o : Option (ℕ × V)) → lookup_entry (nat_eq t) es ≡ o → is_some (lookup (nat_eq t) es) ≡ true
      → keys_of (option_map_or (λ e. e ∷ remove_entry (nat_eq t) es) o es) ≡ t ∷ without_tag t (keys_of es)
  promoted_by es None found is =
      let none : lookup (nat_eq t) es ≡ None = sym (lookup_value (nat_eq t) es) ∙ ap (option_map (λ e. e.1)) found in
      let not : is_some (lookup (nat_eq t) es) ≡ false = ap is_some none in cc
  promoted_by es (Some e) found is =
      let key : t ≡ e.0 = eqb-true t e.0 (Contains-lookup_entry (nat_eq t) es e found).1 in
      ap (λ k. k ∷ keys_of (remove_entry (nat_eq t) es)) (sym key) ∙ ap (λ l. t ∷ l) (removed_keys es)

  promoted_keys : (es : List (ℕ × V)) → is_some (lookup (nat_eq t) es) ≡ true → keys_of (promoted (nat_eq t) es) ≡ t ∷ without_tag t (keys_of es)
  promoted_keys es is = promoted_by es (lookup_entry (nat_eq t) es) refl is

taken_keys : {V : Type 0} (n : ℕ) (es : List (ℕ × V)) → keys_of (take n es) ≡ take n (keys_of es)
taken_keys n es = sym (take-map (λ e. e.0) n es)

-- and one look-up more
looked_up_more : (tags : List ℕ) (t : ℕ) (first old new : Cache) → AreLookedUp tags first old → IsLookUpOf t old new → AreLookedUp (tags ++ t ∷ []) first new
looked_up_more [] t first old new was one = (new, subst (λ (c : Cache). IsLookUpOf t c new) was one, refl)
looked_up_more (x ∷ tags) t first old new was one = (was.0, was.1, looked_up_more tags t was.0 old new was.2 one)

module _ (t : ℕ) (tags : List ℕ) (old : Cache) where
  abbrev after : List ℕ
  after = tags ++ t ∷ []

  latest_after : reverse after ≡ t ∷ reverse tags
  latest_after = reverse-append tags (t ∷ [])

  abbrev before : List ℕ
  before = distinct_tags (reverse tags)

  cached_before : IsExact tags old → is_cached t old ≡ list_any (nat_eq t) (take old.capacity before)
  cached_before x = found_keys t old.entries ∙ ap (list_any (nat_eq t)) x.entries

  hits_after : hits old.capacity after ≡ hits old.capacity tags + (if list_any (nat_eq t) (take old.capacity before) then 1 else 0)
  hits_after = ap (hits_back old.capacity) latest_after

  found_latest : (n : ℕ) → 1 ≤ n → list_any (nat_eq t) (take n before) ≡ true
      → t ∷ without_tag t (take n before) ≡ take n (distinct_tags (t ∷ reverse tags))
  found_latest zero h is = absurd (omega arith)
  found_latest (suc n) h is = ap (λ l. t ∷ l) (without_found t n before is)

  missed_latest : (n : ℕ) → 1 ≤ n → list_any (nat_eq t) (take n before) ≡ false
      → t ∷ take (n - 1) (take n before) ≡ take n (distinct_tags (t ∷ reverse tags))
  missed_latest zero h is = absurd (omega arith)
  missed_latest (suc n) h is =
      let one : suc n - 1 ≡ n = omega arith in
      rw one (ap (λ l. t ∷ l) (without_missed t n before is))

  exact_hit : 1 ≤ old.capacity → is_cached t old ≡ true → IsExact tags old → IsExact after (after_hit t old)
  exact_hit room is x =
      let found : list_any (nat_eq t) (take old.capacity before) ≡ true = sym (cached_before x) ∙ is in
      record {
        entries = promoted_keys t old.entries is ∙ ap (λ l. t ∷ without_tag t l) x.entries
            ∙ found_latest old.capacity room found ∙ ap (latest_tags old.capacity) (sym latest_after);
        hits = ap (λ n. n + 1) x.hits ∙ sym (hits_after ∙ ap (λ b. hits old.capacity tags + (if b then 1 else 0)) found);
      }

  exact_put : (given : Option Right) → 1 ≤ old.capacity → is_cached t old ≡ false → IsExact tags old → IsExact after (after_put given t old)
  exact_put given room is x =
      let missed : list_any (nat_eq t) (take old.capacity before) ≡ false = sym (cached_before x) ∙ is in
      let none : hits old.capacity tags + 0 ≡ hits old.capacity tags = omega arith in
      record {
        entries = ap (λ l. t ∷ l) (taken_keys (old.capacity - 1) old.entries ∙ ap (take (old.capacity - 1)) x.entries)
            ∙ missed_latest old.capacity room missed ∙ ap (latest_tags old.capacity) (sym latest_after);
        hits = x.hits ∙ sym (hits_after ∙ ap (λ b. hits old.capacity tags + (if b then 1 else 0)) missed ∙ none);
      }

  one_more : length after ≡ length tags + 1
  one_more = length-append tags (t ∷ [])

  abbrev IsMade : Cache → Type 0
  IsMade new = AreLookedUp after (empty_cache old.capacity) new

  missed_counts : (given : Option Right) (new : Cache) → 1 ≤ old.capacity → is_cached t old ≡ false → IsAfter tags old → IsMade new
      → (new ≡ after_put given t old) ⊎ (new ≡ after_refusal old) → IsAfter after new
  missed_counts given new room is a made (inl to) = subst (IsAfter after) (sym to) record {
    made = subst IsMade to made;
    lookups = ap (λ n. n + 1) a.lookups ∙ sym one_more;
    refused = let le = a.refused in omega arith;
    exact = λ none. exact_put given room is (a.exact none);
  }
  missed_counts given new room is a made (inr to) = subst (IsAfter after) (sym to) record {
    made = subst IsMade to made;
    lookups = ap (λ n. n + 1) a.lookups ∙ sym one_more;
    refused = let le = a.refused in omega arith;
    exact = λ none. absurd (omega arith);
  }

  -- a cache as it is after look-ups of some tags is, after a look-up of one more, as it is after all
  -- of them
  pub look_up_counts : (given : Option Right) (new : Cache) → 1 ≤ old.capacity → IsLookedUp given t old new → IsAfter tags old → IsAfter after new
  look_up_counts given new room to a = let made : IsMade new = looked_up_more tags t (empty_cache old.capacity) old new a.made (given, to) in (elim (is_cached t old) as (λ b. is_cached t old ≡ b → IsAfter after new) [
    | true ↦ λ is. subst (IsAfter after) (sym (to.found is)) record {
      made = subst IsMade (to.found is) made;
      lookups = ap (λ n. n + 1) a.lookups ∙ sym one_more;
      refused = let le = a.refused in omega arith;
      exact = λ none. exact_hit room is (a.exact none);
    }
    | false ↦ λ is. missed_counts given new room is a made (to.missed is)
  ]) refl

-- so many look-ups were made
pub look_up_adds : (given : Option Right) (t : ℕ) (old new : Cache) → IsLookedUp given t old new → new.count.lookups ≡ old.count.lookups + 1
look_up_adds given t old new to = (elim (is_cached t old) as (λ b. is_cached t old ≡ b → new.count.lookups ≡ old.count.lookups + 1) [
  | true ↦ λ is. ap (λ c. c.count.lookups) (to.found is)
  | false ↦ λ is. elim (to.missed is) [
    | inl e ↦ ap (λ c. c.count.lookups) e
    | inr e ↦ ap (λ c. c.count.lookups) e
  ]
]) refl
