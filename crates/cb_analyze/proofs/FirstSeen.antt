-- Dropping repeats keeps the elements, each once, in the order of their first occurrences.
use Rattle.std.proofs.Common.{◌≡◌, ℕ, ◌+◌, ◌<◌, ◌≤◌, Bool, true, false, cond, ◌||◌, List, [], ◌∷◌, ◌++◌, map, length, ltb, eqb, refl, ap, sym, subst, ◌∙◌, append_assoc, append-nil, arith}
use Rattle.std.specs.List.{list_any, position_or_len}
use Rattle.std.proofs.lemmas.Bool.{lt-ltb, le-ltb, eqb-true, eq-eqb}
use Rattle.std.proofs.lemmas.List.{map-append}
use Rattle.std.proofs.lemmas.List.Folds.{list_any-append, position_or_len_push}
use Rattle.cb_analyze.specs.FirstSeen.{with_element, with_elements, without_repeats, AreAllDifferent, IsFirstSeen}

or_false : (b : Bool) → (b || false) ≡ b
or_false true = refl
or_false false = refl

or_true : (b : Bool) → (b || true) ≡ true
or_true true = refl
or_true false = refl

or_assoc : (a b c : Bool) → ((a || b) || c) ≡ (a || (b || c))
or_assoc true b c = refl
or_assoc false b c = refl

pub neither : (a b : Bool) → (a || b) ≡ false → (a ≡ false) × (b ≡ false)
neither true b h = absurd cc
neither false b h = (refl, h)

pub with_elements_more : {X : Type 0} (same : X → X → Bool) (seen xs : List X) (x : X) → with_elements same seen (xs ++ x ∷ []) ≡ with_element same (with_elements same seen xs) x
with_elements_more same seen [] x = refl
with_elements_more same seen (y ∷ ys) x = with_elements_more same (with_element same seen y) ys x

module _ {X : Type 0} (same : X → X → Bool) (exact : (a b : X) → same a b ≡ true → a ≡ b) (itself : (a : X) → same a a ≡ true) where
  pub flip : (a b : X) → same a b ≡ false → same b a ≡ false
  flip a b h = by_test (same b a) refl
    where
      by_test : (t : Bool) → same b a ≡ t → t ≡ false
      by_test true e = let one = ap (λ x. same a x) (exact b a e) in absurd (cc (one, itself a, h))
      by_test false e = refl

  any_with_element : (k : X) (seen : List X) (x : X) → list_any (same k) (with_element same seen x) ≡ (list_any (same k) seen || same k x)
  any_with_element k seen x = by_there (list_any (same x) seen) refl
    where
      by_there : (t : Bool) → list_any (same x) seen ≡ t → list_any (same k) (cond t seen (seen ++ x ∷ [])) ≡ (list_any (same k) seen || same k x)
      by_there false e = list_any-append (same k) seen (x ∷ []) ∙ ap (λ b. list_any (same k) seen || b) (or_false (same k x))
      by_there true e = by_same (same k x) refl
        where
          by_same : (s : Bool) → same k x ≡ s → list_any (same k) seen ≡ (list_any (same k) seen || s)
          by_same true f = let there : list_any (same k) seen ≡ true = ap (λ z. list_any (same z) seen) (exact k x f) ∙ e in there ∙ sym (ap (λ b. b || true) there)
          by_same false f = sym (or_false (list_any (same k) seen))

  pub any_with_elements : (k : X) (seen xs : List X) → list_any (same k) (with_elements same seen xs) ≡ (list_any (same k) seen || list_any (same k) xs)
  any_with_elements k seen [] = sym (or_false (list_any (same k) seen))
  any_with_elements k seen (x ∷ xs) =
      any_with_elements k (with_element same seen x) xs
      ∙ ap (λ b. b || list_any (same k) xs) (any_with_element k seen x)
      ∙ or_assoc (list_any (same k) seen) (same k x) (list_any (same k) xs)

  distinct_push : (xs : List X) (k : X) → AreAllDifferent same xs → list_any (same k) xs ≡ false → AreAllDifferent same (xs ++ k ∷ [])
  distinct_push [] k a h = (refl, tt)
  distinct_push (x ∷ xs) k a h =
      let n = neither (same k x) (list_any (same k) xs) h in
      (list_any-append (same x) xs (k ∷ []) ∙ ap (λ b. b || (same x k || false)) a.0 ∙ ap (λ b. b || false) (flip k x n.0), distinct_push xs k a.1 n.1)

  with_element_distinct : (seen : List X) (x : X) → AreAllDifferent same seen → AreAllDifferent same (with_element same seen x)
  with_element_distinct seen x a = by_there (list_any (same x) seen) refl
    where
      by_there : (t : Bool) → list_any (same x) seen ≡ t → AreAllDifferent same (cond t seen (seen ++ x ∷ []))
      by_there true e = a
      by_there false e = distinct_push seen x a e

  pub with_elements_distinct : (seen xs : List X) → AreAllDifferent same seen → AreAllDifferent same (with_elements same seen xs)
  with_elements_distinct seen [] a = a
  with_elements_distinct seen (x ∷ xs) a = with_elements_distinct (with_element same seen x) xs (with_element_distinct seen x a)

  -- ---- the order of first occurrences

  inside : (p : X → Bool) (xs : List X) → list_any p xs ≡ true → position_or_len p xs < length xs
  inside p [] h = absurd cc
  inside p (x ∷ xs) h = by_first (p x) refl h (inside p xs)
    where
      by_first : (b : Bool) → p x ≡ b → (b || list_any p xs) ≡ true → (list_any p xs ≡ true → position_or_len p xs < length xs) → position_or_len p (x ∷ xs) < length (x ∷ xs)
      by_first true e k later = let at : position_or_len p (x ∷ xs) ≡ 0 = rw e refl in omega arith
      by_first false e k later = let at : position_or_len p (x ∷ xs) ≡ 1 + position_or_len p xs = rw e refl in omega (arith, later k)

  outside : (p : X → Bool) (xs : List X) → list_any p xs ≡ false → position_or_len p xs ≡ length xs
  outside p [] h = refl
  outside p (x ∷ xs) h =
      let n = neither (p x) (list_any p xs) h in
      let at : position_or_len p (x ∷ xs) ≡ 1 + position_or_len p xs = rw n.0 refl in
      omega (arith, outside p xs n.1)

  inside_push : (p : X → Bool) (xs : List X) (y : X) → list_any p xs ≡ true → position_or_len p (xs ++ y ∷ []) ≡ position_or_len p xs
  inside_push p xs y h =
      let less = inside p xs h in
      position_or_len_push p xs y ∙ by_end (eqb (position_or_len p xs) (length xs)) refl less
    where
      by_end : (b : Bool) → eqb (position_or_len p xs) (length xs) ≡ b → position_or_len p xs < length xs → cond b (length xs + cond (p y) 0 1) (position_or_len p xs) ≡ position_or_len p xs
      by_end true e less = let same : position_or_len p xs ≡ length xs = eqb-true _ _ e in absurd (omega arith)
      by_end false e less = refl

  outside_push : (p : X → Bool) (xs : List X) (y : X) → list_any p xs ≡ false → position_or_len p (xs ++ y ∷ []) ≡ length xs + cond (p y) 0 1
  outside_push p xs y h = position_or_len_push p xs y ∙ ap (λ b. cond b (length xs + cond (p y) 0 1) (position_or_len p xs)) (eq-eqb _ _ (outside p xs h))

  both_less : (a b c d : ℕ) → a < b → c < d → ltb a b ≡ ltb c d
  both_less a b c d h k = lt-ltb a b h ∙ sym (lt-ltb c d k)

  neither_less : (a b c d : ℕ) → b ≤ a → d ≤ c → ltb a b ≡ ltb c d
  neither_less a b c d h k = le-ltb a b h ∙ sym (le-ltb c d k)

  shifted : (m n : ℕ) (s t : Bool) → ltb (m + cond s 0 1) (m + cond t 0 1) ≡ ltb (n + cond s 0 1) (n + cond t 0 1)
  shifted m n true true = neither_less _ _ _ _ (omega arith) (omega arith)
  shifted m n true false = both_less _ _ _ _ (omega arith) (omega arith)
  shifted m n false true = neither_less _ _ _ _ (omega arith) (omega arith)
  shifted m n false false = neither_less _ _ _ _ (omega arith) (omega arith)

  -- those seen have the members of the list so far, in their order
  record InOrder (front seen : List X) : Type 0 where
    members : (a : X) → list_any (same a) seen ≡ list_any (same a) front
    order : (a b : X) → ltb (position_or_len (same a) seen) (position_or_len (same b) seen) ≡ ltb (position_or_len (same a) front) (position_or_len (same b) front)

  -- an element that is there already
  module _ (front seen : List X) (x : X) (h : InOrder front seen) (there : list_any (same x) seen ≡ true) where
    other_out : (a : X) → list_any (same a) seen ≡ false → same a x ≡ false
    other_out a out = by_test (same a x) refl
      where
        by_test : (t : Bool) → same a x ≡ t → t ≡ false
        by_test true e = let is : list_any (same a) seen ≡ true = ap (λ z. list_any (same z) seen) (exact a x e) ∙ there in absurd cc
        by_test false e = refl

    old_order : (a b : X) (s t : Bool) → list_any (same a) seen ≡ s → list_any (same b) seen ≡ t → ltb (position_or_len (same a) seen) (position_or_len (same b) seen) ≡ ltb (position_or_len (same a) (front ++ x ∷ [])) (position_or_len (same b) (front ++ x ∷ []))
    old_order a b true true e f =
        h.order a b
        ∙ ap (λ n. ltb n (position_or_len (same b) front)) (sym (inside_push (same a) front x (sym (h.members a) ∙ e)))
        ∙ ap (ltb (position_or_len (same a) (front ++ x ∷ []))) (sym (inside_push (same b) front x (sym (h.members b) ∙ f)))
    old_order a b true false e f =
        let i = inside (same a) seen e in
        let j = inside (same a) front (sym (h.members a) ∙ e) in
        let o = outside (same b) seen f in
        let p = inside_push (same a) front x (sym (h.members a) ∙ e) in
        let q = outside_push (same b) front x (sym (h.members b) ∙ f) in
        both_less _ _ _ _ (omega (arith, i, o)) (omega (arith, j, p, q))
    old_order a b false true e f =
        let i = inside (same b) seen f in
        let j = inside (same b) front (sym (h.members b) ∙ f) in
        let o = outside (same a) seen e in
        let p = inside_push (same b) front x (sym (h.members b) ∙ f) in
        let q = outside_push (same a) front x (sym (h.members a) ∙ e) in
        neither_less _ _ _ _ (omega (arith, i, o)) (omega (arith, j, p, q))
    old_order a b false false e f =
        let o = outside (same a) seen e in
        let u = outside (same b) seen f in
        let p = outside_push (same a) front x (sym (h.members a) ∙ e) ∙ ap (λ s. length front + cond s 0 1) (other_out a e) in
        let q = outside_push (same b) front x (sym (h.members b) ∙ f) ∙ ap (λ s. length front + cond s 0 1) (other_out b f) in
        neither_less _ _ _ _ (omega (arith, o, u)) (omega (arith, p, q))

  -- an element that is new
  module _ (front seen : List X) (x : X) (h : InOrder front seen) where
    new_order : (a b : X) (s t : Bool) → list_any (same a) seen ≡ s → list_any (same b) seen ≡ t → ltb (position_or_len (same a) (seen ++ x ∷ [])) (position_or_len (same b) (seen ++ x ∷ [])) ≡ ltb (position_or_len (same a) (front ++ x ∷ [])) (position_or_len (same b) (front ++ x ∷ []))
    new_order a b true true e f =
        ap (λ n. ltb n (position_or_len (same b) (seen ++ x ∷ []))) (inside_push (same a) seen x e)
        ∙ ap (ltb (position_or_len (same a) seen)) (inside_push (same b) seen x f)
        ∙ h.order a b
        ∙ ap (λ n. ltb n (position_or_len (same b) front)) (sym (inside_push (same a) front x (sym (h.members a) ∙ e)))
        ∙ ap (ltb (position_or_len (same a) (front ++ x ∷ []))) (sym (inside_push (same b) front x (sym (h.members b) ∙ f)))
    new_order a b true false e f =
        let i = inside (same a) seen e in
        let j = inside (same a) front (sym (h.members a) ∙ e) in
        let o = inside_push (same a) seen x e in
        let u = outside_push (same b) seen x f in
        let p = inside_push (same a) front x (sym (h.members a) ∙ e) in
        let q = outside_push (same b) front x (sym (h.members b) ∙ f) in
        both_less _ _ _ _ (omega (arith, i, o, u)) (omega (arith, j, p, q))
    new_order a b false true e f =
        let i = inside (same b) seen f in
        let j = inside (same b) front (sym (h.members b) ∙ f) in
        let o = inside_push (same b) seen x f in
        let u = outside_push (same a) seen x e in
        let p = inside_push (same b) front x (sym (h.members b) ∙ f) in
        let q = outside_push (same a) front x (sym (h.members a) ∙ e) in
        neither_less _ _ _ _ (omega (arith, i, o, u)) (omega (arith, j, p, q))
    new_order a b false false e f =
        ap (λ n. ltb n (position_or_len (same b) (seen ++ x ∷ []))) (outside_push (same a) seen x e)
        ∙ ap (ltb (length seen + cond (same a x) 0 1)) (outside_push (same b) seen x f)
        ∙ shifted (length seen) (length front) (same a x) (same b x)
        ∙ ap (λ n. ltb n (length front + cond (same b x) 0 1)) (sym (outside_push (same a) front x (sym (h.members a) ∙ e)))
        ∙ ap (ltb (position_or_len (same a) (front ++ x ∷ []))) (sym (outside_push (same b) front x (sym (h.members b) ∙ f)))

  push_members : (front seen : List X) (x : X) → InOrder front seen → (a : X) → list_any (same a) (with_element same seen x) ≡ list_any (same a) (front ++ x ∷ [])
  push_members front seen x h a =
      any_with_element a seen x
      ∙ ap (λ b. b || same a x) (h.members a)
      ∙ sym (list_any-append (same a) front (x ∷ []) ∙ ap (λ b. list_any (same a) front || b) (or_false (same a x)))

  push_order : (front seen : List X) (x : X) → InOrder front seen → InOrder (front ++ x ∷ []) (with_element same seen x)
  push_order front seen x h = record {
    members = push_members front seen x h;
    order = λ a b. by_there (list_any (same x) seen) refl a b;
  }
    where
      by_there : (t : Bool) → list_any (same x) seen ≡ t → (a b : X) → ltb (position_or_len (same a) (cond t seen (seen ++ x ∷ []))) (position_or_len (same b) (cond t seen (seen ++ x ∷ []))) ≡ ltb (position_or_len (same a) (front ++ x ∷ [])) (position_or_len (same b) (front ++ x ∷ []))
      by_there true e a b = old_order front seen x h e a b (list_any (same a) seen) (list_any (same b) seen) refl refl
      by_there false e a b = new_order front seen x h a b (list_any (same a) seen) (list_any (same b) seen) refl refl

  all_in_order : (front seen xs : List X) → InOrder front seen → InOrder (front ++ xs) (with_elements same seen xs)
  all_in_order front seen [] h = subst (λ l. InOrder l seen) (sym (append-nil front)) h
  all_in_order front seen (x ∷ xs) h =
      subst (λ l. InOrder l (with_elements same (with_element same seen x) xs)) (append_assoc front (x ∷ []) xs)
      (all_in_order (front ++ x ∷ []) (with_element same seen x) xs (push_order front seen x h))

  -- dropping repeats keeps each element once, in the order of first occurrences
  pub first_seen : (xs : List X) → IsFirstSeen same xs (without_repeats same xs)
  first_seen xs =
      let h = all_in_order [] [] xs (record { members = λ a. refl; order = λ a b. refl }) in
      record { once = with_elements_distinct [] xs tt; members = h.members; order = h.order }

-- ---- repeats of what elements are mapped to

module _ {X Y : Type 0} (same : X → X → Bool) (exact : (a b : X) → same a b ≡ true → a ≡ b) (itself : (a : X) → same a a ≡ true) (alike : Y → Y → Bool) (alike_exact : (a b : Y) → alike a b ≡ true → a ≡ b) (alike_itself : (a : Y) → alike a a ≡ true) (f : X → Y) where
  any_map : (x : X) (seen : List X) → list_any (same x) seen ≡ true → list_any (alike (f x)) (map f seen) ≡ true
  any_map x [] h = absurd cc
  any_map x (y ∷ ys) h = by_first (same x y) refl h (any_map x ys)
    where
      by_first : (b : Bool) → same x y ≡ b → (b || list_any (same x) ys) ≡ true → (list_any (same x) ys ≡ true → list_any (alike (f x)) (map f ys) ≡ true) → (alike (f x) (f y) || list_any (alike (f x)) (map f ys)) ≡ true
      by_first true e k later =
          let one : alike (f x) (f y) ≡ true = ap (λ z. alike (f x) (f z)) (sym (exact x y e)) ∙ alike_itself (f x) in
          ap (λ b. b || list_any (alike (f x)) (map f ys)) one
      by_first false e k later = ap (λ b. alike (f x) (f y) || b) (later k) ∙ or_true (alike (f x) (f y))

  one_more : (t : List Y) (seen : List X) (x : X) → with_elements alike t (map f (with_element same seen x)) ≡ with_element alike (with_elements alike t (map f seen)) (f x)
  one_more t seen x = by_there (list_any (same x) seen) refl
    where
      by_there : (b : Bool) → list_any (same x) seen ≡ b → with_elements alike t (map f (cond b seen (seen ++ x ∷ []))) ≡ with_element alike (with_elements alike t (map f seen)) (f x)
      by_there true e =
          let there : list_any (alike (f x)) (with_elements alike t (map f seen)) ≡ true =
          any_with_elements alike alike_exact alike_itself (f x) t (map f seen) ∙ ap (λ b. list_any (alike (f x)) t || b) (any_map x seen e) ∙ or_true (list_any (alike (f x)) t) in
          sym (ap (λ b. cond b (with_elements alike t (map f seen)) (with_elements alike t (map f seen) ++ f x ∷ [])) there)
      by_there false e = ap (with_elements alike t) (map-append f seen (x ∷ [])) ∙ with_elements_more alike t (map f seen) (f x)

  mapped_from : (t : List Y) (seen xs : List X) → with_elements alike t (map f (with_elements same seen xs)) ≡ with_elements alike (with_elements alike t (map f seen)) (map f xs)
  mapped_from t seen [] = refl
  mapped_from t seen (x ∷ xs) = mapped_from t (with_element same seen x) xs ∙ ap (λ s. with_elements alike s (map f xs)) (one_more t seen x)

  -- repeats may be dropped before too
  pub without_repeats_map : (xs : List X) → without_repeats alike (map f (without_repeats same xs)) ≡ without_repeats alike (map f xs)
  without_repeats_map xs = mapped_from [] [] xs
