-- The walk over pieces, a piece at a time, and what it keeps.
use Rattle.std.proofs.Common.{◌≡◌, ℕ, zero, suc, ◌+◌, ◌-◌, ◌<◌, ◌≤◌, Bool, true, false, ◌||◌, List, [], ◌∷◌, ◌++◌, length, get_or, map, take, drop, if◌then◌else◌, refl, ap, sym, ◌∙◌}
use Rattle.std.proofs.lemmas.Bool.{eq-eqb}
use Rattle.std.proofs.lemmas.List.{drop_more, drop_all}
use Rattle.wedge_base.specs.Names.{same}
use Rattle.wedge_base.specs.Paths.{pieces, parts_of, text_of, resolve_parts, is_front, under}
use Rattle.file_tree.proofs.Pieces.{HasNoSlash, ArePieces, AreParts, AreParts-append, ArePieces-pieces, AreParts-parts_of, parts_of-text_of}

module _ {X : Type 0} (view : X → List ℕ) (xs : List X) where
  cut : (kept : List (List ℕ)) (i : ℕ) (x : X) → i < length xs → x ≡ get_or xs i x → resolve_parts kept (map view (drop i xs)) ≡ resolve_parts kept (view x ∷ map view (drop (i + 1) xs))
  cut kept i x h e = ap (λ ys. resolve_parts kept (map view ys)) (drop_more xs i x h ∙ ap (λ y. y ∷ drop (i + 1) xs) (sym e))

  -- a piece that is empty or `.`
  pub walked_stays : (kept : List (List ℕ)) (i : ℕ) (x : X) → i < length xs → x ≡ get_or xs i x → (same (view x) [] || same (view x) (46 ∷ [])) ≡ true → resolve_parts kept (map view (drop i xs)) ≡ resolve_parts kept (map view (drop (i + 1) xs))
  walked_stays kept i x h e t = cut kept i x h e ∙ rw t

  -- a piece `..`
  pub walked_up : (kept : List (List ℕ)) (i : ℕ) (x : X) → i < length xs → x ≡ get_or xs i x → (same (view x) [] || same (view x) (46 ∷ [])) ≡ false → same (view x) (46 ∷ 46 ∷ []) ≡ true → resolve_parts kept (map view (drop i xs)) ≡ resolve_parts (take (length kept - 1) kept) (map view (drop (i + 1) xs))
  walked_up kept i x h e t u = cut kept i x h e ∙ rw (t, u)

  -- a part
  pub walked_on : (kept : List (List ℕ)) (i : ℕ) (x : X) → i < length xs → x ≡ get_or xs i x → (same (view x) [] || same (view x) (46 ∷ [])) ≡ false → same (view x) (46 ∷ 46 ∷ []) ≡ false → resolve_parts kept (map view (drop i xs)) ≡ resolve_parts (kept ++ view x ∷ []) (map view (drop (i + 1) xs))
  walked_on kept i x h e t u = cut kept i x h e ∙ rw (t, u)

  pub walked_end : (kept : List (List ℕ)) (i : ℕ) → length xs ≤ i → resolve_parts kept (map view (drop i xs)) ≡ kept
  walked_end kept i h = ap (λ ys. resolve_parts kept (map view ys)) (drop_all i xs h)

AreParts-take : (n : ℕ) (ps : List (List ℕ)) → AreParts ps → AreParts (take n ps)
AreParts-take zero ps h = tt
AreParts-take (suc n) [] h = tt
AreParts-take (suc n) (p ∷ ps) h = (h.0, AreParts-take n ps h.1)

-- what a piece makes of the parts kept, whatever it is compared with
AreParts-step : (kept : List (List ℕ)) (p : List ℕ) (ps : List (List ℕ)) (empty here up : Bool) → same p [] ≡ empty → AreParts kept → HasNoSlash p → ((others : List (List ℕ)) → AreParts others → AreParts (resolve_parts others ps))
    → AreParts (if empty || here then resolve_parts kept ps else if up then resolve_parts (take (length kept - 1) kept) ps else resolve_parts (kept ++ p ∷ []) ps)
AreParts-step kept p ps true here up e h k more = more kept h
AreParts-step kept p ps false true up e h k more = more kept h
AreParts-step kept p ps false false true e h k more = more (take (length kept - 1) kept) (AreParts-take (length kept - 1) kept h)
AreParts-step kept p ps false false false e h k more = more (kept ++ p ∷ []) (AreParts-append kept (p ∷ []) h ((e, k), tt))

AreParts-walked : (kept ps : List (List ℕ)) → AreParts kept → ArePieces ps → AreParts (resolve_parts kept ps)
AreParts-walked kept [] h k = h
AreParts-walked kept (p ∷ ps) h k =
    AreParts-step kept p ps (same p []) (same p (46 ∷ [])) (same p (46 ∷ 46 ∷ [])) refl h k.0 (λ others o. AreParts-walked others ps o k.1)

same-itself : (p : List ℕ) → same p p ≡ true
same-itself [] = refl
same-itself (b ∷ p) = rw (eq-eqb b b refl, same-itself p)

is_front-append : (ps qs : List (List ℕ)) → is_front ps (ps ++ qs) ≡ true
is_front-append [] qs = refl
is_front-append (p ∷ ps) qs = rw (same-itself p, is_front-append ps qs)

-- the parts of a root and those that a path adds
pub AreParts-resolved : (root path : List ℕ) → AreParts (parts_of root ++ resolve_parts [] (pieces path))
AreParts-resolved root path =
    AreParts-append (parts_of root) (resolve_parts [] (pieces path)) (AreParts-parts_of root) (AreParts-walked [] (pieces path) tt (ArePieces-pieces path))

-- they are those of their text
parts_of-resolved : (root path : List ℕ) → parts_of (text_of (parts_of root ++ resolve_parts [] (pieces path))) ≡ parts_of root ++ resolve_parts [] (pieces path)
parts_of-resolved root path = parts_of-text_of (parts_of root ++ resolve_parts [] (pieces path)) (AreParts-resolved root path)

-- what is put after a root lies under it
pub under_resolved : (root path : List ℕ) → under root (text_of (parts_of root ++ resolve_parts [] (pieces path))) ≡ true
under_resolved root path = ap (λ x. is_front (parts_of root) x) (parts_of-resolved root path) ∙ is_front-append (parts_of root) (resolve_parts [] (pieces path))
