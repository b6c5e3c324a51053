-- Equates of numbered entries, an entry at a time.
use Rattle.std.proofs.Common.{◌≡◌, ℕ, ◌+◌, ◌%◌, ◌^◌, ◌<◌, ◌≤◌, List, [], ◌∷◌, ◌++◌, length, get_or, drop, ap, sym, ◌∙◌, append_assoc, append-nil}
use Rattle.std.proofs.lemmas.List.{drop_more, drop_all}
use Rattle.rv_asm.specs.declared.assembled.Equate.{Equate}
use Rattle.part_toml.specs.Parts.{numbered_equates}

module _ {X : Type 0} (f : ℕ → X → Equate) (xs : List X) (front : List Equate) where
  pub placed-more : (n i : ℕ) (x : X) → i < length xs → x ≡ get_or xs i x → front ++ f n x ∷ [] ++ numbered_equates f ((n + 1) % 2 ^ 32) (drop (i + 1) xs) ≡ front ++ numbered_equates f n (drop i xs)
  placed-more n i x h e =
      append_assoc front (f n x ∷ []) (numbered_equates f ((n + 1) % 2 ^ 32) (drop (i + 1) xs))
      ∙ ap (λ ys. front ++ numbered_equates f n ys) (sym (drop_more xs i x h ∙ ap (λ y. y ∷ drop (i + 1) xs) (sym e)))

  pub placed-end : (n i : ℕ) → length xs ≤ i → front ++ numbered_equates f n (drop i xs) ≡ front
  placed-end n i h = ap (λ ys. front ++ numbered_equates f n ys) (drop_all i xs h) ∙ append-nil front
