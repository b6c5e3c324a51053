-- Spaces and tabs at the end of a text.
use Rattle.std.proofs.Common.{◌≡◌, ℕ, ◌-◌, ◌<◌, Bool, true, false, cond, List, [], ◌∷◌, ◌++◌, length, get_or, take, reverse, refl, sym, ap, ◌∙◌, arith}
use Rattle.std.proofs.lemmas.List.{reverse-append, reverse-reverse}
use Rattle.std.proofs.lemmas.Grind.{common_steps}
use Rattle.rv_asm.specs.Lexing.{is_blank, trim_start, trim_end}

-- a text with a byte at its end
trim_end_push : (t : List ℕ) (c : ℕ) → trim_end (t ++ c ∷ []) ≡ cond (is_blank c) (trim_end t) (t ++ c ∷ [])
unfolding trim_end
trim_end_push t c = rw (reverse-append t (c ∷ [])) (by_blank (is_blank c))
  where
    by_blank : (b : Bool) → reverse (cond b (trim_start (reverse t)) (c ∷ reverse t)) ≡ cond b (reverse (trim_start (reverse t))) (t ++ c ∷ [])
    by_blank true = refl
    by_blank false = rw (← reverse-append t (c ∷ [])) (reverse-reverse (t ++ c ∷ []))

-- a text that is not empty, with its last byte apart
last_apart : (t : List ℕ) → 0 < length t → t ≡ take (length t - 1) t ++ get_or t (length t - 1) 0 ∷ []
last_apart t h = grind (arith, common_steps)

pub trim_end_blank : (t : List ℕ) → 0 < length t → is_blank (get_or t (length t - 1) 0) ≡ true → trim_end (take (length t - 1) t) ≡ trim_end t
trim_end_blank t h b =
    let e = trim_end_push (take (length t - 1) t) (get_or t (length t - 1) 0) in
    sym (ap trim_end (last_apart t h) ∙ rw b at e)

pub trim_end_other : (t : List ℕ) → 0 < length t → is_blank (get_or t (length t - 1) 0) ≡ false → t ≡ trim_end t
trim_end_other t h b =
    let e = trim_end_push (take (length t - 1) t) (get_or t (length t - 1) 0) in
    last_apart t h ∙ sym (ap trim_end (last_apart t h) ∙ rw b at e)

pub trim_end_none : (t : List ℕ) → length t < 1 → t ≡ trim_end t
unfolding trim_end
trim_end_none [] h = refl
trim_end_none (c ∷ cs) h = absurd (omega arith)
