-- One more equate at the end of a list.
use Rattle.std.proofs.Common.{◌≡◌, ℕ, Bool, true, false, cond, List, [], ◌∷◌, ◌++◌, Option, Some, None, is_some, refl, ap, sym, ◌∙◌}
use Rattle.std.specs.Str.{bytes_eq}
use Rattle.std.proofs.lemmas.Slice.Eq.{bytes_eq-Decides}
use Rattle.rv_asm.specs.declared.assembled.Equate.{Equate}
use Rattle.rv_asm.specs.Assembly.{equates_of}

or_value : Option ℕ → Option ℕ → Option ℕ
or_value (Some x) other = Some x
or_value None other = other

push_at : (b : Bool) (v : ℕ) (rest other : Option ℕ) → cond b (Some v) (or_value rest other) ≡ or_value (cond b (Some v) rest) other
unfolding or_value
push_at true v rest other = refl
push_at false v rest other = refl

equates_of_push : (front : List Equate) (e : Equate) (q : List ℕ) → equates_of (front ++ e ∷ []) q ≡ or_value (equates_of front q) (cond (bytes_eq e.name q) (Some e.value) None)
unfolding or_value
equates_of_push [] e q = refl
equates_of_push (x ∷ xs) e q =
    ap (λ r. cond (bytes_eq x.name q) (Some x.value) r) (equates_of_push xs e q)
    ∙ push_at (bytes_eq x.name q) x.value (equates_of xs q) (cond (bytes_eq e.name q) (Some e.value) None)

skip_at : (o : Option ℕ) (b : Bool) (v : ℕ) → (b ≡ true → is_some o ≡ true) → or_value o (cond b (Some v) None) ≡ o
unfolding or_value
skip_at (Some x) b v h = refl
skip_at None false v h = refl
skip_at None true v h = absurd (cc (h refl))

add_at : (o : Option ℕ) (b : Bool) (v : ℕ) → (b ≡ true → is_some o ≡ false) → or_value o (cond b (Some v) None) ≡ cond b (Some v) o
unfolding or_value
add_at None b v h = refl
add_at (Some x) false v h = refl
add_at (Some x) true v h = absurd (cc (h refl))

-- a name that is there keeps its value
pub skipped : (front : List Equate) (e : Equate) → is_some (equates_of front e.name) ≡ true → (q : List ℕ) → equates_of (front ++ e ∷ []) q ≡ equates_of front q
skipped front e there q =
    equates_of_push front e q
    ∙ skip_at (equates_of front q) (bytes_eq e.name q) e.value (λ b. ap (λ n. is_some (equates_of front n)) (sym ((bytes_eq-Decides e.name q).0 b)) ∙ there)

-- a name that is not there gets one
pub added : (front : List Equate) (e : Equate) → is_some (equates_of front e.name) ≡ false → (q : List ℕ) → equates_of (front ++ e ∷ []) q ≡ cond (bytes_eq e.name q) (Some e.value) (equates_of front q)
added front e away q =
    equates_of_push front e q
    ∙ add_at (equates_of front q) (bytes_eq e.name q) e.value (λ b. ap (λ n. is_some (equates_of front n)) (sym ((bytes_eq-Decides e.name q).0 b)) ∙ away)
