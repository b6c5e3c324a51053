-- Writing one part after another.
use Rattle.std.proofs.Common.{◌≡◌, ℕ, List, [], ◌∷◌, ◌++◌, sym, ap, ◌∙◌, append_assoc}
use Rattle.std.specs.List.{concat}
use Rattle.std.proofs.lemmas.List.{append-nil}

concat-push : (parts : List (List ℕ)) (part : List ℕ) → concat (parts ++ part ∷ []) ≡ concat parts ++ part
concat-push [] part = append-nil part
concat-push (p ∷ parts) part = ap (λ x. p ++ x) (concat-push parts part) ∙ sym (append_assoc p (concat parts) part)

-- these parts, one after another, are what was written
pub record AreAppended (parts : List (List ℕ)) (out : List ℕ) : Type 0 where
  pub is : out ≡ concat parts

pub put_more : {parts : List (List ℕ)} {out new : List ℕ} (part : List ℕ) → AreAppended parts out → new ≡ out ++ part → AreAppended (parts ++ part ∷ []) new
put_more {parts} part so_far e = record { is = e ∙ ap (λ x. x ++ part) so_far.is ∙ sym (concat-push parts part) }
