-- Lists of bytes that begin alike, piece by piece.
use Rattle.std.proofs.Common.{◌≡◌, ◌≢◌, ℕ, ◌+◌, ◌-◌, ◌≤◌, Bool, true, false, ◌↔◌, nat_eq, List, ◌++◌, length, take, drop, sym, ap, ◌∙◌, arith, slice_range}
use Rattle.std.proofs.lemmas.Bool.Decides.{Decides-eqb, same_from_decides}
use Rattle.std.proofs.lemmas.List.{take_all}
use Rattle.std.specs.Cmp.Lexicographic.{pointwise, bytes_decides, as_long}
use Rattle.cow_pages.proofs.ListPieces.{take_further}
use Rattle.cow_pages.proofs.RangeFronts.{read_front}

piece : (xs : List ℕ) (k n : ℕ) → slice_range xs k (k + n) ≡ take n (drop k xs)
piece xs k n = let same : k + n - k ≡ n = omega arith in ap (λ m. take m (drop k xs)) same

-- equal up to here, and in the next piece: equal up to its end
pub begin_further : (xs ys : List ℕ) (k n : ℕ) → take k xs ≡ take k ys → slice_range xs k (k + n) ≡ slice_range ys k (k + n) → take (k + n) xs ≡ take (k + n) ys
begin_further xs ys k n before next =
    let here : take n (drop k xs) ≡ take n (drop k ys) = sym (piece xs k n) ∙ next ∙ piece ys k n in
    take_further xs k n ∙ ap (λ z. z ++ take n (drop k xs)) before ∙ ap (λ z. take k ys ++ z) here ∙ sym (take_further ys k n)

-- where they begin alike, so does each piece
pub piece_alike : (xs ys : List ℕ) (size k n : ℕ) → size ≤ length xs → size ≤ length ys → k + n ≤ size → take size xs ≡ take size ys → slice_range xs k (k + n) ≡ slice_range ys k (k + n)
piece_alike xs ys size k n a b fits same =
    read_front xs size k n a fits ∙ ap (λ z. slice_range z k (k + n)) same ∙ sym (read_front ys size k n b fits)

-- a piece that differs
pub begin_apart : (xs ys : List ℕ) (size k n : ℕ) (alike : Bool) → size ≤ length xs → size ≤ length ys → k + n ≤ size → (alike ≡ true) ↔ (slice_range xs k (k + n) ≡ slice_range ys k (k + n)) → alike ≡ false → (false ≡ true) ↔ (take size xs ≡ take size ys)
begin_apart xs ys size k n alike a b fits is apart =
    (λ (e : false ≡ true). absurd cc, λ same. let here = is.1 (piece_alike xs ys size k n a b fits same) in sym apart ∙ here)

-- lists of one length, and of two
pub whole_alike : (xs ys : List ℕ) (size : ℕ) (alike : Bool) → size ≡ length xs → size ≡ length ys → (alike ≡ true) ↔ (take size xs ≡ take size ys) → alike ≡ pointwise nat_eq xs ys
whole_alike xs ys size alike a b is =
    let all = take_all size xs (omega arith) in
    let others = take_all size ys (omega arith) in
    same_from_decides alike (pointwise nat_eq xs ys) (λ e. sym all ∙ is.0 e ∙ others, λ e. is.1 (all ∙ e ∙ sym others)) (bytes_decides xs ys)

pub lengths_apart : (xs ys : List ℕ) (m n : ℕ) → m ≡ length xs → n ≡ length ys → m ≢ n → nat_eq m n ≡ pointwise nat_eq xs ys
lengths_apart xs ys m n a b apart =
    same_from_decides (nat_eq m n) (pointwise nat_eq xs ys) (Decides-eqb m n) (λ h. a ∙ as_long nat_eq xs ys h ∙ sym b, λ e. absurd (apart e))
