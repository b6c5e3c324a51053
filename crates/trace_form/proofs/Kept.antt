-- What stays of a text when more was appended to it and is cut off again.
use Rattle.std.proofs.Common.{◌≡◌, ℕ, List, ◌++◌, length, take}
use Rattle.std.proofs.Math.Seq.{take-length, take-append_seam}

pub all_kept : (xs : List ℕ) → take (length xs) xs ≡ xs
all_kept xs = take-length xs

pub front_kept : (xs ys : List ℕ) → take (length xs) (xs ++ ys) ≡ xs
front_kept xs ys = take-append_seam xs ys
