-- Content with zeros behind it, page by page.
use Rattle.std.proofs.Common.{◌≡◌, ℕ, ◌+◌, ◌-◌, ◌*◌, ◌<◌, ◌≤◌, List, [], ◌∷◌, ◌++◌, length, take, drop, replicate, sym, ap, ◌∙◌, arith, slice_range}
use Rattle.std.specs.Arc.{arc_value}
use Rattle.std.specs.declared.sync.Arc.{Arc}
use Rattle.std.specs.List.{concat}
use Rattle.std.proofs.lemmas.List.{append_assoc, append-nil, map-append, length-append, length-take, length-drop, take-replicate, drop-replicate, length-replicate}
use Rattle.wedge_base.specs.Bytes.{zeros}
use Rattle.wedge_base.specs.Images.{page}
use Rattle.cow_pages.specs.SharedPages.{HaveLength, contents, bytes_in, zero_padded, page_from}
use Rattle.cow_pages.proofs.PageOffsets.{HaveLength-push}
use Rattle.cow_pages.proofs.ListPieces.{drop_over, take_over, take_further}

zeros_piece : (m j k : ℕ) → k ≤ m - j → take {A = ℕ} k (drop j (replicate m 0)) ≡ replicate k 0
zeros_piece m j k h = ap (take k) (drop-replicate j m 0) ∙ take-replicate k (m - j) 0 h

-- a piece of padded content is a padded piece of it
pub zero_padded_piece : (content : List ℕ) (m a n : ℕ) → a + n ≤ length content + m → take n (drop a (content ++ zeros m)) ≡ zero_padded (take n (drop a content)) n
unfolding zeros
zero_padded_piece content m a n h =
    let len : length (drop a content) ≡ length content - a = length-drop a content in
    let cut = length-take n (drop a content) in
    let few : n - length (drop a content) ≤ m - (a - length content) = omega arith in
    let rest : n - length (drop a content) ≡ n - length (take n (drop a content)) = omega arith in
    ap (take n) (drop_over content (replicate m 0) a)
    ∙ take_over (drop a content) (drop (a - length content) (replicate m 0)) n
    ∙ ap (λ (q : List ℕ). take n (drop a content) ++ q) (zeros_piece m (a - length content) (n - length (drop a content)) few ∙ ap (λ (j : ℕ). replicate {A = ℕ} j 0) rest)

pub length-zeros : (n : ℕ) → length (zeros n) ≡ n
unfolding zeros
length-zeros n = length-replicate n 0

pub length-zero_padded : (content : List ℕ) (size : ℕ) → length content ≤ size → length (zero_padded content size) ≡ size
length-zero_padded content size h = omega (arith, length-append content (zeros (size - length content)), length-zeros (size - length content))

pub length-page_from : (content : List ℕ) (start : ℕ) → length (page_from content start) ≡ page
length-page_from content start =
    let piece = slice_range content start (start + page) in
    let cut = length-take (start + page - start) (drop start content) in
    length-zero_padded piece page (omega arith)

-- one page more
pub next_page : (content : List ℕ) (count k : ℕ) → length content ≤ count * page → k < count → take ((k + 1) * page) (zero_padded content (count * page)) ≡ take (k * page) (zero_padded content (count * page)) ++ page_from content (k * page)
next_page content count k h l =
    let e : (k + 1) * page ≡ k * page + page = omega arith in
    let w : k * page + page - k * page ≡ page = omega arith in
    rw (e, w) (take_further (zero_padded content (count * page)) (k * page) page
    ∙ ap (λ (z : List ℕ). take (k * page) (zero_padded content (count * page)) ++ z) (zero_padded_piece content (count * page - length content) (k * page) page (omega arith)))

pub concat-push : (ps : List (List ℕ)) (p : List ℕ) → concat (ps ++ p ∷ []) ≡ concat ps ++ p
concat-push [] p = append-nil p
concat-push (q ∷ ps) p = ap (λ (z : List ℕ). q ++ z) (concat-push ps p) ∙ sym (append_assoc q (concat ps) p)

module _ {Z : Type 0} where
  pub bytes_in-push : (ps : List (Arc (List ℕ) Z)) (a : Arc (List ℕ) Z) → bytes_in (ps ++ a ∷ []) ≡ bytes_in ps ++ arc_value a
  bytes_in-push ps a = ap concat (map-append arc_value ps (a ∷ [])) ∙ concat-push (contents ps) (arc_value a)

  pub whole-push : (ps : List (Arc (List ℕ) Z)) (a : Arc (List ℕ) Z) → HaveLength page (contents ps) → length (arc_value a) ≡ page → HaveLength page (contents (ps ++ a ∷ []))
  whole-push ps a h l = rw (map-append arc_value ps (a ∷ [])) (HaveLength-push page (contents ps) (arc_value a) h l)
