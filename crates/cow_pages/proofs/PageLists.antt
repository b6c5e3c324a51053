-- Shared pages and lists of pages, and the bytes of both.
use Rattle.std.proofs.Common.{◌≡◌, ℕ, zero, suc, ◌+◌, ◌-◌, ◌*◌, ◌/◌, ◌%◌, ◌<◌, List, [], ◌∷◌, ◌++◌, length, get_or, map, take, drop, refl, sym, ap, ◌∙◌, arith, slice_range}
use Rattle.std.specs.Arc.{arc_value}
use Rattle.std.specs.declared.sync.Arc.{Arc}
use Rattle.std.specs.List.{concat}
use Rattle.std.proofs.lemmas.List.{take_all, take_more, map-append, length-map}
use Rattle.wedge_base.specs.Images.{page}
use Rattle.wedge_base.specs.Pages.{PageAt, page_of, pages_before, pages_of}
use Rattle.cow_pages.specs.Listed.{bytes_listed}
use Rattle.cow_pages.specs.SharedPages.{HaveLength, contents, bytes_in}
use Rattle.cow_pages.proofs.ListPieces.{take_further}
use Rattle.cow_pages.proofs.PaddedContent.{concat-push}
use Rattle.cow_pages.proofs.PageOffsets.{read_page}
use Rattle.cow_pages.proofs.SharedPages.{length-bytes_in, content_at, whole_at}

-- the page at an index is that part of the bytes
page_there : {Z : Type 0} (ps : List (Arc (List ℕ) Z)) (i : ℕ) (a : Arc (List ℕ) Z) → HaveLength page (contents ps) → i < length ps → a ≡ get_or ps i a → slice_range (bytes_in ps) (i * page) (i * page + page) ≡ arc_value a
page_there ps i a h l e =
    let n : length (contents ps) ≡ length ps = length-map ps arc_value in
    let size : i * page + page - i * page ≡ page = omega arith in
    let start : i * page + 0 ≡ i * page = omega arith in
    let whole : length (arc_value a) ≡ page = whole_at ps i a h l e in
    ap (λ (w : ℕ). take w (drop (i * page) (bytes_in ps))) size
    ∙ ap (λ (k : ℕ). take page (drop k (bytes_in ps))) (sym start)
    ∙ read_page page (contents ps) i 0 page (arc_value a) h (omega arith) (omega arith)
    ∙ ap (take page) (content_at ps i a l e)
    ∙ take_all page (arc_value a) (omega arith)

-- one page more
pub next_listed : {Z : Type 0} (ps : List (Arc (List ℕ) Z)) (i : ℕ) (a : Arc (List ℕ) Z) → HaveLength page (contents ps) → i < length ps → a ≡ get_or ps i a → pages_before (bytes_in ps) (i + 1) ≡ pages_before (bytes_in ps) i ++ record { place = i; bytes = arc_value a } ∷ []
next_listed ps i a h l e =
    let next : i + 1 ≡ suc i = omega arith in
    rw next (ap (λ (b : List ℕ). pages_before (bytes_in ps) i ++ record { place = i; bytes = b } ∷ []) (page_there ps i a h l e))

pub all_listed : {Z : Type 0} (ps : List (Arc (List ℕ) Z)) → HaveLength page (contents ps) → pages_before (bytes_in ps) (length ps) ≡ pages_of (bytes_in ps)
unfolding pages_of
all_listed ps h =
    let count : length ps ≡ length (bytes_in ps) / page = omega (arith, length-bytes_in ps h) in
    ap (pages_before (bytes_in ps)) count

-- the pages of a list, one more
pub next_taken : {Z : Type 0} (ps : List (Arc (List ℕ) Z)) (list : List PageAt) (i : ℕ) (a : Arc (List ℕ) Z) (p : PageAt) → i < length list → p ≡ get_or list i p → arc_value a ≡ p.bytes → contents ps ≡ map (λ q. q.bytes) (take i list) → contents (ps ++ a ∷ []) ≡ map (λ q. q.bytes) (take (i + 1) list)
next_taken ps list i a p l e v so_far =
    let held : List (List ℕ) = map (λ (q : PageAt). q.bytes) (take i list) in
    map-append arc_value ps (a ∷ [])
    ∙ ap (λ (z : List (List ℕ)). z ++ arc_value a ∷ []) so_far
    ∙ ap (λ (b : List ℕ). held ++ b ∷ []) (v ∙ ap (λ (q : PageAt). q.bytes) e)
    ∙ sym (map-append (λ (q : PageAt). q.bytes) (take i list) (get_or list i p ∷ []))
    ∙ ap (map (λ (q : PageAt). q.bytes)) (sym (take_more list i p l))

-- the pages of bytes before an index, one after another
listed_before : (b : List ℕ) (k : ℕ) → bytes_listed (pages_before b k) ≡ take (k * page) b
listed_before b zero = refl
listed_before b (suc k) =
    let next : suc k * page ≡ k * page + page = omega arith in
    let size : k * page + page - k * page ≡ page = omega arith in
    let part = slice_range b (k * page) (k * page + page) in
    ap concat (map-append (λ (p : PageAt). p.bytes) (pages_before b k) (page_of b k ∷ []))
    ∙ concat-push (map (λ (p : PageAt). p.bytes) (pages_before b k)) part
    ∙ ap (λ (z : List ℕ). z ++ part) (listed_before b k)
    ∙ ap (λ (w : ℕ). take (k * page) b ++ take w (drop (k * page) b)) size
    ∙ sym (take_further b (k * page) page)
    ∙ ap (λ (m : ℕ). take m b) (sym next)

pub bytes_of_snap : (b : List ℕ) → length b % page ≡ 0 → bytes_listed (pages_of b) ≡ b
unfolding pages_of
bytes_of_snap b whole = listed_before b (length b / page) ∙ take_all (length b / page * page) b (omega arith)
