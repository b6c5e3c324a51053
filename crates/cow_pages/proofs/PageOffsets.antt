-- An offset in a page, and in the bytes of all pages.
use Rattle.std.proofs.Common.{◌≡◌, ◌⊎◌, inl, inr, ℕ, zero, suc, ◌+◌, ◌-◌, ◌*◌, ◌/◌, ◌%◌, ◌<◌, ◌≤◌, List, [], ◌∷◌, ◌++◌, length, get_or, take, drop, set, refl, sym, ap, ◌∙◌, subst, arith, slice_range}
use Rattle.std.specs.List.{concat}
use Rattle.std.proofs.lemmas.List.{append_assoc, length-append, take-append-le, drop-append-le, length-drop, length-take}
use Rattle.std.proofs.Math.Seq.{take-append-add, drop-append-add}
use Rattle.std.proofs.lemmas.Nat.{div-add-mod'}
use Rattle.wedge_base.specs.Bytes.{overwrite, bytes_of}
use Rattle.wedge_base.specs.Images.{page}
use Rattle.cow_pages.specs.SharedPages.{HaveLength}

pub length-concat : (n : ℕ) (ps : List (List ℕ)) → HaveLength n ps → length (concat ps) ≡ length ps * n
length-concat n [] h = omega arith
length-concat n (p ∷ ps) h = let e = length-concat n ps h.1 in omega (arith, length-append p (concat ps), h.0)

pub length-get_or : (n : ℕ) (ps : List (List ℕ)) (i : ℕ) (d : List ℕ) → HaveLength n ps → i < length ps → length (get_or ps i d) ≡ n
length-get_or n [] i d h l = absurd (omega arith)
length-get_or n (p ∷ ps) zero d h l = h.0
length-get_or n (p ∷ ps) (suc i) d h l = length-get_or n ps i d h.1 (omega arith)

pub HaveLength-set : (n : ℕ) (ps : List (List ℕ)) (i : ℕ) (p : List ℕ) → HaveLength n ps → length p ≡ n → HaveLength n (set ps i p)
HaveLength-set n [] i p h l = h
HaveLength-set n (q ∷ ps) zero p h l = (l, h.1)
HaveLength-set n (q ∷ ps) (suc i) p h l = (h.0, HaveLength-set n ps i p h.1 l)

pub HaveLength-push : (n : ℕ) (ps : List (List ℕ)) (p : List ℕ) → HaveLength n ps → length p ≡ n → HaveLength n (ps ++ p ∷ [])
HaveLength-push n [] p h l = (l, tt)
HaveLength-push n (q ∷ ps) p h l = (h.0, HaveLength-push n ps p h.1 l)

-- past the first list
drop_past : (p q : List ℕ) (n k : ℕ) → length p ≡ n → drop (n + k) (p ++ q) ≡ drop k q
drop_past p q n k e = subst (λ (m : ℕ). drop (m + k) (p ++ q) ≡ drop k q) e (drop-append-add p q k)

take_past : (p q : List ℕ) (n k : ℕ) → length p ≡ n → take (n + k) (p ++ q) ≡ p ++ take k q
take_past p q n k e = subst (λ (m : ℕ). take (m + k) (p ++ q) ≡ p ++ take k q) e (take-append-add p q k)

-- a part of the first list
pub part_of_first : (p q : List ℕ) (a w : ℕ) → a + w ≤ length p → take w (drop a (p ++ q)) ≡ take w (drop a p)
part_of_first p q a w h =
    let l : w ≤ length (drop a p) = omega (arith, length-drop a p) in
    ap (take w) (drop-append-le a p q (omega arith)) ∙ take-append-le w (drop a p) q l

pub read_page : (n : ℕ) (ps : List (List ℕ)) (i a w : ℕ) (d : List ℕ) → HaveLength n ps → i < length ps → a + w ≤ n → take w (drop (i * n + a) (concat ps)) ≡ take w (drop a (get_or ps i d))
read_page n [] i a w d h l b = absurd (omega arith)
read_page n (p ∷ ps) zero a w d h l b =
    let e : zero * n + a ≡ a = omega arith in
    rw e (part_of_first p (concat ps) a w (omega (arith, h.0)))
read_page n (p ∷ ps) (suc i) a w d h l b =
    let e : suc i * n + a ≡ n + (i * n + a) = omega arith in
    rw e (ap (take w) (drop_past p (concat ps) n (i * n + a) h.0) ∙ read_page n ps i a w d h.1 (omega arith) b)

-- written in the first list
pub written_first : (p q : List ℕ) (a : ℕ) (new : List ℕ) → a + length new ≤ length p → overwrite (p ++ q) a new ≡ overwrite p a new ++ q
written_first p q a new h =
    let t = take-append-le a p q (omega arith) in
    let d = drop-append-le (a + length new) p q h in
    rw (t, d) (sym (append_assoc (take a p ++ new) (drop (a + length new) p) q))

-- written past the first list
written_past : (p q : List ℕ) (n k : ℕ) (new : List ℕ) → length p ≡ n → overwrite (p ++ q) (n + k) new ≡ p ++ overwrite q k new
written_past p q n k new e =
    let t = take_past p q n k e in
    let s : n + k + length new ≡ n + (k + length new) = omega arith in
    let d : drop (n + k + length new) (p ++ q) ≡ drop (k + length new) q = rw s (drop_past p q n (k + length new) e) in
    rw (t, d) (ap (λ (z : List ℕ). z ++ drop (k + length new) q) (append_assoc p (take k q) new) ∙ append_assoc p (take k q ++ new) (drop (k + length new) q))

pub write_page : (n : ℕ) (ps : List (List ℕ)) (i a : ℕ) (new : List ℕ) (d : List ℕ) → HaveLength n ps → i < length ps → a + length new ≤ n → overwrite (concat ps) (i * n + a) new ≡ concat (set ps i (overwrite (get_or ps i d) a new))
write_page n [] i a new d h l b = absurd (omega arith)
write_page n (p ∷ ps) zero a new d h l b =
    let e : zero * n + a ≡ a = omega arith in
    rw e (written_first p (concat ps) a new (omega (arith, h.0)))
write_page n (p ∷ ps) (suc i) a new d h l b =
    let e : suc i * n + a ≡ n + (i * n + a) = omega arith in
    rw e (written_past p (concat ps) n (i * n + a) new h.0 ∙ ap (λ (z : List ℕ). p ++ z) (write_page n ps i a new d h.1 (omega arith) b))

-- what is written keeps the length
pub length-written : (p : List ℕ) (a : ℕ) (new : List ℕ) → a + length new ≤ length p → length (overwrite p a new) ≡ length p
length-written p a new h = omega (arith, length-append (take a p ++ new) (drop (a + length new) p), length-append (take a p) new, length-take a p, length-drop (a + length new) p)

pub length-bytes_of : (k n : ℕ) → length (bytes_of k n) ≡ k
length-bytes_of zero n = refl
length-bytes_of (suc k) n = ap suc (length-bytes_of k (n / 256))

-- an aligned access lies in one page
pub in_one_page : (offset width : ℕ) → (width ≡ 1) ⊎ (width ≡ 2) ⊎ (width ≡ 4) → offset % width ≡ 0 → offset % page + width ≤ page
in_one_page offset width (inl w) e = omega arith
in_one_page offset width (inr (inl w)) e = let even : offset % 2 ≡ 0 = rw w at e in omega arith
in_one_page offset width (inr (inr w)) e = let four : offset % 4 ≡ 0 = rw w at e in omega arith

-- an access to some bytes of the whole falls on one of the pages
pub on_some_page : (offset width count : ℕ) → 0 < width → offset + width ≤ count * page → offset / page < count
on_some_page offset width count w h = omega arith

pub width_positive : (width : ℕ) → (width ≡ 1) ⊎ (width ≡ 2) ⊎ (width ≡ 4) → 0 < width
width_positive width (inl w) = omega arith
width_positive width (inr (inl w)) = omega arith
width_positive width (inr (inr w)) = omega arith

-- bytes at an offset of the whole, read and written in one page
pub read_at_offset : (ps : List (List ℕ)) (offset width : ℕ) (d : List ℕ) → HaveLength page ps → offset / page < length ps → offset % page + width ≤ page → slice_range (concat ps) offset (offset + width) ≡ slice_range (get_or ps (offset / page) d) (offset % page) (offset % page + width)
read_at_offset ps offset width d h l b =
    let w : offset + width - offset ≡ width = omega arith in
    let v : offset % page + width - offset % page ≡ width = omega arith in
    let e : take width (drop (offset / page * page + offset % page) (concat ps)) ≡ take width (drop offset (concat ps)) = ap (λ (k : ℕ). take width (drop k (concat ps))) (div-add-mod' offset page) in
    rw (w, v) (sym e ∙ read_page page ps (offset / page) (offset % page) width d h l b)

pub write_at_offset : (ps : List (List ℕ)) (offset : ℕ) (new d : List ℕ) → HaveLength page ps → offset / page < length ps → offset % page + length new ≤ page → overwrite (concat ps) offset new ≡ concat (set ps (offset / page) (overwrite (get_or ps (offset / page) d) (offset % page) new))
write_at_offset ps offset new d h l b =
    let e : overwrite (concat ps) (offset / page * page + offset % page) new ≡ overwrite (concat ps) offset new = ap (λ (k : ℕ). overwrite (concat ps) k new) (div-add-mod' offset page) in
    sym e ∙ write_page page ps (offset / page) (offset % page) new d h l b

pub still_whole : (p : List ℕ) (offset width value n : ℕ) → offset + width ≤ n → length p ≡ n → length (overwrite p offset (bytes_of width value)) ≡ n
still_whole p offset width value n h l = let k = length-bytes_of width value in length-written p offset (bytes_of width value) (omega arith) ∙ l

pub kept_whole : (p : List ℕ) (offset : ℕ) (new : List ℕ) (n : ℕ) → offset + length new ≤ n → length p ≡ n → length (overwrite p offset new) ≡ n
kept_whole p offset new n h l = length-written p offset new (omega arith) ∙ l
