-- Shared pages, seen through the pointers to them.
use Rattle.std.proofs.Common.{◌≡◌, ℕ, ◌+◌, ◌*◌, ◌/◌, ◌%◌, ◌<◌, ◌≤◌, List, [], ◌∷◌, length, get_or, set, refl, sym, ap, ◌∙◌, arith, slice_range}
use Rattle.std.specs.Arc.{arc_value}
use Rattle.std.specs.declared.sync.Arc.{Arc}
use Rattle.std.specs.List.{concat, AllZip}
use Rattle.std.proofs.lemmas.List.{length-map, map-set, set-get_or, get_or-map}
use Rattle.wedge_base.specs.Bytes.{overwrite}
use Rattle.wedge_base.specs.Images.{page}
use Rattle.cow_pages.specs.SharedPages.{HaveLength, contents, bytes_in}
use Rattle.cow_pages.proofs.PageOffsets.{length-concat, length-get_or, HaveLength-set, read_at_offset, write_at_offset}

module _ {Z : Type 0} where
  pub length-bytes_in : (ps : List (Arc (List ℕ) Z)) → HaveLength page (contents ps) → length (bytes_in ps) ≡ length ps * page
  length-bytes_in ps h = length-concat page (contents ps) h ∙ ap (λ (k : ℕ). k * page) (length-map ps arc_value)

  -- the page at an index
  pub content_at : (ps : List (Arc (List ℕ) Z)) (i : ℕ) (a : Arc (List ℕ) Z) → i < length ps → a ≡ get_or ps i a → get_or (contents ps) i (arc_value a) ≡ arc_value a
  content_at ps i a l e = get_or-map arc_value ps i a (arc_value a) l ∙ ap arc_value (sym e)

  -- what is read in a page
  pub read_shared : (ps : List (Arc (List ℕ) Z)) (offset width : ℕ) (a : Arc (List ℕ) Z) → HaveLength page (contents ps) → offset / page < length ps → offset % page + width ≤ page → a ≡ get_or ps (offset / page) a → slice_range (bytes_in ps) offset (offset + width) ≡ slice_range (arc_value a) (offset % page) (offset % page + width)
  read_shared ps offset width a h l b e =
      let n : length (contents ps) ≡ length ps = length-map ps arc_value in
      read_at_offset (contents ps) offset width (arc_value a) h (omega arith) b
      ∙ ap (λ (p : List ℕ). slice_range p (offset % page) (offset % page + width)) (content_at ps (offset / page) a l e)

  -- what a write in a page makes of the whole
  pub write_shared : (ps : List (Arc (List ℕ) Z)) (offset : ℕ) (new : List ℕ) (a b : Arc (List ℕ) Z) → HaveLength page (contents ps) → offset / page < length ps → offset % page + length new ≤ page → a ≡ get_or ps (offset / page) a → arc_value b ≡ overwrite (arc_value a) (offset % page) new → bytes_in (set ps (offset / page) b) ≡ overwrite (bytes_in ps) offset new
  write_shared ps offset new a b h l w e v =
      let n : length (contents ps) ≡ length ps = length-map ps arc_value in
      ap concat (map-set arc_value ps (offset / page) b ∙ ap (set (contents ps) (offset / page)) (v ∙ ap (λ (p : List ℕ). overwrite p (offset % page) new) (sym (content_at ps (offset / page) a l e))))
      ∙ sym (write_at_offset (contents ps) offset new (arc_value a) h (omega arith) w)

  -- another pointer to the same content
  pub same_shared : (ps : List (Arc (List ℕ) Z)) (i : ℕ) (a b : Arc (List ℕ) Z) → i < length ps → a ≡ get_or ps i a → arc_value b ≡ arc_value a → contents (set ps i b) ≡ contents ps
  same_shared ps i a b l e v =
      map-set arc_value ps i b ∙ ap (set (contents ps) i) (v ∙ sym (content_at ps i a l e)) ∙ set-get_or (contents ps) i (arc_value a)

  pub whole_shared : (ps : List (Arc (List ℕ) Z)) (i : ℕ) (b : Arc (List ℕ) Z) → HaveLength page (contents ps) → length (arc_value b) ≡ page → HaveLength page (contents (set ps i b))
  whole_shared ps i b h l = rw (map-set arc_value ps i b) (HaveLength-set page (contents ps) i (arc_value b) h l)

  -- pointers to the same pages
  pub cloned : (ps qs : List (Arc (List ℕ) Z)) → AllZip (λ (a b : Arc (List ℕ) Z). arc_value b ≡ arc_value a) ps qs → contents qs ≡ contents ps
  cloned [] [] h = refl
  cloned [] (q ∷ qs) h = absurd h
  cloned (p ∷ ps) [] h = absurd h
  cloned (p ∷ ps) (q ∷ qs) h = let e = cloned ps qs h.1 in let f : arc_value q ≡ arc_value p = h.0 in cc

  pub whole_at : (ps : List (Arc (List ℕ) Z)) (i : ℕ) (a : Arc (List ℕ) Z) → HaveLength page (contents ps) → i < length ps → a ≡ get_or ps i a → length (arc_value a) ≡ page
  whole_at ps i a h l e = let n : length (contents ps) ≡ length ps = length-map ps arc_value in ap length (sym (content_at ps i a l e)) ∙ length-get_or page (contents ps) i (arc_value a) h (omega arith)
