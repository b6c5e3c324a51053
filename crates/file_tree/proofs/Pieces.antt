-- The pieces of a text between its slashes, and the parts of a text that parts make.
use Rattle.std.proofs.Common.{◌≡◌, ℕ, ◌==◌, Bool, true, false, not, List, [], ◌∷◌, ◌++◌, filter, if◌then◌else◌, refl, ap, ◌∙◌}
use Rattle.std.specs.List.{onto_first}
use Rattle.wedge_base.specs.Names.{same}
use Rattle.wedge_base.specs.Paths.{pieces, parts_of, after_slashes, text_of}

-- no byte is a slash
abbrev pub HasNoSlash : List ℕ → Type 0
HasNoSlash [] = Unit {0}
HasNoSlash (b ∷ bs) = ((b == 47) ≡ false) × HasNoSlash bs

-- no piece has a slash
abbrev pub ArePieces : List (List ℕ) → Type 0
ArePieces [] = Unit {0}
ArePieces (p ∷ ps) = HasNoSlash p × ArePieces ps

-- pieces that are not empty
abbrev pub AreParts : List (List ℕ) → Type 0
AreParts [] = Unit {0}
AreParts (p ∷ ps) = ((same p [] ≡ false) × HasNoSlash p) × AreParts ps

ArePieces-onto : (b : ℕ) (ps : List (List ℕ)) → (b == 47) ≡ false → ArePieces ps → ArePieces (onto_first b ps)
ArePieces-onto b [] h k = ((h, tt), tt)
ArePieces-onto b (p ∷ ps) h k = ((h, k.0), k.1)

ArePieces-if : (b : ℕ) (t : Bool) (ps : List (List ℕ)) → (b == 47) ≡ t → ArePieces ps → ArePieces (if t then [] ∷ ps else onto_first b ps)
ArePieces-if b true ps h k = (tt, k)
ArePieces-if b false ps h k = ArePieces-onto b ps h k

pub ArePieces-pieces : (bs : List ℕ) → ArePieces (pieces bs)
ArePieces-pieces [] = (tt, tt)
ArePieces-pieces (b ∷ bs) = ArePieces-if b (b == 47) (pieces bs) refl (ArePieces-pieces bs)

AreParts-if : (p : List ℕ) (t : Bool) (ps : List (List ℕ)) → same p [] ≡ t → HasNoSlash p → AreParts ps → AreParts (if not t then p ∷ ps else ps)
AreParts-if p true ps h n k = k
AreParts-if p false ps h n k = ((h, n), k)

AreParts-filter : (ps : List (List ℕ)) → ArePieces ps → AreParts (filter (λ p. not (same p [])) ps)
AreParts-filter [] h = tt
AreParts-filter (p ∷ ps) h = AreParts-if p (same p []) (filter (λ q. not (same q [])) ps) refl h.0 (AreParts-filter ps h.1)

-- the parts of a path are parts
pub AreParts-parts_of : (path : List ℕ) → AreParts (parts_of path)
AreParts-parts_of path = AreParts-filter (pieces path) (ArePieces-pieces path)

pub AreParts-append : (ps qs : List (List ℕ)) → AreParts ps → AreParts qs → AreParts (ps ++ qs)
AreParts-append [] qs h k = k
AreParts-append (p ∷ ps) qs h k = (h.0, AreParts-append ps qs h.1 k)

pieces-slash : (p bs : List ℕ) → HasNoSlash p → pieces (p ++ 47 ∷ bs) ≡ p ∷ pieces bs
pieces-slash [] bs h = refl
pieces-slash (b ∷ p) bs h = rw (h.0, pieces-slash p bs h.1)

pieces-none : (p : List ℕ) → HasNoSlash p → pieces p ≡ p ∷ []
pieces-none [] h = refl
pieces-none (b ∷ p) h = rw (h.0, pieces-none p h.1)

append-nil : (p : List ℕ) → p ++ [] ≡ p
append-nil [] = refl
append-nil (b ∷ p) = ap (λ x. b ∷ x) (append-nil p)

pub pieces-joined : (p : List ℕ) (ps : List (List ℕ)) → HasNoSlash p → AreParts ps → pieces (p ++ after_slashes ps) ≡ p ∷ ps
pieces-joined p [] h k = ap pieces (append-nil p) ∙ pieces-none p h
pieces-joined p (q ∷ ps) h k = pieces-slash p (q ++ after_slashes ps) h ∙ ap (λ x. p ∷ x) (pieces-joined q ps k.0.1 k.1)

filter-parts : (ps : List (List ℕ)) → AreParts ps → filter (λ p. not (same p [])) ps ≡ ps
filter-parts [] h = refl
filter-parts (p ∷ ps) h = rw h.0.0 (ap (λ x. p ∷ x) (filter-parts ps h.1))

-- parts are the parts of their text
pub parts_of-text_of : (ps : List (List ℕ)) → AreParts ps → parts_of (text_of ps) ≡ ps
parts_of-text_of [] h = refl
parts_of-text_of (p ∷ ps) h = ap (λ x. filter (λ q. not (same q [])) ([] ∷ x)) (pieces-joined p ps h.0.1 h.1) ∙ filter-parts (p ∷ ps) h
