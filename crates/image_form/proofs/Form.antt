-- Forms: what a reader takes from the front of bytes is one encoding, and that encoding is read again.
use Rattle.std.proofs.Common.{◌≡◌, inl, inr, ℕ, ◌+◌, ◌<◌, Bool, true, false, List, [], ◌++◌, get_or, take, drop, Result, Ok, Err, refl, sym, ap, subst, ◌∙◌, append_assoc, arith}
use Rattle.std.proofs.lemmas.Bool.{cases_lt}
use Rattle.std.proofs.lemmas.List.{append-nil, get_or-drop, get_or-take, get_or_past, length-take}
use Rattle.image_form.specs.declared.fault.Fault.{Fault}
use Rattle.image_form.specs.declared.fault.Why.{Why}
use Rattle.image_form.specs.Reading.{◌>>=◌, Read, demand, place}

abbrev pub IsBytes : List ℕ → Type 0
IsBytes bytes = (i : ℕ) → get_or bytes i 0 < 256

pub IsBytes-drop : (n : ℕ) (bytes : List ℕ) → IsBytes bytes → IsBytes (drop n bytes)
IsBytes-drop n bytes h i = rw get_or-drop (h (n + i))

pub IsBytes-take : (n : ℕ) (bytes : List ℕ) → IsBytes bytes → IsBytes (take n bytes)
IsBytes-take n bytes h i =
    elim (cases_lt i n) [
      | inl lt ↦ rw (get_or-take n bytes i 0 lt) (h i)
      | inr le ↦ rw (get_or_past (take n bytes) i 0 (omega (arith, length-take n bytes))) (omega arith)
    ]

-- the value of a step that did not fail
pub bind_ok : {X Y : Type 0} (r : Read X) (next : X → List ℕ → Result Y Fault) (y : Y) → (r >>= next) ≡ Ok y → (a : X × List ℕ) × (r ≡ Ok a) × (next a.0 a.1 ≡ Ok y)
bind_ok (Ok a) next y e = (a, refl, e)
bind_ok (Err d) next y e = absurd cc

-- a test that did not fail
pub demand_ok : {Y : Type 0} (test : Bool) (at : ℕ) (why : Why) (next : Result Y Fault) (y : Y) → demand test at why next ≡ Ok y → (test ≡ true) × (next ≡ Ok y)
demand_ok true at why next y e = (refl, e)
demand_ok false at why next y e = absurd cc

abbrev done : {X : Type 0} → X → Result X Fault
done x = Ok x

pub ok_is : {X : Type 0} (x y : X) → done x ≡ done y → x ≡ y
ok_is x y e = cc

-- what a reader took from the front
pub record Takes (bytes text rest : List ℕ) : Type 0 where
  pub parts : bytes ≡ text ++ rest
  pub rest_fits : IsBytes rest

pub Takes-then : (bytes first mid second rest : List ℕ) → Takes bytes first mid → Takes mid second rest → Takes bytes (first ++ second) rest
Takes-then bytes first mid second rest a b = record { parts = a.parts ∙ ap (λ x. first ++ x) b.parts ∙ sym (append_assoc first second rest); rest_fits = b.rest_fits }

-- A reader, the encoding of what it reads, and what is so of each value that it reads.
pub record IsForm {X : Type 0} (read : List ℕ → Read X) (encode : X → List ℕ) (Good : X → Type 0) : Type 0 where
  pub takes : (bytes : List ℕ) (x : X) (rest : List ℕ) → IsBytes bytes → read bytes ≡ Ok (x, rest) → Takes bytes (encode x) rest × Good x
  pub again : (x : X) (rest : List ℕ) → Good x → read (encode x ++ rest) ≡ Ok (x, rest)

module _ {X Y : Type 0} where
  -- one field, and then others whose form hangs on it; what is read in the end has the field in it
  pub seq : {read : List ℕ → Read X} {encode : X → List ℕ} {Good : X → Type 0} (next : X → List ℕ → Read Y) (others : Y → List ℕ) (Rest : X → Y → Type 0) (field : Y → X)
      → IsForm read encode Good → ((x : X) → Good x → IsForm (next x) others (Rest x)) → ((x : X) (y : Y) → Good x → Rest x y → field y ≡ x)
      → IsForm (λ bytes. read bytes >>= next) (λ y. encode (field y) ++ others y) (λ y. Good (field y) × Rest (field y) y)
  seq {read} {encode} {Good} next others Rest field first second known = record { takes = taken; again = repeated }
    where
      taken : (bytes : List ℕ) (y : Y) (rest : List ℕ) → IsBytes bytes → (read bytes >>= next) ≡ Ok (y, rest) → Takes bytes (encode (field y) ++ others y) rest × (Good (field y) × Rest (field y) y)
      taken bytes y rest fits e =
          let b = bind_ok (read bytes) next (y, rest) e in
          let t = first.takes bytes b.0.0 b.0.1 fits b.1 in
          let u = (second b.0.0 t.1).takes b.0.1 y rest t.0.rest_fits b.2 in
          subst (λ x. Takes bytes (encode x ++ others y) rest × (Good x × Rest x y)) (sym (known b.0.0 y t.1 u.1)) (Takes-then bytes (encode b.0.0) b.0.1 (others y) rest t.0 u.0, (t.1, u.1))

      repeated : (y : Y) (rest : List ℕ) → Good (field y) × Rest (field y) y → (read ((encode (field y) ++ others y) ++ rest) >>= next) ≡ Ok (y, rest)
      repeated y rest g =
          ap (λ b. read b >>= next) (append_assoc (encode (field y)) (others y) rest)
          ∙ ap (λ r. r >>= next) (first.again (field y) (others y ++ rest) g.0)
          ∙ (second (field y) g.0).again y rest g.1

module _ {Y : Type 0} where
  -- nothing more is read
  pub ended : (y : Y) → IsForm (λ rest. Ok (y, rest)) (λ _. []) (λ x. x ≡ y)
  ended y = record {
    takes = λ bytes x rest fits e.
        let p = ok_is (y, bytes) (x, rest) e in
        let same : bytes ≡ rest = ap (λ (q : Y × List ℕ). q.1) p in
        (record { parts = same; rest_fits = subst IsBytes same fits }, sym (ap (λ (q : Y × List ℕ). q.0) p));
    again = λ x rest same. ap (λ z. Ok (z, rest)) (sym same);
  }

  -- a test that hangs on nothing that is still to be read
  pub demanded : {next : List ℕ → Read Y} {encode : Y → List ℕ} {Good : Y → Type 0} (test : Bool) (at : ℕ) (why : Why)
      → (test ≡ true → IsForm next encode Good) → IsForm (λ rest. demand test at why (next rest)) encode (λ y. (test ≡ true) × Good y)
  demanded {next} {encode} {Good} test at why form = record {
    takes = λ bytes y rest fits e.
        let d = demand_ok test at why (next bytes) (y, rest) e in
        let t = (form d.0).takes bytes y rest fits d.1 in
        (t.0, (d.0, t.1));
    again = λ y rest g. rw g.0 ((form g.0).again y rest g.1);
  }

  -- a reader that takes the offset at which it begins
  pub placed : {encode : Y → List ℕ} {Good : Y → Type 0} (read : ℕ → List ℕ → Read Y) (total : ℕ)
      → ((at : ℕ) → IsForm (read at) encode Good) → IsForm (λ bytes. read (place total bytes) bytes) encode Good
  placed {encode} read total form = record {
    takes = λ bytes y rest fits e. (form (place total bytes)).takes bytes y rest fits e;
    again = λ y rest g. (form (place total (encode y ++ rest))).again y rest g;
  }

  -- the same form in other words
  pub reworded : {read : List ℕ → Read Y} {encode : Y → List ℕ} {Good : Y → Type 0} (words : Y → List ℕ) (Rule : Y → Type 0)
      → IsForm read encode Good → ((y : Y) → Good y → (encode y ≡ words y) × Rule y) → ((y : Y) → Rule y → Good y) → IsForm read words Rule
  reworded {read} {encode} {Good} words Rule form there back = record {
    takes = λ bytes y rest fits e.
        let t = form.takes bytes y rest fits e in
        let r = there y t.1 in
        (subst (λ w. Takes bytes w rest) r.0 t.0, r.1);
    again = λ y rest rule.
        let good = back y rule in
        ap (λ w. read (w ++ rest)) (sym (there y good).0) ∙ form.again y rest good;
  }

  -- what is read also passes a test, whose fault has the offset at which it begins
  pub tested : {read : List ℕ → Read Y} {encode : Y → List ℕ} {Good : Y → Type 0} (test : Y → Bool) (why : Why) (total : ℕ)
      → IsForm read encode Good → IsForm (λ bytes. read bytes >>= λ x rest. demand (test x) (place total bytes) why (Ok (x, rest))) encode (λ x. (test x ≡ true) × Good x)
  tested {read} {encode} {Good} test why total form =
      placed (λ at bytes. read bytes >>= λ x rest. demand (test x) at why (Ok (x, rest))) total (λ at.
      reworded encode (λ x. (test x ≡ true) × Good x)
      (seq _ (λ _. []) (λ x y. (test x ≡ true) × (y ≡ x)) (λ y. y) form
      (λ x good. demanded (test x) at why (λ _. ended x))
      (λ x y good r. r.1))
      (λ x good. (append-nil (encode x), (good.1.0, good.0)))
      (λ x rule. (rule.1, (rule.0, refl))))
