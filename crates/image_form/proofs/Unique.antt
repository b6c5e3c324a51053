-- Parts that fit, and are encoded as an image is, are that image.
use Rattle.std.proofs.Common.{◌≡◌, ℕ, ◌^◌, ◌<◌, true, List, [], ◌∷◌, ◌++◌, length, refl, sym, ap, ◌∙◌, append_assoc, arith}
use Rattle.std.specs.Prelude.{min}
use Rattle.std.specs.Int.{w16, to_le_bytes}
use Rattle.std.specs.List.{flat_map, AllByRecursion}
use Rattle.std.proofs.lemmas.List.{append-nil}
use Rattle.std.proofs.lemmas.List.Concat.{flat_map-cons}
use Rattle.wedge_base.specs.Images.{Image}
use Rattle.image_form.specs.Encoding.{magic, version, encode_number, encode_string, encode_content, encode_table, encode_procedure, encode_range, right_code, encode_tag, kind_code, bits_code, encode_fd, encode_file, encoding}
use Rattle.image_form.specs.Fitting.{WordFits, ProcedureFits, RangeFits, TagFits, FdFits, FileFits, TableFits, PartsFit}
use Rattle.image_form.specs.Rules.{IsProcedure, IsRange, IsTag, IsFd, IsFile, IsImage}
use Rattle.image_form.specs.Reading.{Read}
use Rattle.image_form.proofs.Form.{ok_is, IsForm}
use Rattle.image_form.proofs.FieldForms.{bytes_form, short_form, number_form, content_form}
use Rattle.image_form.proofs.ImageForm.{right_form, kind_form, bits_form, entry_small}
use Rattle.image_form.proofs.Scans.{name_short, path_short, root_short}

-- An encoding of what fits that begins as that of what is good encodes the same.
pub record IsUnique {X : Type 0} (encode : X → List ℕ) (Fit Good : X → Type 0) (Same : X → X → Type 0) : Type 0 where
  pub unique : (y x : X) (r s : List ℕ) → Fit y → Good x → encode y ++ r ≡ encode x ++ s → Same y x × (r ≡ s)

-- what is read again is unique
from_form : {X : Type 0} {read : List ℕ → Read X} {encode : X → List ℕ} {Good : X → Type 0} → IsForm read encode Good → IsUnique encode Good Good (λ y x. y ≡ x)
from_form {X} {read} form = record {
  unique = λ y x r s fit good e.
      let p = ok_is (y, r) (x, s) (sym (form.again y r fit) ∙ ap read e ∙ form.again x s good) in
      (ap (λ (q : X × List ℕ). q.0) p, ap (λ (q : X × List ℕ). q.1) p);
}

module _ {X A : Type 0} where
  -- a field, and what comes after it
  field_then : {s : A → List ℕ} {F G : A → Type 0} {t : X → List ℕ} {F' G' : X → Type 0} {R : X → X → Type 0} (field : X → A)
      → IsUnique s F G (λ b a. b ≡ a) → IsUnique t F' G' R
      → IsUnique (λ y. s (field y) ++ t y) (λ y. F (field y) × F' y) (λ x. G (field x) × G' x) (λ y x. (field y ≡ field x) × R y x)
  field_then {s} {F} {G} {t} field one others = record {
    unique = λ y x r q fit good e.
        let apart : s (field y) ++ (t y ++ r) ≡ s (field x) ++ (t x ++ q) = sym (append_assoc (s (field y)) (t y) r) ∙ e ∙ append_assoc (s (field x)) (t x) q in
        let first = one.unique (field y) (field x) (t y ++ r) (t x ++ q) fit.0 good.0 apart in
        let later = others.unique y x r q fit.1 good.1 first.1 in
        ((first.0, later.0), later.1);
  }

  -- the last field
  field_last : {s : A → List ℕ} {F G : A → Type 0} (field : X → A)
      → IsUnique s F G (λ b a. b ≡ a) → IsUnique (λ y. s (field y)) (λ y. F (field y)) (λ x. G (field x)) (λ y x. field y ≡ field x)
  field_last field one = record { unique = λ y x r q fit good e. one.unique (field y) (field x) r q fit good e }

module _ {X : Type 0} where
  no_more : IsUnique (λ (x : X). []) (λ x. Unit {0}) (λ x. Unit {0}) (λ y x. Unit {0})
  no_more = record { unique = λ y x r s fit good e. (tt, e) }

  -- fields together
  whole : {s : X → List ℕ} {F G : X → Type 0} {R : X → X → Type 0} (Fit Good : X → Type 0)
      → IsUnique s F G R → ((y x : X) → R y x → y ≡ x) → ((y : X) → Fit y → F y) → ((x : X) → Good x → G x) → IsUnique s Fit Good (λ y x. y ≡ x)
  whole Fit Good parts same fits goods = record {
    unique = λ y x r s fit good e. let u = parts.unique y x r s (fits y fit) (goods x good) e in (same y x u.0, u.1);
  }

  listed : {s : X → List ℕ} {F G : X → Type 0} → IsUnique s F G (λ y x. y ≡ x) → (ys xs : List X) (r q : List ℕ) → length ys ≡ length xs → AllByRecursion F ys → AllByRecursion G xs
      → flat_map s ys ++ r ≡ flat_map s xs ++ q → (ys ≡ xs) × (r ≡ q)
  listed one [] [] r q long fit good e = (refl, e)
  listed one [] (x ∷ xs) r q long fit good e = absurd (omega arith)
  listed one (y ∷ ys) [] r q long fit good e = absurd (omega arith)
  listed {s} one (y ∷ ys) (x ∷ xs) r q long fit good e =
      let left : flat_map s (y ∷ ys) ++ r ≡ s y ++ (flat_map s ys ++ r) = ap (λ w. w ++ r) (flat_map-cons s y ys) ∙ append_assoc (s y) (flat_map s ys) r in
      let right : flat_map s (x ∷ xs) ++ q ≡ s x ++ (flat_map s xs ++ q) = ap (λ w. w ++ q) (flat_map-cons s x xs) ∙ append_assoc (s x) (flat_map s xs) q in
      let first = one.unique y x (flat_map s ys ++ r) (flat_map s xs ++ q) fit.0 good.0 (sym left ∙ e ∙ right) in
      let later = listed one ys xs r q (omega arith) fit.1 good.1 first.1 in
      (λ k. first.0 k ∷ later.0 k, later.1)

number_unique : IsUnique encode_number (λ n. n < 2 ^ 32) (λ n. n < 2 ^ 32) (λ y x. y ≡ x)
number_unique = from_form (number_form 0)

table_unique : {X : Type 0} {s : X → List ℕ} {F G : X → Type 0} → IsUnique s F G (λ y x. y ≡ x) → IsUnique (encode_table s) (TableFits F) (TableFits G) (λ y x. y ≡ x)
table_unique {X} {s} one = record {
  unique = λ ys xs r q fit good e.
      let apart : encode_number (length ys) ++ (flat_map s ys ++ r) ≡ encode_number (length xs) ++ (flat_map s xs ++ q) = sym (append_assoc (encode_number (length ys)) (flat_map s ys) r) ∙ e ∙ append_assoc (encode_number (length xs)) (flat_map s xs) q in
      let first = number_unique.unique (length ys) (length xs) (flat_map s ys ++ r) (flat_map s xs ++ q) fit.count good.count apart in
      listed one ys xs r q first.0 fit.each good.each first.1;
}

same_length : (ys xs r q : List ℕ) → length ys ≡ length xs → ys ++ r ≡ xs ++ q → (ys ≡ xs) × (r ≡ q)
same_length ys xs r q long e = (from_form (bytes_form 0 (length xs))).unique ys xs r q long refl e

-- a string that is encoded with a shorter length than its own differs from those that are short
string_unique : IsUnique encode_string (λ t. Unit {0}) (λ t. length t < 65535) (λ y x. y ≡ x)
unfolding encode_string
string_unique = record {
  unique = λ ys xs r q fit short e.
      let count = λ (t : List ℕ). to_le_bytes w16 (min (length t) 65535) in
      let apart : count ys ++ (ys ++ r) ≡ count xs ++ (xs ++ q) = sym (append_assoc (count ys) ys r) ∙ e ∙ append_assoc (count xs) xs q in
      let first = (from_form (short_form 0)).unique (min (length ys) 65535) (min (length xs) 65535) (ys ++ r) (xs ++ q) (omega arith) (omega arith) apart in
      let long : length ys ≡ length xs = omega (arith, first.0, short) in
      same_length ys xs r q long first.1;
}

content_unique : IsUnique encode_content (λ t. length t < 2 ^ 32) (λ t. length t < 2 ^ 32) (λ y x. y ≡ x)
content_unique = whole (λ t. length t < 2 ^ 32) (λ t. length t < 2 ^ 32) (from_form (content_form (λ _. true) 0)) (λ y x e. e) (λ y fit. (refl, fit)) (λ x good. (refl, good))

right_unique : IsUnique (λ r. encode_number (right_code r)) (λ r. Unit {0}) (λ r. Unit {0}) (λ y x. y ≡ x)
right_unique = from_form (right_form 0)

kind_unique : IsUnique (λ k. encode_number (kind_code k)) (λ k. Unit {0}) (λ k. Unit {0}) (λ y x. y ≡ x)
kind_unique = from_form (kind_form 0)

bits_unique : IsUnique (λ b. encode_number (bits_code b)) (λ b. Unit {0}) (λ b. Unit {0}) (λ y x. y ≡ x)
bits_unique = from_form (bits_form 0)

-- ---- entries

word_unique : IsUnique encode_number WordFits WordFits (λ y x. y ≡ x)
word_unique = whole WordFits WordFits number_unique (λ y x e. e) (λ y fit. fit.small) (λ x fit. fit.small)

-- what a rule gives, beside that an entry fits
pub record Named {X : Type 0} (text : X → List ℕ) (Fits : X → Type 0) (x : X) : Type 0 where
  pub short : length (text x) < 65535
  pub fits : Fits x

procedure_unique : IsUnique encode_procedure ProcedureFits (Named (λ p. p.name) ProcedureFits) (λ y x. y ≡ x)
procedure_unique =
    whole ProcedureFits (Named (λ p. p.name) ProcedureFits)
    (field_then (λ p. p.name) string_unique (field_last (λ p. p.address) number_unique))
    (λ y x e k. record { name = e.0 k; address = e.1 k })
    (λ y fit. (tt, fit.address))
    (λ x good. (good.short, good.fits.address))

range_unique : IsUnique encode_range RangeFits RangeFits (λ y x. y ≡ x)
range_unique =
    whole RangeFits RangeFits
    (field_then (λ r. r.base) number_unique (field_last (λ r. r.bytes) content_unique))
    (λ y x e k. record { base = e.0 k; bytes = e.1 k })
    (λ y fit. (fit.base, fit.size))
    (λ x fit. (fit.base, fit.size))

tag_unique : IsUnique encode_tag TagFits (Named (λ t. t.name) TagFits) (λ y x. y ≡ x)
tag_unique =
    whole TagFits (Named (λ t. t.name) TagFits)
    (field_then (λ t. t.name) string_unique (field_then (λ t. t.pages) number_unique (field_then (λ t. t.right) right_unique (field_then (λ t. t.content) content_unique no_more))))
    (λ y x e k. record { name = e.0 k; pages = e.1.0 k; right = e.1.1.0 k; content = e.1.1.1.0 k })
    (λ y fit. (tt, (fit.pages, (tt, (fit.size, tt)))))
    (λ x good. (good.short, (good.fits.pages, (tt, (good.fits.size, tt)))))

fd_unique : IsUnique encode_fd FdFits (Named (λ f. f.name) FdFits) (λ y x. y ≡ x)
fd_unique =
    whole FdFits (Named (λ f. f.name) FdFits)
    (field_then (λ f. f.name) string_unique (field_then (λ f. f.kind) kind_unique (field_then (λ f. f.bits) bits_unique (field_then (λ f. f.content) content_unique no_more))))
    (λ y x e k. record { name = e.0 k; kind = e.1.0 k; bits = e.1.1.0 k; content = e.1.1.1.0 k })
    (λ y fit. (tt, (tt, (tt, (fit.size, tt)))))
    (λ x good. (good.short, (tt, (tt, (good.fits.size, tt)))))

file_unique : IsUnique encode_file FileFits (Named (λ f. f.path) FileFits) (λ y x. y ≡ x)
file_unique =
    whole FileFits (Named (λ f. f.path) FileFits)
    (field_then (λ f. f.path) string_unique (field_then (λ f. f.owner) number_unique (field_then (λ f. f.mode) number_unique (field_then (λ f. f.kind) kind_unique (field_then (λ f. f.content) content_unique no_more)))))
    (λ y x e k. record { path = e.0 k; owner = e.1.0 k; mode = e.1.1.0 k; kind = e.1.1.1.0 k; content = e.1.1.1.1.0 k })
    (λ y fit. (tt, (fit.owner, (fit.mode, (tt, (fit.size, tt))))))
    (λ x good. (good.short, (good.fits.owner, (good.fits.mode, (tt, (good.fits.size, tt))))))

-- ---- the whole

-- what a rule of each entry gives of each entry
each_so : {X : Type 0} (Rule Fits : X → Type 0) → ((x : X) → Rule x → Fits x) → (xs : List X) → AllByRecursion Rule xs → AllByRecursion Fits xs
each_so Rule Fits so [] rules = tt
each_so Rule Fits so (x ∷ xs) rules = (so x rules.0, each_so Rule Fits so xs rules.1)

pub record IsGood (i : Image) : Type 0 where
  pub fuel : i.fuel < 2 ^ 32
  pub base : i.base < 2 ^ 32
  pub words : TableFits WordFits i.words
  pub procedures : TableFits (Named (λ p. p.name) ProcedureFits) i.procedures
  pub entry : i.entry < 2 ^ 32
  pub ranges : TableFits RangeFits i.ranges
  pub tags : TableFits (Named (λ t. t.name) TagFits) i.tags
  pub fds : TableFits (Named (λ f. f.name) FdFits) i.fds
  pub files : TableFits (Named (λ f. f.path) FileFits) i.files
  pub user : i.user < 2 ^ 32
  pub root : length i.root < 65535

image_good : (i : Image) → IsImage i → IsGood i
image_good i is =
    let end = is.text.end_high in
    record {
      fuel = omega (arith, is.fuel_small);
      base = omega (arith, is.text.base_high);
      words = record { count = omega (arith, end); each = each_so (λ w. w < 2 ^ 32) WordFits (λ w lt. record { small = lt }) i.words is.text.words_fit };
      procedures = record { count = omega (arith, is.procedures.not_too_many); each = each_so (IsProcedure i.base (length i.words)) (Named (λ p. p.name) ProcedureFits) (λ p rule. record { short = name_short p.name rule.named; fits = record { address = omega (arith, rule.below, end) } }) i.procedures is.procedures.each };
      entry = omega (arith, entry_small i.base (length i.words) i.procedures i.entry is.procedures.each is.entry_is_procedure, end);
      ranges = record { count = omega (arith, is.ranges.not_too_many); each = each_so IsRange RangeFits (λ r rule. record { base = omega (arith, rule.end_high); size = omega (arith, rule.end_high) }) i.ranges is.ranges.each };
      tags = record { count = omega (arith, is.tags.not_too_many); each = each_so IsTag (Named (λ t. t.name) TagFits) (λ t rule. record { short = name_short t.name rule.named; fits = record { pages = omega (arith, rule.not_too_many_pages); size = omega (arith, rule.content_fits, rule.not_too_many_pages) } }) i.tags is.tags.each };
      fds = record { count = omega (arith, is.fds.not_too_many); each = each_so IsFd (Named (λ f. f.name) FdFits) (λ f rule. record { short = name_short f.name rule.named; fits = record { size = rule.length_fits } }) i.fds is.fds.each };
      files = record { count = omega (arith, is.files.not_too_many); each = each_so IsFile (Named (λ f. f.path) FileFits) (λ f rule. record { short = path_short f.path rule.canonical; fits = record { owner = rule.owner_fits; mode = omega (arith, rule.mode_fits); size = rule.length_fits } }) i.files is.files.each };
      user = is.user_fits;
      root = root_short i.root is.root_canonical;
    }

fit_of : {X : Type 0} {text : X → List ℕ} {Fits : X → Type 0} (xs : List X) → TableFits (Named text Fits) xs → TableFits Fits xs
fit_of {X} {text} {Fits} xs good = record { count = good.count; each = each_so (Named text Fits) Fits (λ x n. n.fits) xs good.each }

pub image_fits : (i : Image) → IsImage i → PartsFit i
image_fits i is =
    let good = image_good i is in
    record {
      fuel = good.fuel;
      base = good.base;
      words = good.words;
      procedures = fit_of i.procedures good.procedures;
      entry = good.entry;
      ranges = good.ranges;
      tags = fit_of i.tags good.tags;
      fds = fit_of i.fds good.fds;
      files = fit_of i.files good.files;
      user = good.user;
    }

image_unique : IsUnique encoding PartsFit IsGood (λ y x. y ≡ x)
unfolding encoding
image_unique =
    whole PartsFit IsGood
    (field_then (λ _. magic) number_unique (field_then (λ _. version) number_unique (field_then (λ i. i.fuel) number_unique (field_then (λ i. i.base) number_unique (field_then (λ i. i.words) (table_unique word_unique)
    (field_then (λ i. i.procedures) (table_unique procedure_unique) (field_then (λ i. i.entry) number_unique (field_then (λ i. i.ranges) (table_unique range_unique)
    (field_then (λ i. i.tags) (table_unique tag_unique) (field_then (λ i. i.fds) (table_unique fd_unique) (field_then (λ i. i.files) (table_unique file_unique)
    (field_then (λ i. i.user) number_unique (field_then (λ i. i.root) string_unique no_more)))))))))))))
    (λ y x e k. record {
      fuel = e.1.1.0 k;
      base = e.1.1.1.0 k;
      words = e.1.1.1.1.0 k;
      procedures = e.1.1.1.1.1.0 k;
      entry = e.1.1.1.1.1.1.0 k;
      ranges = e.1.1.1.1.1.1.1.0 k;
      tags = e.1.1.1.1.1.1.1.1.0 k;
      fds = e.1.1.1.1.1.1.1.1.1.0 k;
      files = e.1.1.1.1.1.1.1.1.1.1.0 k;
      user = e.1.1.1.1.1.1.1.1.1.1.1.0 k;
      root = e.1.1.1.1.1.1.1.1.1.1.1.1.0 k;
    })
    (λ y fit. (omega arith, (omega arith, (fit.fuel, (fit.base, (fit.words, (fit.procedures, (fit.entry, (fit.ranges, (fit.tags, (fit.fds, (fit.files, (fit.user, (tt, tt))))))))))))))
    (λ x good. (omega arith, (omega arith, (good.fuel, (good.base, (good.words, (good.procedures, (good.entry, (good.ranges, (good.tags, (good.fds, (good.files, (good.user, (good.root, tt))))))))))))))

-- parts that fit, and are encoded as an image is, are that image
pub same_encoding : (p i : Image) → PartsFit p → IsImage i → encoding p ≡ encoding i → p ≡ i
same_encoding p i fit is e =
    let none = λ (j : Image). append-nil (encoding j) in
    (image_unique.unique p i [] [] fit (image_good i is) (none p ∙ e ∙ sym (none i))).0
