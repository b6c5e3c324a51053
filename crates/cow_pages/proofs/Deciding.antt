-- Tests that decide whether two values are the same, put together as a derive puts them together.
use Rattle.std.proofs.Common.{◌≡◌, ℕ, ◌⊎◌, inl, inr, Bool, true, false, ◌&&◌, ◌==◌, Decides, List, [], ◌∷◌, Option, Some, None, refl, sym, ap, ◌∙◌, subst}
use Rattle.std.specs.Cmp.{unsigned_Decides, booleans_Decides}
use Rattle.std.specs.Cmp.Lexicographic.{pointwise, pointwise_decides}
use Rattle.std.specs.Option.{option_eq}
use denote.Struct.Field.{Field}
use denote.Struct.Values.{Values}
use denote.Enum.Bare.{Bare, sameb, same_true, true_same}
use denote.Enum.Declared.{Record, Declared, Choice, values_one, left_or, right_or}
use denote.Enum.Compared.{Each, by}

pub record Decider (A : Type 0) : Type 0 where
  pub test : A → A → Bool
  pub decides : (x y : A) → Decides (test x y) (x ≡ y)

through : {P Q : Type 0} (s : Bool) → (P → Q) → (Q → P) → Decides s P → Decides s Q
through s f g d = (λ h. f (d.0 h), λ q. d.1 (g q))

both : {P Q : Type 0} (s t : Bool) → Decides s P → Decides t Q → Decides (s && t) (P × Q)
both true true d e = (λ h. (d.0 h, e.0 h), λ p. refl)
both true false d e = (λ h. absurd cc, λ p. e.1 p.1)
both false t d e = (λ h. absurd cc, λ p. d.1 p.0)

-- ---- numbers, truth values, lists, options

abbrev pub number : Decider ℕ
number = record { test = λ x y. x == y; decides = unsigned_Decides }

abbrev pub truth : Decider Bool
truth = record { test = _; decides = booleans_Decides }

abbrev pub list_of : {A : Type 0} → Decider A → Decider (List A)
list_of a = record { test = pointwise a.test; decides = pointwise_decides a.decides }

pub options_decide : {A : Type 0} (a : Decider A) (x y : Option A) → Decides (option_eq a.test x y) (x ≡ y)
options_decide a None None = (λ h. refl, λ e. refl)
options_decide a None (Some y) = (λ h. absurd cc, λ e. absurd cc)
options_decide a (Some x) None = (λ h. absurd cc, λ e. absurd cc)
options_decide a (Some x) (Some y) = (λ h. ap Some ((a.decides x y).0 h), λ e. (a.decides x y).1 cc)

abbrev pub option_of : {A : Type 0} → Decider A → Decider (Option A)
option_of a = record { test = option_eq a.test; decides = options_decide a }

-- ---- the fields of a variant, one after another

pub none_decide : (x y : Unit {0}) → Decides true (x ≡ y)
none_decide x y = (λ h. refl, λ e. refl)

abbrev pub none : Decider (Unit {0})
none = record { test = λ x y. true; decides = none_decide }

pub one_decides : {A : Type 0} (a : Decider A) (x y : A × Unit {0}) → Decides (a.test x.0 y.0) (x ≡ y)
one_decides a x y = through (a.test x.0 y.0) (λ p. λ i. (p i, tt)) (λ e. λ i. (e i).0) (a.decides x.0 y.0)

abbrev pub one : {A : Type 0} → Decider A → Decider (A × Unit {0})
one a = record { test = λ x y. a.test x.0 y.0; decides = one_decides a }

pub more_decide : {A B : Type 0} (a : Decider A) (b : Decider B) (x y : A × B) → Decides (a.test x.0 y.0 && b.test x.1 y.1) (x ≡ y)
more_decide a b x y =
    through (a.test x.0 y.0 && b.test x.1 y.1) (λ p. λ i. (p.0 i, p.1 i)) (λ e. (λ i. (e i).0, λ i. (e i).1)) (both (a.test x.0 y.0) (b.test x.1 y.1) (a.decides x.0 y.0) (b.decides x.1 y.1))

abbrev pub more : {A B : Type 0} → Decider A → Decider B → Decider (A × B)
more a b = record { test = λ x y. a.test x.0 y.0 && b.test x.1 y.1; decides = more_decide a b }

-- ---- a record, through its fields

pub seen_decides : {A B : Type 0} (f : A → B) (g : B → A) → ((x : A) → g (f x) ≡ x) → (b : Decider B) (x y : A) → Decides (b.test (f x) (f y)) (x ≡ y)
seen_decides f g back b x y = through (b.test (f x) (f y)) (λ p. sym (back x) ∙ ap g p ∙ back y) (λ e. ap f e) (b.decides (f x) (f y))

abbrev pub seen_by : {A B : Type 0} (f : A → B) (g : B → A) → ((x : A) → g (f x) ≡ x) → Decider B → Decider A
seen_by f g back b = record { test = λ x y. b.test (f x) (f y); decides = seen_decides f g back b }

-- ---- an enum, variant by variant

abbrev OnLeft : {A B : Type 0} → A ⊎ B → Type 0
OnLeft (inl x) = Unit {0}
OnLeft (inr y) = ⊥

abbrev pub Deciders : List (List Field) → Type 0
Deciders [] = Unit {0}
Deciders (Fs ∷ Fss) = Decider (Values Fs) × Deciders Fss

abbrev pub tests : (Fss : List (List Field)) → Deciders Fss → Each Bool Fss
tests [] ds = tt
tests (Fs ∷ Fss) ds = (ds.0.test, tests Fss ds.1)

choices_decide : (Fss : List (List Field)) (ds : Deciders Fss) (c d : Choice Fss) → Decides (by false false Fss (tests Fss ds) c d) (c ≡ d)
choices_decide [] ds c d = absurd c
choices_decide (Fs ∷ Fss) ds (inl x) (inl y) = through (ds.0.test x y) (λ e. ap inl e) (λ e. ap (left_or x) e) (ds.0.decides x y)
choices_decide (Fs ∷ Fss) ds (inl x) (inr y) = (λ h. absurd cc, λ e. absurd (subst OnLeft e tt))
choices_decide (Fs ∷ Fss) ds (inr x) (inl y) = (λ h. absurd cc, λ e. absurd (subst OnLeft (sym e) tt))
choices_decide (Fs ∷ Fss) ds (inr x) (inr y) = through (by false false Fss (tests Fss ds.1) x y) (λ e. ap inr e) (λ e. ap (right_or x) e) (choices_decide Fss ds.1 x y)

pub values_decide : (N : Record) (ds : Deciders N.parts) (x y : N.D) → Decides (by false false N.parts (tests N.parts ds) (N.as_values x) (N.as_values y)) (x ≡ y)
values_decide N ds x y = through (by false false N.parts (tests N.parts ds) (N.as_values x) (N.as_values y)) (values_one N x y) (λ e. ap N.as_values e) (choices_decide N.parts ds (N.as_values x) (N.as_values y))

abbrev pub enum_of : (N : Record) → Deciders N.parts → Decider N.D
enum_of N ds = record { test = λ x y. by false false N.parts (tests N.parts ds) (N.as_values x) (N.as_values y); decides = values_decide N ds }

-- and one whose variants have no fields
pub bare_decides : (D : Declared) → Bare D.parts → (x y : D.D) → Decides (sameb D x y) (x ≡ y)
bare_decides D bare x y = (same_true D bare x y, true_same D x y)

abbrev pub bare_of : (D : Declared) → Bare D.parts → Decider D.D
bare_of D bare = record { test = sameb D; decides = bare_decides D bare }
