-- Keys that are inserted, as the lists that they stand for.
use Rattle.std.proofs.Common.{◌≡◌, Bool, true, false, cond, ◌&&◌, ◌||◌, List, [], ◌∷◌, ◌++◌, map, refl, ap, ◌∙◌}
use Rattle.std.specs.List.{list_any}
use Rattle.std.proofs.lemmas.List.{map-append}
use Rattle.indexmap.specs.IndexSet.{insert_key}
use Rattle.cb_analyze.specs.FirstSeen.{with_element}
use Rattle.std.specs.Str.{bytes_eq}
use Rattle.trace_form.specs.declared.words.Kind.{Kind}
use Rattle.trace_form.specs.declared.words.Kind.TheVariants as kind
use Rattle.trace_form.specs.declared.words.Mode.{Mode}
use Rattle.trace_form.specs.declared.words.Mode.TheVariants as mode
use Rattle.trace_form.specs.contracts.words.KindPartialEq.TheImpl as kinds
use Rattle.trace_form.specs.contracts.words.ModePartialEq.TheImpl as modes
use Rattle.cb_analyze.specs.declared.access.AccessKey.{AccessKey}
use Rattle.cb_analyze.specs.contracts.access.AccessKeyPartialEq.TheImpl.{eq-value}
use Rattle.cb_analyze.specs.Access.{same_access, same_kind, same_mode, access_view}

module _ {K X : Type 0} (eq : K → K → Bool) (same : X → X → Bool) (view : K → X) (agrees : (a b : K) → eq a b ≡ same (view a) (view b)) where
  pub among : (k : K) (ks : List K) → list_any (eq k) ks ≡ list_any (same (view k)) (map view ks)
  among k [] = refl
  among k (x ∷ xs) = ap (λ b. b || list_any (eq k) xs) (agrees k x) ∙ ap (λ b. same (view k) (view x) || b) (among k xs)

  by_first : (b : Bool) (ks : List K) (k : K) → map view (cond b ks (ks ++ k ∷ [])) ≡ cond b (map view ks) (map view ks ++ view k ∷ [])
  by_first true ks k = refl
  by_first false ks k = map-append view ks (k ∷ [])

  -- inserting a key adds its element
  pub keys_with : (ks : List K) (k : K) → map view (insert_key eq ks k) ≡ with_element same (map view ks) (view k)
  keys_with ks k = by_first (list_any (eq k) ks) ks k ∙ ap (λ b. cond b (map view ks) (map view ks ++ view k ∷ [])) (among k ks)

-- the derived equality of accesses is that of what they stand for
kinds_agree : (k l : Kind) → kinds.eq-value.it k l ≡ same_kind k l
kinds_agree kind.Load kind.Load = refl
kinds_agree kind.Load kind.Store = refl
kinds_agree kind.Load kind.Read = refl
kinds_agree kind.Load kind.Append = refl
kinds_agree kind.Load kind.Call = refl
kinds_agree kind.Store kind.Load = refl
kinds_agree kind.Store kind.Store = refl
kinds_agree kind.Store kind.Read = refl
kinds_agree kind.Store kind.Append = refl
kinds_agree kind.Store kind.Call = refl
kinds_agree kind.Read kind.Load = refl
kinds_agree kind.Read kind.Store = refl
kinds_agree kind.Read kind.Read = refl
kinds_agree kind.Read kind.Append = refl
kinds_agree kind.Read kind.Call = refl
kinds_agree kind.Append kind.Load = refl
kinds_agree kind.Append kind.Store = refl
kinds_agree kind.Append kind.Read = refl
kinds_agree kind.Append kind.Append = refl
kinds_agree kind.Append kind.Call = refl
kinds_agree kind.Call kind.Load = refl
kinds_agree kind.Call kind.Store = refl
kinds_agree kind.Call kind.Read = refl
kinds_agree kind.Call kind.Append = refl
kinds_agree kind.Call kind.Call = refl

modes_agree : (m n : Mode) → modes.eq-value.it m n ≡ same_mode m n
modes_agree mode.Shared mode.Shared = refl
modes_agree mode.Shared mode.Private = refl
modes_agree mode.Private mode.Shared = refl
modes_agree mode.Private mode.Private = refl

pub access_agrees : (a b : AccessKey) → eq-value.it a b ≡ same_access (access_view a) (access_view b)
access_agrees a b =
    ap (λ t. bytes_eq a.item.now b.item.now && (t && modes.eq-value.it a.mode b.mode)) (kinds_agree a.kind b.kind)
    ∙ ap (λ t. bytes_eq a.item.now b.item.now && (same_kind a.kind b.kind && t)) (modes_agree a.mode b.mode)
