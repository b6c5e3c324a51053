use Rattle.std.proofs.Common.{◌≡◌, ℕ, List, [], Option, Some, None, option_map, refl, ap, sym, ◌∙◌}
use Rattle.std.specs.List.{after_first}
use Rattle.rv_asm.specs.Numbers.{Number}
use Rattle.rv_asm.specs.Operands.{◌>>=◌, closed_register, based, is_opening}
use Rattle.rv_asm.specs.Views.{number_view}
use Rattle.rv_asm.proofs.Places.{nothing_after}
use Rattle.rv_asm.proofs.operands.based.Goals as goal

none_closed : closed_register [] ≡ None
unfolding closed_register
none_closed = refl

abbrev none : Option (Number × ℕ)
none = None

with_none : (o : Option Number) (text : List ℕ) → closed_register text ≡ None → (o >>= λ offset. closed_register text >>= λ base. Some (offset, base)) ≡ none
with_none None text e = refl
with_none (Some n) text e = rw e refl

no_base : (text : List ℕ) → after_first is_opening text ≡ [] → based text ≡ none
unfolding based
no_base text e = with_none _ (after_first is_opening text) (ap closed_register e ∙ none_closed)

pub returns-in_err-place-clause-is : goal.returns-in_err-place-clause-is
returns-in_err-place-clause-is c =
    let no : based c.args.text.now ≡ none = no_base c.args.text.now (nothing_after is_opening c.args.text.now (sym c.place_of_opening.ensures ∙ c.in_err-place.was)) in
    ap (option_map (λ x. (number_view x.0, x.1))) c.from_residual.ensures ∙ sym no
