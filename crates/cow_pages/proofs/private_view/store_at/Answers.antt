use Rattle.std.proofs.Common.{rules, ◌≡◌, ◌∙◌, ap, sym, ℕ}
use Rattle.std.specs.Prelude.{Some}
use Rattle.std.specs.BTreeMap.{is_at}
use Rattle.std.specs.Map.{set_value}
use Rattle.std.specs.Option.{option_copied_mut}
use Rattle.std.specs.Ordering.{nat_cmp}
use Rattle.std.proofs.lemmas.Map.Steps.{set_value_same}
use Rattle.wedge_base.specs.Bytes.{bytes_of}
use Rattle.cow_pages.specs.Copies.{copy_at, holds_copy}
use Rattle.cow_pages.proofs.CopyEntries.{stored_is}
use Rattle.cow_pages.proofs.PageOffsets.{length-bytes_of}
use Rattle.cow_pages.proofs.private_view.store_at.Goals as goal

pub returns-clause-after : goal.returns-clause-after
returns-clause-after c =
    let entries = c.args.all.now.entries in
    let there : copy_at entries c.args.slot ≡ Some c.in-Some.pages.now = sym c.get_mut.ensures.value ∙ ap option_copied_mut c.in-Some.is in
    let size = length-bytes_of c.args.width c.args.value in
    let holds = c.in_ok-held.ensures.holds ∙ ap (λ (n : ℕ). holds_copy c.args.offset n c.in-Some.pages.now) (sym size) in
    (c.get_mut.follows.holds c.store_in.new.pages).0
    ∙ stored_is entries c.args.slot c.args.offset (bytes_of c.args.width c.args.value) c.in-Some.pages.now c.store_in.new.pages c.in_ok-held.held c.get_mut.ensures.ordered there holds
    c.in_ok-held.ensures.written c.in_ok-held.ensures.unwritten

pub returns-in_err-held-clause-err : goal.returns-in_err-held-clause-err
returns-in_err-held-clause-err c =
    let entries = c.args.all.now.entries in
    let there : copy_at entries c.args.slot ≡ Some c.in-Some.pages.now = sym c.get_mut.ensures.value ∙ ap option_copied_mut c.in-Some.is in
    let same : (c.get_mut.follows.lender c.store_in.new.pages).entries ≡ entries = (c.get_mut.follows.holds c.store_in.new.pages).0 ∙ ap (set_value (is_at (nat_cmp c.args.slot)) entries) c.in_err-held.ensures.err ∙ set_value_same (is_at (nat_cmp c.args.slot)) entries c.in-Some.pages.now there in
    search rules
