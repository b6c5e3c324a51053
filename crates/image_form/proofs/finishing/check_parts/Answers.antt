use Rattle.std.proofs.Common.{◌≡◌, ◌≤◌, true, length, sym, ap, subst, ◌∙◌}
use Rattle.image_form.specs.Encoding.{most_bytes, encoding}
use Rattle.image_form.specs.Fitting.{PartsFit}
use Rattle.image_form.specs.View.{image_of, lent_image}
use Rattle.image_form.proofs.ImageForm.{is_read}
use Rattle.image_form.proofs.Finished.{too_long, parts_obey}
use Rattle.image_form.proofs.finishing.check_parts.Goals as goal

pub returns-then-not-is_small-clause-exact : goal.returns-then-not-is_small-clause-exact
returns-then-not-is_small-clause-exact c =
    let encoded = encoding (image_of c.args.parts.now) in
    too_long encoded (λ small.
    let told : length (encoding (lent_image c.lend.result)) ≤ most_bytes = subst (λ p. length (encoding p) ≤ most_bytes) (sym c.lend.ensures) small in
    let yes : c.is_small.result ≡ true = c.is_small.ensures.is.1 told in
    cc c.if-not-is_small.true)

pub returns-clause-valid : goal.returns-clause-valid
returns-clause-valid c =
    let p = image_of c.args.parts.now in
    let fit : PartsFit p = subst PartsFit c.lend.ensures (c.is_small.ensures.fits c.if-not-is_small.false) in
    parts_obey p (image_of c.in_ok-_read._read) c.deref.result.now fit (c.deref.ensures.value ∙ c.in_ok-bytes.ensures ∙ ap encoding c.lend-2.ensures) c.in_ok-_read.ensures.found

pub returns-clause-exact : goal.returns-clause-exact
returns-clause-exact c =
    let p = image_of c.args.parts.now in
    let fit : PartsFit p = subst PartsFit c.lend.ensures (c.is_small.ensures.fits c.if-not-is_small.false) in
    is_read p (parts_obey p (image_of c.in_ok-_read._read) c.deref.result.now fit (c.deref.ensures.value ∙ c.in_ok-bytes.ensures ∙ ap encoding c.lend-2.ensures) c.in_ok-_read.ensures.found)
