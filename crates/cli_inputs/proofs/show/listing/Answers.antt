use Rattle.std.proofs.Common.{◌≡◌, ◌++◌, ap, ◌∙◌, arith}
use Rattle.std.proofs.lemmas.Grind.{common_steps}
use Rattle.wedge_base.specs.Images.{procedure_name}
use Rattle.cli_inputs.specs.Listing as listings
use Rattle.cli_inputs.proofs.show.listing.Goals as goal

-- the heading that was added is the name of the procedure at this word's address
pub loop-word-preserved : goal.loop-word-preserved
loop-word-preserved c =
    let named : c.at.result.now ≡ procedure_name c.args.image.now c.loop-word.address = c.at.ensures ∙ c.in_ok-headings.ensures c.loop-word.address in
    let exposed : c.write_name.new.out.items ≡ c.loop-word.out.items ++ listings.heading (procedure_name c.args.image.now c.loop-word.address) =
    c.in_ok-write_name.ensures ∙ ap (λ n. c.loop-word.out.items ++ listings.heading n) named in
    grind (arith, common_steps, exposed)
