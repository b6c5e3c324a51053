use Rattle.std.proofs.Common.{[], ◌∷◌, List, ap, ◌∙◌}
use Rattle.wedge_base.specs.declared.image.TagEntry.{TagEntry}
use Rattle.wedge_base.specs.declared.image.FdEntry.{FdEntry}
use Rattle.workload.proofs.Making.{made_is}
use Rattle.workload.proofs.generating.parts.Goals as goal

one_tag : TagEntry → List TagEntry
one_tag t = t ∷ []

one_stream : FdEntry → List FdEntry
one_stream f = f ∷ []

pub returns : goal.returns
unfolding one_tag one_stream
returns c =
    made_is c.args.workers c.in_ok-program_words.field-0 c.in_ok-procedures.field-0 c.new-2.result c.new-3.result c.new-4.result c.new-6.result c.in_ok-from_slice.field-0
    c.in_ok-program_words.ensures c.in_ok-procedures.ensures
    (c.new-2.ensures ∙ c.new.ensures.items)
    (c.new-3.ensures ∙ c.in_ok-vec.ensures.items ∙ ap one_tag c.in_ok-tag.ensures)
    (c.new-4.ensures ∙ c.in_ok-vec-2.ensures.items ∙ ap one_stream c.in_ok-stream.ensures)
    (c.new-6.ensures ∙ c.new-5.ensures.items)
    c.in_ok-from_slice.ensures
