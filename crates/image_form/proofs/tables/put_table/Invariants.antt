use Rattle.std.proofs.Common.{◌≡◌, ◌++◌, length, take}
use Rattle.std.specs.List.{flat_map}
use Rattle.image_form.specs.Encoding.{encode_number}
use Rattle.image_form.proofs.tables.put_table.Given as goal

abbrev pub invariant-loop-entry : goal.invariant-loop-entry
invariant-loop-entry g l = l.out.items ≡ l.fn.out.items ++ (encode_number (length l.entries) ++ flat_map g.T.TableEntry.encode (take l.entry-index l.entries))
