-- What a note names, by its number or by who made it.
use Rattle.std.proofs.Common.{◌≡◌, ℕ, ◌<◌, ◌≤◌, true, false, length, ap, ◌∙◌, arith}
use Rattle.std.specs.Prelude.{nat_lt, if◌then◌else◌}
use Rattle.wedge_base.specs.Images.{Image}
use Rattle.wedge_base.specs.Maps.{at}
use Rattle.run_notes.specs.Items.{made_item, tag_item, file_item, fd_item}
use Rattle.run_notes.specs.declared.items.Makings.{Makings}
use Rattle.run_notes.specs.declared.items.NoteItem.TheVariants as item
use Rattle.run_log.specs.NoteLaws.{IsItemOfTag, IsItemOfFd}

below : (a b : ℕ) → a < b → nat_lt a b ≡ true
below a b lt = grind arith

above : (a b : ℕ) → b ≤ a → nat_lt a b ≡ false
above a b le = grind arith

pub tag_item_is : (i : Image) (m : Makings) (tag : ℕ) → IsItemOfTag i m tag (tag_item i m tag)
tag_item_is i m tag = record {
  declared = λ lt. ap (λ t. if t then item.Declared tag else made_item tag (at m.tags tag)) (below tag (length i.tags) lt);
  made = λ o le e. ap (λ t. if t then item.Declared tag else made_item tag (at m.tags tag)) (above tag (length i.tags) le) ∙ ap (made_item tag) e;
}

pub fd_item_is : (i : Image) (m : Makings) (fd : ℕ) → IsItemOfFd i m fd (fd_item i m fd)
fd_item_is i m fd = record {
  declared = λ lt. ap (λ t. if t then item.Fd fd else file_item fd (at m.files fd)) (below fd (length i.fds) lt);
  opened = λ path le e. ap (λ t. if t then item.Fd fd else file_item fd (at m.files fd)) (above fd (length i.fds) le) ∙ ap (file_item fd) e;
}
