-- What a partition means that is linked with an ELF file's program, which gives the text, the data,
-- the procedures and the entry: the image of both, or the first fault.
use Rattle.std.specs.Prelude.{◌≡◌, ℕ, List, Option, Some, None, Result, Err}
use Rattle.toml.specs.Data.{Members}
use Rattle.toml.specs.Parse.{parse_document}
use Rattle.wedge_base.specs.Images.{Image}
use Rattle.image_form.specs.Reading.{reading}
use Rattle.image_form.specs.Encoding.{encoding}
use Rattle.elf_in.specs.Program.{Program}
use Rattle.part_toml.specs.declared.keys.Key.TheVariants as key
use Rattle.part_toml.specs.declared.keys.Part.TheVariants as part
use Rattle.part_toml.specs.Values.{number_at_key, text_at}
use Rattle.part_toml.specs.Faults.{Refusal, Toml, document_fault}
use Rattle.part_toml.specs.Parts.{tags, fds, files}
use Rattle.part_toml.specs.Partition.{unless, by_image}

-- an image has the text, the data, the procedures and the entry of a program
pub record Joins (p : Program) (i : Image) : Type 0 where
  pub base : i.base ≡ p.base
  pub words : i.words ≡ p.words
  pub procedures : i.procedures ≡ p.procedures
  pub entry : i.entry ≡ p.entry
  pub ranges : i.ranges ≡ p.ranges

-- the image of a program, with what the tables of a partition give besides
unfoldable pub image_with : Program → Members → Image
image_with p ms = record {
  fuel = number_at_key key.Fuel 0 ms;
  base = p.base;
  words = p.words;
  procedures = p.procedures;
  entry = p.entry;
  ranges = p.ranges;
  tags = tags ms;
  fds = fds ms;
  files = files ms;
  user = number_at_key key.User 0 ms;
  root = text_at key.Root ms;
}

-- The top table has no text, no base, no entry and no data.
unfoldable pub document_with : Program → Members → Result Image Refusal
document_with p ms =
    unless (document_fault part.Joined ms) (
    by_image (reading (encoding (image_with p ms))))

abbrev pub or_no_document : Program → Option Members → Result Image Refusal
or_no_document p (Some ms) = document_with p ms
or_no_document p None = Err Toml

unfoldable pub partition_with : Program → List ℕ → Result Image Refusal
partition_with p text = or_no_document p (parse_document text)
