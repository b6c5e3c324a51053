-- The plain image that an image in memory is.
use Rattle.wedge_base.specs.Images.{Image}
use Rattle.image_form.specs.declared.image.Image.TheInside.{Inside}
use Rattle.image_form.specs.declared.parts.ImageParts.{ImageParts}
use Rattle.image_form.specs.declared.parts.LentParts.{LentParts}

abbrev pub plain : Inside → Image
plain i = record {
  fuel = i.fuel;
  base = i.pristine.base;
  words = i.pristine.words;
  procedures = i.procedures;
  entry = i.entry;
  ranges = i.pristine.ranges;
  tags = i.tags;
  fds = i.fds;
  files = i.files;
  user = i.user;
  root = i.root;
}

-- the plain image whose parts are given
abbrev pub image_of : ImageParts → Image
image_of p = record {
  fuel = p.fuel;
  base = p.base;
  words = p.words;
  procedures = p.procedures;
  entry = p.entry;
  ranges = p.ranges;
  tags = p.tags;
  fds = p.fds;
  files = p.files;
  user = p.user;
  root = p.root;
}

-- the same, where the parts are borrowed
abbrev pub lent_image : LentParts → Image
lent_image p = record {
  fuel = p.fuel;
  base = p.base;
  words = p.words.now;
  procedures = p.procedures.now;
  entry = p.entry;
  ranges = p.ranges.now;
  tags = p.tags.now;
  fds = p.fds.now;
  files = p.files.now;
  user = p.user;
  root = p.root.now;
}
