-- The directories as a run begins: of the descriptors, and of the slots.
use Rattle.wedge_base.specs.Images.{Image}
use Rattle.wedge_events.specs.Directories.{Directory, slots_opening, fds_opening}
use Rattle.wedge_events.specs.declared.events.CellName.{CellName}
use Rattle.wedge_events.specs.declared.events.CellName.TheVariants as cell

abbrev pub directory_opening : Image → CellName → Directory
directory_opening i cell.Fds = fds_opening i
directory_opening i name = slots_opening i
