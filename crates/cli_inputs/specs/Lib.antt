-- What the arguments of the command line ask.
pub mod Words
-- Refusals of images, of partitions and of ELF files.
pub mod Refusals
-- From the bytes of a file to the image that is run, listed or written.
pub mod Loading
-- The report of a replay, as a function of the bytes of an image's file and of a schedule's.
pub mod Replaying
-- The report of a replay whose accesses are checked by the sheets of a trace, as a function of the
-- bytes of three files.
pub mod Enforcing
-- The bytes of the image that an ELF file and a partition are joined to, as a function of the
-- bytes of both.
pub mod Linking
-- What is asked of a trace, as a function of the bytes of its file.
pub mod Traces
-- The listing of an image's text.
pub mod Listing
-- What a map of headings says of an address.
pub mod Headings
