-- How many bytes a program has.
use Rattle.std.proofs.Common.{◌≡◌, ℕ, ◌+◌, ◌*◌, ◌<◌, ◌≤◌, List, length, get_or, map, drop, Option, None, sym, ap, ◌∙◌}
use Rattle.std.specs.List.{sum_by}
use Rattle.std.proofs.lemmas.List.{drop_more, drop_all}
use Rattle.std.proofs.lemmas.List.Sums.{sum_by-cons}
use Rattle.elf_in.specs.declared.headers.ProgramHeader.{ProgramHeader}
use Rattle.elf_in.specs.declared.program.ElfProgram.TheInside.{Inside}
use Rattle.elf_in.specs.Loads.{range_of, text_words}
use Rattle.elf_in.specs.Program.{Program, size_of, IsRoomLeft}
use Rattle.elf_in.specs.Views.{program_view}

-- the bytes of the ranges of loads
abbrev pub range_bytes : List ℕ → List ProgramHeader → ℕ
range_bytes file hs = sum_by (λ r. length r.bytes) (map (range_of file) hs)

pub size_is : (p : Program) (i : Inside) → program_view i ≡ p → size_of p ≡ 4 * length (text_words i.file.now i.text) + range_bytes i.file.now i.data.items
size_is p i e = ap size_of (sym e)

-- one more range
pub range_bytes-drop : (file : List ℕ) (hs : List ProgramHeader) (i : ℕ) (d : ProgramHeader) → i < length hs
    → range_bytes file (drop i hs) ≡ length (range_of file (get_or hs i d)).bytes + range_bytes file (drop (i + 1) hs)
range_bytes-drop file hs i d lt =
    ap (range_bytes file) (drop_more hs i d lt)
    ∙ sum_by-cons (λ r. length r.bytes) (range_of file (get_or hs i d)) (map (range_of file) (drop (i + 1) hs))

-- the same, of a list that equals another
pub range_bytes-next : (file : List ℕ) (hs items : List ProgramHeader) (i : ℕ) (d : ProgramHeader) (size : ℕ) → items ≡ hs → i < length items
    → size ≡ length (range_of file (get_or items i d)).bytes → range_bytes file (drop i hs) ≡ size + range_bytes file (drop (i + 1) hs)
range_bytes-next file hs items i d size same lt is =
    ap (λ xs. range_bytes file (drop i xs)) (sym same)
    ∙ range_bytes-drop file items i d lt
    ∙ ap (λ n. n + range_bytes file (drop (i + 1) items)) (sym is)
    ∙ ap (λ xs. size + range_bytes file (drop (i + 1) xs)) same

pub range_bytes-end : (file : List ℕ) (hs : List ProgramHeader) (i : ℕ) → length hs ≤ i → range_bytes file (drop i hs) ≡ 0
range_bytes-end file hs i le = ap (range_bytes file) (drop_all i hs le)

-- there is no room
pub none_left : (room size : ℕ) (r : Option ℕ) → r ≡ None → room < size → IsRoomLeft room size r
none_left room size r none short = rw none short
