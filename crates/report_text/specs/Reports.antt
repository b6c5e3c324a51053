-- The report of a run, as text.
use Rattle.std.specs.Prelude.{ℕ, ◌+◌, ◌/◌, ◌%◌, ◌^◌, ◌==◌, nat_lt, nat_le, Bool, not, ◌&&◌, if◌then◌else◌, List, [], ◌∷◌, ◌++◌, map, codes}
use Rattle.std.specs.List.{flat_map, join_with_byte}
use Rattle.std.specs.Fmt.{decimal}
use Rattle.wedge_base.specs.declared.outcome.Outcome.{Outcome}
use Rattle.wedge_base.specs.declared.outcome.ActorLine.{ActorLine}
use Rattle.wedge_base.specs.declared.outcome.DenialAt.{DenialAt}
use Rattle.wedge_base.specs.declared.outcome.StreamLine.{StreamLine}
use Rattle.wedge_base.specs.declared.grants.Item.{Item}
use Rattle.wedge_base.specs.declared.grants.Item.TheVariants as item
use Rattle.wedge_base.specs.declared.rights.Denial.{Denial}
use Rattle.wedge_base.specs.declared.rights.Denial.TheVariants as denial
use Rattle.wedge_base.specs.declared.rights.End.{End}
use Rattle.wedge_base.specs.declared.rights.End.TheVariants as end
use Rattle.wedge_base.specs.declared.rights.FdBits.{FdBits}
use Rattle.wedge_base.specs.declared.rights.Right.{Right}
use Rattle.wedge_base.specs.declared.rights.Right.TheVariants as right

-- a hexadecimal digit: `0` to `9` begin at 48, `a` to `f` at 97
unfoldable pub hex_digit : ℕ → ℕ
hex_digit d = if nat_lt d 10 then 48 + d else 87 + d

-- an address in eight hexadecimal digits
abbrev pub address_text : ℕ → List ℕ
address_text n = map (λ place. hex_digit (n / 16 ^ place % 16)) (7 ∷ 6 ∷ 5 ∷ 4 ∷ 3 ∷ 2 ∷ 1 ∷ 0 ∷ [])

-- where something happened
unfoldable pub pc_text : ℕ → List ℕ
pc_text pc = codes " pc " ++ address_text pc

-- the parts of a name in decimal, with a dot between each two
abbrev pub dot : ℕ
dot = 46

unfoldable pub name_text : List ℕ → List ℕ
name_text name = join_with_byte dot (map decimal name)

-- how an actor ended
unfoldable pub end_text : End → List ℕ
end_text (end.Exited value) = codes "exited " ++ decimal value
end_text end.Denied = codes "denied"
end_text end.Misaligned = codes "misaligned"
end_text end.JumpMisaligned = codes "jump-misaligned"
end_text end.BadInstruction = codes "bad-instruction"
end_text end.FetchFault = codes "fetch-fault"
end_text end.TextStore = codes "text-store"
end_text end.Unmapped = codes "unmapped"
end_text end.Break = codes "break"
end_text end.FuelOut = codes "fuel-out"

unfoldable pub right_text : Right → List ℕ
right_text right.Cow = codes "Cow"
right_text right.Read = codes "Read"
right_text right.ReadWrite = codes "ReadWrite"

-- the bits of a descriptor; where none is set, nothing
unfoldable pub bits_text : FdBits → List ℕ
bits_text bits =
    if bits.read
    then (if bits.append then codes "read+append" else codes "read")
    else (if bits.append then codes "append" else [])

-- the gate at an entry
unfoldable pub gate_text : ℕ → List ℕ
gate_text entry = codes "gate " ++ address_text entry

-- a grant of a draft
unfoldable pub item_text : Item → List ℕ
item_text (item.Tag tag right) = codes "tag " ++ decimal tag ++ codes " " ++ right_text right
item_text (item.Fd fd bits) = codes "fd " ++ decimal fd ++ codes " " ++ bits_text bits
item_text (item.Gate entry) = gate_text entry

-- the grant that a denied request lacks
unfoldable pub denial_text : Denial → List ℕ
denial_text (denial.Tag tag wants) = codes "tag " ++ decimal tag ++ codes " wants " ++ right_text wants
denial_text (denial.Fd fd wants) = codes "fd " ++ decimal fd ++ codes " wants " ++ bits_text wants
denial_text (denial.Gate entry) = gate_text entry
denial_text (denial.Grant given) = codes "grant " ++ item_text given
denial_text denial.User = codes "user"
denial_text denial.Root = codes "root"
denial_text (denial.NotMaker tag) = codes "not-maker " ++ decimal tag
denial_text (denial.File path) = codes "file " ++ path

-- `"` and `\`
abbrev pub quote : ℕ
quote = 34

abbrev pub backslash : ℕ
backslash = 92

-- whether a byte is written in quotes as it is: from a space to `~`, but neither of these two
abbrev pub is_unescaped : ℕ → Bool
is_unescaped b = nat_le 0x20 b && nat_le b 0x7e && not (b == quote) && not (b == backslash)

-- every other byte is a backslash and two hexadecimal digits
unfoldable pub escaped : ℕ → List ℕ
escaped b = if is_unescaped b then b ∷ [] else backslash ∷ hex_digit (b / 16) ∷ hex_digit (b % 16) ∷ []

unfoldable pub quoted : List ℕ → List ℕ
quoted bytes = quote ∷ flat_map escaped bytes ++ quote ∷ []

-- each line ends with LF
abbrev pub line_end : List ℕ
line_end = 10 ∷ []

unfoldable pub denial_line : List ℕ → DenialAt → List ℕ
denial_line name d = codes "denied " ++ name_text name ++ pc_text d.pc ++ codes " " ++ denial_text d.denial ++ line_end

unfoldable pub actor_line : ActorLine → List ℕ
actor_line a =
    codes "actor " ++ name_text a.name ++ codes " " ++ a.compartment ++ codes " " ++ end_text a.end
    ++ pc_text a.pc ++ codes " fuel " ++ decimal a.fuel ++ line_end

-- an actor's line, and one for each of its denials
unfoldable pub actor_lines : ActorLine → List ℕ
actor_lines a = actor_line a ++ flat_map (denial_line a.name) a.denials

unfoldable pub stream_line : StreamLine → List ℕ
stream_line s = codes "stream " ++ decimal s.number ++ codes " " ++ s.label ++ codes " " ++ quoted s.bytes ++ line_end

-- the actors in their order, and then the streams
unfoldable pub report_of : Outcome → List ℕ
report_of o = flat_map actor_lines o.actors ++ flat_map stream_line o.streams
