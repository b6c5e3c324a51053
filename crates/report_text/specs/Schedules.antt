-- The text of a schedule: names of actors, each on a line of its own.
use Rattle.std.specs.Prelude.{◌≡◌, ℕ, ◌+◌, ◌*◌, ◌^◌, ◌<◌, ◌==◌, nat_lt, ◌&&◌, if◌then◌else◌, List, [], ◌∷◌, ◌++◌, map, length, slice_index, ◌⊎◌, Option, Some, None, Result, Ok, Err}
use Rattle.std.specs.Char.{digit_value}
use Rattle.std.specs.List.{flat_map, slice_split}
use Rattle.std.specs.Fmt.{decimal}
use Rattle.std.specs.Str.Parse.{digits_value}
use Rattle.wedge_base.specs.Names.{same, is_actor_name}
use Rattle.wedge_events.specs.declared.events.LogEntry.{LogEntry}
use Rattle.report_text.specs.Reports.{dot, name_text, line_end}
use Rattle.report_text.specs.declared.fault.ScheduleFault.{ScheduleFault}
use Rattle.report_text.specs.declared.fault.ScheduleFault.TheVariants as fault

-- ---- writing

-- the names of the actors whose turns a journal's entries are
abbrev pub actors_of : List LogEntry → List (List ℕ)
actors_of entries = map (λ e. e.actor) entries

-- a name, and the end of its line
unfoldable pub name_line : List ℕ → List ℕ
name_line name = name_text name ++ line_end

-- a line for each name
abbrev pub schedule_of : List (List ℕ) → List ℕ
schedule_of names = flat_map name_line names

-- ---- reading

-- the pieces of a text, cut at each byte that is this one
abbrev pub pieces_at : ℕ → List ℕ → List (List ℕ)
pieces_at byte text = slice_split (λ b. b == byte) text

-- the number below 2 ^ 32 whose decimal form these bytes are
unfoldable pub part_in : List ℕ → Option ℕ
part_in bytes =
    if nat_lt (digits_value 10 bytes) (2 ^ 32) && same (decimal (digits_value 10 bytes)) bytes
    then Some (digits_value 10 bytes)
    else None

-- the name with these parts, and behind them one for each piece
abbrev pub name_from : List ℕ → List (List ℕ) → Option (List ℕ)
name_from parts [] = if is_actor_name parts then Some parts else None
name_from parts (piece ∷ pieces) =
    elim (part_in piece) [
      | None ↦ None
      | Some part ↦ name_from (parts ++ part ∷ []) pieces
    ]

-- the name that a line is
unfoldable pub name_in : List ℕ → Option (List ℕ)
name_in line = name_from [] (pieces_at dot line)

-- These names, and behind them one for each line; or the number, from 1, of the first line that is
-- no name. The last piece has no LF behind it, so it is empty, or a line of another form.
abbrev pub names_from : List (List ℕ) → List (List ℕ) → Result (List (List ℕ)) ℕ
names_from names [] = Ok names
names_from names (last ∷ []) = if length last == 0 then Ok names else Err (length names + 1)
names_from names (line ∷ next ∷ lines) =
    elim (name_in line) [
      | None ↦ Err (length names + 1)
      | Some name ↦ names_from (names ++ name ∷ []) (next ∷ lines)
    ]

-- the names of the lines of a text, or the number of the first line of another form
unfoldable pub names_in : List ℕ → Result (List (List ℕ)) ℕ
names_in text = names_from [] (pieces_at 10 text)

-- ---- what the calls return

-- the fault of an answer is the one that reading gives, unless memory ran out
abbrev pub IsScheduleFault : {Y : Type 0} → ScheduleFault → Result Y ℕ → Type 0
IsScheduleFault fault.NoMemory read = Unit {0}
IsScheduleFault (fault.Form at) read = read ≡ Err at

-- what a function answered, seen by view, is what reading gives, unless memory ran out
abbrev pub IsScheduleAnswer : {X Y : Type 0} → (X → Y) → Result X ScheduleFault → Result Y ℕ → Type 0
IsScheduleAnswer view (Ok x) read = read ≡ Ok (view x)
IsScheduleAnswer view (Err e) read = IsScheduleFault e read

-- bytes that begin as no decimal form does: there are none, or a zero with more behind it
abbrev pub BeginsNoNumber : List ℕ → Type 0
BeginsNoNumber bytes = (length bytes ≡ 0) ⊎ ((slice_index bytes 0 ≡ 48) × (1 < length bytes))

-- a decimal digit, with which a number stays below 2 ^ 32
abbrev pub IsNextDigit : ℕ → ℕ → Type 0
IsNextDigit number byte = (digit_value byte < 10) × (number * 10 + digit_value byte < 2 ^ 32)
