-- What the arguments of the command line ask.
use Rattle.std.specs.Prelude.{ℕ, ◌==◌, ◌≤◌, nat_le, Bool, false, not, ◌&&◌, List, [], ◌∷◌, map, Option, Some, None, option_map, codes, String, if◌then◌else◌}
use Rattle.std.specs.Fmt.{decimal}
use Rattle.std.specs.Str.{bytes_eq}
use Rattle.std.specs.Str.Parse.{digits_value}
use Rattle.std.specs.String.{string_bytes}
use Rattle.cli_inputs.specs.declared.words.RunFlag.{RunFlag}
use Rattle.cli_inputs.specs.declared.words.RunFlag.TheVariants.{Plain, Schedule, Stats}
use Rattle.cli_inputs.specs.declared.words.Query.{Query}
use Rattle.cli_inputs.specs.declared.words.Query.TheVariants.{Accessed, Users, Written}
use Rattle.cli_inputs.specs.declared.words.ThreeFiles.{ThreeFiles as Files}
use Rattle.cli_inputs.specs.declared.words.Command.{Command}
use Rattle.cli_inputs.specs.declared.words.Command.TheVariants as command

-- a command, with the names of its files, or the number of workers
pub data Asked : Type 0 where
  Run : List ℕ → RunFlag → Asked
  Show : List ℕ → Asked
  Build : List ℕ → Asked
  Link : List ℕ → List ℕ → Asked
  Replay : List ℕ → List ℕ → Asked
  Log : List ℕ → List ℕ → Asked
  Emulate : List ℕ → List ℕ → List ℕ → Asked
  Enforce : List ℕ → List ℕ → List ℕ → Asked
  Derive : List ℕ → Asked
  Analyze : List ℕ → Query → List ℕ → Asked
  Gen : ℕ → Asked

-- the same as the program has it
abbrev pub asked_by : Command → Asked
asked_by (command.Run image flag) = Run image.now flag
asked_by (command.Show image) = Show image.now
asked_by (command.Build part) = Build part.now
asked_by (command.Link elf part) = Link elf.now part.now
asked_by (command.Replay image schedule) = Replay image.now schedule.now
asked_by (command.Log image schedule) = Log image.now schedule.now
asked_by (command.Emulate image schedule trace) = Emulate image.now schedule.now trace.now
asked_by (command.Enforce image schedule trace) = Enforce image.now schedule.now trace.now
asked_by (command.Derive trace) = Derive trace.now
asked_by (command.Analyze trace query name) = Analyze trace.now query name.now
asked_by (command.Gen workers) = Gen workers

-- the texts of the arguments
abbrev pub texts : {A : Type 0} → List (String A) → List (List ℕ)
texts words = map string_bytes words

-- whether an argument can name a file: it is not empty and does not begin with `-`
abbrev pub is_plain_argument : List ℕ → Bool
is_plain_argument [] = false
is_plain_argument (c ∷ cs) = not (c == 45)

-- the one argument, if it can name a file
abbrev pub file_argument : List (List ℕ) → Option (List ℕ)
file_argument (name ∷ []) = if is_plain_argument name then Some name else None
file_argument arguments = None

-- the flag that an argument is
abbrev pub flag_of : List ℕ → Option RunFlag
flag_of argument =
    if bytes_eq argument (codes "--schedule") then Some Schedule
    else if bytes_eq argument (codes "--stats") then Some Stats
    else None

abbrev pub run_with : RunFlag → List ℕ → Option Asked
run_with flag image = if is_plain_argument image then Some (Run image flag) else None

-- an image and a flag, which may be before the image or after it
abbrev pub run_flagged : Option RunFlag → Option RunFlag → List ℕ → List ℕ → Option Asked
run_flagged (Some flag) f one other = run_with flag other
run_flagged None (Some flag) one other = run_with flag one
run_flagged None None one other = None

-- the arguments after each command
abbrev pub run_of : List (List ℕ) → Option Asked
run_of (image ∷ []) = run_with Plain image
run_of (one ∷ other ∷ []) = run_flagged (flag_of one) (flag_of other) one other
run_of arguments = None

abbrev pub show_of : List (List ℕ) → Option Asked
show_of arguments = option_map Show (file_argument arguments)

abbrev pub build_of : List (List ℕ) → Option Asked
build_of arguments = option_map Build (file_argument arguments)

abbrev pub link_of : List (List ℕ) → Option Asked
link_of (elf ∷ part ∷ []) = if is_plain_argument elf && is_plain_argument part then Some (Link elf part) else None
link_of arguments = None

abbrev pub replay_command : List (List ℕ) → Option Asked
replay_command (image ∷ schedule ∷ []) = if is_plain_argument image && is_plain_argument schedule then Some (Replay image schedule) else None
replay_command arguments = None

abbrev pub log_command : List (List ℕ) → Option Asked
log_command (image ∷ schedule ∷ []) = if is_plain_argument image && is_plain_argument schedule then Some (Log image schedule) else None
log_command arguments = None

-- the names of an image, a schedule and a trace
pub record ThreeFiles : Type 0 where
  pub image : List ℕ
  pub schedule : List ℕ
  pub trace : List ℕ

-- the three arguments, if each can name a file
abbrev pub three_files : List (List ℕ) → Option ThreeFiles
three_files (image ∷ schedule ∷ trace ∷ []) =
    if is_plain_argument image && is_plain_argument schedule && is_plain_argument trace
    then Some (record { image = image; schedule = schedule; trace = trace }) else None
three_files arguments = None

abbrev pub three_names : Files → ThreeFiles
three_names f = record { image = f.image.now; schedule = f.schedule.now; trace = f.trace.now }

abbrev pub emulate_command : List (List ℕ) → Option Asked
emulate_command arguments = option_map (λ f. Emulate f.image f.schedule f.trace) (three_files arguments)

abbrev pub enforce_command : List (List ℕ) → Option Asked
enforce_command arguments = option_map (λ f. Enforce f.image f.schedule f.trace) (three_files arguments)

abbrev pub derive_of : List (List ℕ) → Option Asked
derive_of arguments = option_map Derive (file_argument arguments)

-- what is asked of a trace
abbrev pub query_of : List ℕ → Option Query
query_of argument =
    if bytes_eq argument (codes "accessed") then Some Accessed
    else if bytes_eq argument (codes "users") then Some Users
    else if bytes_eq argument (codes "written") then Some Written
    else None

abbrev pub analyze_with : List ℕ → List ℕ → Option Query → Option Asked
analyze_with trace name query =
    if is_plain_argument trace && is_plain_argument name then option_map (λ q. Analyze trace q name) query else None

abbrev pub analyze_of : List (List ℕ) → Option Asked
analyze_of (trace ∷ query ∷ name ∷ []) = analyze_with trace name (query_of query)
analyze_of arguments = None

-- the most workers of a workload
abbrev pub most_workers : ℕ
most_workers = 200

-- whether n is from 1 to that, and an argument is its decimal form: digits, the first not 0
abbrev pub is_workers : ℕ → List ℕ → Bool
is_workers n argument = nat_le 1 n && nat_le n most_workers && bytes_eq (decimal n) argument

-- the number of workers that an argument is
unfoldable pub workers_in : List ℕ → Option ℕ
workers_in argument =
    if is_workers (digits_value 10 argument) argument then Some (digits_value 10 argument) else None

abbrev pub gen_of : List (List ℕ) → Option Asked
gen_of (count ∷ []) = option_map Gen (workers_in count)
gen_of arguments = None

-- the command that all arguments ask
abbrev pub command_of : List (List ℕ) → Option Asked
command_of [] = None
command_of (command ∷ arguments) =
    if bytes_eq command (codes "run") then run_of arguments
    else if bytes_eq command (codes "show") then show_of arguments
    else if bytes_eq command (codes "build") then build_of arguments
    else if bytes_eq command (codes "link") then link_of arguments
    else if bytes_eq command (codes "replay") then replay_command arguments
    else if bytes_eq command (codes "log") then log_command arguments
    else if bytes_eq command (codes "emulate") then emulate_command arguments
    else if bytes_eq command (codes "enforce") then enforce_command arguments
    else if bytes_eq command (codes "derive") then derive_of arguments
    else if bytes_eq command (codes "analyze") then analyze_of arguments
    else if bytes_eq command (codes "gen") then gen_of arguments
    else None

-- ---- what the code uses of it

-- the number of workers of a workload is from 1 to 200
abbrev pub HasFitWorkers : Asked → Type 0
HasFitWorkers (Gen workers) = (1 ≤ workers) × (workers ≤ most_workers)
HasFitWorkers other = Unit {0}

-- whether the first byte is a digit other than 0
abbrev pub begins_with_nonzero_digit : List ℕ → Bool
begins_with_nonzero_digit [] = false
begins_with_nonzero_digit (c ∷ cs) = nat_le 49 c && nat_le c 57
