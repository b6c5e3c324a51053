-- The number of workers that arguments ask for is from 1 to 200.
use Rattle.std.proofs.Common.{◌≡◌, ℕ, true, false, Bool, List, [], ◌∷◌, Option, Some, None, refl, subst}
use Rattle.std.specs.Prelude.{option_map, if◌then◌else◌, nat_le, ◌&&◌, codes}
use Rattle.std.specs.Str.{bytes_eq}
use Rattle.std.specs.Str.Parse.{digits_value}
use Rattle.std.specs.Fmt.{decimal}
use Rattle.std.proofs.lemmas.Bool.{leb-true, and_parts}
use Rattle.cli_inputs.specs.declared.words.RunFlag.{RunFlag}
use Rattle.cli_inputs.specs.Words.{Asked, Gen, Show, Build, Emulate, Enforce, Derive, Analyze, HasFitWorkers, ThreeFiles, three_files, is_workers, workers_in, flag_of, is_plain_argument, file_argument, run_with, run_flagged, run_of, link_of, replay_command, log_command, query_of, analyze_of, gen_of, command_of}

-- of what is asked, if anything is
abbrev IsFit : Option Asked → Type 0
IsFit None = Unit {0}
IsFit (Some a) = HasFitWorkers a

fit_if : (b : Bool) (x y : Option Asked) → IsFit x → IsFit y → IsFit (if b then x else y)
fit_if true x y hx hy = hx
fit_if false x y hx hy = hy

fit_map : {A : Type 0} (f : A → Asked) → ((a : A) → HasFitWorkers (f a)) → (o : Option A) → IsFit (option_map f o)
fit_map f h None = tt
fit_map f h (Some a) = h a

fit_run_with : (flag : RunFlag) (image : List ℕ) → IsFit (run_with flag image)
fit_run_with flag image = fit_if (is_plain_argument image) _ _ tt tt

fit_flagged : (f g : Option RunFlag) (one other : List ℕ) → IsFit (run_flagged f g one other)
fit_flagged (Some flag) g one other = fit_run_with flag other
fit_flagged None (Some flag) one other = fit_run_with flag one
fit_flagged None None one other = tt

fit_run : (arguments : List (List ℕ)) → IsFit (run_of arguments)
fit_run [] = tt
fit_run (image ∷ []) = fit_run_with _ image
fit_run (one ∷ other ∷ []) = fit_flagged (flag_of one) (flag_of other) one other
fit_run (one ∷ other ∷ third ∷ more) = tt

fit_link : (arguments : List (List ℕ)) → IsFit (link_of arguments)
fit_link [] = tt
fit_link (elf ∷ []) = tt
fit_link (elf ∷ part ∷ []) = fit_if (is_plain_argument elf && is_plain_argument part) _ _ tt tt
fit_link (elf ∷ part ∷ third ∷ more) = tt

fit_replay : (arguments : List (List ℕ)) → IsFit (replay_command arguments)
fit_replay [] = tt
fit_replay (image ∷ []) = tt
fit_replay (image ∷ schedule ∷ []) = fit_if (is_plain_argument image && is_plain_argument schedule) _ _ tt tt
fit_replay (image ∷ schedule ∷ third ∷ more) = tt

fit_log : (arguments : List (List ℕ)) → IsFit (log_command arguments)
fit_log [] = tt
fit_log (image ∷ []) = tt
fit_log (image ∷ schedule ∷ []) = fit_if (is_plain_argument image && is_plain_argument schedule) _ _ tt tt
fit_log (image ∷ schedule ∷ third ∷ more) = tt

fit_three : (make : ThreeFiles → Asked) → ((f : ThreeFiles) → HasFitWorkers (make f)) → (arguments : List (List ℕ))
    → IsFit (option_map make (three_files arguments))
fit_three make h arguments = fit_map make h (three_files arguments)

fit_analyze : (arguments : List (List ℕ)) → IsFit (analyze_of arguments)
fit_analyze [] = tt
fit_analyze (trace ∷ []) = tt
fit_analyze (trace ∷ query ∷ []) = tt
fit_analyze (trace ∷ query ∷ name ∷ []) =
    fit_if (is_plain_argument trace && is_plain_argument name) _ _ (fit_map (λ q. Analyze trace q name) (λ q. tt) (query_of query)) tt
fit_analyze (trace ∷ query ∷ name ∷ fourth ∷ more) = tt

fit_count : (b : Bool) (n : ℕ) → (b ≡ true → HasFitWorkers (Gen n)) → IsFit (option_map Gen (if b then Some n else None))
fit_count true n h = h refl
fit_count false n h = tt

fit_gen : (arguments : List (List ℕ)) → IsFit (gen_of arguments)
unfolding workers_in
fit_gen [] = tt
fit_gen (count ∷ []) =
    let n = digits_value 10 count in
    fit_count (is_workers n count) n (λ e.
    let limits = and_parts (nat_le 1 n) (nat_le n 200) (and_parts (nat_le 1 n && nat_le n 200) (bytes_eq (decimal n) count) e).0 in
    (leb-true _ _ limits.0, leb-true _ _ limits.1))
fit_gen (count ∷ second ∷ more) = tt

fit_command : (words : List (List ℕ)) → IsFit (command_of words)
fit_command [] = tt
fit_command (command ∷ arguments) =
    fit_if (bytes_eq command (codes "run")) _ _ (fit_run arguments)
    (fit_if (bytes_eq command (codes "show")) _ _ (fit_map Show (λ n. tt) (file_argument arguments))
    (fit_if (bytes_eq command (codes "build")) _ _ (fit_map Build (λ n. tt) (file_argument arguments))
    (fit_if (bytes_eq command (codes "link")) _ _ (fit_link arguments)
    (fit_if (bytes_eq command (codes "replay")) _ _ (fit_replay arguments)
    (fit_if (bytes_eq command (codes "log")) _ _ (fit_log arguments)
    (fit_if (bytes_eq command (codes "emulate")) _ _ (fit_three (λ f. Emulate f.image f.schedule f.trace) (λ f. tt) arguments)
    (fit_if (bytes_eq command (codes "enforce")) _ _ (fit_three (λ f. Enforce f.image f.schedule f.trace) (λ f. tt) arguments)
    (fit_if (bytes_eq command (codes "derive")) _ _ (fit_map Derive (λ n. tt) (file_argument arguments))
    (fit_if (bytes_eq command (codes "analyze")) _ _ (fit_analyze arguments)
    (fit_if (bytes_eq command (codes "gen")) _ _ (fit_gen arguments) tt))))))))))

pub fit : (words : List (List ℕ)) (a : Asked) → command_of words ≡ Some a → HasFitWorkers a
fit words a is = subst IsFit is (fit_command words)
