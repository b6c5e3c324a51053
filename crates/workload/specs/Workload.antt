-- The workload of N workers, as an image. Its root creates N workers, joins them, and exits with the
-- sum of the values with which they exited. Each worker makes a tag of its own, adds up the 64 words
-- of the tag `input` in it, is denied an append to a stream on which it has no bit, and exits with
-- the sum.
use Rattle.std.specs.Prelude.{ℕ, ◌+◌, ◌*◌, ◌%◌, ◌^◌, pos, List, [], ◌∷◌, ◌++◌, map, Some, codes}
use Rattle.std.specs.List.{flat_map, range_with_len}
use Rattle.std.specs.Int.{w32, to_le_bytes}
use Rattle.wedge_base.specs.Images.{Image, windows_base}
use Rattle.wedge_base.specs.Rights.{append_bit}
use Rattle.wedge_base.specs.declared.image.TagEntry.{TagEntry}
use Rattle.wedge_base.specs.declared.image.FdEntry.{FdEntry}
use Rattle.wedge_base.specs.declared.image.Procedure.{Procedure}
use Rattle.wedge_base.specs.declared.rights.Right.TheVariants as right
use Rattle.wedge_base.specs.declared.rights.StreamKind.TheVariants as kind
use Rattle.wedge_base.specs.declared.service.Service.TheVariants as call
use Rattle.rv_isa.specs.declared.Instr.{Instr}
use Rattle.rv_isa.specs.Encoding.{encoded}
use Rattle.workload.specs.Mnemonics.{sp, t0, s0, s1, s2, s3, a0, a1, a2, a3, minus, addi, li, mv, lui, add, lw, sw, beqz, j, svc}

-- ---- the text

-- where the root and where a worker begins
abbrev pub root_address : ℕ
root_address = 0x10000

abbrev pub worker_address : ℕ
worker_address = 0x10080

-- the root makes a draft of a sheet, in s0, and adds Read on the tag `input`, whose number is 0
abbrev pub draft_text : List Instr
draft_text = svc call.ScNew ++ mv s0 a0 ∷ li a1 0 ∷ li a2 2 ∷ svc call.ScMemAdd

-- the sum, in s2, is 0; while s1 is not 0, the root creates a worker under the draft, with 2,000 units
-- of fuel, and takes 1 from s1
abbrev pub creating_text : List Instr
creating_text =
    li s2 0
    ∷ beqz s1 40 ∷ mv a0 s0 ∷ lui a1 0x10000 ∷ addi a1 a1 (pos 128) ∷ li a2 0 ∷ li a3 2000
    ∷ svc call.SthreadCreate
    ++ addi s1 s1 (minus 1) ∷ j (minus 36) ∷ []

-- s3 counts from 1; while s1 is not 0, the root joins the child of that number, adds its value to the
-- sum, and takes 1 from s1; then it exits with the sum
abbrev pub joining_text : List Instr
joining_text =
    li s3 1
    ∷ beqz s1 32 ∷ mv a0 s3 ∷ svc call.SthreadJoin
    ++ add s2 s2 a0 ∷ addi s3 s3 (pos 1) ∷ addi s1 s1 (minus 1) ∷ j (minus 28)
    ∷ mv a0 s2 ∷ svc call.Exit

-- a worker makes a tag of one page, with its address in s0; it adds up 64 words in s3, from the first
-- of the tag `input` on, and stores each sum in its tag; it appends no bytes to the stream, and exits
-- with the sum that it stored
abbrev pub worker_text : List Instr
worker_text =
    li a0 1 ∷ svc call.TagNew
    ++ mv s0 a2 ∷ li s1 64 ∷ lui s2 windows_base ∷ addi s2 s2 (pos 0) ∷ li s3 0
    ∷ beqz s1 28 ∷ lw t0 s2 ∷ add s3 s3 t0 ∷ sw s3 s0 ∷ addi s2 s2 (pos 4) ∷ addi s1 s1 (minus 1)
    ∷ j (minus 24)
    ∷ li a0 0 ∷ mv a1 sp ∷ li a2 0 ∷ svc call.FdAppend
    ++ lw a0 s0 ∷ svc call.Exit

-- the number of workers is in two instructions
abbrev pub program : ℕ → List Instr
program n = draft_text ++ li s1 n ∷ creating_text ++ li s1 n ∷ joining_text ++ worker_text

abbrev pub program_words : ℕ → List ℕ
program_words n = map encoded (program n)

-- ---- the rest of the image

abbrev pub named_procedure : List ℕ → ℕ → Procedure
named_procedure name address = record { name = name; address = address }

abbrev pub two_procedures : List Procedure
two_procedures =
    named_procedure (codes "main") root_address ∷ named_procedure (codes "work") worker_address ∷ []

-- word i of the tag `input`
abbrev pub input_word : ℕ → ℕ → ℕ
input_word n i = (i * 2654435761 + n) % 2 ^ 32

-- its bytes: 64 words, each in little-endian
abbrev pub input_bytes : ℕ → List ℕ
input_bytes n = flat_map (λ i. to_le_bytes w32 (input_word n i)) (range_with_len 0 64)

abbrev pub input_tag : ℕ → TagEntry
input_tag n = record {
  name = codes "input";
  pages = 1;
  right = Some right.Read;
  content = input_bytes n;
}

-- the stream to which the root may append, and no worker may
abbrev pub out_stream : FdEntry
out_stream = record { name = codes "out"; kind = kind.Append; bits = append_bit; content = [] }

-- the units of fuel with which the root begins
abbrev pub fuel_for : ℕ → ℕ
fuel_for n = 2020 * n + 100

abbrev pub workload : ℕ → Image
workload n = record {
  fuel = fuel_for n;
  base = root_address;
  words = program_words n;
  procedures = two_procedures;
  entry = root_address;
  ranges = [];
  tags = input_tag n ∷ [];
  fds = out_stream ∷ [];
  files = [];
  user = 0;
  root = codes "/";
}
