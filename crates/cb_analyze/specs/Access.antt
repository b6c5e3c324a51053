-- What is accessed, and how.
use Rattle.std.specs.Prelude.{ℕ, Bool, ◌&&◌, List, [], ◌∷◌}
use Rattle.std.specs.List.{join_with_byte}
use Rattle.std.specs.Str.{bytes_eq}
use Rattle.trace_form.specs.declared.words.Kind.{Kind}
use Rattle.trace_form.specs.declared.words.Mode.{Mode}
use Rattle.trace_form.specs.Words.{kind_word, mode_word}
use Rattle.trace_form.specs.Grammar.{TraceRecord, space}
use Rattle.cb_analyze.specs.declared.access.AccessKey.{AccessKey}

pub record ItemAccess : Type 0 where
  pub item : List ℕ
  pub kind : Kind
  pub mode : Mode

abbrev pub access_of : TraceRecord → ItemAccess
access_of r = record { item = r.item; kind = r.kind; mode = r.mode }

abbrev pub same_kind : Kind → Kind → Bool
same_kind k l = bytes_eq (kind_word k) (kind_word l)

abbrev pub same_mode : Mode → Mode → Bool
same_mode m n = bytes_eq (mode_word m) (mode_word n)

abbrev pub same_access : ItemAccess → ItemAccess → Bool
same_access a b = bytes_eq a.item b.item && (same_kind a.kind b.kind && same_mode a.mode b.mode)

unfoldable pub access_line : ItemAccess → List ℕ
access_line a = join_with_byte space (a.item ∷ kind_word a.kind ∷ mode_word a.mode ∷ [])

-- what the code's accesses stand for
abbrev pub access_view : AccessKey → ItemAccess
access_view a = record { item = a.item.now; kind = a.kind; mode = a.mode }
