use Rattle.std.proofs.Common.{◌≡◌, ◌++◌, take}
use Rattle.cb_log.specs.Texts.{chain_text}
use Rattle.cb_log.proofs.texts.write_chain.Given as goal

-- The frames so far were added, with semicolons.
abbrev pub invariant-loop-i : goal.invariant-loop-i
invariant-loop-i l = l.out.items ≡ l.fn.out.items ++ chain_text l.naming.image.now (take l.i l.frames)
