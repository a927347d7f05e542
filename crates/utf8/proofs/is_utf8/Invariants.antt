-- `utf8::is_utf8` meets its contract. The invariant: what is left of the text pays what is owed exactly if the text is well formed.
-- Assumes nothing.
use Rattle.std.proofs.Common.{◌≡◌, drop, Some}
use Rattle.utf8.specs.Utf8.{is_utf8, pays, owing}
use Rattle.utf8.proofs.is_utf8.Given as goal

abbrev pub invariant-loop-byte : goal.invariant-loop-byte
invariant-loop-byte l = is_utf8 l.text ≡ pays (owing (Some l.o)) (drop l.byte-index l.text)
