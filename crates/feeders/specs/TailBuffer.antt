-- The bytes that are kept of a trace that comes in chunks.
use Rattle.std.specs.Prelude.{◌≡◌, ◌+◌, ℕ, List, length, drop}
use Rattle.feeders.specs.declared.tail_buffer.TailBuffer.{TailBuffer}

-- the buffer holds the last of the bytes `taken`: those from its place `from` on
pub record AreLastBytes (taken : List ℕ) (kept : TailBuffer) : Type 0 where
  pub long : kept.from + length kept.bytes.items ≡ length taken
  pub last : kept.bytes.items ≡ drop kept.from taken
