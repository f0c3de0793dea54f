-- What can be said of what was read: which bytes C moved is not known, how much it was handed is. What a reader must believe.
-- Assumes nothing.
use Rattle.std.specs.Prelude.{ℕ, ◌≡◌, ◌≤◌, List, length, take}
use Rattle.files.specs.declared.Start.{Start}

-- the bytes that were read stand at the start of the buffer
abbrev pub bytes_read : Start → List ℕ
bytes_read s = take s.read s.buffer.now

-- a buffer of so many bytes was read into, and no more was read than it holds
abbrev pub ReadInto : ℕ → Start → Type 0
ReadInto room s = (length s.buffer.now ≡ room) × (s.read ≤ room)
