-- Bytes at the front of a buffer.
use Rattle.std.specs.Prelude.{ℕ, List, ◌++◌, length, drop}

-- a buffer after bytes were put at its front: these, and behind them what stood there before
abbrev pub with_front : List ℕ → List ℕ → List ℕ
with_front bytes old = bytes ++ drop (length bytes) old
