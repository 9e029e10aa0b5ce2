-- Transports over both ends of a connection.
use Rattle.std.specs.Prelude.{ℕ}
use Rattle.ua_program.specs.declared.loop_line.LoopLine.{LoopLine}

-- how many calls of such a transport failed so far; after the greatest number comes 0
abbrev pub failed_carries : {S : Type 0} → LoopLine S → ℕ
failed_carries line = line.failures
