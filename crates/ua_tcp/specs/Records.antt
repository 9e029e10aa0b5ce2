-- What a recording transport keeps.
use Rattle.std.specs.Prelude.{ℕ, List, [], take, Result, Ok, Err}
use Rattle.ua_channel.specs.declared.line.LineFault.{LineFault}
use Rattle.ua_tcp.specs.declared.recorded_line.RecordedLine.{RecordedLine}

-- the transport beneath one that records
abbrev pub line_of : {L : Type 0} → RecordedLine L → L
line_of line = line.line

-- the bytes that its reads returned since it was made, in order
abbrev pub octets_read : {L : Type 0} → RecordedLine L → List ℕ
octets_read line = line.read.items

-- the bytes that its writes took since then, in order
abbrev pub octets_written : {L : Type 0} → RecordedLine L → List ℕ
octets_written line = line.written.items

-- how many of its calls failed since then; after the greatest number of 64 bits comes 0
abbrev pub failed_since : {L : Type 0} → RecordedLine L → ℕ
failed_since line = line.failures

-- the bytes that a call moved: those at the start of the buffer after a read, or a prefix of those
-- offered to a write; none if it failed
abbrev pub moved : Result ℕ LineFault → List ℕ → List ℕ
moved (Ok n) octets = take n octets
moved (Err fault) octets = []
