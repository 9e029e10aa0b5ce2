-- Transports over connections.
use Rattle.std.specs.Prelude.{ℕ, List, ◌++◌, drop}
use Rattle.ua_channel.specs.Line.{Traffic}
use Rattle.ua_tcp.specs.declared.gathering_line.GatheringLine.{GatheringLine}
use Rattle.ua_tcp.specs.declared.tcp_line.TcpLine.{TcpLine}

-- how many calls of a transport over a connection failed so far; after the greatest number comes 0
abbrev pub failed_calls : {S : Type 0} → TcpLine S → ℕ
failed_calls line = line.failures

-- the transport beneath a gathering one, which buffers writes
abbrev pub beneath : {L : Type 0} → GatheringLine L → L
beneath line = line.line

-- what was written to it and is still buffered
abbrev pub gathered_in : {L : Type 0} → GatheringLine L → List ℕ
gathered_in line = drop line.gone line.gathered.items

-- the bytes of a gathering transport, by those of the transport beneath: to come are those that
-- come there once what is buffered is written, and then these bytes more; what is buffered follows
-- what was written there
abbrev pub behind_gathered : List ℕ → Traffic → Traffic
behind_gathered gathered traffic = record { coming = λ more. traffic.coming (gathered ++ more); written = traffic.written ++ gathered }
